-- Refutations of a node over the program's parts of it.
use Rattle.std.proofs.Common.{◌≡◌, ◌&&◌, Bool, true, false, ℕ, ◌+◌, ◌*◌, ◌^◌, ◌≤◌, ℤ, pos, ◌+ℤ◌, ◌*ℤ◌, nat_abs, nat_lt, List, [], length, map, zip, get_or, slice_get, Option, Some, option_and_then, arith, ap, ap₂, sym, subst, ◌∙◌}
use Rattle.std.specs.Prelude.{int_lt}
use Rattle.std.specs.Int.{int_min}
use Rattle.std.specs.List.{list_all, sum_by}
use Rattle.std.proofs.lemmas.Bool.Decides.{nat_tests}
use Rattle.std.proofs.lemmas.Grind.{common_steps}
use Rattle.std.proofs.lemmas.List.{length-map}
use lib.IntN.{+ℤ_idl}
use Rattle.base_num.specs.Sums.{sum_to, total, entry}
use Rattle.problem.specs.Validated.{Validated, subproblem_of}
use Rattle.problem.specs.declared.parts.Row.{Row}
use Rattle.problem.specs.declared.parts.Decision.{Decision}
use Rattle.problem.specs.declared.parts.Subproblem.{Subproblem}
use Rattle.problem.specs.declared.parts.Node as nodes
use Rattle.theory.specs.Problem.{S, node_at}
use Rattle.theory.specs.View.{node_of, problem_of}
use Rattle.theory.proofs.Views.{node_at-problem_of}
use Rattle.cut_make.specs.Acceptance.{is_sign}
use Rattle.cut_make.specs.SizeByTerms.{count_by, span}
use Rattle.plan_answer.specs.declared.sized_sum.SizedSum.{SizedSum}
use Rattle.plan_answer.specs.SizedSums.{Sums}
use Rattle.plan_answer.specs.Farkas.{right_side, right_side_size, farkas_reduced_cost, farkas_reduced_size, farkas_value, farkas_size, refutes_of}

-- the sum, spelled otherwise
pub sums_same : (r : Option SizedSum) (v w : ℤ) (n m : ℕ) → v ≡ w → n ≡ m → Sums r v n → Sums r w m
sums_same r v w n m e f h = subst (λ (k : ℕ). Sums r w k) f (subst (λ (z : ℤ). Sums r z n) e h)

-- a multiple by S of a sum, added to nothing
pub scaled_value : (z f l : ℤ) → z ≡ pos 0 → f ≡ pos S → z +ℤ f *ℤ l ≡ pos S *ℤ l
scaled_value z f l e k = ap₂ (λ (a b : ℤ). a +ℤ b *ℤ l) e k ∙ +ℤ_idl (pos S *ℤ l)

pub scaled_size : (z l : ℕ) (f : ℤ) → z ≡ 0 → f ≡ pos S → z + nat_abs f * l ≡ S * l
scaled_size z l f e k = ap₂ (λ (a : ℕ) (b : ℤ). a + nat_abs b * l) e k ∙ zero_add (S * l)
  where
    zero_add : (n : ℕ) → 0 + n ≡ n
    zero_add n = omega arith

abbrev pub sides : List Row → List ℤ → List ℤ → List ℤ → ℤ
sides rows values x ys = total (λ (q : Row × ℤ). q.1 *ℤ right_side values x q.0 q.1) (zip rows ys)

abbrev pub sides_size : List Row → List ℤ → List ℤ → List ℤ → ℕ
sides_size rows values x ys = sum_by (λ (q : Row × ℤ). nat_abs q.1 * right_side_size values x q) (zip rows ys)

abbrev pub lows : List Decision → List ℤ
lows ds = map (λ (d : Decision). d.low) ds

abbrev pub highs : List Decision → List ℤ
highs ds = map (λ (d : Decision). d.high) ds

abbrev pub box : List Decision → List Row → List ℤ → ℕ → ℤ
box ds rows ys j = int_min (farkas_reduced_cost rows ys j *ℤ entry (lows ds) j) (farkas_reduced_cost rows ys j *ℤ entry (highs ds) j)

abbrev pub box_size : List Decision → List Row → List ℤ → ℕ → ℕ
box_size ds rows ys j = span (entry (lows ds) j) (entry (highs ds) j) * farkas_reduced_size rows ys j

module _ (n : nodes.Node) (s : Subproblem) (low high values x ys : List ℤ) where
  value_view : sides s.rows values x ys +ℤ pos S *ℤ sum_to (length s.decisions) (box s.decisions s.rows ys) ≡ farkas_value (node_of n s low high) values x ys
  unfolding node_of
  value_view = ap (λ (m : ℕ). sides s.rows values x ys +ℤ pos S *ℤ sum_to m (box s.decisions s.rows ys)) (sym (length-map s.decisions (λ (d : Decision). d.low)))

  size_view : sides_size s.rows values x ys + S * count_by (length s.decisions) (box_size s.decisions s.rows ys) ≡ farkas_size (node_of n s low high) values x ys
  unfolding node_of
  size_view = ap (λ (m : ℕ). sides_size s.rows values x ys + S * count_by m (box_size s.decisions s.rows ys)) (sym (length-map s.decisions (λ (d : Decision). d.low)))

  module _ (rows : List Row) (ds : List Decision) (er : rows ≡ s.rows) (ed : ds ≡ s.decisions) where
    pub value_is : (v f : ℤ) → v ≡ sides rows values x ys → f ≡ pos S → v +ℤ f *ℤ sum_to (length ds) (box ds rows ys) ≡ farkas_value (node_of n s low high) values x ys
    value_is v f ev ef =
        ap₂ (λ (a b : ℤ). a +ℤ b *ℤ sum_to (length ds) (box ds rows ys)) ev ef
        ∙ ap₂ (λ (rs : List Row) (es : List Decision). sides rs values x ys +ℤ pos S *ℤ sum_to (length es) (box es rs ys)) er ed ∙ value_view

    pub size_is : (k : ℕ) (f : ℤ) → k ≡ sides_size rows values x ys → f ≡ pos S → k + nat_abs f * count_by (length ds) (box_size ds rows ys) ≡ farkas_size (node_of n s low high) values x ys
    size_is k f ek ef =
        ap₂ (λ (a : ℕ) (b : ℤ). a + nat_abs b * count_by (length ds) (box_size ds rows ys)) ek ef
        ∙ ap₂ (λ (rs : List Row) (es : List Decision). sides_size rs values x ys + S * count_by (length es) (box_size es rs ys)) er ed ∙ size_view

    pub size_past : 2 ^ 127 ≤ sides_size rows values x ys → 2 ^ 127 ≤ farkas_size (node_of n s low high) values x ys
    size_past h =
        let k : 2 ^ 127 ≤ sides_size s.rows values x ys = subst (λ (rs : List Row). 2 ^ 127 ≤ sides_size rs values x ys) er h in
        subst (λ (m : ℕ). 2 ^ 127 ≤ m) size_view (omega (arith, k))

  abbrev signs : Bool
  signs = list_all (λ (q : Row × ℤ). is_sign q.0 q.1) (zip s.rows ys)

  pub other_count : ¬ (length ys ≡ length s.rows) → false ≡ refutes_of (node_of n s low high) values x ys
  unfolding refutes_of node_of
  other_count h = grind (arith, nat_tests, common_steps, h)

  pub wrong_sign : signs ≡ false → false ≡ refutes_of (node_of n s low high) values x ys
  unfolding refutes_of node_of
  wrong_sign h = grind (arith, nat_tests, common_steps, h)

  pub by_value : (t : Bool) → length ys ≡ length s.rows → signs ≡ true → t ≡ (nat_lt (farkas_size (node_of n s low high) values x ys) (2 ^ 127) && int_lt (pos 0) (farkas_value (node_of n s low high) values x ys)) → t ≡ refutes_of (node_of n s low high) values x ys
  unfolding refutes_of node_of
  by_value t e h k = grind (arith, nat_tests, common_steps, e, h, k)

-- the node of a problem with its own subproblem
pub refutes_at : (p : Validated) (m : ℕ) (n : nodes.Node) (s : Subproblem) (values x ys : List ℤ) → slice_get p.parts.nodes m ≡ Some n → subproblem_of p m ≡ Some s
    → refutes_of (node_of n s (get_or p.lo m []) (get_or p.hi m [])) values x ys ≡ refutes_of (node_at (problem_of p) m) values x ys
refutes_at p m n s values x ys e h =
    let own : slice_get p.parts.subs n.sub ≡ Some s = subst (λ (o : Option nodes.Node). option_and_then (λ (k : nodes.Node). slice_get p.parts.subs k.sub) o ≡ Some s) e h in
    ap (λ k. refutes_of k values x ys) (sym (node_at-problem_of p m n s e own))
