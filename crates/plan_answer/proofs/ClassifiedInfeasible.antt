-- The rows of a problem's node, and the answers that are classified as infeasible.
use Rattle.std.proofs.Common.{◌≡◌, Bool, true, false, ℕ, zero, suc, ◌+◌, ◌-◌, ◌*◌, ◌<◌, ℤ, List, [], get_or, length, slice_get, if◌then◌else◌, Option, Some, option_and_then, refl, ap, sym, subst, ◌∙◌, arith}
use Rattle.base_num.proofs.Tests.{some_of}
use Rattle.problem.specs.Validated.{Validated, subproblem_of}
use Rattle.problem.specs.declared.parts.Subproblem.{Subproblem}
use Rattle.problem.specs.declared.parts.Node as nodes
use Rattle.lp_program.specs.declared.fixed.Fx.{Fx}
use Rattle.lp_program.specs.declared.programs.Answer.{Answer}
use Rattle.lp_program.specs.declared.programs.Kind.{Kind}
use Rattle.lp_program.specs.declared.programs.Kind.TheVariants as kinds
use Rattle.theory.specs.Problem.{Node, node_at}
use Rattle.theory.specs.View.{problem_of}
use Rattle.theory.proofs.Views.{node_at-problem_of, rows-node_of}
use Rattle.plan_answer.specs.declared.classifying.Classified.TheVariants.{Found, Unanswered, Infeasibility}
use Rattle.plan_answer.specs.Farkas.{refutes_of, NoDecision}
use Rattle.plan_answer.specs.Classifying.{ray_rows, first_infeasible, classified_by, classify_of}
use Rattle.plan_answer.proofs.Refuted.{refuted}

pub rows_at : (p : Validated) (m : ℕ) (s : Subproblem) → m < length p.parts.nodes → subproblem_of p m ≡ Some s → s.rows ≡ (node_at (problem_of p) m).rows
rows_at p m s h is =
    let n = some_of p.parts.nodes m h in
    let own : slice_get p.parts.subs n.0.sub ≡ Some s = subst (λ (o : Option nodes.Node). option_and_then (λ (k : nodes.Node). slice_get p.parts.subs k.sub) o ≡ Some s) n.1 is in
    sym (ap (λ (k : Node). k.rows) (node_at-problem_of p m n.0 s n.1 own) ∙ rows-node_of n.0 s (get_or p.lo m []) (get_or p.hi m []))

not_infeasible : (ys : List ℤ) → Unanswered ≡ Infeasibility ys → ⊥
not_infeasible ys e = cc

not_found : (ys : List ℤ) → Found ≡ Infeasibility ys → ⊥
not_found ys e = cc

-- an answer that is classified as infeasible leaves no decisions
infeasible_first : (n : Node) (values x : List ℤ) (duals : List Fx) (digits more : ℕ) (ys : List ℤ) → first_infeasible n values x duals digits more ≡ Infeasibility ys → NoDecision n values x
infeasible_first n values x duals digits zero ys e = absurd (not_infeasible ys e)
infeasible_first n values x duals digits (suc more) ys e = by (refutes_of n values x (ray_rows n duals digits)) refl (infeasible_first n values x duals (digits + 4) more ys) e
  where
    by : (t : Bool) → refutes_of n values x (ray_rows n duals digits) ≡ t → (first_infeasible n values x duals (digits + 4) more ≡ Infeasibility ys → NoDecision n values x) → (if t then Infeasibility (ray_rows n duals digits) else first_infeasible n values x duals (digits + 4) more) ≡ Infeasibility ys → NoDecision n values x
    by true is next f = refuted n values x (ray_rows n duals digits) is
    by false is next f = next f

pub classified_infeasible : (n : Node) (values x : List ℤ) (a : Answer) (ys : List ℤ) → classify_of n values x a ≡ Infeasibility ys → NoDecision n values x
unfolding classify_of
classified_infeasible n values x a ys e = by_kind a.kind e
  where
    by_kind : (k : Kind) → classified_by n values x a.duals k ≡ Infeasibility ys → NoDecision n values x
    by_kind kinds.Found f = absurd (not_found ys f)
    by_kind kinds.Ray f = infeasible_first n values x a.duals 0 15 ys f
    by_kind kinds.Stuck f = absurd (not_infeasible ys f)

-- one try of so many: these rows refute, or the next are tried
module _ (n : Node) (values x ys : List ℤ) (duals : List Fx) (tried : ℕ) (t : Bool) (few : tried < 15) (rows : ys ≡ ray_rows n duals (4 * tried)) (is : t ≡ refutes_of n values x ys) where
  one_try : first_infeasible n values x duals (4 * tried) (15 - tried) ≡ (if t then Infeasibility ys else first_infeasible n values x duals (4 * (tried + 1)) (15 - (tried + 1)))
  one_try =
      let left : 15 - tried ≡ suc (15 - (tried + 1)) = omega arith in
      let next : 4 * tried + 4 ≡ 4 * (tried + 1) = omega arith in
      let test : refutes_of n values x (ray_rows n duals (4 * tried)) ≡ t = ap (refutes_of n values x) (sym rows) ∙ sym is in
      rw (left, test, ← next, ← rows) refl

  pub this_refutes : t ≡ true → first_infeasible n values x duals (4 * tried) (15 - tried) ≡ first_infeasible n values x duals 0 15 → Infeasibility ys ≡ first_infeasible n values x duals 0 15
  this_refutes e w = sym (one_try ∙ ap (λ (b : Bool). if b then Infeasibility ys else first_infeasible n values x duals (4 * (tried + 1)) (15 - (tried + 1))) e) ∙ w

  pub next_tried : t ≡ false → first_infeasible n values x duals (4 * tried) (15 - tried) ≡ first_infeasible n values x duals 0 15 → first_infeasible n values x duals (4 * (tried + 1)) (15 - (tried + 1)) ≡ first_infeasible n values x duals 0 15
  next_tried e w = sym (one_try ∙ ap (λ (b : Bool). if b then Infeasibility ys else first_infeasible n values x duals (4 * (tried + 1)) (15 - (tried + 1))) e) ∙ w
