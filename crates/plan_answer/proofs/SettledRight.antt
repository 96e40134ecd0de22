-- A settled certificate is right, whatever the answer.
use Rattle.std.proofs.Common.{◌≡◌, ◌∙◌, ℕ, zero, suc, ◌*◌, ◌<◌, Bool, true, false, ℤ, pos, negsuc, List, [], ◌∷◌, length, map, zip, drop, if◌then◌else◌, mul-pos, All, IsSome, Option, Some, None, refl, ap, ap₂, subst, arith}
use Rattle.std.specs.Prelude.{is_some}
use Rattle.std.proofs.lemmas.List.{length-map}
use Rattle.std.proofs.lemmas.List.Elements.{All-nil, All-cons, All-head, All-tail}
use Rattle.std.proofs.Math.Seq.{drop-nil}
use Rattle.problem.specs.declared.parts.Row.{Row}
use Rattle.theory.specs.declared.cut.Cut.{Cut}
use Rattle.theory.specs.Problem.{S, Successor, Node}
use Rattle.theory.specs.Pools.{pool}
use Rattle.theory.specs.Certificates.{SignRight, PairsRight, RightAt, Right}
use Rattle.theory.specs.Base.{base_certificate}
use Rattle.lp_program.specs.declared.fixed.Fx.{Fx}
use Rattle.lp_program.specs.declared.programs.Answer.{Answer}
use Rattle.lp_program.specs.declared.programs.Kind.{Kind}
use Rattle.lp_program.specs.declared.programs.Kind.TheVariants.{Found, Ray, Stuck}
use Rattle.cut_make.specs.Acceptance.{fault_of, range_fault}
use Rattle.cut_check.proofs.Faultless.{right-range_fault}
use Rattle.plan_answer.specs.Settling.{row_dual, clamped_number, rescaled_multiplier, signed, finer, row_multiplier_over, settled_rows, settled_pairs, settled_successors, settled_duals, used_duals, settled_by, settled_of}
use Rattle.plan_answer.proofs.SettledPairs.{pairs_right, no_duals-pairs}

-- rows
some : (o : Option ℤ) → is_some o ≡ true → IsSome o
some None e = cc
some (Some x) e = refl

signed_right : (row : Row) (y : ℤ) → SignRight row (signed row y)
signed_right row (pos zero) = tt
signed_right row (pos (suc y)) = by (is_some row.low) (some row.low)
  where
    by : (b : Bool) → (b ≡ true → IsSome row.low) → SignRight row (if b then pos (suc y) else pos 0)
    by true h = h refl
    by false h = tt
signed_right row (negsuc y) = by (is_some row.high) (some row.high)
  where
    by : (b : Bool) → (b ≡ true → IsSome row.high) → SignRight row (if b then negsuc y else pos 0)
    by true h = h refl
    by false h = tt

abbrev pub RightSign : Row × ℤ → Type 0
RightSign q = SignRight q.0 q.1

pub length-settled_rows : (i : ℕ) (rows : List Row) (duals : List Fx) → length (settled_rows i rows duals) ≡ length rows
length-settled_rows i [] duals = refl
length-settled_rows i (row ∷ rows) duals = ap suc (length-settled_rows (suc i) rows duals)

pub signs : (i : ℕ) (rows : List Row) (duals : List Fx) → All RightSign (zip rows (settled_rows i rows duals))
signs i [] duals = All-nil RightSign
signs i (row ∷ rows) duals = All-cons RightSign (row, row_multiplier_over finer row (row_dual duals i)) (zip rows (settled_rows (suc i) rows duals)) (signed_right row (clamped_number (rescaled_multiplier (row_dual duals i)))) (signs (suc i) rows duals)

-- successors
abbrev pub HasCuts : List (List Cut) → Successor → Type 0
HasCuts pools l = (0 < l.weight) × (0 < length (pool pools l.node))

length-settled_successors : (pools : List (List Cut)) (ls : List Successor) (duals : List Fx) → length (settled_successors pools ls duals) ≡ length ls
length-settled_successors pools [] duals = refl
length-settled_successors pools (l ∷ ls) duals = ap suc (length-settled_successors pools ls (drop (length (pool pools l.node)) duals))

successors_right : (pools : List (List Cut)) (ls : List Successor) (duals : List Fx) → All (HasCuts pools) ls → All (PairsRight pools) (zip ls (settled_successors pools ls duals))
successors_right pools [] duals h = All-nil (PairsRight pools)
successors_right pools (l ∷ ls) duals h =
    let tail = drop (length (pool pools l.node)) duals in
    All-cons (PairsRight pools) (l, settled_pairs (S * l.weight) (length (pool pools l.node)) duals) (zip ls (settled_successors pools ls tail)) (pairs_right pools l duals (All-head (HasCuts pools) l ls h).1) (successors_right pools ls tail (All-tail (HasCuts pools) l ls h))

-- any duals
pub duals_right : (pools : List (List Cut)) (n : Node) (duals : List Fx) → All (HasCuts pools) n.successors → RightAt pools n (settled_duals pools n duals)
duals_right pools n duals h = record {
  rows = length-settled_rows 0 n.rows duals;
  successors = length-settled_successors pools n.successors (drop (length n.rows) duals);
  signs = signs 0 n.rows duals;
  pairs = successors_right pools n.successors (drop (length n.rows) duals) h;
}

-- no duals give the base certificate
no_rows : (i : ℕ) (rows : List Row) → settled_rows i rows [] ≡ map (λ (row : Row). pos 0) rows
no_rows i [] = refl
no_rows i (row ∷ rows) = ap (λ (ys : List ℤ). pos 0 ∷ ys) (no_rows (suc i) rows)

no_successors : (pools : List (List Cut)) (ls : List Successor) → All (HasCuts pools) ls → (0 < S) → settled_successors pools ls [] ≡ map (λ (l : Successor). (0, S * l.weight) ∷ []) ls
no_successors pools [] h s = refl
no_successors pools (l ∷ ls) h s =
    let q : HasCuts pools l = All-head (HasCuts pools) l ls h in
    let none : ◌≡◌ {A = List Fx} (drop (length (pool pools l.node)) []) [] = drop-nil (length (pool pools l.node)) in
    rw (none, no_duals-pairs (S * l.weight) (length (pool pools l.node)) (mul-pos s q.0) q.1)
    (ap (λ (cuts : List (List (ℕ × ℕ))). ((0, S * l.weight) ∷ []) ∷ cuts) (no_successors pools ls (All-tail (HasCuts pools) l ls h) s))

some_scale : 0 < S
unfolding S
some_scale = omega arith

pub no_duals-base : (pools : List (List Cut)) (n : Node) → All (HasCuts pools) n.successors → settled_duals pools n [] ≡ base_certificate n
no_duals-base pools n h =
    let none : ◌≡◌ {A = List Fx} (drop (length n.rows) []) [] = drop-nil (length n.rows) in
    rw none
    (ap₂ (λ (rows : List ℤ) (cuts : List (List (ℕ × ℕ))). record { rows = rows; cuts = cuts }) (no_rows 0 n.rows) (no_successors pools n.successors h some_scale))

-- any answer
by_right : (kind : Kind) (pools : List (List Cut)) (n : Node) (duals : List Fx) → All (HasCuts pools) n.successors → RightAt pools n (settled_by kind pools n duals)
by_right Found pools n duals h = duals_right pools n duals h
by_right Ray pools n duals h = subst (RightAt pools n) (no_duals-base pools n h) (duals_right pools n [] h)
by_right Stuck pools n duals h = subst (RightAt pools n) (no_duals-base pools n h) (duals_right pools n [] h)

by_used : (kind : Kind) (pools : List (List Cut)) (n : Node) (duals : List Fx) → All (HasCuts pools) n.successors → settled_duals pools n (used_duals kind duals) ≡ settled_by kind pools n duals
by_used Found pools n duals h = refl
by_used Ray pools n duals h = no_duals-base pools n h
by_used Stuck pools n duals h = no_duals-base pools n h

pub settled_used : (pools : List (List Cut)) (n : Node) (answer : Answer) → All (HasCuts pools) n.successors → settled_duals pools n (used_duals answer.kind answer.duals) ≡ settled_of pools n answer
unfolding settled_of
settled_used pools n answer h = by_used answer.kind pools n answer.duals h

pub settled_right : (pools : List (List Cut)) (n : Node) (answer : Answer) → All (HasCuts pools) n.successors → RightAt pools n (settled_of pools n answer)
unfolding settled_of
settled_right pools n answer h = by_right answer.kind pools n answer.duals h

all_right : (pools : List (List Cut)) (n : Node) (answers : List Answer) → All (HasCuts pools) n.successors → All (RightAt pools n) (map (settled_of pools n) answers)
all_right pools n [] h = All-nil (RightAt pools n)
all_right pools n (a ∷ answers) h = All-cons (RightAt pools n) (settled_of pools n a) (map (settled_of pools n) answers) (settled_right pools n a h) (all_right pools n answers h)

pub settled_list_right : (pools : List (List Cut)) (n : Node) (answers : List Answer) → All (HasCuts pools) n.successors → length answers ≡ length n.realizations → Right pools n (map (settled_of pools n) answers)
settled_list_right pools n answers h e = record { count = length-map answers (settled_of pools n) ∙ e; each = all_right pools n answers h }

-- the only fault of settled certificates
pub settled_fault : (pools : List (List Cut)) (n : Node) (answers : List Answer) → All (HasCuts pools) n.successors → length answers ≡ length n.realizations → fault_of pools n (map (settled_of pools n) answers) ≡ range_fault pools n (map (settled_of pools n) answers)
settled_fault pools n answers h e = right-range_fault pools n (map (settled_of pools n) answers) (settled_list_right pools n answers h e)
