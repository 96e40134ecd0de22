-- A chain of a node's realizations, by the program with which it began.
use Rattle.std.proofs.Common.{◌≡◌, ℕ, ℤ, List, [], ◌∷◌, map, Option, Some, None, slice_get, ap, sym, ◌∙◌}
use Rattle.std.specs.Prelude.{unwrap_or}
use Rattle.problem.specs.Validated.{Validated}
use Rattle.theory.specs.declared.cut.Cut.{Cut}
use Rattle.lp_program.specs.declared.programs.Program.{Program}
use Rattle.lp_program.specs.Chains.{answers}
use Rattle.lp_program.specs.Solving.{Solving}
use Rattle.plan_stage.specs.Nodes.{program_of, stage_at, stage_in}
use Rattle.plan_stage.specs.Chained.{begun_at, chain_answers}
use Rattle.plan_backward.specs.Certifying.{answers_to}

no_first : (own : List ℤ) → None ≡ Some own → ⊥
no_first own e = cc

pub begins : {Start Chain : Type 0} (v : Solving Start Chain) (p : Validated) (pools : List (List Cut)) (m : ℕ) (state : List ℤ) (values : List (List ℤ)) (own : List ℤ) (lp : Program) (chain : Chain)
    → slice_get values 0 ≡ Some own → stage_in p pools m own state ≡ Some lp → chain ≡ begun_at v p m lp
    → answers v.next chain (map (λ (o : List ℤ). stage_at p pools m o state) values) ≡ answers_to v p pools m state values
unfolding chain_answers
begins v p pools m state [] own lp chain is stage begun = absurd (no_first own is)
begins v p pools m state (x ∷ xs) own lp chain is stage begun =
    let first : x ≡ own = ap (λ (o : Option (List ℤ)). unwrap_or o own) is in
    let same : stage_at p pools m x state ≡ lp = ap (λ (y : List ℤ). stage_at p pools m y state) first ∙ ap program_of stage in
    ap (λ c. answers v.next c (map (λ (o : List ℤ). stage_at p pools m o state) (x ∷ xs)))
    (begun ∙ sym (ap (begun_at v p m) same))
