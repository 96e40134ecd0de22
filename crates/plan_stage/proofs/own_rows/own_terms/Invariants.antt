use Rattle.std.proofs.Common.{◌≡◌, ℕ, ℤ, map, take}
use Rattle.plan_stage.specs.Stage.{whole_fixed}
use Rattle.plan_stage.proofs.own_rows.own_terms.Given as goal

abbrev pub invariant-loop-variable : goal.invariant-loop-variable
invariant-loop-variable l = l.found ≡ map (λ (t : ℕ × ℤ). (t.0, whole_fixed t.1)) (take l.variable-index l.terms)
