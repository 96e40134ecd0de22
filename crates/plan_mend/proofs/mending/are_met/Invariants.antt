use Rattle.std.proofs.Common.{◌≡◌, pos, ℤ, drop}
use Rattle.std.specs.List.{list_all}
use Rattle.std.specs.Ordering.{int_eq}
use Rattle.plan_forward.specs.Costing.{misses_of}
use Rattle.plan_mend.specs.Mending.{all_met}
use Rattle.plan_mend.specs.Stages.{node_of_stage}
use Rattle.plan_mend.proofs.mending.are_met.Given as goal

abbrev pub invariant-loop-row : goal.invariant-loop-row
invariant-loop-row l =
    let n = node_of_stage l.stage in
    list_all (λ (d : ℤ). int_eq d (pos 0)) (drop l.row (misses_of n l.numbers l.stage.state.now l.stage.values.now)) ≡ all_met n l.stage.values.now l.stage.state.now l.numbers
