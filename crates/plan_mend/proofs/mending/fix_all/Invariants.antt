use Rattle.std.proofs.Common.{◌≡◌, ◌-◌, length}
use Rattle.plan_mend.specs.Fixing.{all_fixed}
use Rattle.plan_mend.specs.Stages.{frame_at, AreDecisionsInside}
use Rattle.plan_mend.proofs.mending.fix_all.Given as goal

abbrev pub invariant-loop-row : goal.invariant-loop-row
invariant-loop-row l =
    let f = frame_at l.stage in
    (all_fixed f l.row (length f.rows - l.row) l.search ≡ all_fixed f 0 (length f.rows) l.initial.search) × AreDecisionsInside l.stage l.search.numbers
