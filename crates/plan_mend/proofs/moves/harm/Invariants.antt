use Rattle.std.proofs.Common.{◌≡◌, ◌≤◌, ◌+◌, ◌-◌, length}
use Rattle.plan_mend.specs.Moves.{harm_from}
use Rattle.plan_mend.specs.Stages.{frame_at}
use Rattle.plan_mend.proofs.moves.harm.Given as goal

abbrev pub invariant-loop-other : goal.invariant-loop-other
invariant-loop-other l =
    let f = frame_at l.stage in
    (l.count + harm_from f l.row l.before l.after l.other (length f.rows - l.other) ≡ harm_from f l.row l.before l.after 0 (length f.rows)) × (l.count ≤ l.other)
