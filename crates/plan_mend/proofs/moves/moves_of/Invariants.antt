use Rattle.std.proofs.Common.{◌≡◌, ◌++◌, drop}
use Rattle.plan_mend.specs.Moves.{moves_in, moves_of}
use Rattle.plan_mend.specs.Stages.{frame_at}
use Rattle.plan_mend.proofs.moves.moves_of.Given as goal

abbrev pub invariant-loop-term : goal.invariant-loop-term
invariant-loop-term l = l.moves ++ moves_in (frame_at l.aim.stage.now) l.aim.deep l.aim.search.now l.aim.row l.miss (drop l.term-index l.term-items) ≡ moves_of (frame_at l.aim.stage.now) l.aim.deep l.aim.search.now l.aim.row
