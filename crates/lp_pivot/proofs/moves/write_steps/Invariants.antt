use Rattle.std.proofs.Common.{◌≡◌, ◌+◌, length, take}
use Rattle.lp_pivot.specs.Move.{steps_of}
use Rattle.lp_pivot.proofs.moves.write_steps.Given as goal

abbrev pub invariant-loop-k : goal.invariant-loop-k
invariant-loop-k l = record {
  lengths : length l.shifts ≡ length l.fn.shifts;
  steps : take (l.k + 1) l.shifts ≡ steps_of l.table l.place l.fn.step (take l.k l.flips);
}
