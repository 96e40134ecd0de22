use Rattle.std.proofs.Common.{◌≡◌, pos, length, take, replicate}
use Rattle.lp_pivot.proofs.line.clear.Given as goal

abbrev pub invariant-loop-j : goal.invariant-loop-j
invariant-loop-j l = record {
  width : length l.line ≡ length l.fn.line;
  zeros : take l.j l.line ≡ replicate l.j (pos 0);
}
