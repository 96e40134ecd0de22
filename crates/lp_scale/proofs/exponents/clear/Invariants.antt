use Rattle.std.proofs.Common.{◌≡◌, ◌++◌, take, drop, length, map}
use Rattle.lp_scale.proofs.Passes.{no_span}
use Rattle.lp_scale.proofs.exponents.clear.Given as goal

abbrev pub invariant-loop-j : goal.invariant-loop-j
invariant-loop-j l = record {
  count : length l.spans ≡ length l.fn.spans;
  value : l.spans ≡ take l.j (map no_span l.fn.spans) ++ drop l.j l.fn.spans;
}
