use Rattle.std.proofs.Common.{◌≡◌, ◌+◌, drop, length}
use Rattle.lp_scale.specs.Walks.{walk}
use Rattle.lp_scale.specs.Exponents.{AreUpTo}
use Rattle.lp_scale.specs.Widening.{with_scale, successor_scales}
use Rattle.lp_scale.proofs.widening.write_scales.Given as goal

abbrev pub invariant-loop-j : goal.invariant-loop-j
invariant-loop-j l = record {
  count : length l.exponents ≡ length l.fn.exponents;
  range : AreUpTo 1000 l.exponents;
  value : successor_scales l.values l.spans l.first l.columns l.fn.exponents ≡ walk (with_scale l.values l.spans) (l.first + l.j) l.exponents (drop l.j l.columns);
}
