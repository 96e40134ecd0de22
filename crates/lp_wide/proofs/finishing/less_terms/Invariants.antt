use Rattle.std.proofs.Common.{◌≡◌, length, drop}
use Rattle.lp_wide.specs.Finish.{wide_less_terms}
use Rattle.lp_wide.proofs.finishing.less_terms.Given as goal

abbrev pub invariant-loop-k : goal.invariant-loop-k
invariant-loop-k l = record {
  rests : wide_less_terms l.dual l.fn.rests l.terms ≡ wide_less_terms l.dual l.rests (drop l.k l.terms);
  lengths : length l.rests ≡ length l.fn.rests;
}
