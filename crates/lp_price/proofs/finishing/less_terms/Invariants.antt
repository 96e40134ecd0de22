use Rattle.std.proofs.Common.{◌≡◌, ◌+◌, ℕ, length, drop}
use Rattle.lp_price.specs.Finish.{less_terms}
use Rattle.lp_price.specs.Within.{AreWithin}
use Rattle.lp_price.proofs.finishing.less_terms.Given as goal

abbrev pub invariant-loop-k : goal.invariant-loop-k
invariant-loop-k l = record {
  rests : less_terms l.dual l.fn.rests l.terms ≡ less_terms l.dual l.rests (drop l.k l.terms);
  lengths : length l.rests ≡ length l.fn.rests;
  within : (most : ℕ) → AreWithin most l.fn.rests → AreWithin (most + l.k) l.rests;
}
