use Rattle.std.proofs.Common.{◌≡◌, ◌+◌, drop, length}
use Rattle.lp_scale.specs.Appending.{sided_from}
use Rattle.lp_scale.proofs.sides.set_all.Given as goal

abbrev pub invariant-loop-i : goal.invariant-loop-i
invariant-loop-i l = record {
  lows : length l.bounds.lows ≡ length l.fn.bounds.lows;
  ups : length l.bounds.ups ≡ length l.fn.bounds.ups;
  has_low : length l.bounds.has_low ≡ length l.fn.bounds.has_low;
  has_up : length l.bounds.has_up ≡ length l.fn.bounds.has_up;
  value : sided_from l.exponents l.values 0 l.first l.rows l.fn.bounds ≡ sided_from l.exponents l.values l.i (l.first + l.i) (drop l.i l.rows) l.bounds;
}
