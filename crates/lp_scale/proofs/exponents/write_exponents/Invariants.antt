use Rattle.std.proofs.Common.{◌≡◌, ◌++◌, take, drop, map, length}
use Rattle.lp_scale.specs.Exponents.{column_lift}
use Rattle.lp_scale.proofs.exponents.write_exponents.Given as goal

abbrev pub invariant-loop-j : goal.invariant-loop-j
invariant-loop-j l = record {
  count : length l.exponents ≡ length l.fn.exponents;
  value : l.exponents ≡ take l.j (map column_lift l.spans) ++ drop l.j l.fn.exponents;
}
