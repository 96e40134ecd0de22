use Rattle.std.proofs.Common.{◌≡◌, map, take}
use Rattle.lp_scale.specs.Exponents.{reach_of}
use Rattle.lp_scale.proofs.exponents.reaches.Given as goal

abbrev pub invariant-loop-column : goal.invariant-loop-column
invariant-loop-column l = l.found ≡ map reach_of (take l.column-index l.columns)
