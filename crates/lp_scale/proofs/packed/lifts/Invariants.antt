use Rattle.std.proofs.Common.{◌≡◌, map, take}
use Rattle.lp_scale.specs.Packed.{lift_of}
use Rattle.lp_scale.proofs.packed.lifts.Given as goal

abbrev pub invariant-loop-out : goal.invariant-loop-out
invariant-loop-out l = l.found ≡ map (lift_of l.exponents) (take l.out-index l.outs)
