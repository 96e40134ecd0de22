use Rattle.std.proofs.Common.{◌≡◌, ◌-◌}
use Rattle.lp_price.specs.Proves.{proves_from}
use Rattle.lp_price.proofs.proving.exceeds_by_one.Given as goal

abbrev pub invariant-loop-scale : goal.invariant-loop-scale
invariant-loop-scale l = proves_from l.lp l.multipliers 0 l.scales ≡ proves_from l.lp l.multipliers l.scale (l.scales - l.scale)
