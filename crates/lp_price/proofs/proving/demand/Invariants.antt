use Rattle.std.proofs.Common.{◌≡◌, drop}
use Rattle.lp_program.specs.Numbers.{zero_fx}
use Rattle.lp_price.specs.Folds.{fold_from}
use Rattle.lp_price.specs.Proves.{side_step}
use Rattle.lp_price.proofs.proving.demand.Given as goal

abbrev pub invariant-loop-i : goal.invariant-loop-i
invariant-loop-i l = fold_from (side_step l.digits l.multipliers) 0 zero_fx l.rows ≡ fold_from (side_step l.digits l.multipliers) l.i l.sum (drop l.i l.rows)
