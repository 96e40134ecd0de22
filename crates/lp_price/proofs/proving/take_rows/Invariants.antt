use Rattle.std.proofs.Common.{◌≡◌, drop}
use Rattle.lp_price.specs.Folds.{fold_from}
use Rattle.lp_price.specs.Proves.{row_step}
use Rattle.lp_price.proofs.proving.take_rows.Given as goal

abbrev pub invariant-loop-i : goal.invariant-loop-i
invariant-loop-i l = fold_from (row_step l.digits l.multipliers) 0 l.fn.weights l.rows ≡ fold_from (row_step l.digits l.multipliers) l.i l.weights (drop l.i l.rows)
