use Rattle.std.proofs.Common.{◌≡◌, drop}
use Rattle.lp_price.specs.Folds.{fold_from}
use Rattle.lp_price.specs.Proves.{box_step}
use Rattle.lp_price.proofs.proving.with_boxes.Given as goal

abbrev pub invariant-loop-j : goal.invariant-loop-j
invariant-loop-j l = fold_from (box_step l.weights) 0 l.fn.sum l.columns ≡ fold_from (box_step l.weights) l.j l.sum (drop l.j l.columns)
