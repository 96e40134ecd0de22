use Rattle.std.proofs.Common.{◌≡◌, ◌-◌, length, drop}
use Rattle.lp_price.specs.Folds.{fold_from}
use Rattle.lp_price.specs.Found.{dual_step}
use Rattle.lp_price.proofs.found.set_duals.Given as goal

abbrev pub invariant-loop-i : goal.invariant-loop-i
invariant-loop-i l = record {
  duals : fold_from (dual_step l.table) l.own l.fn.duals l.rows ≡ fold_from (dual_step l.table) l.i l.duals (drop (l.i - l.own) l.rows);
  lengths : length l.duals ≡ length l.fn.duals;
}
