use Rattle.std.proofs.Common.{◌≡◌, ◌++◌, ℤ, List, length, map, take, drop}
use Rattle.lp_program.specs.declared.programs.LpRow.{LpRow}
use Rattle.plan_stage.specs.Stage.{own_row}
use Rattle.plan_stage.proofs.own_rows.set_own_sides.Given as goal

abbrev pub invariant-loop-i : goal.invariant-loop-i
invariant-loop-i l = record {
  tail : l.lp ≡ record l.initial.lp { rows = l.lp.rows };
  count : length l.lp.rows ≡ length l.initial.lp.rows;
  value : (before now : List ℤ) (cuts : List LpRow) → l.initial.lp.rows ≡ map (own_row before now) l.rows ++ cuts → l.lp.rows ≡ map (own_row l.values l.state) (take l.i l.rows) ++ (map (own_row before now) (drop l.i l.rows) ++ cuts);
}
