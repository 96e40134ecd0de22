use Rattle.std.proofs.Common.{◌≡◌, ◌-◌, false}
use Rattle.lp_scale.specs.Fitting.{Fits}
use Rattle.lp_solve.specs.Fitting.{KeepsOwn, IsRoomy}
use Rattle.lp_solve.specs.Turns.{turns_on_table}
use Rattle.lp_solve.proofs.turns.take_turns.Given as goal

abbrev pub invariant-loop-turn : goal.invariant-loop-turn
invariant-loop-turn l = record {
  fits : Fits l.table l.lp;
  room : IsRoomy l.room l.table;
  own : KeepsOwn l.lp l.fn.table l.table;
  left : turns_on_table l.lp l.limit false l.fn.table ≡ turns_on_table l.lp (l.limit - l._turn) l.fresh l.table;
}
