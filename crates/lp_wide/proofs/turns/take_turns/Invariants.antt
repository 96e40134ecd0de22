use Rattle.std.proofs.Common.{◌≡◌, ◌-◌, false}
use Rattle.lp_wide_table.specs.Shape.{WideFits}
use Rattle.lp_wide.specs.Turns.{wide_turns_on_table}
use Rattle.lp_wide.proofs.turns.take_turns.Given as goal

abbrev pub invariant-loop-turn : goal.invariant-loop-turn
invariant-loop-turn l = record {
  fits : WideFits l.table l.lp;
  left : wide_turns_on_table l.lp l.limit false l.fn.table ≡ wide_turns_on_table l.lp (l.limit - l._turn) l.idle l.table;
}
