use Rattle.std.proofs.Common.{false, subst}
use Rattle.lp_wide.specs.declared.turns.Turn.{Turn}
use Rattle.lp_wide.specs.Steps.{WideTakesTurn}
use Rattle.lp_wide.specs.Turns.{wide_turn_on_table, wide_turns_on_table}
use Rattle.lp_wide.proofs.Ends.{turn_shows}
use Rattle.lp_wide.proofs.turns.take_turns.Goals as goal

pub returns-in-Ends : goal.returns-in-Ends
returns-in-Ends c =
    let ended = subst (λ (s : Turn). WideTakesTurn s (wide_turn_on_table c.args.lp.now c.loop-turn.table) c.take_turn.new.table) c.in-Ends.is c.in_ok-take_turn.ensures.turn in
    turn_shows c.args.lp.now c.loop-turn.table c.loop-turn.idle c.args.limit c.loop-turn._turn c.in-Ends.answer (wide_turns_on_table c.args.lp.now c.args.limit false c.args.table.now) c.loop-turn-test.true ended c.loop-turn.invariant.left
