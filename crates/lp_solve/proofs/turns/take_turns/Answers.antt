use Rattle.std.proofs.Common.{◌-◌, ◌+◌, refl, rules, subst}
use Rattle.lp_solve.specs.declared.turns.Turn.{Turn}
use Rattle.lp_solve.specs.Turns.{turn_on_table, turns_on_table}
use Rattle.lp_solve.specs.Steps.{Halts, TakesTurn}
use Rattle.lp_solve.proofs.Ending.{ends_like}
use Rattle.lp_solve.proofs.Steps.{turn_on, turn_halts}
use Rattle.lp_solve.proofs.turns.take_turns.Goals as goal

pub returns-in-Stops-clause-went : goal.returns-in-Stops-clause-went
returns-in-Stops-clause-went c =
    let h : Halts (turn_on_table c.args.lp.now c.loop-turn.fresh c.loop-turn.table) c.take_turn.new.table = search rules in
    ends_like _ _ c.take_turn.new.table
    (turn_on c.args.lp.now _ c.args.limit c.loop-turn._turn c.loop-turn.fresh c.loop-turn.table _ c.loop-turn-test.true refl c.loop-turn.invariant.left)
    (turn_halts (turns_on_table c.args.lp.now (c.args.limit - (c.loop-turn._turn + 1))) (turn_on_table c.args.lp.now c.loop-turn.fresh c.loop-turn.table) c.take_turn.new.table h)

pub returns-in-Ends-clause-went : goal.returns-in-Ends-clause-went
returns-in-Ends-clause-went c =
    let ended = subst (λ (s : Turn). TakesTurn s (turn_on_table c.args.lp.now c.loop-turn.fresh c.loop-turn.table) c.take_turn.new.table) c.in-Ends.is c.in_ok-take_turn.ensures.turn in
    turn_on c.args.lp.now _ c.args.limit c.loop-turn._turn c.loop-turn.fresh c.loop-turn.table _ c.loop-turn-test.true ended c.loop-turn.invariant.left
