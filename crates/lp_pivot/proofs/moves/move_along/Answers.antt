use Rattle.std.proofs.Common.{◌∙◌, ◌+◌, length, take, ap}
use Rattle.lp_pivot.proofs.Arrivals.{steps_inside, moved_by_steps}
use Rattle.lp_pivot.proofs.moves.move_along.Goals as goal

pub carry_columns-requires-clause-inside : goal.carry_columns-requires-clause-inside
carry_columns-requires-clause-inside c =
    let front = c.split_at.ensures.front ∙ ap (take (length c.args.flips.now + 1)) c.as_slice.ensures ∙ c.write_steps.ensures.steps in
    steps_inside c.args.table.now (length c.args.table.now.lines) c.args.swap.place c.args.step c.args.flips.now c.split_at.result.0.now c.requires.sized.lines front c.requires.place c.requires.flips

pub returns-clause-moved : goal.returns-clause-moved
returns-clause-moved c =
    let front = c.split_at.ensures.front ∙ ap (take (length c.args.flips.now + 1)) c.as_slice.ensures ∙ c.write_steps.ensures.steps in
    moved_by_steps c.args.table.now c.carry_columns.new.table c.carry_columns.ensures.kept c.args.swap.leaving c.args.swap.above c.args.swap.place c.args.flips.now c.args.step c.split_at.result.0.now c.arrive.result c.arrive.new.table.values front c.if-not-carry_columns.ensures.moved c.arrive.ensures.arrived
