use Rattle.std.proofs.Common.{◌∙◌, sym}
use Rattle.plan_mend.specs.Stages.{frame_at, node_of_stage}
use Rattle.plan_mend.proofs.Untouched.{never, not_same, unharmed, untouched_miss}
use Rattle.plan_mend.proofs.moves.is_harmed_by.Goals as goal
use Rattle.plan_mend.proofs.moves.is_harmed_by.Goals.{then-other-row, else-other-row}

pub returns-else-has_term : goal.returns-else-has_term
returns-else-has_term c =
    let s = c.args.stage.now in
    let no = c.if-has_term.false in
    elim c.if-other-row.branch [
      | then-other-row w ↦ never _ c.args.other c.args.row w.if-other-row.true (sym w.value-is ∙ no)
      | else-other-row w ↦ no ∙ unharmed (frame_at s) c.args.row c.args.before.now c.args.after.now c.args.other (not_same c.args.other c.args.row w.if-other-row.false)
          (untouched_miss (node_of_stage s) s.values.now s.state.now c.args.before.now c.args.after.now c.args.at c.args.other c.requires.moved c.requires.there (w.has_term.ensures (sym w.value-is ∙ no)))
    ]
