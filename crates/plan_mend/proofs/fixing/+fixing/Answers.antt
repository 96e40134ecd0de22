use Rattle.std.proofs.Common.{◌∙◌, ◌<◌, Bool, length, sym, ap, ap₂, subst, arith}
use Rattle.plan_mend.specs.declared.search.Search.{Search}
use Rattle.plan_mend.specs.Moves.{is_harmed}
use Rattle.plan_mend.specs.Fixing.{FixOutcome, fixer_below}
use Rattle.plan_mend.specs.Stages.{frame_at, AreDecisionsInside}
use Rattle.plan_mend.proofs.Kept.{row_passed, row_fixed}
use Rattle.plan_mend.proofs.fixing.+fixing.Goals as goal
use Rattle.plan_mend.proofs.fixing.+fixing.Goals.{keep_rows-else-is_harmed-via-then-is_harmed+in_ok-fix_below+else-not-branch, keep_rows-else-is_harmed-via-else-is_harmed}

abbrev outcome : Bool → Search → FixOutcome
outcome done s = (done, s)

pub keep_rows-loop-other-preserved : goal.keep_rows-loop-other-preserved
keep_rows-loop-other-preserved t c =
    let f = frame_at c.args.stage.now in
    let l = c.loop-other in
    let there : l.other < length f.rows = omega (arith, c.loop-other-test.true, c.stage_row_count-other-end.ensures) in
    let tested = c.is_harmed.ensures ∙ ap (λ xs. is_harmed f c.args.row c.args.before.now xs l.other) c.as_slice.ensures in
    elim c.else-is_harmed.branch [
      | keep_rows-else-is_harmed-via-then-is_harmed+in_ok-fix_below+else-not-branch w ↦ (
        row_fixed f (fixer_below f c.args.depth) c.args.row c.args.before.now l.other (length f.rows) l.search c.else-is_harmed.search _ there l.invariant.0 (sym w.if-is_harmed.true ∙ tested)
            (ap₂ outcome (sym w.if-not-branch.false) w.search-is ∙ w.in_ok-fix_below.ensures.value),
        subst (λ (s : Search). AreDecisionsInside c.args.stage.now s.numbers) (sym w.search-is) w.in_ok-fix_below.ensures.inside,
      )
      | keep_rows-else-is_harmed-via-else-is_harmed w ↦ (
        row_passed f (fixer_below f c.args.depth) c.args.row c.args.before.now l.other (length f.rows) l.search c.else-is_harmed.search _ there l.invariant.0 (sym w.if-is_harmed.false ∙ tested) w.search-is,
        subst (λ (s : Search). AreDecisionsInside c.args.stage.now s.numbers) (sym w.search-is) l.invariant.1,
      )
    ]
