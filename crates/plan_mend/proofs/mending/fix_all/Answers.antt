use Rattle.std.proofs.Common.{◌∙◌, ◌<◌, Bool, length, sym, ap, arith}
use Rattle.plan_mend.specs.declared.search.Search.{Search}
use Rattle.plan_mend.specs.Fixing.{FixOutcome}
use Rattle.plan_mend.specs.Stages.{frame_at}
use Rattle.plan_mend.proofs.AllFixed.{row_done, row_left}
use Rattle.plan_mend.proofs.mending.fix_all.Goals as goal

abbrev outcome : Search → Bool → FixOutcome
outcome s done = (done, s)

pub returns-then-not-branch-clause-value : goal.returns-then-not-branch-clause-value
returns-then-not-branch-clause-value c =
    let f = frame_at c.args.stage.now in
    let l = c.loop-row in
    let there : l.row < length f.rows = omega (arith, c.loop-row-test.true, c.stage_row_count-row-end.ensures) in
    row_left f l.row (length f.rows) l.search c.fix.new.search _ there l.invariant.0 (ap (outcome c.fix.new.search) (sym c.if-not-branch.true) ∙ c.in_ok-fix.ensures.value)

pub loop-row-preserved : goal.loop-row-preserved
loop-row-preserved c =
    let f = frame_at c.args.stage.now in
    let l = c.loop-row in
    let there : l.row < length f.rows = omega (arith, c.loop-row-test.true, c.stage_row_count-row-end.ensures) in
    (row_done f l.row (length f.rows) l.search c.fix.new.search _ there l.invariant.0 (ap (outcome c.fix.new.search) (sym c.if-not-branch.false) ∙ c.in_ok-fix.ensures.value), c.in_ok-fix.ensures.inside)
