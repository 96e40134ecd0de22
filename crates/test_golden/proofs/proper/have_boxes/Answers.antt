use Rattle.std.proofs.Common.{◌≤ℤ◌, List, All, subst}
use Rattle.std.proofs.lemmas.List.{take_all}
use Rattle.std.proofs.lemmas.List.Elements.{All-more}
use Rattle.lp_program.specs.declared.programs.Column.{Column}
use Rattle.test_golden.proofs.proper.have_boxes.Goals as goal

-- src/proper.rt:22:5
pub loop-column-preserved : goal.loop-column-preserved
loop-column-preserved c =
    All-more (λ (x : Column). x.low.0 ≤ℤ x.high.0) c.args.columns.now c.loop-column.column-index _ c.loop-column-test.true c.loop-column.invariant (c.has_box.ensures c.if-not-has_box.false)

-- src/proper.rt:19:1
pub returns : goal.returns
returns c = λ _. subst (λ (xs : List Column). All (λ (x : Column). x.low.0 ≤ℤ x.high.0) xs) (take_all c.loop-column.column-index c.args.columns.now c.loop-column-test.false) c.loop-column.invariant
