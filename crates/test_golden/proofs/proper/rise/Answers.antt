use Rattle.std.proofs.Common.{ℕ, List, All, subst}
use Rattle.std.proofs.lemmas.List.{take_all}
use Rattle.std.proofs.lemmas.List.Elements.{All-more}
use Rattle.lp_program.specs.declared.fixed.Fx.{Fx}
use Rattle.lp_program.specs.declared.programs.LpRow.{LpRow}
use Rattle.lp_program.specs.Proper.{AreRising}
use Rattle.test_golden.proofs.proper.rise.Goals as goal

-- src/proper.rt:70:5
pub loop-row-preserved : goal.loop-row-preserved
loop-row-preserved c =
    let here = subst (λ (ts : List (ℕ × Fx)). AreRising 0 c.args.columns ts) c.as_slice.ensures (c.rises.ensures c.if-not-rises.false) in
    All-more (λ (r : LpRow). AreRising 0 c.args.columns r.terms) c.args.rows.now c.loop-row.row-index c.row-item.result c.loop-row-test.true c.loop-row.invariant (subst (λ (r : LpRow). AreRising 0 c.args.columns r.terms) c.row-item.is here)

-- src/proper.rt:67:1
pub returns : goal.returns
returns c = λ _. subst (λ (rs : List LpRow). All (λ (r : LpRow). AreRising 0 c.args.columns r.terms) rs) (take_all c.loop-row.row-index c.args.rows.now c.loop-row-test.false) c.loop-row.invariant
