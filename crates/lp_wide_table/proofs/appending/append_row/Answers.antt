use Rattle.std.proofs.Common.{◌≡◌, true, length, subst, sym}
use Rattle.lp_table.specs.Shape as shape
use Rattle.lp_program.specs.Proper.{AreRising}
use Rattle.lp_wide_table.proofs.Rising.{scaled_rising}
use Rattle.lp_wide_table.proofs.Giving.{gives_true}
use Rattle.lp_wide_table.proofs.appending.append_row.Goals as goal

pub put_row-requires-clause-rising : goal.put_row-requires-clause-rising
put_row-requires-clause-rising c =
    let whole : c.in_ok-whole.whole ≡ true = c.if-whole.true in
    subst (shape.AreTermsRising 0 (length c.args.table.now.costs)) (sym c.as_slice-in-Some.ensures)
    (scaled_rising _ _ (length c.args.table.now.costs) c.as_slice-terms.result.now c.scale_terms.new.found (subst (AreRising 0 (length c.args.table.now.costs)) (sym c.as_slice-terms.ensures) c.requires.rising)
    (gives_true _ _ _ whole c.in_ok-whole.ensures))
