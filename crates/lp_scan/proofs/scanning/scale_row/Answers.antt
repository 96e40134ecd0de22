use Rattle.std.proofs.Common.{length, subst, sym}
use Rattle.lp_program.specs.Proper.{AreRising}
use Rattle.lp_scale.proofs.Rising.{scaled_rising}
use Rattle.lp_scale.proofs.Shapes.{gives_true}
use Rattle.lp_scan.proofs.scanning.scale_row.Goals as goal

pub returns-in-Some-clause-rising : goal.returns-in-Some-clause-rising
returns-in-Some-clause-rising c =
    scaled_rising _ _ (length c.args.table.now.costs) c.as_slice-terms.result.now c.scale_terms.new.found (subst (AreRising 0 (length c.args.table.now.costs)) (sym c.as_slice-terms.ensures) c.requires.rising)
    (gives_true _ _ _ c.if-not-branch.false c.in_ok-scale_terms.ensures)
