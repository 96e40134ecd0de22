use Rattle.lp_scan.proofs.Grown.{put_fits}
use Rattle.lp_scan.proofs.scanning.put_cut.Goals as goal

pub returns-clause-fits : goal.returns-clause-fits
returns-clause-fits c =
    put_fits c.args.lp.now c.args.i _ c.args.terms.now c.args.sides c.args.table.now c.put_row.new.table c.push.new.self c.in_ok-put_row.ensures.value c.in_ok-push.ensures c.requires.cut c.requires.fits c.in_ok-put_row.ensures.whole (c.in_ok-put_row.ensures.small 1000 c.requires.fits.small)
