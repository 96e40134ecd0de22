use Rattle.std.proofs.Common.{◌∙◌, pos, ap, sym}
use Rattle.lp_wide_table.specs.Numbers.{sum_of}
use Rattle.lp_pivot.proofs.Terms.{term_read}
use Rattle.lp_wide.proofs.Terms.{term_added}
use Rattle.lp_wide.proofs.sums.terms_at.Goals as goal

pub loop-k-preserved : goal.loop-k-preserved
loop-k-preserved c =
    let read = term_read c.args.terms.now c.args.x.now c.loop-k.k c.index-terms-k.result c.index-terms-k-in-loop-k.result c.index-x-terms.result c.loop-k-test.true c.requires c.index-x-terms.is in
    term_added _ c.args.terms.now c.args.x.now c.loop-k.k (0, pos 0) c.loop-k.sum c.in_ok-sum.sum c.loop-k-test.true (ap (sum_of c.loop-k.sum) (sym read) ∙ sym c.in_ok-sum.ensures) c.loop-k.invariant
