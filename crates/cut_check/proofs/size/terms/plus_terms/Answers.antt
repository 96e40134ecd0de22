use Rattle.cut_make.specs.SizeByTerms.{term_by}
use Rattle.cut_check.proofs.Amounts.{adds_more, adds_past}
use Rattle.cut_check.proofs.size.terms.plus_terms.Goals as goal

pub returns-in_err-sum : goal.returns-in_err-sum
returns-in_err-sum g c =
    rw c.from_residual.ensures (adds_past (term_by (g.M.Multiples.at c.args.multiples.now)) c.args.terms.now c.loop-term.term-index c.args.size.total c.loop-term.sum.total _ c.loop-term-test.true c.loop-term.invariant c.in_err-sum.ensures)

pub loop-term-preserved : goal.loop-term-preserved
loop-term-preserved g c =
    adds_more (term_by (g.M.Multiples.at c.args.multiples.now)) c.args.terms.now c.loop-term.term-index c.args.size.total c.loop-term.sum.total _ c.loop-term-test.true c.loop-term.invariant c.in_ok-sum.sum.total c.in_ok-sum.ensures
