use Rattle.std.proofs.Common.{ℕ, ℤ, pos, ◌*ℤ◌, nat_abs}
use Rattle.base_num.specs.Sums.{Term}
use Rattle.plan_answer.proofs.Beside.{total_step}
use Rattle.cut_make.specs.SizeByTerms.{term_by}
use Rattle.cut_check.proofs.Amounts.{adds_more}
use Rattle.plan_answer.proofs.terms.terms_sum.Goals as goal

pub loop-term-preserved : goal.loop-term-preserved
loop-term-preserved g c =
    let at : ℕ → ℤ = g.N.TermNumbers.at c.args.numbers.now in
    record {
      value = total_step (λ (t : Term). t.1 *ℤ at t.0) c.args.terms.now c.loop-term.term-index (0, pos 0) c.loop-term.sum.value c.in_ok-sum.sum.value c.loop-term-test.true c.loop-term.invariant.value c.in_ok-sum.ensures.0;
      size = adds_more (term_by (λ i. nat_abs (at i))) c.args.terms.now c.loop-term.term-index 0 c.loop-term.sum.size.total _ c.loop-term-test.true c.loop-term.invariant.size c.in_ok-sum.sum.size.total c.in_ok-sum.ensures.1;
    }
