use Rattle.std.proofs.Common.{◌∙◌}
use Rattle.lp_scale.proofs.Standing.{spans_more}
use Rattle.lp_scale.proofs.packed.write_lifted_spans.Goals as goal

pub loop-k-preserved : goal.loop-k-preserved
loop-k-preserved c =
    let l = c.loop-k in
    record {
      limits = c.write_span.ensures.limits ∙ l.invariant.limits;
      count = c.write_span.ensures.count ∙ l.invariant.count;
      between = c.write_span.ensures.spans;
      value = λ exponents e. l.invariant.value exponents e ∙ spans_more c.args.decisions exponents c.args.view.now.outs c.args.view.now.first l.k c.args.view.now.cuts c.as_slice-cuts.result.now c.index-cuts-k.result l.spans c.write_span.new.spans c.as_slice-cuts.ensures c.loop-k-test.true c.index-cuts-k.is (c.write_span.ensures.value exponents c.args.view.now.outs e);
    }
