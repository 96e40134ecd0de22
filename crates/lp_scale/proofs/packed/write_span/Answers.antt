use Rattle.std.proofs.Common.{sym, arith}
use Rattle.lp_scale.proofs.Standing.{spans_before, spans_past, span_is}
use Rattle.lp_scale.proofs.packed.write_span.Goals as goal

pub returns-then-column-decisions-clause-value : goal.returns-then-column-decisions-clause-value
returns-then-column-decisions-clause-value c = λ exponents outs e. sym (spans_before c.args.decisions c.args.column exponents outs c.args.cuts.now 0 c.args.spans.now c.if-column-decisions.true)

pub returns-then-spans-column-clause-value : goal.returns-then-spans-column-clause-value
returns-then-spans-column-clause-value c = λ exponents outs e. sym (spans_past c.args.decisions c.args.column exponents outs c.args.cuts.now 0 c.args.spans.now c.if-spans-column.true)

pub returns-clause-value : goal.returns-clause-value
returns-clause-value c = λ exponents outs e. span_is c.args.decisions c.args.column exponents outs c.args.cuts.now c.args.spans.now c.args.lifts.now c.grow_by_cuts.result e (omega (arith, c.if-column-decisions.false)) (omega (arith, c.if-spans-column.false)) c.requires.lifts c.grow_by_cuts.ensures.small c.grow_by_cuts.ensures.value
