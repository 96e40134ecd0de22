use Rattle.std.proofs.Common.{◌++◌, codes, arith}
use Rattle.problem.specs.declared.parts.Decision.{Decision}
use Rattle.policy_report.specs.Traces.{value_lines}
use Rattle.policy_report.proofs.NamedLines.{named-done}
use Rattle.policy_report.proofs.traces.push_decisions.Goals as goal

pub returns : goal.returns
returns c = named-done (codes "value ") (λ (d : Decision). d.name) c.args.decisions.now c.args.numbers.now c.loop-i.out.items (c.args.out.now.items ++ value_lines c.args.decisions.now c.args.numbers.now) c.loop-i.i (omega (arith, c.loop-i-test.false, c.min-i-end.ensures)) c.loop-i.invariant
