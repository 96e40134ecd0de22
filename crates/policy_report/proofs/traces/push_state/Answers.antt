use Rattle.std.proofs.Common.{◌++◌, codes, arith}
use Rattle.problem.specs.declared.parts.State.{State}
use Rattle.policy_report.specs.Traces.{in_lines}
use Rattle.policy_report.proofs.NamedLines.{named-done}
use Rattle.policy_report.proofs.traces.push_state.Goals as goal

pub returns : goal.returns
returns c = named-done (codes "in ") (λ (s : State). s.name) c.args.states.now c.args.numbers.now c.loop-i.out.items (c.args.out.now.items ++ in_lines c.args.states.now c.args.numbers.now) c.loop-i.i (omega (arith, c.loop-i-test.false, c.min-i-end.ensures)) c.loop-i.invariant
