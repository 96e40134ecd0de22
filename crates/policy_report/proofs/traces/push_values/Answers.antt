use Rattle.std.proofs.Common.{◌++◌, ℕ, List, codes, arith}
use Rattle.policy_report.specs.Traces.{random_lines}
use Rattle.policy_report.proofs.NamedLines.{named-done}
use Rattle.policy_report.proofs.traces.push_values.Goals as goal

pub returns : goal.returns
returns c = named-done (codes "random ") (λ (name : List ℕ). name) c.args.randoms.now c.args.values.now c.loop-i.out.items (c.args.out.now.items ++ random_lines c.args.randoms.now c.args.values.now) c.loop-i.i (omega (arith, c.loop-i-test.false, c.min-i-end.ensures)) c.loop-i.invariant
