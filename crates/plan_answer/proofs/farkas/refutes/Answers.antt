use Rattle.std.proofs.Common.{[], get_or, ◌∙◌}
use Rattle.base_num.proofs.Tests.{some_of}
use Rattle.plan_answer.proofs.Viewed.{refutes_at}
use Rattle.plan_answer.proofs.farkas.refutes.Goals as goal

pub returns : goal.returns
returns c =
    let p = c.args.problem.now in
    let n = some_of p.parts.nodes c.args.node c.requires in
    c.is_refuted.ensures n.0 (get_or p.lo c.args.node []) (get_or p.hi c.args.node []) ∙ refutes_at p c.args.node n.0 c.sub.result.now c.args.values.now c.args.state.now c.args.rows.now n.1 c.sub.ensures
