use Rattle.std.proofs.Common.{◌≡◌, IfOk, subst}
use Rattle.plan_stage.specs.Nodes.{reference_at}
use Rattle.plan_stage.proofs.Alike.{proper_validated, extends_validated, reference_there}
use Rattle.plan_stage.proofs.planner.Planner.begin.Goals as goal

pub begin-requires-clause-proper : goal.begin-requires-clause-proper
begin-requires-clause-proper g c =
    let p = c.args.self.now.problem.now in
    let t = c.requires.stage in
    proper_validated p c.parts.ensures.validated c.args.node c.requires.known t.pools t.values t.state c.args.lp.now t.is

pub begin-requires-clause-suits : goal.begin-requires-clause-suits
begin-requires-clause-suits g c =
    let p = c.args.self.now.problem.now in
    let t = c.requires.stage in
    let r = c.args.self.now.ready.starts_ready.each c.args.node c.at.result.now c.at.ensures in
    r.begins c.args.lp.now (extends_validated p c.parts.ensures.validated c.args.node c.requires.known t.pools t.values t.state c.args.lp.now (reference_at p c.args.node) (reference_there p c.parts.ensures.validated c.args.node c.requires.known) t.is)

pub returns-clause-made : goal.returns-clause-made
returns-clause-made g c =
    let r = c.args.self.now.ready.starts_ready.each c.args.node c.at.result.now c.at.ensures in
    subst (λ start. IfOk c.begin.result (λ chain. chain ≡ (g.V.Solver.does c.args.self.now.solver.now).begun start c.args.lp.now)) r.made c.begin.ensures.made
