use Rattle.std.proofs.Common.{◌≡◌, ◌≤◌, ◌∙◌, ℕ, length, ap, sym, subst, arith}
use Rattle.problem.specs.declared.parts.ProblemParts.{ProblemParts}
use Rattle.problem.proofs.ValidatedFacts.{parts-is_validated, few_nodes}
use Rattle.lp_program.specs.declared.programs.Program.{Program}
use Rattle.lp_program.specs.Proper.{Extends}
use Rattle.plan_stage.specs.Nodes.{program_of, reference_at}
use Rattle.plan_stage.specs.Ready.{IsReady}
use Rattle.plan_stage.proofs.EachReady.{each_more, count_more}
use Rattle.plan_stage.proofs.warm_starts.started.Goals as goal

pub overflow_cast-nodes : goal.overflow_cast-nodes
overflow_cast-nodes g c =
    let few : length c.args.problem.now.parts.nodes ≤ 1000 = few_nodes c.args.problem.now.parts (parts-is_validated c.args.problem.now c.parts.ensures.validated) in
    let len = c.len-nodes.ensures ∙ ap (λ (r : ProblemParts). length r.nodes) c.parts.ensures.value in
    grind (arith, few, len)

pub loop-node-preserved : goal.loop-node-preserved
loop-node-preserved g c =
    let v = g.V.Solver.does c.args.solver.now in
    let suits = g.V.Solver.suits c.args.solver.now in
    let p = c.args.problem.now in
    let start = c.in_ok-start.field-0 in
    let pushed = c.in_ok-push.ensures in
    let here : c.in_ok-program.program ≡ reference_at p c.loop-node.node = sym (ap program_of c.in_ok-program.ensures.value) in
    let ready : IsReady v suits p c.loop-node.node start = record {
      made = c.in_ok-start.ensures.made ∙ ap v.started here;
      begins = λ lp extends. c.in_ok-start.ensures.suits lp (subst (λ (r : Program). Extends r lp) (sym here) extends);
    } in
    record {
      count = count_more c.loop-node.made c.push.new.self start c.loop-node.node pushed c.loop-node.invariant.count;
      each = each_more (IsReady v suits p) c.loop-node.made c.push.new.self start pushed c.loop-node.invariant.each (subst (λ (k : ℕ). IsReady v suits p k start) (sym c.loop-node.invariant.count) ready);
    }
