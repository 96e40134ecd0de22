use Rattle.std.proofs.Common.{◌≡◌, ◌∙◌, true, Ok, ap, subst}
use Rattle.problem.specs.Validated.{Validated, is_validated}
use Rattle.theory.specs.Problem.{node_at}
use Rattle.theory.specs.View.{problem_of}
use Rattle.plan_mend.specs.Deciding.{decide_mended_of, mend}
use Rattle.plan_mend.proofs.MendedDecisions.{inside_mended, mended_from, successors_mended}
use Rattle.plan_mend.proofs.deciding.decide_mended.Goals as goal

pub returns-clause-inside : goal.returns-clause-inside
returns-clause-inside g c =
    let v = g.V.Solver.does c.args.planner.now.solver.now in
    let p = c.args.planner.now.problem.now in
    let i = c.args.input.now in
    let pools = c.args.pools.now.lists in
    let validated = subst (λ (q : Validated). is_validated q ≡ true) c.problem-problem.ensures c.parts.ensures.validated in
    let mended = c.in_ok-mend.ensures ∙ ap (λ (q : Validated). mend (node_at (problem_of q) i.node) i.values.now i.state.now c.in_ok-decided.decided) c.problem-problem.ensures in
    let is : decide_mended_of v p pools i.run i.node i.values.now i.state.now ≡ Ok c.in_ok-mend.field-0 =
    mended_from v p pools i.run i.node i.values.now i.state.now c.in_ok-decided.decided c.in_ok-mend.field-0 c.in_ok-decided.ensures.value mended in
    inside_mended v p pools i.run i.node i.values.now i.state.now validated c.requires.known c.in_ok-mend.field-0 is

pub returns-clause-next : goal.returns-clause-next
returns-clause-next g c =
    let v = g.V.Solver.does c.args.planner.now.solver.now in
    let p = c.args.planner.now.problem.now in
    let i = c.args.input.now in
    let pools = c.args.pools.now.lists in
    let validated = subst (λ (q : Validated). is_validated q ≡ true) c.problem-problem.ensures c.parts.ensures.validated in
    let mended = c.in_ok-mend.ensures ∙ ap (λ (q : Validated). mend (node_at (problem_of q) i.node) i.values.now i.state.now c.in_ok-decided.decided) c.problem-problem.ensures in
    let is : decide_mended_of v p pools i.run i.node i.values.now i.state.now ≡ Ok c.in_ok-mend.field-0 =
    mended_from v p pools i.run i.node i.values.now i.state.now c.in_ok-decided.decided c.in_ok-mend.field-0 c.in_ok-decided.ensures.value mended in
    successors_mended v p pools i.run i.node i.values.now i.state.now validated c.requires.known c.in_ok-mend.field-0 is
