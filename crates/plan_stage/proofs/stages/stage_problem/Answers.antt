use Rattle.std.proofs.Common.{◌≡◌, ◌∙◌, Some, List, ap, sym, subst}
use Rattle.theory.specs.declared.cut.Cut.{Cut}
use Rattle.lp_program.specs.declared.programs.Program.{Program}
use Rattle.lp_program.specs.Proper.{IsProper}
use Rattle.plan_stage.specs.Stage.{stage_program}
use Rattle.plan_stage.specs.Nodes.{stage_in}
use Rattle.plan_stage.proofs.Alike.{if_ok, stage_in-is, proper-stage}
use Rattle.plan_stage.proofs.ValidatedStages.{of-validated, within-fit}
use Rattle.plan_stage.proofs.stages.stage_problem.Goals as goal

pub stage_of-requires-clause-within : goal.stage_of-requires-clause-within
stage_of-requires-clause-within c = within-fit c.args.pools.now.lists c.of-stage.ensures.stands c.requires.fit

pub stage_of-requires-clause-given : goal.stage_of-requires-clause-given
stage_of-requires-clause-given c = of-validated c.args.values.now c.args.state.now c.of-stage.ensures.stands c.requires.values c.requires.state

pub returns-clause-value : goal.returns-clause-value
returns-clause-value c =
    let pools : List (List Cut) = c.args.pools.now.lists in
    if_ok c.stage_of.result (λ (lp : Program). lp ≡ stage_program pools c.of-stage.result.node.now c.of-stage.result.subproblem.now c.args.values.now c.args.state.now) (λ (lp : Program). stage_in c.args.problem.now pools c.args.node c.args.values.now c.args.state.now ≡ Some lp)
    (λ lp is. stage_in-is c.of-stage.ensures.stands pools c.args.values.now c.args.state.now ∙ ap Some (sym is)) c.stage_of.ensures

pub returns-clause-proper : goal.returns-clause-proper
returns-clause-proper c =
    let pools : List (List Cut) = c.args.pools.now.lists in
    if_ok c.stage_of.result (λ (lp : Program). lp ≡ stage_program pools c.of-stage.result.node.now c.of-stage.result.subproblem.now c.args.values.now c.args.state.now) IsProper
    (λ lp is. subst IsProper (sym is) (proper-stage c.of-stage.ensures.stands pools c.args.values.now c.args.state.now)) c.stage_of.ensures
