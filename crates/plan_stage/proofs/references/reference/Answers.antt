use Rattle.std.proofs.Common.{◌≡◌, ◌∙◌, [], Some, ap, ap₂, sym, subst}
use Rattle.std.proofs.lemmas.Option.{get_or_from_slice_get}
use Rattle.lp_program.specs.declared.programs.Program.{Program}
use Rattle.lp_program.specs.Proper.{IsProper, IsReference}
use Rattle.plan_stage.specs.Nodes.{reference_of, reference_in}
use Rattle.plan_stage.proofs.Alike.{if_ok, reference_in-is, proper-reference, reference-reference_of}
use Rattle.plan_stage.proofs.ValidatedStages.{reference-validated}
use Rattle.plan_stage.proofs.references.reference.Goals as goal

pub reference_of-requires-clause-parts : goal.reference_of-requires-clause-parts
reference_of-requires-clause-parts c = reference-validated c.lo.result.now c.hi.result.now c.of-stage.ensures.stands c.lo.ensures c.hi.ensures

pub returns-clause-value : goal.returns-clause-value
returns-clause-value c =
    let p = c.args.problem.now in
    let n = c.of-stage.result.node.now in
    let s = c.of-stage.result.subproblem.now in
    let low = get_or_from_slice_get p.lo c.args.node c.lo.result.now [] c.lo.ensures in
    let high = get_or_from_slice_get p.hi c.args.node c.hi.result.now [] c.hi.ensures in
    if_ok c.reference_of.result (λ (lp : Program). lp ≡ reference_of n s c.lo.result.now c.hi.result.now) (λ (lp : Program). reference_in p c.args.node ≡ Some lp)
    (λ lp is. reference_in-is c.of-stage.ensures.stands ∙ ap Some (ap₂ (reference_of n s) low high ∙ sym is)) c.reference_of.ensures

pub returns-clause-proper : goal.returns-clause-proper
returns-clause-proper c =
    if_ok c.reference_of.result (λ (lp : Program). lp ≡ reference_of c.of-stage.result.node.now c.of-stage.result.subproblem.now c.lo.result.now c.hi.result.now) IsProper
    (λ lp is. subst IsProper (sym is) (proper-reference c.of-stage.ensures.stands c.lo.result.now c.hi.result.now)) c.reference_of.ensures

pub returns-clause-reference : goal.returns-clause-reference
returns-clause-reference c =
    let n = c.of-stage.result.node.now in
    let s = c.of-stage.result.subproblem.now in
    if_ok c.reference_of.result (λ (lp : Program). lp ≡ reference_of n s c.lo.result.now c.hi.result.now) IsReference
    (λ lp is. subst IsReference (sym is) (reference-reference_of n s c.lo.result.now c.hi.result.now)) c.reference_of.ensures
