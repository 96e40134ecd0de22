use Rattle.std.proofs.Common.{◌≤◌, ◌^◌, ℤ, nat_abs, SFits, rules, subst, sym, ◌∙◌}
use mir.Syntax.{w128}
use Rattle.std.proofs.lemmas.Int.{to_z-of_z}
use Rattle.theory.specs.Pools.{pool}
use Rattle.plan_stage.proofs.BoxMaximaOfCuts.{box_maximum_same, box_maximum_small}
use Rattle.plan_stage.proofs.columns.box_maximum.Goals as goal

pub returns-in-Some-clause-value : goal.returns-in-Some-clause-value
returns-in-Some-clause-value c =
    let fits : SFits w128 c.in-Some.box_maximum = search rules in
    to_z-of_z w128 c.in-Some.box_maximum fits ∙ c.in-Some.ensures ∙ box_maximum_same c.args.subproblem.now c.args.boxes.now c.requires.boxes (pool c.args.pools.now.lists c.args.successor)

pub returns-in-Some-clause-small : goal.returns-in-Some-clause-small
returns-in-Some-clause-small c =
    subst (λ (z : ℤ). nat_abs z ≤ 2 ^ 110) (sym (returns-in-Some-clause-value c))
    (box_maximum_small c.args.subproblem.now (pool c.args.pools.now.lists c.args.successor) c.requires.few c.requires.some c.requires.spans)
