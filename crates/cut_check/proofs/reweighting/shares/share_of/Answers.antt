use Rattle.std.proofs.Common.{◌≡◌, ◌<◌, ◌^◌, ℤ, [], to_z, of_z, arith, sym, ap, subst, ◌∙◌}
use mir.Syntax.{w128}
use Rattle.std.specs.Int.{int_wrap}
use Rattle.std.proofs.lemmas.Int.{to_z-of_z}
use Rattle.theory.specs.CutOf.{scale}
use Rattle.theory.specs.View.{node_of}
use Rattle.cut_make.specs.Parts.{ReducedFit, constant_at_scale}
use Rattle.cut_make.specs.SizeByTerms.{certificate_amount}
use Rattle.cut_make.proofs.Congruence.{same_read}
use Rattle.cut_check.proofs.Sharing.{reduced_of_amount}
use Rattle.cut_check.proofs.reweighting.shares.share_of.Goals as goal

pub fixed_constant-fixed-requires-clause-small : goal.fixed_constant-fixed-requires-clause-small
unfolding node_of
fixed_constant-fixed-requires-clause-small c =
    let a = c.args.here.now in
    let factor : to_z w128 (of_z w128 c.scale-scale.result) ≡ scale (node_of a.node.now a.subproblem.now [] []) = to_z-of_z w128 c.scale-scale.result (record { sfits = c.scale-scale.type_inv }) ∙ c.scale-scale.ensures in
    let small : certificate_amount a.node.now a.subproblem.now a.low.now a.high.now a.pools.now.lists (c.args.values.now, c.args.certificate.now) < 2 ^ 127 = omega (arith, c.in-Some.ensures, c.in-Some.size.in_range) in
    subst (λ (k : ℤ). ReducedFit k a.pools.now.lists a.node.now a.subproblem.now c.args.certificate.now) (sym factor)
    (reduced_of_amount a.pools.now.lists a.node.now a.subproblem.now a.low.now a.high.now c.args.values.now c.args.certificate.now c.requires.sized.subproblem c.requires.sized.successor_weights small)

pub returns-clause-constant : goal.returns-clause-constant
unfolding node_of
returns-clause-constant c = λ h.
    let a = c.args.here.now in
    let factor : to_z w128 (of_z w128 c.scale-scale.result) ≡ scale (node_of a.node.now a.subproblem.now [] []) = to_z-of_z w128 c.scale-scale.result (record { sfits = c.scale-scale.type_inv }) ∙ c.scale-scale.ensures in
    same_read c.constant_over-constant.result (record { sfits = c.constant_over-constant.type_inv }) ∙ c.constant_over-constant.ensures ∙ ap (λ (k : ℤ). int_wrap w128 (constant_at_scale k a.pools.now.lists a.node.now a.subproblem.now c.args.values.now c.args.certificate.now)) factor
