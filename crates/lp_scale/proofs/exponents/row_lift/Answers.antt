use Rattle.std.proofs.Common.{ℤ, pos, negsuc, ◌≤ℤ◌, arith, ap, subst, sym, ◌∙◌}
use Rattle.std.proofs.lemmas.Int.{ints, to_z-of_z}
use mir.Syntax.{w32}
use Rattle.lp_scale.specs.Spans.{lift, AreBetween}
use Rattle.lp_scale.proofs.Between.{wider}
use Rattle.lp_scale.proofs.Passes.{row_span_between, row_lift_between}
use Rattle.lp_scale.proofs.exponents.row_lift.Goals as goal

pub lift-requires : goal.lift-requires
lift-requires c =
    subst (AreBetween (negsuc 1023) (pos 1023)) (sym c.row_span.ensures)
    (wider (pos 0) (pos 512) (negsuc 1023) (pos 1023) _ (omega (arith, ints)) (omega (arith, ints)) (row_span_between 384 c.args.border c.args.reaches.now c.args.exponents.now c.args.terms.now c.requires.exponents))

pub returns-clause-least : goal.returns-clause-least
returns-clause-least c =
    let e = to_z-of_z w32 c.lift.result (record { sfits = c.lift.type_inv }) ∙ c.lift.ensures ∙ ap lift c.row_span.ensures in
    subst (λ (z : ℤ). negsuc 478 ≤ℤ z) (sym e) (row_lift_between 384 c.args.border c.args.reaches.now c.args.exponents.now c.args.terms.now c.requires.exponents).0

pub returns-clause-greatest : goal.returns-clause-greatest
returns-clause-greatest c =
    let e = to_z-of_z w32 c.lift.result (record { sfits = c.lift.type_inv }) ∙ c.lift.ensures ∙ ap lift c.row_span.ensures in
    subst (λ (z : ℤ). z ≤ℤ pos 33) (sym e) (row_lift_between 384 c.args.border c.args.reaches.now c.args.exponents.now c.args.terms.now c.requires.exponents).1
