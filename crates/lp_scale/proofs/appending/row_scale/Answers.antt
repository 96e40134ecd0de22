use Rattle.std.proofs.Common.{ℤ, pos, negsuc, arith, ap, sym, subst, ◌∙◌}
use Rattle.std.proofs.lemmas.Int.{ints, to_z-of_z}
use mir.Syntax.{w32}
use Rattle.lp_scale.specs.Scaling.{room}
use Rattle.lp_scale.specs.Appending.{row_scale, AreBelow}
use Rattle.lp_scale.specs.Spans.{AreBetween}
use Rattle.lp_scale.proofs.Between.{wider}
use Rattle.lp_scale.proofs.Weights.{term_span_between, scale_below}
use Rattle.lp_scale.proofs.appending.row_scale.Goals as goal

pub room-requires-clause-span : goal.room-requires-clause-span
room-requires-clause-span c =
    subst (AreBetween (negsuc 511) (pos 1128)) (sym c.term_span.ensures)
    (wider (pos 0) (pos 1128) (negsuc 511) (pos 1128) _ (omega (arith, ints)) (omega (arith, ints)) (term_span_between 1000 c.args.exponents.now c.args.terms.now c.requires))

pub returns-clause-fits : goal.returns-clause-fits
unfolding row_scale
returns-clause-fits c =
    let e = to_z-of_z w32 c.room.result (record { sfits = c.room.type_inv }) ∙ c.room.ensures.value ∙ ap (room (pos 32)) c.term_span.ensures in
    subst (λ (z : ℤ). AreBelow c.args.exponents.now z c.args.terms.now) (sym e) (scale_below c.args.exponents.now c.args.terms.now)
