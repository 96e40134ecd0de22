use Rattle.std.proofs.Common.{ℤ, pos, negsuc, ◌≤ℤ◌, subst, sym, None, get_or}
use Rattle.std.proofs.lemmas.Int.{to_z-of_z}
use mir.Syntax.{w32}
use Rattle.lp_scale.specs.Spans.{AreBetween}
use Rattle.lp_scale.proofs.Between.{grown_between}
use Rattle.lp_scale.proofs.Passes.{set_between}
use Rattle.lp_scale.proofs.exponents.add_term.Goals as goal

pub returns-then-border-size-clause-spans : goal.returns-then-border-size-clause-spans
returns-then-border-size-clause-spans c =
    let e = to_z-of_z w32 c.row_weight.result (record { sfits = c.row_weight.type_inv }) in
    set_between (negsuc 478) (pos 161) c.args.spans.now c.args.term.0 c.grow.result
    (subst (AreBetween (negsuc 478) (pos 161)) (sym c.grow.ensures) (grown_between (negsuc 478) (pos 161) (get_or c.args.spans.now c.args.term.0 None) _ (subst (λ (z : ℤ). negsuc 478 ≤ℤ z) (sym e) c.row_weight.ensures.least) (subst (λ (z : ℤ). z ≤ℤ pos 161) (sym e) c.row_weight.ensures.greatest) (c.requires.spans c.args.term.0)))
    c.requires.spans
