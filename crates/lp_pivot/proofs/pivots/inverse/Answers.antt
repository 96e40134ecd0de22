use Rattle.std.proofs.Common.{◌∙◌, ◌+◌, ◌^◌, ◌≤◌, ℕ, ℤ, pos, nat_abs, ap, sym, subst}
use mir.Syntax.{w128}
use Rattle.std.proofs.lemmas.Int.{to_z-of_z}
use Rattle.std.specs.Int.Signed.{quot_z}
use Rattle.lp_pivot.proofs.Inverses.{inverse_small}
use Rattle.lp_pivot.proofs.pivots.inverse.Goals as goal

pub short-requires : goal.short-requires
short-requires c =
    let d = to_z-of_z w128 c.dividend.result (record { sfits = c.dividend.type_inv }) ∙ c.dividend.ensures.value ∙ ap (λ (b : ℕ). pos (2 ^ (b + 56))) c.digits.ensures.value in
    let r = to_z-of_z w128 c.ratio.result (record { sfits = c.ratio.type_inv }) ∙ c.ratio.ensures ∙ ap (λ (a : ℤ). quot_z a c.args.pivot) d in
    subst (λ (z : ℤ). nat_abs z ≤ 2 ^ 57) (sym r) (inverse_small c.args.pivot c.requires c.digits.ensures.range)
