use Rattle.std.proofs.Common.{◌∙◌, ◌^◌, ℤ, ◌-ℤ◌, SFits, ap, ap₂, sym, subst}
use Rattle.std.proofs.lemmas.Int.{to_z-of_z}
use Rattle.std.proofs.lemmas.Nat.{pow_pos}
use mir.Syntax.{w64, w128}
use Rattle.base_num.specs.Sums.{floor_over}
use Rattle.lp_scan.proofs.Below.{limit_below, of_size}
use Rattle.lp_scan.proofs.bounds.limit_of.Goals as goal

pub returns-in-Ok : goal.returns-in-Ok
returns-in-Ok c = λ b below.
    let shifted = to_z-of_z w128 c.shifted.result (record { sfits = c.shifted.type_inv }) ∙ c.shifted.ensures ∙ ap (λ (v : ℤ). floor_over v (2 ^ c.args.shift)) (to_z-of_z w128 c.args.value c.ranges.value) in
    let base = to_z-of_z w128 c.from.result (record { sfits = c.from.type_inv }) ∙ c.from.ensures ∙ to_z-of_z w64 c.args.base c.ranges.base in
    let difference = c.in-Some.ensures.1 in
    let limit = to_z-of_z w128 c.in-Some.limit (subst (SFits w128) (sym difference) c.in-Some.ensures.0) ∙ difference in
    let same = of_size _ c.in-Ok.limit c.in-Ok.ensures.0.0 c.in-Ok.ensures.1 ∙ limit ∙ ap₂ ◌-ℤ◌ shifted base in
    limit_below c.args.base c.args.value b c.in-Ok.limit (2 ^ c.args.shift) (pow_pos c.args.shift) same below
