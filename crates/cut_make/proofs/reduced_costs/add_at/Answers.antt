use Rattle.std.proofs.Common.{◌≡◌, ℤ, ◌+ℤ◌, ◌*ℤ◌, to_z, of_z, SFits, rules, ap, ap₂, ◌∙◌}
use mir.Syntax.{w128}
use Rattle.std.specs.Int.{int_wrap}
use Rattle.std.proofs.lemmas.Int.{to_z-of_z}
use Rattle.base_num.specs.Sums.{entry}
use Rattle.cut_make.proofs.Congruence.{same_read}
use Rattle.cut_make.proofs.Tables.{tabled_at}
use Rattle.cut_make.proofs.reduced_costs.add_at.Goals as goal

pub returns-clause-value : goal.returns-clause-value
returns-clause-value c =
    let v : ℤ = entry c.args.sums.now c.args.decision in
    let i : SFits w128 v = search rules in
    let read : int_wrap w128 (to_z w128 (of_z w128 v) +ℤ to_z w128 (of_z w128 c.args.x) *ℤ to_z w128 (of_z w128 c.args.y)) ≡ int_wrap w128 (v +ℤ c.args.x *ℤ c.args.y) =
    ap (int_wrap w128) (ap₂ ◌+ℤ◌ (to_z-of_z w128 v i) (ap₂ ◌*ℤ◌ (to_z-of_z w128 c.args.x c.ranges.x) (to_z-of_z w128 c.args.y c.ranges.y))) in
    λ f t. tabled_at f c.args.sums.now c.args.decision _ c.args.x c.args.y c.requires (same_read c.wrapping_add_product.result (record { sfits = c.wrapping_add_product.type_inv }) ∙ c.wrapping_add_product.ensures ∙ read) t
