use Rattle.std.proofs.Common.{◌≡◌, ◌∙◌, ◌^◌, ℤ, neg_ℤ, to_z, of_z, ap}
use mir.Syntax.{w128}
use Rattle.std.proofs.lemmas.Nat.{pow_pos}
use Rattle.std.proofs.lemmas.Int.{to_z-of_z}
use Rattle.base_num.specs.Sums.{floor_over}
use Rattle.cut_pool.proofs.FewerDigits.{ceiling_above}
use Rattle.cut_pool.proofs.coarse.ceiling.Goals as goal

pub returns-clause-value : goal.returns-clause-value
returns-clause-value c =
    let first : to_z w128 (of_z w128 c.negative.result) ≡ neg_ℤ c.args.value = to_z-of_z w128 c.negative.result (record { sfits = c.negative.type_inv }) ∙ c.negative.ensures.value ∙ ap neg_ℤ (to_z-of_z w128 c.args.value c.ranges.value) in
    let low : to_z w128 (of_z w128 c.floored.result) ≡ floor_over (neg_ℤ c.args.value) (2 ^ c.args.shift) = to_z-of_z w128 c.floored.result (record { sfits = c.floored.type_inv }) ∙ c.floored.ensures.value ∙ ap (λ (z : ℤ). floor_over z (2 ^ c.args.shift)) first in
    let whole : to_z w128 (of_z w128 c.negative-2.result) ≡ neg_ℤ (floor_over (neg_ℤ c.args.value) (2 ^ c.args.shift)) = to_z-of_z w128 c.negative-2.result (record { sfits = c.negative-2.type_inv }) ∙ c.negative-2.ensures.value ∙ ap neg_ℤ low in
    rw whole (ceiling_above c.args.value (2 ^ c.args.shift) (pow_pos c.args.shift))
