use Rattle.std.proofs.Common.{◌≡◌, ◌∙◌, ◌^◌, ◌*ℤ◌, ℤ, pos, to_z, of_z, w64, ap}
use mir.Syntax.{w128}
use Rattle.std.proofs.lemmas.Int.{to_z-of_z}
use Rattle.std.proofs.lemmas.Option.{IfSome_then}
use Rattle.cut_pool.proofs.FewerDigits.{counted_above}
use Rattle.cut_pool.proofs.coarse.coarse_height.Goals as goal

pub returns : goal.returns
returns c =
    let fine : to_z w128 (of_z w128 c.at_fine_scale.result) ≡ c.args.height *ℤ pos (2 ^ 24) = to_z-of_z w128 c.at_fine_scale.result (record { sfits = c.at_fine_scale.type_inv }) ∙ c.at_fine_scale.ensures.value ∙ ap (λ (z : ℤ). z *ℤ pos (2 ^ 24)) (to_z-of_z w128 c.args.height c.ranges.height) in
    let whole : to_z w128 (of_z w128 c.ceiling.result) ≡ c.ceiling.result = to_z-of_z w128 c.ceiling.result (record { sfits = c.ceiling.type_inv }) in
    let base : to_z w64 (of_z w64 c.args.base) ≡ c.args.base = to_z-of_z w64 c.args.base c.ranges.base in
    IfSome_then c.counted.result c.counted.ensures
    (λ found is. counted_above (c.args.height *ℤ pos (2 ^ 24)) c.args.base c.ceiling.result (pos found) (2 ^ c.args.shift) (rw fine at c.ceiling.ensures.value) (rw (whole, base) at is))
