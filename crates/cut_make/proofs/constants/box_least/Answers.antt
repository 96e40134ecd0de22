use Rattle.std.proofs.Common.{◌≡◌, ◌-◌, ◌^◌, ℤ, pos, ◌*ℤ◌, ◌≤ℤ◌, SFits, w64, arith, ap, sym, subst, ◌∙◌}
use mir.Syntax.{w128}
use Rattle.std.specs.Int.{int_wrap, int_min}
use Rattle.std.proofs.lemmas.Int.{ints, clamps, to_z-of_z}
use Rattle.theory.specs.Size.{magnitude}
use Rattle.theory.proofs.SizeToFit.{size_mul}
use Rattle.cut_make.specs.Congruent.{Congruent}
use Rattle.cut_make.proofs.Congruence.{exact, in_range, same_times, same_read, same_wide}
use Rattle.cut_make.proofs.constants.box_least.Goals as goal

-- the lesser of two numbers in range
least_fits : (a b : ℤ) → magnitude a ≤ℤ pos (2 ^ 127 - 1) → magnitude b ≤ℤ pos (2 ^ 127 - 1) → SFits w128 (int_min a b)
least_fits a b h k = in_range (int_min a b) (least_small a b (pos (2 ^ 127 - 1)) h k)
  where
    least_small : (a b m : ℤ) → magnitude a ≤ℤ m → magnitude b ≤ℤ m → magnitude (int_min a b) ≤ℤ m
    least_small a b m h k = omega (arith, ints, clamps)

product_small : (x y : ℤ) → (magnitude x *ℤ magnitude y) ≤ℤ pos (2 ^ 127 - 1) → magnitude (x *ℤ y) ≤ℤ pos (2 ^ 127 - 1)
product_small x y h = subst (λ (z : ℤ). z ≤ℤ pos (2 ^ 127 - 1)) (sym (size_mul x y)) h

pub returns : goal.returns
returns c = λ below above.
    let d : ℤ = c.args.reduced in
    let l : ℤ = c.args.decision.now.low in
    let u : ℤ = c.args.decision.now.high in
    let e : ℤ = c.least_end.result in
    let r : ℤ = c.wrapping_product.result in
    let fits : SFits w128 r = record { sfits = c.wrapping_product.type_inv } in
    let fe : SFits w64 e = record { sfits = c.least_end.type_inv } in
    let product : Congruent r (d *ℤ e) = c.wrapping_product.ensures ∙ same_times _ _ d e (same_read d c.ranges.reduced) (same_wide c.from.result e (record { sfits = c.from.type_inv }) fe c.from.ensures) in
    let least : d *ℤ e ≡ int_min (d *ℤ l) (d *ℤ u) = subst (λ (z : ℤ). z *ℤ e ≡ int_min (z *ℤ l) (z *ℤ u)) (to_z-of_z w128 d c.ranges.reduced) c.least_end.ensures in
    to_z-of_z w128 r fits ∙ exact r (int_min (d *ℤ l) (d *ℤ u)) fits (least_fits (d *ℤ l) (d *ℤ u) (product_small d l below) (product_small d u above)) (product ∙ ap (int_wrap w128) least)
