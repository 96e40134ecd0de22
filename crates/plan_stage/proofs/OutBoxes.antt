-- The boxes of the states that leave a stage, and the greatest products with their ends.
use Rattle.std.proofs.Common.{◌≡◌, ◌∙◌, ℕ, ◌<◌, ℤ, pos, negsuc, ◌*ℤ◌, true, false, List, length, get_or, arith, ap, sym}
use Rattle.std.specs.Int.{int_min, int_max}
use Rattle.std.specs.Int.Signed.{lt_z}
use Rattle.std.proofs.lemmas.Int.{ints}
use Rattle.std.proofs.lemmas.List.FromFn.{length-map-range_with_len, get_or-map-range_with_len}
use Rattle.base_num.proofs.Order.{le_scale, le_flip}
use Rattle.cut_pool.proofs.Ends.{in_order, lesser, later, greater, former}
use Rattle.problem.specs.declared.parts.Subproblem.{Subproblem}
use Rattle.cut_pool.specs.declared.box_maxima.OutBox.{OutBox}
use Rattle.plan_stage.specs.OutBoxes.{out_box, out_boxes}

-- one box for each state
pub as_many : (s : Subproblem) (boxes : List OutBox) → boxes ≡ out_boxes s → length boxes ≡ length s.outs
as_many s boxes e = ap (λ (bs : List OutBox). length bs) e ∙ length-map-range_with_len (out_box s) 0 (length s.outs)

pub box_at : (s : Subproblem) (boxes : List OutBox) (k : ℕ) (d : OutBox) → boxes ≡ out_boxes s → k < length s.outs → get_or boxes k d ≡ out_box s k
box_at s boxes k d e h = ap (λ (bs : List OutBox). get_or bs k d) e ∙ get_or-map-range_with_len (out_box s) 0 (length s.outs) k k d h (omega arith)

-- the greatest product with a number below 0 is that with the least end, and else that with the greatest
pub at_least : (d l u : ℤ) → lt_z d (pos 0) ≡ true → d *ℤ int_min l u ≡ int_max (d *ℤ l) (d *ℤ u)
at_least (pos k) l u h = absurd (omega (arith, ints, h))
at_least (negsuc k) l u h =
    in_order l u
    (λ o. ap (λ (z : ℤ). negsuc k *ℤ z) (lesser l u o) ∙ sym (former (negsuc k *ℤ l) (negsuc k *ℤ u) (le_flip k l u o)))
    (λ o. ap (λ (z : ℤ). negsuc k *ℤ z) (later l u o) ∙ sym (greater (negsuc k *ℤ l) (negsuc k *ℤ u) (le_flip k u l o)))

pub at_greatest : (d l u : ℤ) → lt_z d (pos 0) ≡ false → d *ℤ int_max l u ≡ int_max (d *ℤ l) (d *ℤ u)
at_greatest (negsuc k) l u h = absurd (omega (arith, ints, h))
at_greatest (pos k) l u h =
    in_order l u
    (λ o. ap (λ (z : ℤ). pos k *ℤ z) (greater l u o) ∙ sym (greater (pos k *ℤ l) (pos k *ℤ u) (le_scale k l u o)))
    (λ o. ap (λ (z : ℤ). pos k *ℤ z) (former l u o) ∙ sym (former (pos k *ℤ l) (pos k *ℤ u) (le_scale k u l o)))
