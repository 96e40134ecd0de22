use Rattle.std.proofs.Common.{◌≡◌, ℤ, pos, negsuc, ◌*ℤ◌, SFits, w64, true, false, rules, arith, ap, ap₂, sym, subst, ◌∙◌}
use mir.Syntax.{w128}
use Rattle.std.specs.Int.{int_min, int_max}
use Rattle.std.specs.Int.Signed.{lt_z}
use Rattle.std.proofs.lemmas.Int.{ints, to_z-of_z}
use Rattle.base_num.proofs.Order.{le_scale, le_flip}
use Rattle.cut_pool.proofs.Ends.{in_order, lesser, later, greater, former}
use Rattle.cut_make.proofs.constants.least_end.Goals as goal

at_greater : (d l u : ℤ) → lt_z d (pos 0) ≡ true → d *ℤ int_max l u ≡ int_min (d *ℤ l) (d *ℤ u)
at_greater (pos k) l u h = absurd (omega (arith, ints, h))
at_greater (negsuc k) l u h =
    in_order l u
    (λ o. ap (λ (z : ℤ). negsuc k *ℤ z) (greater l u o) ∙ sym (later (negsuc k *ℤ l) (negsuc k *ℤ u) (le_flip k l u o)))
    (λ o. ap (λ (z : ℤ). negsuc k *ℤ z) (former l u o) ∙ sym (lesser (negsuc k *ℤ l) (negsuc k *ℤ u) (le_flip k u l o)))

at_lesser : (d l u : ℤ) → lt_z d (pos 0) ≡ false → d *ℤ int_min l u ≡ int_min (d *ℤ l) (d *ℤ u)
at_lesser (negsuc k) l u h = absurd (omega (arith, ints, h))
at_lesser (pos k) l u h =
    in_order l u
    (λ o. ap (λ (z : ℤ). pos k *ℤ z) (lesser l u o) ∙ sym (lesser (pos k *ℤ l) (pos k *ℤ u) (le_scale k l u o)))
    (λ o. ap (λ (z : ℤ). pos k *ℤ z) (later l u o) ∙ sym (later (pos k *ℤ l) (pos k *ℤ u) (le_scale k u l o)))

pub returns-then-reduced-lt0 : goal.returns-then-reduced-lt0
returns-then-reduced-lt0 c =
    let d : ℤ = c.args.reduced in
    let l : ℤ = c.args.decision.now.low in
    let u : ℤ = c.args.decision.now.high in
    let fl : SFits w64 l = search rules in
    let fu : SFits w64 u = search rules in
    ap (λ (z : ℤ). d *ℤ z) (to_z-of_z w64 c.max-greater.result (record { sfits = c.max-greater.type_inv }) ∙ c.max-greater.ensures.value ∙ ap₂ int_max (to_z-of_z w64 l fl) (to_z-of_z w64 u fu))
    ∙ at_greater d l u (subst (λ (z : ℤ). lt_z z (pos 0) ≡ true) (to_z-of_z w128 d c.ranges.reduced) c.if-reduced-lt0.true)

pub returns-else-reduced-lt0 : goal.returns-else-reduced-lt0
returns-else-reduced-lt0 c =
    let d : ℤ = c.args.reduced in
    let l : ℤ = c.args.decision.now.low in
    let u : ℤ = c.args.decision.now.high in
    let fl : SFits w64 l = search rules in
    let fu : SFits w64 u = search rules in
    ap (λ (z : ℤ). d *ℤ z) (to_z-of_z w64 c.min-lesser.result (record { sfits = c.min-lesser.type_inv }) ∙ c.min-lesser.ensures.value ∙ ap₂ int_min (to_z-of_z w64 l fl) (to_z-of_z w64 u fu))
    ∙ at_lesser d l u (subst (λ (z : ℤ). lt_z z (pos 0) ≡ false) (to_z-of_z w128 d c.ranges.reduced) c.if-reduced-lt0.false)
