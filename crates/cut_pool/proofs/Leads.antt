-- By how much one cut is the greater at least, over a box.
use Rattle.std.proofs.Common.{◌≡◌, ◌∙◌, ℕ, ◌^◌, ℤ, pos, negsuc, ◌+ℤ◌, ◌-ℤ◌, ◌*ℤ◌, ◌≤ℤ◌, ◌<ℤ◌, List, [], ◌∷◌, length, true, ◌<◌, inl, inr, ap, ap₂, sym, subst, arith}
use Rattle.std.specs.Int.{int_min}
use Rattle.std.proofs.lemmas.Int.{ints}
use Rattle.base_num.specs.Sums.{sum_to, entry, dot}
use Rattle.base_num.proofs.Ring.{ring, var, ◌⊕◌, ◌⊗◌, ⊖}
use Rattle.base_num.proofs.Order.{le_refl, le_add, le_trans, le_of_eq, box_least_is}
use Rattle.base_num.proofs.Sums.{sum_add, sum_times, sum_le, dot_sum}
use Rattle.lp_program.specs.PackedCut.{PackedCut}
use Rattle.lp_program.specs.Covering.{value_of, packed_cut_at, AreInside, Covers}
use lib.Signed.{lt_z, le_z}
use Rattle.cut_pool.specs.Active.{lesser_over, IsLead}

-- one state
one_state : (a b l h x : ℤ) → (l *ℤ pos (2 ^ 24)) ≤ℤ x → x ≤ℤ (h *ℤ pos (2 ^ 24)) → (pos (2 ^ 24) *ℤ int_min ((a -ℤ b) *ℤ l) ((a -ℤ b) *ℤ h) +ℤ b *ℤ x) ≤ℤ (a *ℤ x)
one_state a b l h x p q =
    let least : (pos (2 ^ 24) *ℤ int_min ((a -ℤ b) *ℤ l) ((a -ℤ b) *ℤ h)) ≤ℤ ((a -ℤ b) *ℤ x) = box_least_is (2 ^ 24) (a -ℤ b) l h x (omega (arith, ints, p)) (omega (arith, ints, q)) in
    le_trans _ ((a -ℤ b) *ℤ x +ℤ b *ℤ x) (a *ℤ x) (le_add _ _ _ _ least (le_refl (b *ℤ x)))
    (le_of_eq _ _ (ring (a ∷ b ∷ x ∷ []) ((var 0 ⊕ ⊖ (var 1)) ⊗ var 2 ⊕ var 1 ⊗ var 2) (var 0 ⊗ var 2) tt))

-- all states
all_states : (lows highs us vs xs : List ℤ) → AreInside lows highs xs → length us ≡ length xs → length vs ≡ length xs → (pos (2 ^ 24) *ℤ sum_to (length us) (lesser_over lows highs us vs) +ℤ dot vs xs) ≤ℤ dot us xs
all_states lows highs us vs xs inside e f =
    let left : sum_to (length us) (λ k. pos (2 ^ 24) *ℤ lesser_over lows highs us vs k +ℤ entry vs k *ℤ entry xs k) ≡ pos (2 ^ 24) *ℤ sum_to (length us) (lesser_over lows highs us vs) +ℤ dot vs xs =
    sum_add (length us) (λ k. pos (2 ^ 24) *ℤ lesser_over lows highs us vs k) (λ k. entry vs k *ℤ entry xs k)
    ∙ ap₂ ◌+ℤ◌ (sum_times (length us) (pos (2 ^ 24)) (lesser_over lows highs us vs)) (ap (λ (m : ℕ). sum_to m (λ k. entry vs k *ℤ entry xs k)) (e ∙ sym f) ∙ sym (dot_sum vs xs)) in
    subst (λ (z : ℤ). z ≤ℤ dot us xs) left (subst (λ (z : ℤ). sum_to (length us) (λ k. pos (2 ^ 24) *ℤ lesser_over lows highs us vs k +ℤ entry vs k *ℤ entry xs k) ≤ℤ z) (sym (dot_sum us xs))
    (sum_le (length us) (λ k. pos (2 ^ 24) *ℤ lesser_over lows highs us vs k +ℤ entry vs k *ℤ entry xs k) (λ k. entry us k *ℤ entry xs k)
    (λ k h. one_state (entry us k) (entry vs k) (entry lows k) (entry highs k) (entry xs k) (inside.above k (omega (arith, h, e))) (inside.below k (omega (arith, h, e))))))

-- the heights too
with_heights : (a b s d e t : ℤ) → (t *ℤ s +ℤ d) ≤ℤ e → (((a -ℤ b) +ℤ s) *ℤ t +ℤ (b *ℤ t +ℤ d)) ≤ℤ (a *ℤ t +ℤ e)
with_heights a b s d e t h =
    le_trans _ (a *ℤ t +ℤ (t *ℤ s +ℤ d)) _ (le_of_eq _ _ (ring (a ∷ b ∷ s ∷ d ∷ t ∷ []) (((var 0 ⊕ ⊖ (var 1)) ⊕ var 2) ⊗ var 4 ⊕ (var 1 ⊗ var 4 ⊕ var 3)) (var 0 ⊗ var 4 ⊕ (var 4 ⊗ var 2 ⊕ var 3)) tt))
    (le_add _ _ _ _ (le_refl (a *ℤ t)) h)

pub is_lead : (lows highs : List ℤ) (a b : PackedCut) (v : ℤ) → length b.slopes ≡ length a.slopes → length lows ≡ length a.slopes → v ≡ (a.height -ℤ b.height) +ℤ sum_to (length a.slopes) (lesser_over lows highs a.slopes b.slopes) → IsLead lows highs a b v
is_lead lows highs a b v same wide is = λ xs inside.
    subst (λ (z : ℤ). (z *ℤ pos (2 ^ 24) +ℤ value_of b xs) ≤ℤ value_of a xs) (sym is)
    (with_heights a.height b.height (sum_to (length a.slopes) (lesser_over lows highs a.slopes b.slopes)) (dot b.slopes xs) (dot a.slopes xs) (pos (2 ^ 24))
    (all_states lows highs a.slopes b.slopes xs inside (omega (arith, wide, inside.low_count)) (omega (arith, same, wide, inside.low_count))))

-- no difference at least, or some
pub at_least : (v x y : ℤ) → pos 0 ≤ℤ v → (v *ℤ pos (2 ^ 24) +ℤ y) ≤ℤ x → y ≤ℤ x
at_least (pos v) x y h k = omega (arith, ints, h, k)
at_least (negsuc v) x y h k = absurd (omega (arith, ints, h))

pub more_than : (v x y : ℤ) → pos 0 <ℤ v → (v *ℤ pos (2 ^ 24) +ℤ y) ≤ℤ x → y <ℤ x
more_than (pos v) x y h k = omega (arith, ints, h, k)
more_than (negsuc v) x y h k = absurd (omega (arith, ints, h))

-- a product of what is read
pub lesser_is : (s o l h a b c d v : ℤ) → a ≡ s → b ≡ o → c ≡ l → d ≡ h → v ≡ int_min ((a -ℤ b) *ℤ c) ((a -ℤ b) *ℤ d) → v ≡ int_min ((s -ℤ o) *ℤ l) ((s -ℤ o) *ℤ h)
lesser_is s o l h a b c d v es eo el eh e = rw (es, eo, el, eh) at e

-- the lead of slopes that are read
pub lead_read : (lows highs xs ys : List ℤ) (a b : PackedCut) (d v : ℤ) → xs ≡ a.slopes → ys ≡ b.slopes → length ys ≡ length xs → length lows ≡ length xs → d ≡ a.height -ℤ b.height → v ≡ d +ℤ sum_to (length xs) (lesser_over lows highs xs ys) → IsLead lows highs a b v
lead_read lows highs xs ys a b d v ex ey same wide ed is =
    is_lead lows highs a b v (rw (ex, ey) at same) (rw ex at wide) (rw (ex, ey, ed) at is)

-- a lead of more than nothing
pub leads : (all : List PackedCut) (lows highs : List ℤ) (i j : ℕ) (v w : ℤ) → w ≡ v → lt_z (pos 0) w ≡ true → IsLead lows highs (packed_cut_at all i) (packed_cut_at all j) v → Covers all lows highs i j
leads all lows highs i j v w e h lead = λ xs inside.
    let more : pos 0 <ℤ v = omega (arith, ints, rw e at h) in
    inl (more_than v (value_of (packed_cut_at all i) xs) (value_of (packed_cut_at all j) xs) more (lead xs inside))

-- a lead of nothing at least, before the other
pub leads_before : (all : List PackedCut) (lows highs : List ℤ) (i j : ℕ) (v w : ℤ) → w ≡ v → le_z (pos 0) w ≡ true → i < j → IsLead lows highs (packed_cut_at all i) (packed_cut_at all j) v → Covers all lows highs i j
leads_before all lows highs i j v w e h before lead = λ xs inside.
    let least : pos 0 ≤ℤ v = omega (arith, ints, rw e at h) in
    inr (at_least v (value_of (packed_cut_at all i) xs) (value_of (packed_cut_at all j) xs) least (lead xs inside), omega (arith, before))
