-- The left sides of the rows, where the decisions are a choice's numbers beside some states.
use Rattle.std.proofs.Common.{◌≡◌, ℕ, zero, suc, ◌-◌, ◌<◌, ◌≤◌, ℤ, pos, ◌+ℤ◌, ◌*ℤ◌, ◌-ℤ◌, neg_ℤ, List, [], ◌∷◌, length, Bool, true, false, nat_le, if◌then◌else◌, refl, sym, ap, ap₂, ◌∙◌, arith}
use lib.IntN.{*ℤ-zero, +ℤ_idl, +ℤ_idr}
use Rattle.base_num.specs.Sums.{total, same_place, entry}
use Rattle.base_num.proofs.Sums.{total_ext, total_add, total_times}
use Rattle.base_num.proofs.Ring.{ring, var, num, ◌⊕◌, ◌⊗◌, ⊖}
use Rattle.hydro_read.specs.declared.plants.Plants.{Plants}
use Rattle.hydro_make.specs.Layout.{HydroStore, volume_of, way_of, Variable, thermal_of, line_of, deficit_of, Chance, numbered_reservoir, travel, leads, all_reservoirs, all_thermals, all_lines, all_buses, steps, stores, hydro_variables, chances, chance_value}
use Rattle.hydro_make.specs.Rows.{leads_at_once, water_decided, water_before, water_flowing, way_decided, way_before, no_chance, bus_decided, no_store, bus_asked}
use Rattle.hydro_make.specs.Plan.{Choice, Moment, Past, volume, served}
use Rattle.hydro_make.specs.Trees.{left_ago, ahead_of, value_with}
use Rattle.hydro_make.proofs.Lists.{total_none, total_same, total_step}
use Rattle.hydro_make.proofs.Blocks.{of_reservoir, total-hydro_variables, of_way, total-stores, total-chances, none, total-neg, if_none}
use Rattle.hydro_make.proofs.Flow.{above_leb, if_false, from_ways, volume_next, from_further, way_next}

-- the sum of a row's three parts
abbrev pub left_of : Plants → ℕ → (Variable → ℤ) → (HydroStore → ℤ) → (Chance → ℤ) → (Variable → ℤ) → (HydroStore → ℤ) → (Chance → ℤ) → ℤ
left_of h units a b g x s v = total (λ d. a d *ℤ x d) (hydro_variables h) +ℤ total (λ d. b d *ℤ s d) (stores h) +ℤ pos units *ℤ total (λ d. g d *ℤ v d) (chances h)

-- the water that leaves reservoir i by a choice
abbrev out_of : Choice → ℕ → ℤ
out_of c i = c.turbine i +ℤ c.spill i

-- no factor is of a thermal, a line or a deficit
reservoirs_only : (h : Plants) (f : Variable → ℤ) → ((i : ℕ) → f (thermal_of i) ≡ pos 0) → ((l : ℕ) → f (line_of l) ≡ pos 0) → ((b : ℕ) → f (deficit_of b) ≡ pos 0) → total f (hydro_variables h) ≡ total (of_reservoir h f) (all_reservoirs h)
reservoirs_only h f t l d =
    total-hydro_variables h f
    ∙ ap₂ ◌+ℤ◌ (ap₂ ◌+ℤ◌ (ap₂ ◌+ℤ◌ refl (total_none (λ i. f (thermal_of i)) (all_thermals h) t)) (total_none (λ k. f (line_of k)) (all_lines h) l)) (total_none (λ b. f (deficit_of b)) (all_buses h) d)
    ∙ ring (total (of_reservoir h f) (all_reservoirs h) ∷ []) (var 0 ⊕ num (pos 0) ⊕ num (pos 0) ⊕ num (pos 0)) (var 0) tt

-- ---- water

module _ (h : Plants) (units j : ℕ) (c : Choice) (next : HydroStore → ℤ) (within : j < length h.reservoirs) where
  water_variables : total (λ d. water_decided h j d *ℤ value_with c next d) (hydro_variables h) ≡ next (volume_of j) +ℤ out_of c j +ℤ neg_ℤ (total (λ i. leads_at_once h i j *ℤ out_of c i) (all_reservoirs h))
  water_variables =
      let f : Variable → ℤ = λ d. water_decided h j d *ℤ value_with c next d in
      let lost : ℕ → ℤ = λ i. leads_at_once h i j *ℤ out_of c i in
      reservoirs_only h f (λ i. none (c.thermal i)) (λ l. none (c.line l)) (λ b. none (c.deficit b))
      ∙ total_ext (of_reservoir h f) (λ i. same_place j i *ℤ (next (volume_of i) +ℤ out_of c i) +ℤ neg_ℤ (lost i)) (all_reservoirs h) block
      ∙ total_add (λ i. same_place j i *ℤ (next (volume_of i) +ℤ out_of c i)) (λ i. neg_ℤ (lost i)) (all_reservoirs h)
      ∙ ap₂ ◌+ℤ◌ (total_same (length h.reservoirs) j (λ i. next (volume_of i) +ℤ out_of c i) within) (total-neg lost (all_reservoirs h))
    where
      block : (i : ℕ) → of_reservoir h (λ d. water_decided h j d *ℤ value_with c next d) i ≡ same_place j i *ℤ (next (volume_of i) +ℤ out_of c i) +ℤ neg_ℤ (leads_at_once h i j *ℤ out_of c i)
      block i =
          let s : ℤ = same_place j i in
          let l : ℤ = leads_at_once h i j in
          ap (λ (z : ℤ). s *ℤ next (volume_of i) +ℤ ((s -ℤ l) *ℤ c.turbine i +ℤ ((s -ℤ l) *ℤ c.spill i +ℤ z))) (total_none (λ k. pos 0 *ℤ next (way_of i k)) (steps (travel h i)) (λ k. none (next (way_of i k))))
          ∙ ring (s ∷ l ∷ next (volume_of i) ∷ c.turbine i ∷ c.spill i ∷ []) (var 0 ⊗ var 2 ⊕ ((var 0 ⊕ ⊖ (var 1)) ⊗ var 3 ⊕ ((var 0 ⊕ ⊖ (var 1)) ⊗ var 4 ⊕ num (pos 0)))) (var 0 ⊗ (var 2 ⊕ (var 3 ⊕ var 4)) ⊕ ⊖ (var 1 ⊗ (var 3 ⊕ var 4))) tt

  water_stores : (past : Past) → total (λ s. water_before h j s *ℤ ahead_of h units past s) (stores h) ≡ neg_ℤ (total (from_ways h j past) (all_reservoirs h)) +ℤ neg_ℤ (volume h units past j)
  water_stores past =
      let f : HydroStore → ℤ = λ s. water_before h j s *ℤ ahead_of h units past s in
      total-stores h f
      ∙ ap₂ ◌+ℤ◌ (ap₂ ◌+ℤ◌ (total_ext (λ i. if nat_le 1 (travel h i) then f (way_of i 1) else pos 0) (λ i. neg_ℤ (from_ways h j past i)) (all_reservoirs h) (λ i. near (nat_le 1 (travel h i)) (leads h i j) (left_ago i (travel h i - 1) past)) ∙ total-neg (from_ways h j past) (all_reservoirs h))
      (ap₂ ◌+ℤ◌ (far 2 refl) (ap (λ (z : ℤ). z +ℤ pos 0) (far 3 refl))))
      (total_ext (λ i. neg_ℤ (same_place j i) *ℤ volume h units past i) (λ i. same_place j i *ℤ neg_ℤ (volume h units past i)) (all_reservoirs h) (λ i. ring (same_place j i ∷ volume h units past i ∷ []) (⊖ (var 0) ⊗ var 1) (var 0 ⊗ ⊖ (var 1)) tt)
      ∙ total_same (length h.reservoirs) j (λ i. neg_ℤ (volume h units past i)) within)
      ∙ ap (λ (z : ℤ). z +ℤ neg_ℤ (volume h units past j)) (+ℤ_idr (neg_ℤ (total (from_ways h j past) (all_reservoirs h))))
    where
      near : (b : Bool) (l x : ℤ) → (if b then neg_ℤ (pos 1 *ℤ l) *ℤ x else pos 0) ≡ neg_ℤ (if b then l *ℤ x else pos 0)
      near true l x = ring (l ∷ x ∷ []) (⊖ (num (pos 1) ⊗ var 0) ⊗ var 1) (⊖ (var 0 ⊗ var 1)) tt
      near false l x = refl

      far : (k : ℕ) → same_place 1 k ≡ pos 0 → of_way h (λ s. water_before h j s *ℤ ahead_of h units past s) k ≡ pos 0
      far k e = total_none (λ i. if nat_le k (travel h i) then neg_ℤ (same_place 1 k *ℤ leads h i j) *ℤ left_ago i (travel h i - k) past else pos 0) (all_reservoirs h)
          (λ i. if_none (nat_le k (travel h i)) (neg_ℤ (same_place 1 k *ℤ leads h i j) *ℤ left_ago i (travel h i - k) past)
          (ap (λ (z : ℤ). neg_ℤ (z *ℤ leads h i j) *ℤ left_ago i (travel h i - k) past) e ∙ ring (leads h i j ∷ left_ago i (travel h i - k) past ∷ []) (⊖ (num (pos 0) ⊗ var 0) ⊗ var 1) (num (pos 0)) tt))

  water_chances : (demand water : List ℤ) → total (λ r. water_flowing j r *ℤ chance_value demand water r) (chances h) ≡ neg_ℤ (entry water j)
  water_chances demand water =
      total-chances h (λ r. water_flowing j r *ℤ chance_value demand water r)
      ∙ ap₂ ◌+ℤ◌ (total_ext (λ i. neg_ℤ (same_place j i) *ℤ entry water i) (λ i. same_place j i *ℤ neg_ℤ (entry water i)) (all_reservoirs h) (λ i. ring (same_place j i ∷ entry water i ∷ []) (⊖ (var 0) ⊗ var 1) (var 0 ⊗ ⊖ (var 1)) tt) ∙ total_same (length h.reservoirs) j (λ i. neg_ℤ (entry water i)) within)
      (total_none (λ b. pos 0 *ℤ entry demand b) (all_buses h) (λ b. none (entry demand b)))
      ∙ +ℤ_idr (neg_ℤ (entry water j))

  -- the volume that is decided, less the one that the choice leads to
  pub left_water : (demand water : List ℤ) (past : Past)
      → left_of h units (water_decided h j) (water_before h j) (water_flowing j) (value_with c next) (ahead_of h units past) (chance_value demand water) ≡ next (volume_of j) -ℤ volume h units (record { water = water; choice = c } ∷ past) j
  left_water demand water past =
      let here : Moment = record { water = water; choice = c } in
      let lost : ℤ = total (λ i. leads_at_once h i j *ℤ out_of c i) (all_reservoirs h) in
      let ways : ℤ = total (from_ways h j past) (all_reservoirs h) in
      let before : ℤ = volume h units past j in
      ap₂ ◌+ℤ◌ (ap₂ ◌+ℤ◌ water_variables (water_stores past)) (ap (λ (z : ℤ). pos units *ℤ z) (water_chances demand water))
      ∙ ring (next (volume_of j) ∷ c.turbine j ∷ c.spill j ∷ lost ∷ ways ∷ before ∷ pos units ∷ entry water j ∷ [])
      (var 0 ⊕ (var 1 ⊕ var 2) ⊕ ⊖ (var 3) ⊕ (⊖ (var 4) ⊕ ⊖ (var 5)) ⊕ var 6 ⊗ ⊖ (var 7))
      (var 0 ⊕ ⊖ (var 5 ⊕ (var 6 ⊗ var 7 ⊕ ⊖ (var 1 ⊕ var 2)) ⊕ var 3 ⊕ var 4)) tt
      ∙ ap (λ (z : ℤ). next (volume_of j) -ℤ z) (sym (volume_next h units j here past))

-- ---- water under way

-- of three stages away only the one beyond k counts
beyond : (k n : ℕ) (y : ℕ → ℤ) → k ≤ n → n ≤ 3 → 0 < k
    → (if nat_le 1 n then neg_ℤ (same_place (suc k) 1 *ℤ y 1) else pos 0) +ℤ ((if nat_le 2 n then neg_ℤ (same_place (suc k) 2 *ℤ y 2) else pos 0) +ℤ ((if nat_le 3 n then neg_ℤ (same_place (suc k) 3 *ℤ y 3) else pos 0) +ℤ pos 0))
    ≡ neg_ℤ (if nat_le (suc k) n then y (suc k) else pos 0)
beyond zero n y h t z = absurd (omega arith)
beyond (suc zero) n y h t z = three (nat_le 1 n) (nat_le 2 n) (nat_le 3 n)
  where
    three : (a b d : Bool) → (if a then neg_ℤ (pos 0 *ℤ y 1) else pos 0) +ℤ ((if b then neg_ℤ (pos 1 *ℤ y 2) else pos 0) +ℤ ((if d then neg_ℤ (pos 0 *ℤ y 3) else pos 0) +ℤ pos 0)) ≡ neg_ℤ (if b then y 2 else pos 0)
    three a true d =
        ap₂ ◌+ℤ◌ (if_none a (neg_ℤ (pos 0 *ℤ y 1)) (ap neg_ℤ (none (y 1)))) (ap (λ (z : ℤ). neg_ℤ (pos 1 *ℤ y 2) +ℤ (z +ℤ pos 0)) (if_none d (neg_ℤ (pos 0 *ℤ y 3)) (ap neg_ℤ (none (y 3)))))
        ∙ ring (y 2 ∷ []) (num (pos 0) ⊕ (⊖ (num (pos 1) ⊗ var 0) ⊕ (num (pos 0) ⊕ num (pos 0)))) (⊖ (var 0)) tt
    three a false d =
        ap₂ ◌+ℤ◌ (if_none a (neg_ℤ (pos 0 *ℤ y 1)) (ap neg_ℤ (none (y 1)))) (ap (λ (z : ℤ). pos 0 +ℤ (z +ℤ pos 0)) (if_none d (neg_ℤ (pos 0 *ℤ y 3)) (ap neg_ℤ (none (y 3)))))
beyond (suc (suc zero)) n y h t z = three (nat_le 1 n) (nat_le 2 n) (nat_le 3 n)
  where
    three : (a b d : Bool) → (if a then neg_ℤ (pos 0 *ℤ y 1) else pos 0) +ℤ ((if b then neg_ℤ (pos 0 *ℤ y 2) else pos 0) +ℤ ((if d then neg_ℤ (pos 1 *ℤ y 3) else pos 0) +ℤ pos 0)) ≡ neg_ℤ (if d then y 3 else pos 0)
    three a b true =
        ap₂ ◌+ℤ◌ (if_none a (neg_ℤ (pos 0 *ℤ y 1)) (ap neg_ℤ (none (y 1)))) (ap (λ (z : ℤ). z +ℤ (neg_ℤ (pos 1 *ℤ y 3) +ℤ pos 0)) (if_none b (neg_ℤ (pos 0 *ℤ y 2)) (ap neg_ℤ (none (y 2)))))
        ∙ ring (y 3 ∷ []) (num (pos 0) ⊕ (num (pos 0) ⊕ (⊖ (num (pos 1) ⊗ var 0) ⊕ num (pos 0)))) (⊖ (var 0)) tt
    three a b false =
        ap₂ ◌+ℤ◌ (if_none a (neg_ℤ (pos 0 *ℤ y 1)) (ap neg_ℤ (none (y 1)))) (ap (λ (z : ℤ). z +ℤ (pos 0 +ℤ pos 0)) (if_none b (neg_ℤ (pos 0 *ℤ y 2)) (ap neg_ℤ (none (y 2)))))
beyond (suc (suc (suc k))) n y h t z =
    ap₂ ◌+ℤ◌ (if_none (nat_le 1 n) (neg_ℤ (pos 0 *ℤ y 1)) (ap neg_ℤ (none (y 1))))
    (ap₂ ◌+ℤ◌ (if_none (nat_le 2 n) (neg_ℤ (pos 0 *ℤ y 2)) (ap neg_ℤ (none (y 2)))) (ap (λ (z : ℤ). z +ℤ pos 0) (if_none (nat_le 3 n) (neg_ℤ (pos 0 *ℤ y 3)) (ap neg_ℤ (none (y 3))))))
    ∙ ap neg_ℤ (sym (if_false (nat_le (suc (suc (suc (suc k)))) n) (y (suc (suc (suc (suc k))))) (above_leb (suc (suc (suc (suc k)))) n (omega arith))))

-- the term of reservoir i where its water is k stages away
abbrev kept : Plants → ℕ → ℕ → Choice → (HydroStore → ℤ) → ℕ → ℤ
kept h j k c next i = neg_ℤ (same_place k (travel h j) *ℤ out_of c i) +ℤ total (λ m. same_place k m *ℤ next (way_of i m)) (steps (travel h i))

-- the terms of the water that was l stages away
abbrev shown : Plants → ℕ → ℕ → Past → ℕ → ℤ
shown h j k past l = if nat_le l (travel h j) then neg_ℤ (same_place (suc k) l *ℤ left_ago j (travel h j - l) past) else pos 0

module _ (h : Plants) (units j m : ℕ) (c : Choice) (next : HydroStore → ℤ) (within : j < length h.reservoirs) (under : m < travel h j) (short : travel h j ≤ 3) where
  way_variables : total (λ d. way_decided h j (suc m) d *ℤ value_with c next d) (hydro_variables h) ≡ neg_ℤ (same_place (suc m) (travel h j) *ℤ out_of c j) +ℤ next (way_of j (suc m))
  way_variables =
      let f : Variable → ℤ = λ d. way_decided h j (suc m) d *ℤ value_with c next d in
      reservoirs_only h f (λ i. none (c.thermal i)) (λ l. none (c.line l)) (λ b. none (c.deficit b))
      ∙ total_ext (of_reservoir h f) (λ i. same_place j i *ℤ kept h j (suc m) c next i) (all_reservoirs h) block
      ∙ total_same (length h.reservoirs) j (kept h j (suc m) c next) within
      ∙ ap (λ (z : ℤ). neg_ℤ (same_place (suc m) (travel h j) *ℤ out_of c j) +ℤ z) (total_step (travel h j) m (λ k. next (way_of j k)) under)
    where
      block : (i : ℕ) → of_reservoir h (λ d. way_decided h j (suc m) d *ℤ value_with c next d) i ≡ same_place j i *ℤ kept h j (suc m) c next i
      block i =
          let s : ℤ = same_place j i in
          let t : ℤ = same_place (suc m) (travel h j) in
          let g : ℕ → ℤ = λ k. same_place (suc m) k *ℤ next (way_of i k) in
          ap (λ (z : ℤ). pos 0 *ℤ next (volume_of i) +ℤ (neg_ℤ (t *ℤ s) *ℤ c.turbine i +ℤ (neg_ℤ (t *ℤ s) *ℤ c.spill i +ℤ z)))
          (total_ext (λ k. s *ℤ same_place (suc m) k *ℤ next (way_of i k)) (λ k. s *ℤ g k) (steps (travel h i)) (λ k. ring (s ∷ same_place (suc m) k ∷ next (way_of i k) ∷ []) (var 0 ⊗ var 1 ⊗ var 2) (var 0 ⊗ (var 1 ⊗ var 2)) tt)
          ∙ total_times s g (steps (travel h i)))
          ∙ ring (s ∷ t ∷ next (volume_of i) ∷ c.turbine i ∷ c.spill i ∷ total g (steps (travel h i)) ∷ [])
          (num (pos 0) ⊗ var 2 ⊕ (⊖ (var 1 ⊗ var 0) ⊗ var 3 ⊕ (⊖ (var 1 ⊗ var 0) ⊗ var 4 ⊕ var 0 ⊗ var 5))) (var 0 ⊗ (⊖ (var 1 ⊗ (var 3 ⊕ var 4)) ⊕ var 5)) tt

  way_stores : (past : Past) → total (λ s. way_before j (suc m) s *ℤ ahead_of h units past s) (stores h) ≡ neg_ℤ (from_further j (travel h j) (suc m) past)
  way_stores past =
      total-stores h (λ s. way_before j (suc m) s *ℤ ahead_of h units past s)
      ∙ ap₂ ◌+ℤ◌ (ap₂ ◌+ℤ◌ (away 1) (ap₂ ◌+ℤ◌ (away 2) (ap (λ (z : ℤ). z +ℤ pos 0) (away 3)))) (total_none (λ i. pos 0 *ℤ volume h units past i) (all_reservoirs h) (λ i. none (volume h units past i)))
      ∙ +ℤ_idr (shown h j (suc m) past 1 +ℤ (shown h j (suc m) past 2 +ℤ (shown h j (suc m) past 3 +ℤ pos 0)))
      ∙ beyond (suc m) (travel h j) (λ k. left_ago j (travel h j - k) past) (omega arith) short (omega arith)
    where
      each : (b : Bool) (s t x : ℤ) → (if b then neg_ℤ (s *ℤ t) *ℤ x else pos 0) ≡ s *ℤ (if b then neg_ℤ (t *ℤ x) else pos 0)
      each true s t x = ring (s ∷ t ∷ x ∷ []) (⊖ (var 0 ⊗ var 1) ⊗ var 2) (var 0 ⊗ ⊖ (var 1 ⊗ var 2)) tt
      each false s t x = sym (*ℤ-zero s)

      away : (k : ℕ) → of_way h (λ s. way_before j (suc m) s *ℤ ahead_of h units past s) k ≡ shown h j (suc m) past k
      away k =
          let f : ℕ → ℤ = λ i. if nat_le k (travel h i) then neg_ℤ (same_place (suc (suc m)) k *ℤ left_ago i (travel h i - k) past) else pos 0 in
          total_ext (λ i. if nat_le k (travel h i) then neg_ℤ (same_place j i *ℤ same_place (suc (suc m)) k) *ℤ left_ago i (travel h i - k) past else pos 0) (λ i. same_place j i *ℤ f i) (all_reservoirs h)
          (λ i. each (nat_le k (travel h i)) (same_place j i) (same_place (suc (suc m)) k) (left_ago i (travel h i - k) past))
          ∙ total_same (length h.reservoirs) j f within

  -- the water that is decided to be under way, less what the choice leads to
  pub left_way : (demand water : List ℤ) (past : Past)
      → left_of h units (way_decided h j (suc m)) (way_before j (suc m)) no_chance (value_with c next) (ahead_of h units past) (chance_value demand water)
      ≡ next (way_of j (suc m)) -ℤ left_ago j (travel h j - suc m) (record { water = water; choice = c } ∷ past)
  left_way demand water past =
      let here : Moment = record { water = water; choice = c } in
      let t : ℤ = same_place (suc m) (travel h j) in
      let further : ℤ = from_further j (travel h j) (suc m) past in
      ap₂ ◌+ℤ◌ (ap₂ ◌+ℤ◌ way_variables (way_stores past)) (ap (λ (z : ℤ). pos units *ℤ z) (total_none (λ r. pos 0 *ℤ chance_value demand water r) (chances h) (λ r. none (chance_value demand water r))))
      ∙ ring (t ∷ c.turbine j ∷ c.spill j ∷ next (way_of j (suc m)) ∷ further ∷ pos units ∷ [])
      (⊖ (var 0 ⊗ (var 1 ⊕ var 2)) ⊕ var 3 ⊕ ⊖ (var 4) ⊕ var 5 ⊗ num (pos 0)) (var 3 ⊕ ⊖ (var 0 ⊗ (var 1 ⊕ var 2) ⊕ var 4)) tt
      ∙ ap (λ (z : ℤ). next (way_of j (suc m)) -ℤ z) (sym (way_next j (travel h j) (suc m) here past (omega arith)))

-- ---- buses

module _ (h : Plants) (units b : ℕ) (c : Choice) (next : HydroStore → ℤ) (within : b < length h.buses) where
  bus_variables : total (λ d. bus_decided h b d *ℤ value_with c next d) (hydro_variables h) ≡ served h c b
  bus_variables =
      let f : Variable → ℤ = λ d. bus_decided h b d *ℤ value_with c next d in
      total-hydro_variables h f
      ∙ ap₂ ◌+ℤ◌ (ap₂ ◌+ℤ◌ (ap₂ ◌+ℤ◌ (total_ext (of_reservoir h f) (λ j. same_place (numbered_reservoir h j).bus b *ℤ (numbered_reservoir h j).factor *ℤ c.turbine j) (all_reservoirs h) block) refl) refl)
      (total_same (length h.buses) b c.deficit within)
    where
      block : (i : ℕ) → of_reservoir h (λ d. bus_decided h b d *ℤ value_with c next d) i ≡ same_place (numbered_reservoir h i).bus b *ℤ (numbered_reservoir h i).factor *ℤ c.turbine i
      block i =
          let s : ℤ = same_place (numbered_reservoir h i).bus b *ℤ (numbered_reservoir h i).factor in
          ap (λ (z : ℤ). pos 0 *ℤ next (volume_of i) +ℤ (s *ℤ c.turbine i +ℤ (pos 0 *ℤ c.spill i +ℤ z))) (total_none (λ k. pos 0 *ℤ next (way_of i k)) (steps (travel h i)) (λ k. none (next (way_of i k))))
          ∙ ring (s ∷ next (volume_of i) ∷ c.turbine i ∷ c.spill i ∷ []) (num (pos 0) ⊗ var 1 ⊕ (var 0 ⊗ var 2 ⊕ (num (pos 0) ⊗ var 3 ⊕ num (pos 0)))) (var 0 ⊗ var 2) tt

  bus_chances : (demand water : List ℤ) → total (λ r. bus_asked b r *ℤ chance_value demand water r) (chances h) ≡ neg_ℤ (entry demand b)
  bus_chances demand water =
      total-chances h (λ r. bus_asked b r *ℤ chance_value demand water r)
      ∙ ap₂ ◌+ℤ◌ (total_none (λ i. pos 0 *ℤ entry water i) (all_reservoirs h) (λ i. none (entry water i)))
      (total_ext (λ d. neg_ℤ (same_place b d) *ℤ entry demand d) (λ d. same_place b d *ℤ neg_ℤ (entry demand d)) (all_buses h) (λ d. ring (same_place b d ∷ entry demand d ∷ []) (⊖ (var 0) ⊗ var 1) (var 0 ⊗ ⊖ (var 1)) tt) ∙ total_same (length h.buses) b (λ d. neg_ℤ (entry demand d)) within)
      ∙ +ℤ_idl (neg_ℤ (entry demand b))

  -- the energy balance of a bus: the energy that is made, less the demand
  pub left_bus : (demand water : List ℤ) (before : HydroStore → ℤ) → left_of h units (bus_decided h b) no_store (bus_asked b) (value_with c next) before (chance_value demand water) ≡ served h c b -ℤ pos units *ℤ entry demand b
  left_bus demand water before =
      ap₂ ◌+ℤ◌ (ap₂ ◌+ℤ◌ bus_variables (total_none (λ s. pos 0 *ℤ before s) (stores h) (λ s. none (before s)))) (ap (λ (z : ℤ). pos units *ℤ z) (bus_chances demand water))
      ∙ ring (served h c b ∷ pos units ∷ entry demand b ∷ []) (var 0 ⊕ num (pos 0) ⊕ var 1 ⊗ ⊖ (var 2)) (var 0 ⊕ ⊖ (var 1 ⊗ var 2)) tt
