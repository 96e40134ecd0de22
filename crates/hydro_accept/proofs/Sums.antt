-- The factors that the sums of a stage's text give its variables are those of the rows.
use Rattle.std.proofs.Common.{◌≡◌, ℕ, zero, suc, ◌<◌, ◌≤◌, ◌⊎◌, inl, inr, ◌==◌, ◌&&◌, ℤ, pos, negsuc, ◌+ℤ◌, ◌*ℤ◌, ◌-ℤ◌, neg_ℤ, List, [], ◌∷◌, ◌++◌, length, map, Bool, true, false, cond, nat_eq, if◌then◌else◌, Option, Some, None, bytes_eq, refl, sym, ap, ◌∙◌, arith}
use Rattle.std.specs.List.{flat_map}
use Rattle.std.proofs.lemmas.Bool.{cases_lt}
use Rattle.std.proofs.lemmas.Bool.Decides.{nat_tests}
use lib.IntN.{zero-*ℤ, +ℤ_idl, +ℤ_assoc}
use Rattle.base_num.specs.Sums.{total, same_place}
use Rattle.base_num.proofs.Ring.{ring, var, num, ◌⊕◌, ◌⊗◌, ⊖}
use Rattle.read_json.proofs.Distinct.{bytes_eq-turned}
use Rattle.hydro_form.specs.Listed.{digit}
use Rattle.hydro_read.specs.declared.plants.Travel.{Travel}
use Rattle.hydro_read.specs.declared.plants.Plants.{Plants}
use Rattle.hydro_read.specs.Described.{IsPlants}
use Rattle.hydro_make.specs.Layout.{volume_of, way_of, after, turbine_of, spill_of, thermal_of, line_of, deficit_of, inflow_of, demand_of, numbered_reservoir, thermal, line, bus, travel, travel_of, leads, leads_by, all_reservoirs}
use Rattle.hydro_make.specs.Rows.{leads_at_once, water_decided, water_before, water_flowing}
use Rattle.hydro_make.specs.Columns.{Column, before, random, decided, named, before_name, after_name, variable_name, chance_name, column_name}
use Rattle.hydro_make.specs.Stage.{Sum, coming_by, coming, water_sum}
use Rattle.hydro_make.proofs.Described.{short}
use Rattle.hydro_make.proofs.Flow.{same_at, same_below}
use Rattle.hydro_make.proofs.Lists.{total_none, total_same, total_below}
use Rattle.hydro_accept.proofs.Named.{equal_names}
use Rattle.hydro_accept.proofs.Functions.{factor}
use Rattle.hydro_accept.proofs.Apart.{apart_of, digit_less, reservoirs_rise, thermals_rise, lines_rise, buses_rise}
use Rattle.hydro_accept.proofs.Listing.{OfColumns}

-- ---- numbers and names that are the same

pub same_turned : (a b : ℕ) → same_place a b ≡ same_place b a
same_turned zero zero = refl
same_turned zero (suc b) = refl
same_turned (suc a) zero = refl
same_turned (suc a) (suc b) = same_turned a b

pub one_times : (z : ℤ) → z ≡ pos 1 *ℤ z
one_times z = ring (z ∷ []) (var 0) (num (pos 1) ⊗ var 0) tt

-- where names of different numbers differ, the test of two names is that of their numbers
pick_by : (name : ℕ → List ℕ) (n : ℕ) → ((j k : ℕ) → j < k → k < n → bytes_eq (name j) (name k) ≡ false) → (j k : ℕ) → j < n → k < n → (z : ℤ) → cond (bytes_eq (name j) (name k)) z (pos 0) ≡ same_place j k *ℤ z
pick_by name n apart j k p q z = by (cases_lt j k) (cases_lt k j)
  where
    by : (j < k) ⊎ (k ≤ j) → (k < j) ⊎ (j ≤ k) → cond (bytes_eq (name j) (name k)) z (pos 0) ≡ same_place j k *ℤ z
    by (inl less) more = rw (apart j k less q, same_below j k less) (sym (zero-*ℤ z))
    by (inr most) (inl less) = rw (bytes_eq-turned (name k) (name j) (apart k j less p), same_turned j k, same_below k j less) (sym (zero-*ℤ z))
    by (inr most) (inr least) = let e : j ≡ k = omega arith in rw (e, equal_names (name k), same_at k) (one_times z)

digits_differ : (k m : ℕ) → k < m → m ≤ 9 → nat_eq (digit k) (digit m) ≡ false
digits_differ k m p q = let less : digit k < digit m = digit_less k m p q in differ (digit k) (digit m) less
  where
    differ : (x y : ℕ) → x < y → nat_eq x y ≡ false
    differ x y h = grind (arith, nat_tests)

digits_turned : (k m : ℕ) → nat_eq (digit k) (digit m) ≡ nat_eq (digit m) (digit k)
digits_turned k m = turn (digit k) (digit m) (cases_lt (digit k) (digit m)) (cases_lt (digit m) (digit k))
  where
    turn : (x y : ℕ) → (x < y) ⊎ (y ≤ x) → (y < x) ⊎ (x ≤ y) → nat_eq x y ≡ nat_eq y x
    turn x y a b = grind (arith, nat_tests)

number_itself : (x : ℕ) → nat_eq x x ≡ true
number_itself x = grind (arith, nat_tests)

pick_digit : (k m : ℕ) → k ≤ 9 → m ≤ 9 → (z : ℤ) → cond (nat_eq (digit k) (digit m)) z (pos 0) ≡ same_place k m *ℤ z
pick_digit k m p q z = by (cases_lt k m) (cases_lt m k)
  where
    by : (k < m) ⊎ (m ≤ k) → (m < k) ⊎ (k ≤ m) → cond (nat_eq (digit k) (digit m)) z (pos 0) ≡ same_place k m *ℤ z
    by (inl less) more = rw (digits_differ k m less q, same_below k m less) (sym (zero-*ℤ z))
    by (inr most) (inl less) = rw (digits_turned k m, digits_differ m k less p, same_turned k m, same_below m k less) (sym (zero-*ℤ z))
    by (inr most) (inr least) = let e : k ≡ m = omega arith in rw (e, number_itself (digit m), same_at m) (one_times z)

both_tests : (a b : Bool) (z : ℤ) → cond (a && b) z (pos 0) ≡ cond a (cond b z (pos 0)) (pos 0)
both_tests true b z = refl
both_tests false b z = refl

-- a test of numbers
pub by_number : (a b : ℕ) (z : ℤ) → (if a == b then z else pos 0) ≡ same_place a b *ℤ z
by_number a b z = by (cases_lt a b) (cases_lt b a)
  where
    by : (a < b) ⊎ (b ≤ a) → (b < a) ⊎ (a ≤ b) → (if a == b then z else pos 0) ≡ same_place a b *ℤ z
    by (inl less) more = let e : (a == b) ≡ false = grind (arith, nat_tests) in rw (e, same_below a b less) (sym (zero-*ℤ z))
    by (inr most) (inl less) = let e : (a == b) ≡ false = grind (arith, nat_tests) in rw (e, same_turned a b, same_below b a less) (sym (zero-*ℤ z))
    by (inr most) (inr least) = let e : a ≡ b = omega arith in rw (e, number_itself b, same_at b) (one_times z)

module _ (h : Plants) (i : IsPlants h) where
  abbrev pub F : Sum → Column → ℤ
  F ts d = factor (column_name h) ts d

  -- z where both are one, else 0
  abbrev pub pick : Column → Column → ℤ → ℤ
  pick c d z = cond (bytes_eq (column_name h c) (column_name h d)) z (pos 0)

  pub F-append : (ts us : Sum) (d : Column) → F (ts ++ us) d ≡ F ts d +ℤ F us d
  F-append [] us d = sym (+ℤ_idl (F us d))
  F-append (t ∷ ts) us d = ap (λ (z : ℤ). pick t.1 d t.0 +ℤ z) (F-append ts us d) ∙ sym (+ℤ_assoc (pick t.1 d t.0) (F ts d) (F us d))

  pub F-flat : (f : ℕ → Sum) (ns : List ℕ) (d : Column) → F (flat_map f ns) d ≡ total (λ n. F (f n) d) ns
  F-flat f [] d = refl
  F-flat f (n ∷ ns) d = F-append (f n) (flat_map f ns) d ∙ ap (λ (z : ℤ). F (f n) d +ℤ z) (F-flat f ns d)

  pub F-map : (f : ℕ → ℤ × Column) (ns : List ℕ) (d : Column) → F (map f ns) d ≡ total (λ n. pick (f n).1 d (f n).0) ns
  F-map f [] d = refl
  F-map f (n ∷ ns) d = ap (λ (z : ℤ). pick (f n).1 d (f n).0 +ℤ z) (F-map f ns d)

  pub of_reservoirs : (j k : ℕ) → j < length h.reservoirs → k < length h.reservoirs → (z : ℤ) → cond (bytes_eq (numbered_reservoir h j).name (numbered_reservoir h k).name) z (pos 0) ≡ same_place j k *ℤ z
  of_reservoirs = pick_by (λ j. (numbered_reservoir h j).name) (length h.reservoirs) (λ j k p q. apart_of (numbered_reservoir h j).name (numbered_reservoir h k).name (reservoirs_rise h i j k p q))

  pub of_thermals : (j k : ℕ) → j < length h.thermals → k < length h.thermals → (z : ℤ) → cond (bytes_eq (thermal h j).name (thermal h k).name) z (pos 0) ≡ same_place j k *ℤ z
  of_thermals = pick_by (λ j. (thermal h j).name) (length h.thermals) (λ j k p q. apart_of (thermal h j).name (thermal h k).name (thermals_rise h i j k p q))

  pub of_lines : (j k : ℕ) → j < length h.lines → k < length h.lines → (z : ℤ) → cond (bytes_eq (line h j).name (line h k).name) z (pos 0) ≡ same_place j k *ℤ z
  of_lines = pick_by (λ j. (line h j).name) (length h.lines) (λ j k p q. apart_of (line h j).name (line h k).name (lines_rise h i j k p q))

  pub of_buses : (j k : ℕ) → j < length h.buses → k < length h.buses → (z : ℤ) → cond (bytes_eq (bus h j).name (bus h k).name) z (pos 0) ≡ same_place j k *ℤ z
  of_buses = pick_by (λ j. (bus h j).name) (length h.buses) (λ j k p q. apart_of (bus h j).name (bus h k).name (buses_rise h i j k p q))

  pub of_ways : (j k n m : ℕ) → j < length h.reservoirs → n < length h.reservoirs → k ≤ 9 → m ≤ 9 → (z : ℤ)
      → cond (nat_eq (digit k) (digit m) && bytes_eq (numbered_reservoir h j).name (numbered_reservoir h n).name) z (pos 0) ≡ same_place k m *ℤ (same_place j n *ℤ z)
  of_ways j k n m p q low high z =
      both_tests (nat_eq (digit k) (digit m)) (bytes_eq (numbered_reservoir h j).name (numbered_reservoir h n).name) z
      ∙ pick_digit k m low high (cond (bytes_eq (numbered_reservoir h j).name (numbered_reservoir h n).name) z (pos 0)) ∙ ap (λ (y : ℤ). same_place k m *ℤ y) (of_reservoirs j n p q z)

  -- ---- water that comes from others

  one_coming : (t : Travel) (j : ℕ) (p q w : ℤ) → (if t.target == j then (if t.stages == 0 then p +ℤ (q +ℤ pos 0) else w +ℤ pos 0) else pos 0)
      ≡ same_place t.target j *ℤ (same_place 0 t.stages *ℤ (p +ℤ q) +ℤ (pos 1 -ℤ same_place 0 t.stages) *ℤ w)
  one_coming t j p q w = by_number t.target j _ ∙ ap (λ (y : ℤ). same_place t.target j *ℤ y) (at_once t.stages)
    where
      at_once : (n : ℕ) → (if n == 0 then p +ℤ (q +ℤ pos 0) else w +ℤ pos 0) ≡ same_place 0 n *ℤ (p +ℤ q) +ℤ (pos 1 -ℤ same_place 0 n) *ℤ w
      at_once zero = ring (p ∷ q ∷ w ∷ []) (var 0 ⊕ (var 1 ⊕ num (pos 0))) (num (pos 1) ⊗ (var 0 ⊕ var 1) ⊕ (num (pos 1) ⊕ ⊖ (num (pos 1))) ⊗ var 2) tt
      at_once (suc n) = let e : (suc n == 0) ≡ false = grind (arith, nat_tests) in rw e (ring (p ∷ q ∷ w ∷ []) (var 2 ⊕ num (pos 0)) (num (pos 0) ⊗ (var 0 ⊕ var 1) ⊕ (num (pos 1) ⊕ ⊖ (num (pos 0))) ⊗ var 2) tt)

  pub if_sum : (b : Bool) (ts : Sum) (d : Column) → F (if b then ts else []) d ≡ (if b then F ts d else pos 0)
  if_sum true ts d = refl
  if_sum false ts d = refl

  pub if_else : (b : Bool) (ts us : Sum) (d : Column) → F (if b then ts else us) d ≡ (if b then F ts d else F us d)
  if_else true ts us d = refl
  if_else false ts us d = refl

  -- the coefficient of d in the turbine, the spill and the first way of reservoir n, where these give p, q and w
  coming_is : (o : Option Travel) (n j : ℕ) (d : Column) (p q w : ℤ) → pick (decided (turbine_of n)) d (negsuc 0) ≡ p → pick (decided (spill_of n)) d (negsuc 0) ≡ q → pick (before (way_of n 1)) d (negsuc 0) ≡ w
      → F (coming_by n o j) d ≡ leads_by o j *ℤ (same_place 0 (travel_of o) *ℤ (p +ℤ q) +ℤ (pos 1 -ℤ same_place 0 (travel_of o)) *ℤ w)
  coming_is None n j d p q w e1 e2 e3 = sym (zero-*ℤ (same_place 0 0 *ℤ (p +ℤ q) +ℤ (pos 1 -ℤ same_place 0 0) *ℤ w))
  coming_is (Some t) n j d p q w e1 e2 e3 =
      if_sum (t.target == j) _ d ∙ ap (λ (y : ℤ). if t.target == j then y else pos 0) (if_else (t.stages == 0) _ _ d ∙ rw (e1, e2, e3) refl) ∙ one_coming t j p q w

  coming_none : (j : ℕ) (d : Column) → ((n : ℕ) → pick (decided (turbine_of n)) d (negsuc 0) ≡ pos 0) → ((n : ℕ) → pick (decided (spill_of n)) d (negsuc 0) ≡ pos 0) → ((n : ℕ) → pick (before (way_of n 1)) d (negsuc 0) ≡ pos 0)
      → F (flat_map (coming h j) (all_reservoirs h)) d ≡ pos 0
  unfolding coming
  coming_none j d e1 e2 e3 =
      F-flat (coming h j) (all_reservoirs h) d
      ∙ total_none (λ n. F (coming h j n) d) (all_reservoirs h)
      (λ n. coming_is (numbered_reservoir h n).downstream n j d (pos 0) (pos 0) (pos 0) (e1 n) (e2 n) (e3 n)
      ∙ ring (leads h n j ∷ same_place 0 (travel h n) ∷ []) (var 0 ⊗ (var 1 ⊗ (num (pos 0) ⊕ num (pos 0)) ⊕ (num (pos 1) ⊕ ⊖ (var 1)) ⊗ num (pos 0))) (num (pos 0)) tt)

  coming_turbine : (j n : ℕ) → n < length h.reservoirs → F (flat_map (coming h j) (all_reservoirs h)) (decided (turbine_of n)) ≡ neg_ℤ (leads_at_once h n j)
  unfolding coming column_name before_name variable_name named
  coming_turbine j n p =
      F-flat (coming h j) (all_reservoirs h) (decided (turbine_of n))
      ∙ total_below (length h.reservoirs) (λ m. F (coming h j m) (decided (turbine_of n))) (λ m. same_place n m *ℤ neg_ℤ (leads_at_once h m j))
      (λ m q. coming_is (numbered_reservoir h m).downstream m j (decided (turbine_of n)) (same_place m n *ℤ negsuc 0) (pos 0) (pos 0) (of_reservoirs m n q p (negsuc 0)) refl refl
      ∙ ap (λ (s : ℤ). leads h m j *ℤ (same_place 0 (travel h m) *ℤ (s *ℤ negsuc 0 +ℤ pos 0) +ℤ (pos 1 -ℤ same_place 0 (travel h m)) *ℤ pos 0)) (same_turned m n)
      ∙ ring (leads h m j ∷ same_place 0 (travel h m) ∷ same_place n m ∷ []) (var 0 ⊗ (var 1 ⊗ (var 2 ⊗ num (negsuc 0) ⊕ num (pos 0)) ⊕ (num (pos 1) ⊕ ⊖ (var 1)) ⊗ num (pos 0))) (var 2 ⊗ ⊖ (var 1 ⊗ var 0)) tt)
      ∙ total_same (length h.reservoirs) n (λ m. neg_ℤ (leads_at_once h m j)) p

  coming_spill : (j n : ℕ) → n < length h.reservoirs → F (flat_map (coming h j) (all_reservoirs h)) (decided (spill_of n)) ≡ neg_ℤ (leads_at_once h n j)
  unfolding coming column_name before_name variable_name named
  coming_spill j n p =
      F-flat (coming h j) (all_reservoirs h) (decided (spill_of n))
      ∙ total_below (length h.reservoirs) (λ m. F (coming h j m) (decided (spill_of n))) (λ m. same_place n m *ℤ neg_ℤ (leads_at_once h m j))
      (λ m q. coming_is (numbered_reservoir h m).downstream m j (decided (spill_of n)) (pos 0) (same_place m n *ℤ negsuc 0) (pos 0) refl (of_reservoirs m n q p (negsuc 0)) refl
      ∙ ap (λ (s : ℤ). leads h m j *ℤ (same_place 0 (travel h m) *ℤ (pos 0 +ℤ s *ℤ negsuc 0) +ℤ (pos 1 -ℤ same_place 0 (travel h m)) *ℤ pos 0)) (same_turned m n)
      ∙ ring (leads h m j ∷ same_place 0 (travel h m) ∷ same_place n m ∷ []) (var 0 ⊗ (var 1 ⊗ (num (pos 0) ⊕ var 2 ⊗ num (negsuc 0)) ⊕ (num (pos 1) ⊕ ⊖ (var 1)) ⊗ num (pos 0))) (var 2 ⊗ ⊖ (var 1 ⊗ var 0)) tt)
      ∙ total_same (length h.reservoirs) n (λ m. neg_ℤ (leads_at_once h m j)) p

  coming_way : (j n m : ℕ) → n < length h.reservoirs → 1 ≤ m → m ≤ travel h n → F (flat_map (coming h j) (all_reservoirs h)) (before (way_of n m)) ≡ neg_ℤ (same_place 1 m *ℤ leads h n j)
  unfolding coming column_name before_name variable_name named
  coming_way j n m p low high =
      let few = short h i n in
      let far : same_place 0 (travel h n) ≡ pos 0 = same_below 0 (travel h n) (omega arith) in
      F-flat (coming h j) (all_reservoirs h) (before (way_of n m))
      ∙ total_below (length h.reservoirs) (λ k. F (coming h j k) (before (way_of n m))) (λ k. same_place n k *ℤ (neg_ℤ ((pos 1 -ℤ same_place 0 (travel h k)) *ℤ (same_place 1 m *ℤ leads h k j))))
      (λ k q. coming_is (numbered_reservoir h k).downstream k j (before (way_of n m)) (pos 0) (pos 0) (same_place 1 m *ℤ (same_place k n *ℤ negsuc 0)) refl refl (of_ways k 1 n m q p (omega arith) (omega arith) (negsuc 0))
      ∙ ap (λ (s : ℤ). leads h k j *ℤ (same_place 0 (travel h k) *ℤ (pos 0 +ℤ pos 0) +ℤ (pos 1 -ℤ same_place 0 (travel h k)) *ℤ (same_place 1 m *ℤ (s *ℤ negsuc 0)))) (same_turned k n)
      ∙ ring (leads h k j ∷ same_place 0 (travel h k) ∷ same_place n k ∷ same_place 1 m ∷ []) (var 0 ⊗ (var 1 ⊗ (num (pos 0) ⊕ num (pos 0)) ⊕ (num (pos 1) ⊕ ⊖ (var 1)) ⊗ (var 3 ⊗ (var 2 ⊗ num (negsuc 0))))) (var 2 ⊗ ⊖ ((num (pos 1) ⊕ ⊖ (var 1)) ⊗ (var 3 ⊗ var 0))) tt)
      ∙ total_same (length h.reservoirs) n (λ k. neg_ℤ ((pos 1 -ℤ same_place 0 (travel h k)) *ℤ (same_place 1 m *ℤ leads h k j))) p
      ∙ ap (λ (s : ℤ). neg_ℤ ((pos 1 -ℤ s) *ℤ (same_place 1 m *ℤ leads h n j))) far
      ∙ ring (leads h n j ∷ same_place 1 m ∷ []) (⊖ ((num (pos 1) ⊕ ⊖ (num (pos 0))) ⊗ (var 1 ⊗ var 0))) (⊖ (var 1 ⊗ var 0)) tt

  -- ---- the water of a reservoir

  water_is : (j : ℕ) (d : Column) (p1 p2 p3 p4 p5 t : ℤ) → pick (decided (after (volume_of j))) d (pos 1) ≡ p1 → pick (decided (turbine_of j)) d (pos 1) ≡ p2 → pick (decided (spill_of j)) d (pos 1) ≡ p3
      → pick (before (volume_of j)) d (negsuc 0) ≡ p4 → pick (random (inflow_of j)) d (negsuc 0) ≡ p5 → F (flat_map (coming h j) (all_reservoirs h)) d ≡ t
      → F (water_sum h j) d ≡ p1 +ℤ (p2 +ℤ (p3 +ℤ (p4 +ℤ (p5 +ℤ t))))
  unfolding water_sum
  water_is j d p1 p2 p3 p4 p5 t e1 e2 e3 e4 e5 e6 = rw (e1, e2, e3, e4, e5, e6) refl

  -- the factors of its row
  abbrev pub water_of : ℕ → Column → ℤ
  water_of j (before s) = water_before h j s
  water_of j (random c) = water_flowing j c
  water_of j (decided v) = water_decided h j v

  pub water : (j : ℕ) → j < length h.reservoirs → OfColumns h (λ d. F (water_sum h j) d ≡ water_of j d)
  unfolding column_name before_name variable_name after_name chance_name named
  water j here =
      let s : ℕ → ℤ = same_place j in
      record {
        stores = record {
          volume = λ n p. water_is j (before (volume_of n)) (pos 0) (pos 0) (pos 0) (s n *ℤ negsuc 0) (pos 0) (pos 0) refl refl refl (of_reservoirs j n here p (negsuc 0)) refl (coming_none j (before (volume_of n)) (λ k. refl) (λ k. refl) (λ k. refl))
              ∙ ring (s n ∷ []) (num (pos 0) ⊕ (num (pos 0) ⊕ (num (pos 0) ⊕ (var 0 ⊗ num (negsuc 0) ⊕ (num (pos 0) ⊕ num (pos 0)))))) (⊖ (var 0)) tt;
          way = λ n k p low high. water_is j (before (way_of n k)) (pos 0) (pos 0) (pos 0) (pos 0) (pos 0) (neg_ℤ (same_place 1 k *ℤ leads h n j)) refl refl refl refl refl (coming_way j n k p low high)
              ∙ ring (same_place 1 k ∷ leads h n j ∷ []) (num (pos 0) ⊕ (num (pos 0) ⊕ (num (pos 0) ⊕ (num (pos 0) ⊕ (num (pos 0) ⊕ ⊖ (var 0 ⊗ var 1)))))) (⊖ (var 0 ⊗ var 1)) tt;
        };
        chances = record {
          inflow = λ n p. water_is j (random (inflow_of n)) (pos 0) (pos 0) (pos 0) (pos 0) (s n *ℤ negsuc 0) (pos 0) refl refl refl refl (of_reservoirs j n here p (negsuc 0)) (coming_none j (random (inflow_of n)) (λ k. refl) (λ k. refl) (λ k. refl))
              ∙ ring (s n ∷ []) (num (pos 0) ⊕ (num (pos 0) ⊕ (num (pos 0) ⊕ (num (pos 0) ⊕ (var 0 ⊗ num (negsuc 0) ⊕ num (pos 0)))))) (⊖ (var 0)) tt;
          demand = λ b p. water_is j (random (demand_of b)) (pos 0) (pos 0) (pos 0) (pos 0) (pos 0) (pos 0) refl refl refl refl refl (coming_none j (random (demand_of b)) (λ k. refl) (λ k. refl) (λ k. refl));
        };
        variables = record {
          volume = λ n p. water_is j (decided (after (volume_of n))) (s n *ℤ pos 1) (pos 0) (pos 0) (pos 0) (pos 0) (pos 0) (of_reservoirs j n here p (pos 1)) refl refl refl refl (coming_none j (decided (after (volume_of n))) (λ k. refl) (λ k. refl) (λ k. refl))
              ∙ ring (s n ∷ []) (var 0 ⊗ num (pos 1) ⊕ (num (pos 0) ⊕ (num (pos 0) ⊕ (num (pos 0) ⊕ (num (pos 0) ⊕ num (pos 0)))))) (var 0) tt;
          way = λ n k p low high. water_is j (decided (after (way_of n k))) (pos 0) (pos 0) (pos 0) (pos 0) (pos 0) (pos 0) refl refl refl refl refl (coming_none j (decided (after (way_of n k))) (λ m. refl) (λ m. refl) (λ m. refl));
          turbine = λ n p. water_is j (decided (turbine_of n)) (pos 0) (s n *ℤ pos 1) (pos 0) (pos 0) (pos 0) (neg_ℤ (leads_at_once h n j)) refl (of_reservoirs j n here p (pos 1)) refl refl refl (coming_turbine j n p)
              ∙ ring (s n ∷ leads_at_once h n j ∷ []) (num (pos 0) ⊕ (var 0 ⊗ num (pos 1) ⊕ (num (pos 0) ⊕ (num (pos 0) ⊕ (num (pos 0) ⊕ ⊖ (var 1)))))) (var 0 ⊕ ⊖ (var 1)) tt;
          spill = λ n p. water_is j (decided (spill_of n)) (pos 0) (pos 0) (s n *ℤ pos 1) (pos 0) (pos 0) (neg_ℤ (leads_at_once h n j)) refl refl (of_reservoirs j n here p (pos 1)) refl refl (coming_spill j n p)
              ∙ ring (s n ∷ leads_at_once h n j ∷ []) (num (pos 0) ⊕ (num (pos 0) ⊕ (var 0 ⊗ num (pos 1) ⊕ (num (pos 0) ⊕ (num (pos 0) ⊕ ⊖ (var 1)))))) (var 0 ⊕ ⊖ (var 1)) tt;
          thermal = λ n p. water_is j (decided (thermal_of n)) (pos 0) (pos 0) (pos 0) (pos 0) (pos 0) (pos 0) refl refl refl refl refl (coming_none j (decided (thermal_of n)) (λ k. refl) (λ k. refl) (λ k. refl));
          line = λ n p. water_is j (decided (line_of n)) (pos 0) (pos 0) (pos 0) (pos 0) (pos 0) (pos 0) refl refl refl refl refl (coming_none j (decided (line_of n)) (λ k. refl) (λ k. refl) (λ k. refl));
          deficit = λ n p. water_is j (decided (deficit_of n)) (pos 0) (pos 0) (pos 0) (pos 0) (pos 0) (pos 0) refl refl refl refl refl (coming_none j (decided (deficit_of n)) (λ k. refl) (λ k. refl) (λ k. refl));
        };
      }
