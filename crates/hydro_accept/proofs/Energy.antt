-- The factors of the sums for water under way, for energy, and for costs.
use Rattle.std.proofs.Common.{◌≡◌, ℕ, suc, ◌<◌, ◌≤◌, ◌⊎◌, inl, inr, ◌==◌, ℤ, pos, negsuc, ◌+ℤ◌, ◌*ℤ◌, List, [], ◌∷◌, ◌++◌, length, map, Bool, true, false, not, cond, bytes_eq, nat_lt, if◌then◌else◌, refl, sym, ap, ap₂, ◌∙◌, arith}
use Rattle.std.specs.List.{flat_map}
use Rattle.std.specs.Ordering.{int_eq}
use Rattle.std.proofs.lemmas.Bool.{cases_lt, ltb-true, ltb-false}
use Rattle.std.proofs.lemmas.Bool.Decides.{Decides-int_eq}
use lib.IntN.{zero-*ℤ, *ℤ-zero, +ℤ_idl, +ℤ_idr}
use Rattle.base_num.specs.Sums.{total, same_place}
use Rattle.base_num.proofs.Sums.{total_ext}
use Rattle.base_num.proofs.Ring.{ring, var, num, ◌⊕◌, ◌⊗◌, ⊖}
use Rattle.base_graph.specs.Paths.{numbers}
use Rattle.hydro_read.specs.declared.plants.Plants.{Plants}
use Rattle.hydro_read.specs.Described.{IsPlants}
use Rattle.hydro_make.specs.Layout.{volume_of, way_of, after, turbine_of, spill_of, thermal_of, line_of, deficit_of, inflow_of, demand_of, numbered_reservoir, thermal, line, bus, travel, all_reservoirs, all_thermals, all_lines, all_buses, cost_of}
use Rattle.hydro_make.specs.Rows.{way_decided, way_before, no_chance, bus_decided, no_store, bus_asked}
use Rattle.hydro_make.specs.Columns.{Column, before, random, decided, named, before_name, after_name, variable_name, chance_name, column_name}
use Rattle.hydro_make.specs.Stage.{Sum, way_sum, turbined_at, burned_at, arriving_at, leaving_at, bus_sum, spill_cost_at, hydro_cost_sum}
use Rattle.hydro_make.proofs.Described.{short}
use Rattle.hydro_make.proofs.Flow.{same_at, same_below}
use Rattle.hydro_make.proofs.Lists.{total_none, total_same, total_below}
use Rattle.hydro_accept.proofs.Listing.{OfColumns}
use Rattle.hydro_accept.proofs.Sums.{F, pick, F-append, F-flat, F-map, of_reservoirs, of_thermals, of_lines, of_buses, of_ways, by_number, same_turned, one_times, if_sum, if_else}

-- ---- the way that is left

-- a number that is there only where the water is at the end of its way
at_end : (k n : ℕ) (w z : ℤ) → k ≤ n → w ≡ pos 0 → (if nat_lt k n then w else z) ≡ same_place k n *ℤ z
at_end k n w z most e = by (nat_lt k n) refl
  where
    by : (b : Bool) → nat_lt k n ≡ b → (if b then w else z) ≡ same_place k n *ℤ z
    by true is = e ∙ sym (ap (λ (s : ℤ). s *ℤ z) (same_below k n (ltb-true k n is)) ∙ zero-*ℤ z)
    by false is = let same : k ≡ n = omega (arith, ltb-false k n is) in one_times z ∙ ap (λ (s : ℤ). s *ℤ z) (sym (ap (λ (j : ℕ). same_place j n) same ∙ same_at n))

-- none is further away than it travels
none_further : (j n k m travels : ℕ) → (j ≡ n → m ≤ travels) → travels ≤ k → same_place (suc k) m *ℤ (same_place j n *ℤ negsuc 0) ≡ pos 0
none_further j n k m travels few end = by (cases_lt j n) (cases_lt n j)
  where
    apart : same_place j n ≡ pos 0 → same_place (suc k) m *ℤ (same_place j n *ℤ negsuc 0) ≡ pos 0
    apart e = ap (λ (s : ℤ). same_place (suc k) m *ℤ (s *ℤ negsuc 0)) e ∙ ring (same_place (suc k) m ∷ []) (var 0 ⊗ (num (pos 0) ⊗ num (negsuc 0))) (num (pos 0)) tt

    by : (j < n) ⊎ (n ≤ j) → (n < j) ⊎ (j ≤ n) → same_place (suc k) m *ℤ (same_place j n *ℤ negsuc 0) ≡ pos 0
    by (inl less) more = apart (same_below j n less)
    by (inr most) (inl less) = apart (same_turned j n ∙ same_below n j less)
    by (inr most) (inr least) =
        let near = few (omega arith) in
        ap (λ (s : ℤ). s *ℤ (same_place j n *ℤ negsuc 0)) (same_turned (suc k) m ∙ same_below m (suc k) (omega arith)) ∙ zero-*ℤ (same_place j n *ℤ negsuc 0)

module _ (h : Plants) (i : IsPlants h) where
  way_is : (j k : ℕ) (d : Column) (p w t s : ℤ) → pick h i (decided (after (way_of j k))) d (pos 1) ≡ p → pick h i (before (way_of j (suc k))) d (negsuc 0) ≡ w → pick h i (decided (turbine_of j)) d (negsuc 0) ≡ t
      → pick h i (decided (spill_of j)) d (negsuc 0) ≡ s → F h i (way_sum h j k) d ≡ p +ℤ (if nat_lt k (travel h j) then w else t +ℤ s)
  unfolding way_sum
  way_is j k d p w t s e1 e2 e3 e4 =
      ap₂ ◌+ℤ◌ e1 (if_else h i (nat_lt k (travel h j)) _ _ d
      ∙ ap₂ (λ (a b : ℤ). if nat_lt k (travel h j) then a else b) (ap (λ (z : ℤ). z +ℤ pos 0) e2 ∙ +ℤ_idr w) (ap₂ (λ (a b : ℤ). a +ℤ (b +ℤ pos 0)) e3 e4 ∙ ap (λ (z : ℤ). t +ℤ z) (+ℤ_idr s)))

  -- the factors of its row
  abbrev pub way_of_row : ℕ → ℕ → Column → ℤ
  way_of_row j k (before s) = way_before j k s
  way_of_row j k (random c) = no_chance c
  way_of_row j k (decided v) = way_decided h j k v

  pub under_way : (j k : ℕ) → j < length h.reservoirs → 1 ≤ k → k ≤ travel h j → OfColumns h (λ d. F h i (way_sum h j k) d ≡ way_of_row j k d)
  unfolding column_name before_name variable_name after_name chance_name named
  under_way j k here some most =
      let few = short h i j in
      let end : ℤ = same_place k (travel h j) in
      let plain : (d : Column) (p t s : ℤ) → pick h i (decided (after (way_of j k))) d (pos 1) ≡ p → pick h i (before (way_of j (suc k))) d (negsuc 0) ≡ pos 0 → pick h i (decided (turbine_of j)) d (negsuc 0) ≡ t
      → pick h i (decided (spill_of j)) d (negsuc 0) ≡ s → F h i (way_sum h j k) d ≡ p +ℤ end *ℤ (t +ℤ s) =
      λ d p t s e1 e2 e3 e4. way_is j k d p (pos 0) t s e1 e2 e3 e4 ∙ ap (λ (z : ℤ). p +ℤ z) (at_end k (travel h j) (pos 0) (t +ℤ s) most refl) in
      let nothing : pos 0 +ℤ end *ℤ (pos 0 +ℤ pos 0) ≡ pos 0 = ring (end ∷ []) (num (pos 0) ⊕ var 0 ⊗ (num (pos 0) ⊕ num (pos 0))) (num (pos 0)) tt in
      record {
        stores = record {
          volume = λ n p. plain (before (volume_of n)) (pos 0) (pos 0) (pos 0) refl refl refl refl ∙ nothing;
          way = λ n m p low high.
              let near = short h i n in
              let w : ℤ = same_place (suc k) m *ℤ (same_place j n *ℤ negsuc 0) in
              way_is j k (before (way_of n m)) (pos 0) w (pos 0) (pos 0) refl (of_ways h i j (suc k) n m here p (omega arith) (omega arith) (negsuc 0)) refl refl
              ∙ +ℤ_idl _ ∙ further j n k m w (λ e. let same : travel h n ≡ travel h j = ap (travel h) (sym e) in omega arith)
              ∙ ring (same_place (suc k) m ∷ same_place j n ∷ []) (var 0 ⊗ (var 1 ⊗ num (negsuc 0))) (⊖ (var 1 ⊗ var 0)) tt;
        };
        chances = record {
          inflow = λ n p. plain (random (inflow_of n)) (pos 0) (pos 0) (pos 0) refl refl refl refl ∙ nothing;
          demand = λ n p. plain (random (demand_of n)) (pos 0) (pos 0) (pos 0) refl refl refl refl ∙ nothing;
        };
        variables = record {
          volume = λ n p. plain (decided (after (volume_of n))) (pos 0) (pos 0) (pos 0) refl refl refl refl ∙ nothing;
          way = λ n m p low high.
              let near = short h i n in
              plain (decided (after (way_of n m))) (same_place k m *ℤ (same_place j n *ℤ pos 1)) (pos 0) (pos 0) (of_ways h i j k n m here p (omega arith) (omega arith) (pos 1)) refl refl refl
              ∙ ring (same_place k m ∷ same_place j n ∷ end ∷ []) (var 0 ⊗ (var 1 ⊗ num (pos 1)) ⊕ var 2 ⊗ (num (pos 0) ⊕ num (pos 0))) (var 1 ⊗ var 0) tt;
          turbine = λ n p. plain (decided (turbine_of n)) (pos 0) (same_place j n *ℤ negsuc 0) (pos 0) refl refl (of_reservoirs h i j n here p (negsuc 0)) refl
              ∙ ring (same_place j n ∷ end ∷ []) (num (pos 0) ⊕ var 1 ⊗ (var 0 ⊗ num (negsuc 0) ⊕ num (pos 0))) (⊖ (var 1 ⊗ var 0)) tt;
          spill = λ n p. plain (decided (spill_of n)) (pos 0) (pos 0) (same_place j n *ℤ negsuc 0) refl refl refl (of_reservoirs h i j n here p (negsuc 0))
              ∙ ring (same_place j n ∷ end ∷ []) (num (pos 0) ⊕ var 1 ⊗ (num (pos 0) ⊕ var 0 ⊗ num (negsuc 0))) (⊖ (var 1 ⊗ var 0)) tt;
          thermal = λ n p. plain (decided (thermal_of n)) (pos 0) (pos 0) (pos 0) refl refl refl refl ∙ nothing;
          line = λ n p. plain (decided (line_of n)) (pos 0) (pos 0) (pos 0) refl refl refl refl ∙ nothing;
          deficit = λ n p. plain (decided (deficit_of n)) (pos 0) (pos 0) (pos 0) refl refl refl refl ∙ nothing;
        };
      }
    where
      further : (j n k m : ℕ) (w : ℤ) → (j ≡ n → m ≤ travel h j) → (if nat_lt k (travel h j) then same_place (suc k) m *ℤ (same_place j n *ℤ negsuc 0) else pos 0 +ℤ pos 0) ≡ same_place (suc k) m *ℤ (same_place j n *ℤ negsuc 0)
      further j n k m w few = by (nat_lt k (travel h j)) refl
        where
          by : (b : Bool) → nat_lt k (travel h j) ≡ b → (if b then same_place (suc k) m *ℤ (same_place j n *ℤ negsuc 0) else pos 0 +ℤ pos 0) ≡ same_place (suc k) m *ℤ (same_place j n *ℤ negsuc 0)
          by true is = refl
          by false is = sym (none_further j n k m (travel h j) few (ltb-false k (travel h j) is))

  -- ---- energy

  turbined_is : (b j : ℕ) (d : Column) → F h i (turbined_at h b j) d ≡ same_place (numbered_reservoir h j).bus b *ℤ pick h i (decided (turbine_of j)) d (numbered_reservoir h j).factor
  unfolding turbined_at
  turbined_is b j d = if_sum h i ((numbered_reservoir h j).bus == b) _ d ∙ ap (λ (z : ℤ). if (numbered_reservoir h j).bus == b then z else pos 0) (+ℤ_idr _) ∙ by_number (numbered_reservoir h j).bus b _

  burned_is : (b n : ℕ) (d : Column) → F h i (burned_at h b n) d ≡ same_place (thermal h n).bus b *ℤ pick h i (decided (thermal_of n)) d (pos 1)
  unfolding burned_at
  burned_is b n d = if_sum h i ((thermal h n).bus == b) _ d ∙ ap (λ (z : ℤ). if (thermal h n).bus == b then z else pos 0) (+ℤ_idr _) ∙ by_number (thermal h n).bus b _

  arriving_is : (b l : ℕ) (d : Column) → F h i (arriving_at h b l) d ≡ same_place (line h l).target b *ℤ pick h i (decided (line_of l)) d (pos 1)
  unfolding arriving_at
  arriving_is b l d = if_sum h i ((line h l).target == b) _ d ∙ ap (λ (z : ℤ). if (line h l).target == b then z else pos 0) (+ℤ_idr _) ∙ by_number (line h l).target b _

  leaving_is : (b l : ℕ) (d : Column) → F h i (leaving_at h b l) d ≡ same_place (line h l).source b *ℤ pick h i (decided (line_of l)) d (negsuc 0)
  unfolding leaving_at
  leaving_is b l d = if_sum h i ((line h l).source == b) _ d ∙ ap (λ (z : ℤ). if (line h l).source == b then z else pos 0) (+ℤ_idr _) ∙ by_number (line h l).source b _

  -- sums in which d has no part, and those in which it has one
  no_part : (f : ℕ → Sum) (at x : ℕ → ℤ) (ns : List ℕ) (d : Column) → ((n : ℕ) → F h i (f n) d ≡ at n *ℤ x n) → ((n : ℕ) → x n ≡ pos 0) → F h i (flat_map f ns) d ≡ pos 0
  no_part f at x ns d is none = F-flat h i f ns d ∙ total_none (λ n. F h i (f n) d) ns (λ n. is n ∙ ap (λ (z : ℤ). at n *ℤ z) (none n) ∙ *ℤ-zero (at n))

  one_part : (f : ℕ → Sum) (at x z : ℕ → ℤ) (count n : ℕ) (d : Column) → n < count → ((m : ℕ) → F h i (f m) d ≡ at m *ℤ x m) → ((m : ℕ) → m < count → x m ≡ same_place m n *ℤ z m) → F h i (flat_map f (numbers count)) d ≡ at n *ℤ z n
  one_part f at x z count n d p is one =
      F-flat h i f (numbers count) d
      ∙ total_below count (λ m. F h i (f m) d) (λ m. same_place n m *ℤ (at m *ℤ z m))
      (λ m q. is m ∙ ap (λ (y : ℤ). at m *ℤ y) (one m q ∙ ap (λ (s : ℤ). s *ℤ z m) (same_turned m n)) ∙ ring (at m ∷ same_place n m ∷ z m ∷ []) (var 0 ⊗ (var 1 ⊗ var 2)) (var 1 ⊗ (var 0 ⊗ var 2)) tt)
      ∙ total_same count n (λ m. at m *ℤ z m) p

  energy_is : (b : ℕ) (d : Column) (t g a l u w : ℤ) → F h i (flat_map (turbined_at h b) (all_reservoirs h)) d ≡ t → F h i (flat_map (burned_at h b) (all_thermals h)) d ≡ g → F h i (flat_map (arriving_at h b) (all_lines h)) d ≡ a
      → F h i (flat_map (leaving_at h b) (all_lines h)) d ≡ l → pick h i (decided (deficit_of b)) d (pos 1) ≡ u → pick h i (random (demand_of b)) d (negsuc 0) ≡ w
      → F h i (bus_sum h b) d ≡ t +ℤ g +ℤ a +ℤ l +ℤ (u +ℤ (w +ℤ pos 0))
  unfolding bus_sum
  energy_is b d t g a l u w e1 e2 e3 e4 e5 e6 =
      let ts : Sum = flat_map (turbined_at h b) (all_reservoirs h) in
      let gs : Sum = flat_map (burned_at h b) (all_thermals h) in
      let rs : Sum = flat_map (arriving_at h b) (all_lines h) in
      let ls : Sum = flat_map (leaving_at h b) (all_lines h) in
      let us : Sum = (pos 1, decided (deficit_of b)) ∷ (negsuc 0, random (demand_of b)) ∷ [] in
      F-append h i (ts ++ gs ++ rs ++ ls) us d
      ∙ ap₂ ◌+ℤ◌ (F-append h i (ts ++ gs ++ rs) ls d ∙ ap₂ ◌+ℤ◌ (F-append h i (ts ++ gs) rs d ∙ ap₂ ◌+ℤ◌ (F-append h i ts gs d ∙ ap₂ ◌+ℤ◌ e1 e2) e3) e4) (ap₂ (λ (x y : ℤ). x +ℤ (y +ℤ pos 0)) e5 e6)

  -- the factors of its row
  abbrev pub energy_of : ℕ → Column → ℤ
  energy_of b (before s) = no_store s
  energy_of b (random c) = bus_asked b c
  energy_of b (decided v) = bus_decided h b v

  no_turbine : (b : ℕ) (d : Column) → ((j : ℕ) → pick h i (decided (turbine_of j)) d (numbered_reservoir h j).factor ≡ pos 0) → F h i (flat_map (turbined_at h b) (all_reservoirs h)) d ≡ pos 0
  no_turbine b d = no_part (turbined_at h b) (λ j. same_place (numbered_reservoir h j).bus b) (λ j. pick h i (decided (turbine_of j)) d (numbered_reservoir h j).factor) (all_reservoirs h) d (λ j. turbined_is b j d)

  no_thermal : (b : ℕ) (d : Column) → ((j : ℕ) → pick h i (decided (thermal_of j)) d (pos 1) ≡ pos 0) → F h i (flat_map (burned_at h b) (all_thermals h)) d ≡ pos 0
  no_thermal b d = no_part (burned_at h b) (λ j. same_place (thermal h j).bus b) (λ j. pick h i (decided (thermal_of j)) d (pos 1)) (all_thermals h) d (λ j. burned_is b j d)

  no_arrival : (b : ℕ) (d : Column) → ((j : ℕ) → pick h i (decided (line_of j)) d (pos 1) ≡ pos 0) → F h i (flat_map (arriving_at h b) (all_lines h)) d ≡ pos 0
  no_arrival b d = no_part (arriving_at h b) (λ j. same_place (line h j).target b) (λ j. pick h i (decided (line_of j)) d (pos 1)) (all_lines h) d (λ j. arriving_is b j d)

  no_leaving : (b : ℕ) (d : Column) → ((j : ℕ) → pick h i (decided (line_of j)) d (negsuc 0) ≡ pos 0) → F h i (flat_map (leaving_at h b) (all_lines h)) d ≡ pos 0
  no_leaving b d = no_part (leaving_at h b) (λ j. same_place (line h j).source b) (λ j. pick h i (decided (line_of j)) d (negsuc 0)) (all_lines h) d (λ j. leaving_is b j d)

  pub energy : (b : ℕ) → b < length h.buses → OfColumns h (λ d. F h i (bus_sum h b) d ≡ energy_of b d)
  unfolding column_name before_name variable_name after_name chance_name named
  energy b here =
      let none : (d : Column) (u w : ℤ) → ((j : ℕ) → pick h i (decided (turbine_of j)) d (numbered_reservoir h j).factor ≡ pos 0) → ((j : ℕ) → pick h i (decided (thermal_of j)) d (pos 1) ≡ pos 0)
      → ((j : ℕ) → pick h i (decided (line_of j)) d (pos 1) ≡ pos 0) → ((j : ℕ) → pick h i (decided (line_of j)) d (negsuc 0) ≡ pos 0) → pick h i (decided (deficit_of b)) d (pos 1) ≡ u → pick h i (random (demand_of b)) d (negsuc 0) ≡ w
      → F h i (bus_sum h b) d ≡ u +ℤ w =
      λ d u w e1 e2 e3 e4 e5 e6. energy_is b d (pos 0) (pos 0) (pos 0) (pos 0) u w (no_turbine b d e1) (no_thermal b d e2) (no_arrival b d e3) (no_leaving b d e4) e5 e6
      ∙ ring (u ∷ w ∷ []) (num (pos 0) ⊕ num (pos 0) ⊕ num (pos 0) ⊕ num (pos 0) ⊕ (var 0 ⊕ (var 1 ⊕ num (pos 0)))) (var 0 ⊕ var 1) tt in
      record {
        stores = record {
          volume = λ n p. none (before (volume_of n)) (pos 0) (pos 0) (λ j. refl) (λ j. refl) (λ j. refl) (λ j. refl) refl refl;
          way = λ n k p low high. none (before (way_of n k)) (pos 0) (pos 0) (λ j. refl) (λ j. refl) (λ j. refl) (λ j. refl) refl refl;
        };
        chances = record {
          inflow = λ n p. none (random (inflow_of n)) (pos 0) (pos 0) (λ j. refl) (λ j. refl) (λ j. refl) (λ j. refl) refl refl;
          demand = λ n p. none (random (demand_of n)) (pos 0) (same_place b n *ℤ negsuc 0) (λ j. refl) (λ j. refl) (λ j. refl) (λ j. refl) refl (of_buses h i b n here p (negsuc 0))
              ∙ ring (same_place b n ∷ []) (num (pos 0) ⊕ var 0 ⊗ num (negsuc 0)) (⊖ (var 0)) tt;
        };
        variables = record {
          volume = λ n p. none (decided (after (volume_of n))) (pos 0) (pos 0) (λ j. refl) (λ j. refl) (λ j. refl) (λ j. refl) refl refl;
          way = λ n k p low high. none (decided (after (way_of n k))) (pos 0) (pos 0) (λ j. refl) (λ j. refl) (λ j. refl) (λ j. refl) refl refl;
          turbine = λ n p.
              let d : Column = decided (turbine_of n) in
              energy_is b d (same_place (numbered_reservoir h n).bus b *ℤ (numbered_reservoir h n).factor) (pos 0) (pos 0) (pos 0) (pos 0) (pos 0)
              (one_part (turbined_at h b) (λ j. same_place (numbered_reservoir h j).bus b) (λ j. pick h i (decided (turbine_of j)) d (numbered_reservoir h j).factor) (λ j. (numbered_reservoir h j).factor) (length h.reservoirs) n d p (λ j. turbined_is b j d) (λ j q. of_reservoirs h i j n q p (numbered_reservoir h j).factor))
              (no_thermal b d (λ j. refl)) (no_arrival b d (λ j. refl)) (no_leaving b d (λ j. refl)) refl refl
              ∙ ring ((same_place (numbered_reservoir h n).bus b *ℤ (numbered_reservoir h n).factor) ∷ []) (var 0 ⊕ num (pos 0) ⊕ num (pos 0) ⊕ num (pos 0) ⊕ (num (pos 0) ⊕ (num (pos 0) ⊕ num (pos 0)))) (var 0) tt;
          spill = λ n p. none (decided (spill_of n)) (pos 0) (pos 0) (λ j. refl) (λ j. refl) (λ j. refl) (λ j. refl) refl refl;
          thermal = λ n p.
              let d : Column = decided (thermal_of n) in
              energy_is b d (pos 0) (same_place (thermal h n).bus b *ℤ pos 1) (pos 0) (pos 0) (pos 0) (pos 0) (no_turbine b d (λ j. refl))
              (one_part (burned_at h b) (λ j. same_place (thermal h j).bus b) (λ j. pick h i (decided (thermal_of j)) d (pos 1)) (λ j. pos 1) (length h.thermals) n d p (λ j. burned_is b j d) (λ j q. of_thermals h i j n q p (pos 1)))
              (no_arrival b d (λ j. refl)) (no_leaving b d (λ j. refl)) refl refl
              ∙ ring (same_place (thermal h n).bus b ∷ []) (num (pos 0) ⊕ var 0 ⊗ num (pos 1) ⊕ num (pos 0) ⊕ num (pos 0) ⊕ (num (pos 0) ⊕ (num (pos 0) ⊕ num (pos 0)))) (var 0) tt;
          line = λ n p.
              let d : Column = decided (line_of n) in
              energy_is b d (pos 0) (pos 0) (same_place (line h n).target b *ℤ pos 1) (same_place (line h n).source b *ℤ negsuc 0) (pos 0) (pos 0) (no_turbine b d (λ j. refl)) (no_thermal b d (λ j. refl))
              (one_part (arriving_at h b) (λ j. same_place (line h j).target b) (λ j. pick h i (decided (line_of j)) d (pos 1)) (λ j. pos 1) (length h.lines) n d p (λ j. arriving_is b j d) (λ j q. of_lines h i j n q p (pos 1)))
              (one_part (leaving_at h b) (λ j. same_place (line h j).source b) (λ j. pick h i (decided (line_of j)) d (negsuc 0)) (λ j. negsuc 0) (length h.lines) n d p (λ j. leaving_is b j d) (λ j q. of_lines h i j n q p (negsuc 0)))
              refl refl
              ∙ ring (same_place (line h n).target b ∷ same_place (line h n).source b ∷ []) (num (pos 0) ⊕ num (pos 0) ⊕ var 0 ⊗ num (pos 1) ⊕ var 1 ⊗ num (negsuc 0) ⊕ (num (pos 0) ⊕ (num (pos 0) ⊕ num (pos 0)))) (var 0 ⊕ ⊖ (var 1)) tt;
          deficit = λ n p. none (decided (deficit_of n)) (same_place b n *ℤ pos 1) (pos 0) (λ j. refl) (λ j. refl) (λ j. refl) (λ j. refl) (of_buses h i b n here p (pos 1)) refl
              ∙ ring (same_place b n ∷ []) (var 0 ⊗ num (pos 1) ⊕ num (pos 0)) (var 0) tt;
        };
      }

  -- ---- costs

  -- the cost of a unit
  abbrev pub costs_of : Column → ℤ
  costs_of (before s) = pos 0
  costs_of (random c) = pos 0
  costs_of (decided v) = cost_of h v

  -- a term that is there only where its factor is not 0
  where_it_costs : (z : ℤ) (c d : Column) → F h i (if not (int_eq z (pos 0)) then (z, c) ∷ [] else []) d ≡ pick h i c d z
  where_it_costs z c d = by (int_eq z (pos 0)) refl
    where
      either : (b : Bool) → pos 0 ≡ cond b (pos 0) (pos 0)
      either true = refl
      either false = refl

      by : (b : Bool) → int_eq z (pos 0) ≡ b → F h i (if not b then (z, c) ∷ [] else []) d ≡ pick h i c d z
      by true e = either (bytes_eq (column_name h c) (column_name h d)) ∙ ap (pick h i c d) (sym ((Decides-int_eq z (pos 0)).0 e))
      by false e = +ℤ_idr (pick h i c d z)

  spilled_is : (n : ℕ) (d : Column) → F h i (spill_cost_at h n) d ≡ pick h i (decided (spill_of n)) d (numbered_reservoir h n).spill_cost
  unfolding spill_cost_at
  spilled_is n d = where_it_costs (numbered_reservoir h n).spill_cost (decided (spill_of n)) d

  costs_are : (d : Column) (g u z : ℤ) → total (λ n. pick h i (decided (thermal_of n)) d (thermal h n).cost) (all_thermals h) ≡ g → total (λ b. pick h i (decided (deficit_of b)) d (bus h b).deficit_cost) (all_buses h) ≡ u
      → total (λ j. pick h i (decided (spill_of j)) d (numbered_reservoir h j).spill_cost) (all_reservoirs h) ≡ z → F h i (hydro_cost_sum h) d ≡ g +ℤ u +ℤ z
  unfolding hydro_cost_sum
  costs_are d g u z e1 e2 e3 =
      let gs : Sum = map (λ n. ((thermal h n).cost, decided (thermal_of n))) (all_thermals h) in
      let us : Sum = map (λ b. ((bus h b).deficit_cost, decided (deficit_of b))) (all_buses h) in
      let spilled : ℕ → ℤ = λ j. pick h i (decided (spill_of j)) d (numbered_reservoir h j).spill_cost in
      F-append h i (gs ++ us) (flat_map (spill_cost_at h) (all_reservoirs h)) d
      ∙ ap₂ ◌+ℤ◌ (F-append h i gs us d ∙ ap₂ ◌+ℤ◌ (F-map h i (λ n. ((thermal h n).cost, decided (thermal_of n))) (all_thermals h) d ∙ e1) (F-map h i (λ b. ((bus h b).deficit_cost, decided (deficit_of b))) (all_buses h) d ∙ e2))
      (F-flat h i (spill_cost_at h) (all_reservoirs h) d ∙ total_ext (λ j. F h i (spill_cost_at h j) d) spilled (all_reservoirs h) (λ j. spilled_is j d) ∙ e3)

  pub costs : OfColumns h (λ d. F h i (hydro_cost_sum h) d ≡ costs_of d)
  unfolding column_name before_name variable_name after_name chance_name named
  costs =
      let none : (d : Column) → ((n : ℕ) → pick h i (decided (thermal_of n)) d (thermal h n).cost ≡ pos 0) → ((b : ℕ) → pick h i (decided (deficit_of b)) d (bus h b).deficit_cost ≡ pos 0)
      → ((j : ℕ) → pick h i (decided (spill_of j)) d (numbered_reservoir h j).spill_cost ≡ pos 0) → F h i (hydro_cost_sum h) d ≡ pos 0 =
      λ d e1 e2 e3. costs_are d (pos 0) (pos 0) (pos 0) (total_none _ (all_thermals h) e1) (total_none _ (all_buses h) e2) (total_none _ (all_reservoirs h) e3) in
      record {
        stores = record { volume = λ n p. none (before (volume_of n)) (λ j. refl) (λ j. refl) (λ j. refl); way = λ n k p low high. none (before (way_of n k)) (λ j. refl) (λ j. refl) (λ j. refl) };
        chances = record { inflow = λ n p. none (random (inflow_of n)) (λ j. refl) (λ j. refl) (λ j. refl); demand = λ n p. none (random (demand_of n)) (λ j. refl) (λ j. refl) (λ j. refl) };
        variables = record {
          volume = λ n p. none (decided (after (volume_of n))) (λ j. refl) (λ j. refl) (λ j. refl);
          way = λ n k p low high. none (decided (after (way_of n k))) (λ j. refl) (λ j. refl) (λ j. refl);
          turbine = λ n p. none (decided (turbine_of n)) (λ j. refl) (λ j. refl) (λ j. refl);
          spill = λ n p. costs_are (decided (spill_of n)) (pos 0) (pos 0) (numbered_reservoir h n).spill_cost (total_none _ (all_thermals h) (λ j. refl)) (total_none _ (all_buses h) (λ b. refl))
              (total_below (length h.reservoirs) _ (λ m. same_place n m *ℤ (numbered_reservoir h m).spill_cost) (λ m q. of_reservoirs h i m n q p (numbered_reservoir h m).spill_cost ∙ ap (λ (s : ℤ). s *ℤ (numbered_reservoir h m).spill_cost) (same_turned m n))
              ∙ total_same (length h.reservoirs) n (λ m. (numbered_reservoir h m).spill_cost) p)
              ∙ +ℤ_idl (numbered_reservoir h n).spill_cost;
          thermal = λ n p. costs_are (decided (thermal_of n)) (thermal h n).cost (pos 0) (pos 0)
              (total_below (length h.thermals) _ (λ m. same_place n m *ℤ (thermal h m).cost) (λ m q. of_thermals h i m n q p (thermal h m).cost ∙ ap (λ (s : ℤ). s *ℤ (thermal h m).cost) (same_turned m n)) ∙ total_same (length h.thermals) n (λ m. (thermal h m).cost) p)
              (total_none _ (all_buses h) (λ b. refl)) (total_none _ (all_reservoirs h) (λ j. refl)) ∙ +ℤ_idr ((thermal h n).cost +ℤ pos 0) ∙ +ℤ_idr (thermal h n).cost;
          line = λ n p. none (decided (line_of n)) (λ j. refl) (λ j. refl) (λ j. refl);
          deficit = λ n p. costs_are (decided (deficit_of n)) (pos 0) (bus h n).deficit_cost (pos 0) (total_none _ (all_thermals h) (λ j. refl))
              (total_below (length h.buses) _ (λ m. same_place n m *ℤ (bus h m).deficit_cost) (λ m q. of_buses h i m n q p (bus h m).deficit_cost ∙ ap (λ (s : ℤ). s *ℤ (bus h m).deficit_cost) (same_turned m n)) ∙ total_same (length h.buses) n (λ m. (bus h m).deficit_cost) p)
              (total_none _ (all_reservoirs h) (λ j. refl)) ∙ +ℤ_idr (pos 0 +ℤ (bus h n).deficit_cost) ∙ +ℤ_idl (bus h n).deficit_cost;
        };
      }
