-- The names of states rise, and so do those of random variables.
use Rattle.std.proofs.Common.{◌≡◌, ℕ, suc, ◌<◌, ◌≤◌, List, [], ◌∷◌, ◌++◌, length, map, Bool, true, false, nat_le, if◌then◌else◌, bytes_eq, refl, ◌∙◌, arith}
use Rattle.std.specs.List.{AllByRecursion, flat_map}
use Rattle.base_graph.specs.Paths.{numbers}
use Rattle.hydro_form.specs.Listed.{digit}
use Rattle.hydro_read.specs.declared.plants.Plants.{Plants}
use Rattle.hydro_read.specs.Described.{IsPlants}
use Rattle.hydro_make.specs.Layout.{HydroStore, volume_of, way_of, after, Chance, inflow_of, demand_of, numbered_reservoir, bus, travel, all_reservoirs, all_buses, steps, ways, stores, chances}
use Rattle.hydro_make.specs.Columns.{Column, before, random, decided, named, state_name, before_name, after_name, variable_name, chance_name, column_name}
use Rattle.hydro_accept.proofs.Named.{Distinct}
use Rattle.hydro_accept.proofs.Pairs.{first_less, later_less, Pairwise, Across, Before, all_weaker, all_of, all_map, all_flat_map, pair_append, pair_map, pair_flat_map, pair_numbers}
use Rattle.hydro_accept.proofs.Apart.{apart_of, digit_less, reservoirs_rise, buses_rise}
use Rattle.hydro_accept.proofs.Uses.{both}

-- ---- lists of at most one

pair_if : {A : Type 0} (R : A → A → Type 0) (b : Bool) (x : A) → Pairwise R (if b then x ∷ [] else [])
pair_if R true x = (tt, tt)
pair_if R false x = tt

all_if : {A : Type 0} (P : A → Type 0) (b : Bool) (x : A) → P x → AllByRecursion P (if b then x ∷ [] else [])
all_if P true x p = (p, tt)
all_if P false x p = tt

module _ (h : Plants) (i : IsPlants h) where
  abbrev Rises : HydroStore → HydroStore → Type 0
  Rises s t = Before (state_name h) s t

  nearer_first : (j k n m : ℕ) → k < m → m ≤ 9 → Rises (way_of j k) (way_of n m)
  unfolding state_name named
  nearer_first j k n m p q = later_less 112 (digit k ∷ 58 ∷ (numbered_reservoir h j).name) (digit m ∷ 58 ∷ (numbered_reservoir h n).name) (first_less (digit k) (digit m) (58 ∷ (numbered_reservoir h j).name) (58 ∷ (numbered_reservoir h n).name) (digit_less k m p q))

  one_distance : (k j n : ℕ) → j < n → n < length h.reservoirs → Rises (way_of j k) (way_of n k)
  unfolding state_name named
  one_distance k j n p q = later_less 112 (digit k ∷ 58 ∷ (numbered_reservoir h j).name) (digit k ∷ 58 ∷ (numbered_reservoir h n).name) (later_less (digit k) (58 ∷ (numbered_reservoir h j).name) (58 ∷ (numbered_reservoir h n).name) (later_less 58 (numbered_reservoir h j).name (numbered_reservoir h n).name (reservoirs_rise h i j n p q)))

  volume_last : (j k n : ℕ) → Rises (way_of j k) (volume_of n)
  unfolding state_name named
  volume_last j k n = first_less 112 118 (digit k ∷ 58 ∷ (numbered_reservoir h j).name) (58 ∷ (numbered_reservoir h n).name) (omega arith)

  volumes_rise : (j n : ℕ) → j < n → n < length h.reservoirs → Rises (volume_of j) (volume_of n)
  unfolding state_name named
  volumes_rise j n p q = later_less 118 (58 ∷ (numbered_reservoir h j).name) (58 ∷ (numbered_reservoir h n).name) (later_less 58 (numbered_reservoir h j).name (numbered_reservoir h n).name (reservoirs_rise h i j n p q))

  abbrev at_way : ℕ → ℕ → List HydroStore
  at_way k j = if nat_le k (travel h j) then way_of j k ∷ [] else []

  -- each way k is one of a reservoir
  all_ways : (P : HydroStore → Type 0) (k : ℕ) → ((j : ℕ) → P (way_of j k)) → AllByRecursion P (ways h k)
  all_ways P k f = all_flat_map P (at_way k) (all_reservoirs h) (all_of (λ j. AllByRecursion P (at_way k j)) (λ j. all_if P (nat_le k (travel h j)) (way_of j k) (f j)) (all_reservoirs h))

  pub stores_rise : Pairwise (Before (state_name h)) (stores h)
  stores_rise =
      pair_append Rises (flat_map (ways h) (steps 3)) (map volume_of (all_reservoirs h))
      (pair_flat_map Rises (ways h) (steps 3)
      (all_of (λ k. Pairwise Rises (ways h k)) (λ k. pair_flat_map Rises (at_way k) (all_reservoirs h) (all_of (λ j. Pairwise Rises (at_way k j)) (λ j. pair_if Rises (nat_le k (travel h j)) (way_of j k)) (all_reservoirs h))
      (pair_numbers (λ j n. Across Rises (at_way k j) (at_way k n)) (length h.reservoirs)
      (λ j n p q. all_if (λ s. AllByRecursion (Rises s) (at_way k n)) (nat_le k (travel h j)) (way_of j k) (all_if (Rises (way_of j k)) (nat_le k (travel h n)) (way_of n k) (one_distance k j n p q))))) (steps 3))
      (pair_map (λ k m. Across Rises (ways h k) (ways h m)) suc (numbers 3)
      (pair_numbers (λ k m. Across Rises (ways h (suc k)) (ways h (suc m))) 3
      (λ k m p q. all_ways (λ s. AllByRecursion (Rises s) (ways h (suc m))) (suc k) (λ j. all_ways (Rises (way_of j (suc k))) (suc m) (λ n. nearer_first j (suc k) n (suc m) (omega arith) (omega arith)))))))
      (pair_map Rises volume_of (all_reservoirs h) (pair_numbers (λ j n. Rises (volume_of j) (volume_of n)) (length h.reservoirs) volumes_rise))
      (all_flat_map (λ s. AllByRecursion (Rises s) (map volume_of (all_reservoirs h))) (ways h) (steps 3)
      (all_of (λ k. AllByRecursion (λ s. AllByRecursion (Rises s) (map volume_of (all_reservoirs h))) (ways h k))
      (λ k. all_ways (λ s. AllByRecursion (Rises s) (map volume_of (all_reservoirs h))) k (λ j. all_map (Rises (way_of j k)) volume_of (all_reservoirs h) (all_of (λ n. Rises (way_of j k) (volume_of n)) (volume_last j k) (all_reservoirs h)))) (steps 3)))

  -- the demands by bus, then the inflows by reservoir
  abbrev pub supports : List Chance
  supports = map demand_of (all_buses h) ++ map inflow_of (all_reservoirs h)

  demands_rise : (j n : ℕ) → j < n → n < length h.buses → Before (chance_name h) (demand_of j) (demand_of n)
  unfolding chance_name named
  demands_rise j n p q = later_less 100 (58 ∷ (bus h j).name) (58 ∷ (bus h n).name) (later_less 58 (bus h j).name (bus h n).name (buses_rise h i j n p q))

  inflows_rise : (j n : ℕ) → j < n → n < length h.reservoirs → Before (chance_name h) (inflow_of j) (inflow_of n)
  unfolding chance_name named
  inflows_rise j n p q = later_less 119 (58 ∷ (numbered_reservoir h j).name) (58 ∷ (numbered_reservoir h n).name) (later_less 58 (numbered_reservoir h j).name (numbered_reservoir h n).name (reservoirs_rise h i j n p q))

  inflow_last : (j n : ℕ) → Before (chance_name h) (demand_of j) (inflow_of n)
  unfolding chance_name named
  inflow_last j n = first_less 100 119 (58 ∷ (bus h j).name) (58 ∷ (numbered_reservoir h n).name) (omega arith)

  pub supports_rise : Pairwise (Before (chance_name h)) supports
  supports_rise =
      pair_append (Before (chance_name h)) (map demand_of (all_buses h)) (map inflow_of (all_reservoirs h))
      (pair_map (Before (chance_name h)) demand_of (all_buses h) (pair_numbers (λ j n. Before (chance_name h) (demand_of j) (demand_of n)) (length h.buses) demands_rise))
      (pair_map (Before (chance_name h)) inflow_of (all_reservoirs h) (pair_numbers (λ j n. Before (chance_name h) (inflow_of j) (inflow_of n)) (length h.reservoirs) inflows_rise))
      (all_map (λ c. AllByRecursion (Before (chance_name h) c) (map inflow_of (all_reservoirs h))) demand_of (all_buses h)
      (all_of (λ b. AllByRecursion (Before (chance_name h) (demand_of b)) (map inflow_of (all_reservoirs h))) (λ b. all_map (Before (chance_name h) (demand_of b)) inflow_of (all_reservoirs h) (all_of (λ j. Before (chance_name h) (demand_of b) (inflow_of j)) (inflow_last b) (all_reservoirs h))) (all_buses h)))

  -- ---- what states use, and what is random

  abbrev Apart : Column → Column → Type 0
  Apart c d = bytes_eq (column_name h c) (column_name h d) ≡ false

  like_before : (s t : HydroStore) → bytes_eq (column_name h (before s)) (column_name h (before t)) ≡ bytes_eq (state_name h s) (state_name h t)
  unfolding state_name column_name before_name named
  like_before (volume_of j) (volume_of n) = refl
  like_before (volume_of j) (way_of n m) = refl
  like_before (way_of j k) (volume_of n) = refl
  like_before (way_of j k) (way_of n m) = refl

  like_after : (s t : HydroStore) → bytes_eq (column_name h (decided (after s))) (column_name h (decided (after t))) ≡ bytes_eq (state_name h s) (state_name h t)
  unfolding state_name column_name variable_name after_name named
  like_after (volume_of j) (volume_of n) = refl
  like_after (volume_of j) (way_of n m) = refl
  like_after (way_of j k) (volume_of n) = refl
  like_after (way_of j k) (way_of n m) = refl

  pub before_after : (s t : HydroStore) → Apart (before s) (decided (after t))
  unfolding column_name variable_name before_name after_name named
  before_after (volume_of j) (volume_of n) = refl
  before_after (volume_of j) (way_of n m) = refl
  before_after (way_of j k) (volume_of n) = refl
  before_after (way_of j k) (way_of n m) = refl

  pub after_before : (s t : HydroStore) → Apart (decided (after s)) (before t)
  unfolding column_name variable_name before_name after_name named
  after_before (volume_of j) (volume_of n) = refl
  after_before (volume_of j) (way_of n m) = refl
  after_before (way_of j k) (volume_of n) = refl
  after_before (way_of j k) (way_of n m) = refl

  pub before_random : (s : HydroStore) (c : Chance) → Apart (before s) (random c)
  unfolding column_name before_name chance_name named
  before_random (volume_of j) (inflow_of n) = refl
  before_random (volume_of j) (demand_of n) = refl
  before_random (way_of j k) (inflow_of n) = refl
  before_random (way_of j k) (demand_of n) = refl

  pub after_random : (s : HydroStore) (c : Chance) → Apart (decided (after s)) (random c)
  unfolding column_name variable_name after_name chance_name named
  after_random (volume_of j) (inflow_of n) = refl
  after_random (volume_of j) (demand_of n) = refl
  after_random (way_of j k) (inflow_of n) = refl
  after_random (way_of j k) (demand_of n) = refl

  -- the variables that states use
  abbrev pub used : List HydroStore → List Column
  used ss = both (column_name h) before (λ s. decided (after s)) ss

  beside_used : (s : HydroStore) (c : Column) (ts : List HydroStore) → AllByRecursion (λ t. Apart c (before t) × Apart c (decided (after t))) ts → AllByRecursion (Apart c) (used ts)
  beside_used s c [] a = tt
  beside_used s c (t ∷ ts) a = (a.0.0, (a.0.1, beside_used s c ts a.1))

  used_apart : (ss : List HydroStore) → Pairwise Rises ss → Pairwise Apart (used ss)
  used_apart [] p = tt
  used_apart (s ∷ ss) p =
      ((before_after s s, beside_used s (before s) ss (all_weaker (Rises s) (λ t. Apart (before s) (before t) × Apart (before s) (decided (after t))) (λ t e. (like_before s t ∙ apart_of (state_name h s) (state_name h t) e, before_after s t)) ss p.0)), (beside_used s (decided (after s)) ss (all_weaker (Rises s) (λ t. Apart (decided (after s)) (before t) × Apart (decided (after s)) (decided (after t))) (λ t e. (after_before s t, like_after s t ∙ apart_of (state_name h s) (state_name h t) e)) ss p.0), used_apart ss p.1))

  pub distinct_used : Distinct (column_name h) (used (stores h))
  distinct_used = used_apart (stores h) stores_rise

  inflows_apart : (j n : ℕ) → j < n → n < length h.reservoirs → Apart (random (inflow_of j)) (random (inflow_of n))
  unfolding column_name chance_name named
  inflows_apart j n p q = apart_of (numbered_reservoir h j).name (numbered_reservoir h n).name (reservoirs_rise h i j n p q)

  demands_apart : (j n : ℕ) → j < n → n < length h.buses → Apart (random (demand_of j)) (random (demand_of n))
  unfolding column_name chance_name named
  demands_apart j n p q = apart_of (bus h j).name (bus h n).name (buses_rise h i j n p q)

  kinds_apart : (j n : ℕ) → Apart (random (inflow_of j)) (random (demand_of n))
  unfolding column_name chance_name named
  kinds_apart j n = refl

  pub distinct_random : Distinct (column_name h) (map random (chances h))
  distinct_random =
      pair_map Apart random (chances h)
      (pair_append (λ c d. Apart (random c) (random d)) (map inflow_of (all_reservoirs h)) (map demand_of (all_buses h))
      (pair_map (λ c d. Apart (random c) (random d)) inflow_of (all_reservoirs h) (pair_numbers (λ j n. Apart (random (inflow_of j)) (random (inflow_of n))) (length h.reservoirs) inflows_apart))
      (pair_map (λ c d. Apart (random c) (random d)) demand_of (all_buses h) (pair_numbers (λ j n. Apart (random (demand_of j)) (random (demand_of n))) (length h.buses) demands_apart))
      (all_map (λ c. AllByRecursion (λ d. Apart (random c) (random d)) (map demand_of (all_buses h))) inflow_of (all_reservoirs h)
      (all_of (λ j. AllByRecursion (λ d. Apart (random (inflow_of j)) (random d)) (map demand_of (all_buses h))) (λ j. all_map (λ d. Apart (random (inflow_of j)) (random d)) demand_of (all_buses h) (all_of (λ n. Apart (random (inflow_of j)) (random (demand_of n))) (kinds_apart j) (all_buses h))) (all_reservoirs h))))
