-- The names in the text of hydro plants rise in the order in which they are written.
use Rattle.std.proofs.Common.{◌≡◌, ℕ, suc, ◌/◌, ◌<◌, List, [], ◌∷◌, ◌++◌, length, map, Greater, nat_cmp, nat_le, refl, sym, ap, subst, ◌∙◌, arith, append_assoc, append-nil}
use Rattle.std.specs.List.{AllByRecursion}
use Rattle.std.specs.Cmp.Lexicographic.{slice_cmp}
use Rattle.std.proofs.lemmas.Bool.{cases_lt}
use Rattle.hydro_form.specs.Listed.{digit}
use Rattle.hydro_form.proofs.Orders.{later_less, three_digits, above_from_below}
use Rattle.hydro_form.proofs.Rises.{Before, Rises, AllBefore, each_append, each_of_all, each_of_map, each_if, rises_append, rises_if, rises_flat, rises_map, rises_next, before_at}
use Rattle.hydro_read.specs.declared.plants.Bus.{Bus}
use Rattle.hydro_read.specs.declared.plants.Reservoir.{Reservoir}
use Rattle.hydro_read.specs.declared.plants.Plants.{Plants}
use Rattle.hydro_read.specs.Described.{IsPlants}
use Rattle.hydro_make.specs.Layout.{HydroStore, volume_of, way_of, inflow_of, demand_of, numbered_reservoir, bus, travel, all_reservoirs, all_buses, way_at, ways, stores}
use Rattle.hydro_make.specs.Columns.{named, state_name, chance_name}
use Rattle.hydro_make.specs.Nodes.{node_name}

abbrev volumes : Plants → List HydroStore
volumes h = map volume_of (all_reservoirs h)

module _ (h : Plants) (known : IsPlants h) where
  reservoirs_rise : (i j : ℕ) → i < j → j < length h.reservoirs → Before (numbered_reservoir h i).name (numbered_reservoir h j).name
  reservoirs_rise i j l m = before_at (λ (r : Reservoir). r.name) h.reservoirs i j _ (rises_next (λ (r : Reservoir). r.name) h.reservoirs known.names.reservoirs) l m

  buses_rise : (i j : ℕ) → i < j → j < length h.buses → Before (bus h i).name (bus h j).name
  buses_rise i j l m = before_at (λ (b : Bus). b.name) h.buses i j _ (rises_next (λ (b : Bus). b.name) h.buses known.names.buses) l m

  pub chances_rise : Rises (chance_name h) (map demand_of (all_buses h) ++ map inflow_of (all_reservoirs h))
  unfolding chance_name named
  chances_rise =
      rises_append (chance_name h) (map demand_of (all_buses h)) (map inflow_of (all_reservoirs h)) (rises_map (chance_name h) demand_of (length h.buses) buses_rise) (rises_map (chance_name h) inflow_of (length h.reservoirs) reservoirs_rise)
      (each_of_map (λ x. AllByRecursion (λ y. Before (chance_name h x) (chance_name h y)) (map inflow_of (all_reservoirs h))) demand_of (length h.buses)
      (λ b l. each_of_map (λ y. Before (chance_name h (demand_of b)) (chance_name h y)) inflow_of (length h.reservoirs) (λ j m. refl)))

  -- the water that is k stages away, where its names rise as those of the reservoirs
  ways_rise : (k : ℕ) → ((i j : ℕ) → i < j → j < length h.reservoirs → Before (state_name h (way_of i k)) (state_name h (way_of j k))) → Rises (state_name h) (ways h k)
  ways_rise k r =
      rises_flat (state_name h) (way_at h k) (length h.reservoirs) (λ i l. rises_if (state_name h) (nat_le k (travel h i)) (way_of i k))
      (λ i j l m. each_if (λ x. AllByRecursion (λ y. Before (state_name h x) (state_name h y)) (way_at h k j)) (nat_le k (travel h i)) (way_of i k)
      (each_if (λ y. Before (state_name h (way_of i k)) (state_name h y)) (nat_le k (travel h j)) (way_of j k) (r i j l m)))

  ways_before : (k : ℕ) (ys : List HydroStore) → ((i : ℕ) → AllByRecursion (λ y. Before (state_name h (way_of i k)) (state_name h y)) ys) → AllBefore (state_name h) (ways h k) ys
  ways_before k ys b =
      each_of_all (λ x. AllByRecursion (λ y. Before (state_name h x) (state_name h y)) ys) (way_at h k) (length h.reservoirs)
      (λ i l. each_if (λ x. AllByRecursion (λ y. Before (state_name h x) (state_name h y)) ys) (nat_le k (travel h i)) (way_of i k) (b i))

  -- a property of all water that is k stages away, and of all volumes
  each_way : (P : HydroStore → Type 0) (k : ℕ) → ((j : ℕ) → P (way_of j k)) → AllByRecursion P (ways h k)
  each_way P k p = each_of_all P (way_at h k) (length h.reservoirs) (λ j l. each_if P (nat_le k (travel h j)) (way_of j k) (p j))

  each_volume : (P : HydroStore → Type 0) → ((j : ℕ) → P (volume_of j)) → AllByRecursion P (volumes h)
  each_volume P p = each_of_map P volume_of (length h.reservoirs) (λ j l. p j)

  third_rises : Rises (state_name h) (ways h 3 ++ volumes h)
  unfolding state_name named
  third_rises =
      rises_append (state_name h) (ways h 3) (volumes h) (ways_rise 3 reservoirs_rise) (rises_map (state_name h) volume_of (length h.reservoirs) reservoirs_rise)
      (ways_before 3 (volumes h) (λ i. each_volume (λ y. Before (state_name h (way_of i 3)) (state_name h y)) (λ j. refl)))

  second_rises : Rises (state_name h) (ways h 2 ++ (ways h 3 ++ volumes h))
  unfolding state_name named
  second_rises =
      rises_append (state_name h) (ways h 2) (ways h 3 ++ volumes h) (ways_rise 2 reservoirs_rise) third_rises
      (ways_before 2 (ways h 3 ++ volumes h)
      (λ i. let P : HydroStore → Type 0 = λ y. Before (state_name h (way_of i 2)) (state_name h y) in each_append P (ways h 3) (volumes h) (each_way P 3 (λ j. refl)) (each_volume P (λ j. refl))))

  first_rises : Rises (state_name h) (ways h 1 ++ (ways h 2 ++ (ways h 3 ++ volumes h)))
  unfolding state_name named
  first_rises =
      rises_append (state_name h) (ways h 1) (ways h 2 ++ (ways h 3 ++ volumes h)) (ways_rise 1 reservoirs_rise) second_rises
      (ways_before 1 (ways h 2 ++ (ways h 3 ++ volumes h))
      (λ i. let P : HydroStore → Type 0 = λ y. Before (state_name h (way_of i 1)) (state_name h y) in
      each_append P (ways h 2) (ways h 3 ++ volumes h) (each_way P 2 (λ j. refl)) (each_append P (ways h 3) (volumes h) (each_way P 3 (λ j. refl)) (each_volume P (λ j. refl)))))

  regrouped : stores h ≡ ways h 1 ++ (ways h 2 ++ (ways h 3 ++ volumes h))
  regrouped =
      let a = ways h 1 in
      let b = ways h 2 in
      let c = ways h 3 in
      append_assoc a (b ++ (c ++ [])) (volumes h) ∙ ap (λ (l : List HydroStore). a ++ l) (append_assoc b (c ++ []) (volumes h) ∙ ap (λ (l : List HydroStore). b ++ (l ++ volumes h)) (append-nil c))

  pub stores_rise : Rises (state_name h) (stores h)
  stores_rise = subst (Rises (state_name h)) (sym regrouped) first_rises

-- ---- nodes

pub nodes_rise : (i j : ℕ) → i < j → j < 999 → Before (node_name i) (node_name j)
unfolding node_name
nodes_rise i j l few =
    let s = suc i in
    let t = suc j in
    later_less 115 115 (digit (s / 100) ∷ digit (s / 10) ∷ digit s ∷ []) (digit (t / 100) ∷ digit (t / 10) ∷ digit t ∷ []) refl
    (three_digits (digit (s / 100)) (digit (s / 10)) (digit s) (digit (t / 100)) (digit (t / 10)) (digit t) [] [] (cases_lt _ _) (cases_lt _ _) (cases_lt _ _) (omega arith) (λ e. omega arith) (λ e f. omega arith) (λ e f g. absurd (omega arith)))

pub node_above : (i j : ℕ) → i < j → j < 999 → slice_cmp nat_cmp (node_name j) (node_name i) ≡ Greater
node_above i j l few = above_from_below (node_name i) (node_name j) (nodes_rise i j l few)
