-- Which variables of a stage's text are decided, where states stand among them, and how many there are.
use Rattle.std.proofs.Common.{◌≡◌, ℕ, zero, suc, pos, ◌+◌, ◌*◌, ◌<◌, ◌≤◌, List, [], ◌∷◌, ◌++◌, length, map, filter, get_or, slice_get, sum, All, Bool, true, false, nat_le, if◌then◌else◌, Option, Some, None, refl, sym, ap, ap₂, subst, ◌∙◌, arith}
use Rattle.std.specs.List.{AllByRecursion, flat_map}
use Rattle.std.proofs.lemmas.Bool.{le-leb}
use Rattle.std.proofs.lemmas.List.{length-append, length-map, map-append}
use Rattle.std.proofs.lemmas.List.Elements.{All-from_recursion, All-head, filter-append}
use Rattle.std.proofs.lemmas.List.Sums.{sum_by-cons}
use Rattle.std.proofs.lemmas.List.FromFn.{length-range_with_len, get_or-range_with_len, fill_by_all}
use Rattle.base_graph.specs.Paths.{numbers}
use Rattle.hydro_read.specs.declared.plants.Reservoir.{Reservoir}
use Rattle.hydro_read.specs.declared.plants.Travel.{Travel}
use Rattle.hydro_read.specs.declared.plants.Plants.{Plants}
use Rattle.hydro_read.specs.Grid.{state_count, travel_stages}
use Rattle.hydro_make.specs.Layout.{travel_of, HydroStore, volume_of, way_of, Variable, after, turbine_of, spill_of, thermal_of, line_of, deficit_of, Chance, inflow_of, demand_of, numbered_reservoir, travel, all_reservoirs, all_thermals, all_lines, all_buses, steps, ways, stores, variables_of, hydro_variables, chances, layout_place}
use Rattle.hydro_make.specs.Columns.{Column, before, random, decided, way_columns, reservoir_columns, bus_columns, columns}
use Rattle.hydro_make.proofs.Lists.{All-left, All-right, each_all, each_flat}
use Rattle.hydro_make.proofs.Places.{map_map, run_variables}
use Rattle.hydro_accept.proofs.Named.{some_is, map_ext}
use Rattle.hydro_accept.proofs.Listing.{OfStores, OfChances}

-- ---- what is decided

abbrev pub is_choice : Column → Bool
is_choice (before s) = false
is_choice (random c) = false
is_choice (decided v) = true

filter_flat : {A B : Type 0} (test : B → Bool) (f : A → List B) (xs : List A) → filter test (flat_map f xs) ≡ flat_map (λ x. filter test (f x)) xs
filter_flat test f [] = refl
filter_flat test f (x ∷ xs) = filter-append test (f x) (flat_map f xs) ∙ ap (λ ys. filter test (f x) ++ ys) (filter_flat test f xs)

pub flat_ext : {A B : Type 0} (f g : A → List B) (xs : List A) → ((x : A) → f x ≡ g x) → flat_map f xs ≡ flat_map g xs
flat_ext f g [] h = refl
flat_ext f g (x ∷ xs) h = ap₂ ◌++◌ (h x) (flat_ext f g xs h)

pub map_flat : {A B C : Type 0} (g : B → C) (f : A → List B) (xs : List A) → map g (flat_map f xs) ≡ flat_map (λ x. map g (f x)) xs
map_flat g f [] = refl
map_flat g f (x ∷ xs) = map-append g (f x) (flat_map f xs) ∙ ap (λ ys. map g (f x) ++ ys) (map_flat g f xs)

flat_single : {A B : Type 0} (f : A → B) (xs : List A) → flat_map (λ x. f x ∷ []) xs ≡ map f xs
flat_single f [] = refl
flat_single f (x ∷ xs) = ap (λ ys. f x ∷ ys) (flat_single f xs)

all_kept : (f : ℕ → Variable) (ns : List ℕ) → filter is_choice (map (λ n. decided (f n)) ns) ≡ map decided (map f ns)
all_kept f [] = refl
all_kept f (n ∷ ns) = ap (λ ys. decided (f n) ∷ ys) (all_kept f ns)

module _ (h : Plants) where
  of_reservoir : (j : ℕ) → filter is_choice (reservoir_columns h j) ≡ map decided (variables_of h j)
  unfolding reservoir_columns
  of_reservoir j =
      ap (λ ys. decided (after (volume_of j)) ∷ decided (turbine_of j) ∷ decided (spill_of j) ∷ ys)
      (filter_flat is_choice (way_columns j) (steps (travel h j)) ∙ flat_single (λ k. decided (after (way_of j k))) (steps (travel h j)) ∙ sym (map_map decided (λ k. after (way_of j k)) (steps (travel h j))))

  pub choices : filter is_choice (columns h) ≡ map decided (hydro_variables h)
  unfolding columns
  choices =
      let rs : List Column = flat_map (reservoir_columns h) (all_reservoirs h) in
      let ts : List Column = map (λ i. decided (thermal_of i)) (all_thermals h) in
      let ls : List Column = map (λ l. decided (line_of l)) (all_lines h) in
      let vs : List Variable = flat_map (variables_of h) (all_reservoirs h) in
      filter-append is_choice (rs ++ ts ++ ls) (flat_map bus_columns (all_buses h))
      ∙ ap₂ ◌++◌ (filter-append is_choice (rs ++ ts) ls ∙ ap₂ ◌++◌ (filter-append is_choice rs ts
      ∙ ap₂ ◌++◌ (filter_flat is_choice (reservoir_columns h) (all_reservoirs h) ∙ flat_ext (λ j. filter is_choice (reservoir_columns h j)) (λ j. map decided (variables_of h j)) (all_reservoirs h) of_reservoir ∙ sym (map_flat decided (variables_of h) (all_reservoirs h))) (all_kept thermal_of (all_thermals h)))
      (all_kept line_of (all_lines h))) (filter_flat is_choice bus_columns (all_buses h) ∙ flat_single (λ b. decided (deficit_of b)) (all_buses h) ∙ sym (map_map decided deficit_of (all_buses h)))
      ∙ sym (map-append decided (vs ++ map thermal_of (all_thermals h) ++ map line_of (all_lines h)) (map deficit_of (all_buses h))
      ∙ ap (λ ys. ys ++ map decided (map deficit_of (all_buses h))) (map-append decided (vs ++ map thermal_of (all_thermals h)) (map line_of (all_lines h)) ∙ ap (λ ys. ys ++ map decided (map line_of (all_lines h))) (map-append decided vs (map thermal_of (all_thermals h)))))

-- ---- where states stand

module _ (h : Plants) where
  -- a property of all states holds of each
  pub of_stores : (P : HydroStore → Type 0) → AllByRecursion P (stores h) → ((j : ℕ) → travel h j ≤ 3) → OfStores h P
  of_stores P a few =
      let all : All P (flat_map (ways h) (steps 3) ++ map volume_of (all_reservoirs h)) = All-from_recursion P (stores h) a in
      record {
        volume = each_all P volume_of (length h.reservoirs) (All-right P (flat_map (ways h) (steps 3)) (map volume_of (all_reservoirs h)) all);
        way = λ j k p low high. let most = few j in one j k high (each_flat P (λ n. if nat_le k (travel h n) then way_of n k ∷ [] else []) (length h.reservoirs) (at k low (omega arith) (All-left P (flat_map (ways h) (steps 3)) (map volume_of (all_reservoirs h)) all)) j p);
      }
    where
      one : (j k : ℕ) → k ≤ travel h j → All P (if nat_le k (travel h j) then way_of j k ∷ [] else []) → P (way_of j k)
      one j k high a = All-head P (way_of j k) [] (subst (λ b. All P (if b then way_of j k ∷ [] else [])) (le-leb k (travel h j) high) a)

      suc_flat : (ns : List ℕ) → flat_map (ways h) (map suc ns) ≡ flat_map (λ n. ways h (suc n)) ns
      suc_flat [] = refl
      suc_flat (n ∷ ns) = ap (λ ss. ways h (suc n) ++ ss) (suc_flat ns)

      at : (k : ℕ) → 1 ≤ k → k ≤ 3 → All P (flat_map (ways h) (steps 3)) → All P (ways h k)
      at zero low high a = absurd (omega arith)
      at (suc k) low high a = each_flat P (λ m. ways h (suc m)) 3 (subst (All P) (suc_flat (numbers 3)) a) k (omega arith)

  pub of_chances : (P : Chance → Type 0) → AllByRecursion P (chances h) → OfChances h P
  of_chances P a =
      let all : All P (map inflow_of (all_reservoirs h) ++ map demand_of (all_buses h)) = All-from_recursion P (chances h) a in
      record {
        inflow = each_all P inflow_of (length h.reservoirs) (All-left P (map inflow_of (all_reservoirs h)) (map demand_of (all_buses h)) all);
        demand = each_all P demand_of (length h.buses) (All-right P (map inflow_of (all_reservoirs h)) (map demand_of (all_buses h)) all);
      }

  -- a variable stands at its place
  pub placed : (v : Variable) (k : ℕ) → slice_get (hydro_variables h) k ≡ Some v → layout_place h v ≡ k
  placed v k at =
      let less = inside (hydro_variables h) k at in
      sym (mapped (hydro_variables h) k at) ∙ ap (λ (ks : List ℕ). get_or ks k 0) (run_variables h) ∙ get_or-range_with_len 0 (length (hydro_variables h)) k 0 less ∙ none k
    where
      none : (n : ℕ) → 0 + n ≡ n
      none n = omega arith

      inside : (vs : List Variable) (k : ℕ) → slice_get vs k ≡ Some v → k < length vs
      inside [] k at = absurd cc
      inside (w ∷ ws) zero at = omega arith
      inside (w ∷ ws) (suc k) at = let less = inside ws k at in omega arith

      mapped : (vs : List Variable) (k : ℕ) → slice_get vs k ≡ Some v → get_or (map (layout_place h) vs) k 0 ≡ layout_place h v
      mapped [] k at = absurd cc
      mapped (w ∷ ws) zero at = ap (layout_place h) (some_is w v at)
      mapped (w ∷ ws) (suc k) at = mapped ws k at

-- ---- how many there are

pub flat_length : {A : Type 0} (f : ℕ → List A) (size : ℕ → ℕ) (ns : List ℕ) → ((n : ℕ) → length (f n) ≡ size n) → length (flat_map f ns) ≡ sum (map size ns)
flat_length f size [] e = refl
flat_length f size (n ∷ ns) e = length-append (f n) (flat_map f ns) ∙ ap₂ ◌+◌ (e n) (flat_length f size ns e) ∙ sym (sum_by-cons (λ k. k) (size n) (map size ns))

sum_more : (a b : ℕ → ℕ) (c : ℕ) (ns : List ℕ) → ((n : ℕ) → a n ≡ c + b n) → sum (map a ns) ≡ c * length ns + sum (map b ns)
sum_more a b c [] e = omega arith
sum_more a b c (n ∷ ns) e =
    let first = sum_by-cons (λ k. k) (a n) (map a ns) in
    let second = sum_by-cons (λ k. k) (b n) (map b ns) in
    let here = e n in
    let tail = sum_more a b c ns e in
    first ∙ ap₂ ◌+◌ here tail ∙ regroup c (b n) (length ns) (sum (map b ns)) ∙ ap (λ (k : ℕ). c * length (n ∷ ns) + k) (sym second)
  where
    regroup : (c x l s : ℕ) → c + x + (c * l + s) ≡ c * suc l + (x + s)
    regroup c x l s = omega arith

module _ (h : Plants) where
  abbrev pub travels : ℕ
  travels = sum (map (travel h) (all_reservoirs h))

  same_travel : (o : Option Travel) → travel_of o ≡ travel_stages o
  same_travel None = refl
  same_travel (Some t) = refl

  travels_by : map (travel h) (all_reservoirs h) ≡ map (λ (r : Reservoir). travel_stages r.downstream) h.reservoirs
  travels_by =
      map_ext (travel h) (λ j. travel_stages (numbered_reservoir h j).downstream) (all_reservoirs h) (λ j. same_travel (numbered_reservoir h j).downstream)
      ∙ sym (map_map (λ (r : Reservoir). travel_stages r.downstream) (numbered_reservoir h) (all_reservoirs h))
      ∙ ap (map (λ (r : Reservoir). travel_stages r.downstream)) (sym (fill_by_all (numbered_reservoir h) h.reservoirs (length h.reservoirs) (numbered_reservoir h (length h.reservoirs)) refl (λ k p. inside h.reservoirs k p)))
    where
      inside : (rs : List Reservoir) (k : ℕ) → k < length rs → get_or rs k (numbered_reservoir h (length h.reservoirs)) ≡ get_or rs k (record { name = []; bus = 0; low = pos 0; high = pos 0; initial = pos 0; turbine = pos 0; spill = pos 0; factor = pos 0; spill_cost = pos 0; downstream = None })
      inside [] k p = absurd (omega arith)
      inside (r ∷ rs) zero p = refl
      inside (r ∷ rs) (suc k) p = inside rs k (omega arith)

  pub travels_are : length h.reservoirs + travels ≡ state_count h.reservoirs
  unfolding state_count
  travels_are = ap (λ (ns : List ℕ). length h.reservoirs + sum ns) travels_by

  ways_length : (j : ℕ) → length (variables_of h j) ≡ 3 + travel h j
  ways_length j = let n = length-map (steps (travel h j)) (λ k. after (way_of j k)) ∙ length-map (numbers (travel h j)) suc ∙ length-range_with_len 0 (travel h j) in omega (arith, n)

  kind_length : (f : ℕ → Variable) (n : ℕ) → length (map f (numbers n)) ≡ n
  kind_length f n = length-map (numbers n) f ∙ length-range_with_len 0 n

  pub length-hydro_variables : length (hydro_variables h) ≡ 3 * length h.reservoirs + travels + length h.thermals + length h.lines + length h.buses
  length-hydro_variables =
      let vs : List Variable = flat_map (variables_of h) (all_reservoirs h) in
      let a = length-append (vs ++ map thermal_of (all_thermals h) ++ map line_of (all_lines h)) (map deficit_of (all_buses h)) in
      let b = length-append (vs ++ map thermal_of (all_thermals h)) (map line_of (all_lines h)) in
      let c = length-append vs (map thermal_of (all_thermals h)) in
      let v = flat_length (variables_of h) (λ j. 3 + travel h j) (all_reservoirs h) ways_length ∙ sum_more (λ j. 3 + travel h j) (travel h) 3 (all_reservoirs h) (λ j. refl) in
      let n = length-range_with_len 0 (length h.reservoirs) in
      let t = kind_length thermal_of (length h.thermals) in
      let l = kind_length line_of (length h.lines) in
      let u = kind_length deficit_of (length h.buses) in
      omega (arith, a, b, c, v, n, t, l, u)
