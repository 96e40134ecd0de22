-- The variables of a stage's text: the properties of each, their places, and that no two have one name.
use Rattle.std.proofs.Common.{◌≡◌, ℕ, zero, suc, ◌<◌, ◌≤◌, List, [], ◌∷◌, ◌++◌, length, map, All, Bool, true, false, nat_le, if◌then◌else◌, refl, ap, subst, arith}
use Rattle.std.specs.List.{AllByRecursion, flat_map}
use Rattle.std.proofs.lemmas.Bool.{leb-true}
use Rattle.std.proofs.lemmas.List.Elements.{All-from_recursion, recursion_from_All}
use Rattle.base_graph.specs.Paths.{numbers}
use Rattle.hydro_read.specs.declared.plants.Plants.{Plants}
use Rattle.hydro_make.specs.Layout.{HydroStore, volume_of, way_of, Variable, after, turbine_of, spill_of, thermal_of, line_of, deficit_of, Chance, inflow_of, demand_of, travel, all_reservoirs, all_thermals, all_lines, all_buses, steps, ways, stores, variables_of, hydro_variables, chances}
use Rattle.hydro_make.specs.Columns.{Column, before, random, decided, way_columns, reservoir_columns, bus_columns, columns}
use Rattle.hydro_make.proofs.Lists.{All-left, All-right, each_all, each_flat}
use Rattle.hydro_accept.proofs.Pairs.{Somewhere, all_somewhere, all_append, all_map, all_flat_map, all_numbers}

-- ---- what holds of each

pub all_steps : (P : ℕ → Type 0) (n : ℕ) → ((k : ℕ) → 1 ≤ k → k ≤ n → P k) → AllByRecursion P (steps n)
all_steps P n h = all_map P suc (numbers n) (all_numbers (λ k. P (suc k)) n (λ k p. h (suc k) (omega arith) (omega arith)))

pub record OfStores (h : Plants) (P : HydroStore → Type 0) : Type 0 where
  pub volume : (j : ℕ) → j < length h.reservoirs → P (volume_of j)
  pub way : (j k : ℕ) → j < length h.reservoirs → 1 ≤ k → k ≤ travel h j → P (way_of j k)

pub each_store : (h : Plants) (P : HydroStore → Type 0) → OfStores h P → AllByRecursion P (stores h)
each_store h P f =
    all_append P (flat_map (ways h) (steps 3)) (map volume_of (all_reservoirs h))
    (all_flat_map P (ways h) (steps 3) (all_steps (λ k. AllByRecursion P (ways h k)) 3 (λ k low high. all_flat_map P (λ j. if nat_le k (travel h j) then way_of j k ∷ [] else []) (all_reservoirs h) (all_numbers _ (length h.reservoirs) (λ j p. one (nat_le k (travel h j)) j k (λ e. f.way j k p low (leb-true k (travel h j) e)))))))
    (all_map P volume_of (all_reservoirs h) (all_numbers (λ j. P (volume_of j)) (length h.reservoirs) f.volume))
  where
    one : (b : Bool) (j k : ℕ) → (b ≡ true → P (way_of j k)) → AllByRecursion P (if b then way_of j k ∷ [] else [])
    one true j k g = (g refl, tt)
    one false j k g = tt

pub record OfChances (h : Plants) (P : Chance → Type 0) : Type 0 where
  pub inflow : (j : ℕ) → j < length h.reservoirs → P (inflow_of j)
  pub demand : (b : ℕ) → b < length h.buses → P (demand_of b)

pub each_chance : (h : Plants) (P : Chance → Type 0) → OfChances h P → AllByRecursion P (chances h)
each_chance h P f =
    all_append P (map inflow_of (all_reservoirs h)) (map demand_of (all_buses h))
    (all_map P inflow_of (all_reservoirs h) (all_numbers (λ j. P (inflow_of j)) (length h.reservoirs) f.inflow))
    (all_map P demand_of (all_buses h) (all_numbers (λ b. P (demand_of b)) (length h.buses) f.demand))

pub record OfVariables (h : Plants) (P : Variable → Type 0) : Type 0 where
  pub volume : (j : ℕ) → j < length h.reservoirs → P (after (volume_of j))
  pub way : (j k : ℕ) → j < length h.reservoirs → 1 ≤ k → k ≤ travel h j → P (after (way_of j k))
  pub turbine : (j : ℕ) → j < length h.reservoirs → P (turbine_of j)
  pub spill : (j : ℕ) → j < length h.reservoirs → P (spill_of j)
  pub thermal : (i : ℕ) → i < length h.thermals → P (thermal_of i)
  pub line : (l : ℕ) → l < length h.lines → P (line_of l)
  pub deficit : (b : ℕ) → b < length h.buses → P (deficit_of b)

pub each_variable : (h : Plants) (P : Variable → Type 0) → OfVariables h P → AllByRecursion P (hydro_variables h)
each_variable h P f =
    let rs : List Variable = flat_map (variables_of h) (all_reservoirs h) in
    let ts : List Variable = map thermal_of (all_thermals h) in
    let ls : List Variable = map line_of (all_lines h) in
    all_append P (rs ++ ts ++ ls) (map deficit_of (all_buses h))
    (all_append P (rs ++ ts) ls
    (all_append P rs ts
    (all_flat_map P (variables_of h) (all_reservoirs h) (all_numbers (λ j. AllByRecursion P (variables_of h j)) (length h.reservoirs) (λ j p. (f.volume j p, (f.turbine j p, (f.spill j p, all_map P (λ k. after (way_of j k)) (steps (travel h j)) (all_steps (λ k. P (after (way_of j k))) (travel h j) (λ k low high. f.way j k p low high))))))))
    (all_map P thermal_of (all_thermals h) (all_numbers (λ i. P (thermal_of i)) (length h.thermals) f.thermal)))
    (all_map P line_of (all_lines h) (all_numbers (λ l. P (line_of l)) (length h.lines) f.line)))
    (all_map P deficit_of (all_buses h) (all_numbers (λ b. P (deficit_of b)) (length h.buses) f.deficit))

pub record OfColumns (h : Plants) (P : Column → Type 0) : Type 0 where
  pub stores : OfStores h (λ s. P (before s))
  pub chances : OfChances h (λ c. P (random c))
  pub variables : OfVariables h (λ v. P (decided v))

abbrev five : ℕ → List Column
five j = before (volume_of j) ∷ random (inflow_of j) ∷ decided (after (volume_of j)) ∷ decided (turbine_of j) ∷ decided (spill_of j) ∷ []

each_reservoir : (h : Plants) (P : Column → Type 0) → OfColumns h P → (j : ℕ) → j < length h.reservoirs → AllByRecursion P (reservoir_columns h j)
unfolding reservoir_columns
each_reservoir h P f j p =
    all_append P (five j) (flat_map (way_columns j) (steps (travel h j))) (f.stores.volume j p, (f.chances.inflow j p, (f.variables.volume j p, (f.variables.turbine j p, (f.variables.spill j p, tt)))))
    (all_flat_map P (way_columns j) (steps (travel h j)) (all_steps (λ k. AllByRecursion P (way_columns j k)) (travel h j) (λ k low high. (f.stores.way j k p low high, (f.variables.way j k p low high, tt)))))

pub each_column : (h : Plants) (P : Column → Type 0) → OfColumns h P → AllByRecursion P (columns h)
unfolding columns
each_column h P f =
    let rs : List Column = flat_map (reservoir_columns h) (all_reservoirs h) in
    let ts : List Column = map (λ i. decided (thermal_of i)) (all_thermals h) in
    let ls : List Column = map (λ l. decided (line_of l)) (all_lines h) in
    all_append P (rs ++ ts ++ ls) (flat_map bus_columns (all_buses h))
    (all_append P (rs ++ ts) ls
    (all_append P rs ts (all_flat_map P (reservoir_columns h) (all_reservoirs h) (all_numbers (λ j. AllByRecursion P (reservoir_columns h j)) (length h.reservoirs) (each_reservoir h P f)))
    (all_map P (λ i. decided (thermal_of i)) (all_thermals h) (all_numbers (λ i. P (decided (thermal_of i))) (length h.thermals) f.variables.thermal)))
    (all_map P (λ l. decided (line_of l)) (all_lines h) (all_numbers (λ l. P (decided (line_of l))) (length h.lines) f.variables.line)))
    (all_flat_map P bus_columns (all_buses h) (all_numbers (λ b. AllByRecursion P (bus_columns b)) (length h.buses) (λ b p. (f.chances.demand b p, (f.variables.deficit b p, tt)))))

-- ---- what holds of all holds of each

pub of_columns : (h : Plants) (P : Column → Type 0) → AllByRecursion P (columns h) → OfColumns h P
unfolding columns reservoir_columns
of_columns h P a =
    let rs : List Column = flat_map (reservoir_columns h) (all_reservoirs h) in
    let ts : List Column = map (λ i. decided (thermal_of i)) (all_thermals h) in
    let ls : List Column = map (λ l. decided (line_of l)) (all_lines h) in
    let bs : List Column = flat_map bus_columns (all_buses h) in
    let all : All P (rs ++ ts ++ ls ++ bs) = All-from_recursion P (columns h) a in
    let front = All-left P (rs ++ ts ++ ls) bs all in
    let first = All-left P (rs ++ ts) ls front in
    let one : (j : ℕ) → j < length h.reservoirs → AllByRecursion P (five j ++ flat_map (way_columns j) (steps (travel h j))) =
    λ j p. recursion_from_All P (reservoir_columns h j) (each_flat P (reservoir_columns h) (length h.reservoirs) (All-left P rs ts first) j p) in
    let way : (j k : ℕ) → j < length h.reservoirs → 1 ≤ k → k ≤ travel h j → AllByRecursion P (way_columns j k) =
    λ j k p low high. recursion_from_All P (way_columns j k) (way_at (way_columns j) (travel h j) k low high (All-right P (five j) (flat_map (way_columns j) (steps (travel h j))) (All-from_recursion P (reservoir_columns h j) (one j p)))) in
    let bus : (b : ℕ) → b < length h.buses → AllByRecursion P (bus_columns b) = λ b p. recursion_from_All P (bus_columns b) (each_flat P bus_columns (length h.buses) (All-right P (rs ++ ts ++ ls) bs all) b p) in
    record {
      stores = record { volume = λ j p. (one j p).0; way = λ j k p low high. (way j k p low high).0 };
      chances = record { inflow = λ j p. (one j p).1.0; demand = λ b p. (bus b p).0 };
      variables = record {
        volume = λ j p. (one j p).1.1.0;
        way = λ j k p low high. (way j k p low high).1.0;
        turbine = λ j p. (one j p).1.1.1.0;
        spill = λ j p. (one j p).1.1.1.1.0;
        thermal = each_all P (λ i. decided (thermal_of i)) (length h.thermals) (All-right P rs ts first);
        line = each_all P (λ l. decided (line_of l)) (length h.lines) (All-right P (rs ++ ts) ls front);
        deficit = λ b p. (bus b p).1.0;
      };
    }
  where
    flat_suc : (f : ℕ → List Column) (ns : List ℕ) → flat_map f (map suc ns) ≡ flat_map (λ n. f (suc n)) ns
    flat_suc f [] = refl
    flat_suc f (n ∷ ns) = ap (λ cs. f (suc n) ++ cs) (flat_suc f ns)

    way_at : (f : ℕ → List Column) (n k : ℕ) → 1 ≤ k → k ≤ n → All P (flat_map f (steps n)) → All P (f k)
    way_at f n zero low high a = absurd (omega arith)
    way_at f n (suc k) low high a = each_flat P (λ m. f (suc m)) n (subst (All P) (flat_suc f (numbers n)) a) k (omega arith)

-- ---- each stands somewhere

pub somewhere : (h : Plants) → OfColumns h (Somewhere (columns h))
somewhere h = of_columns h (Somewhere (columns h)) (all_somewhere (columns h))
