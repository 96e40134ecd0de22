-- Laws about all variables, states and rows, shown kind by kind.
use Rattle.std.proofs.Common.{◌≡◌, ℕ, suc, ◌<◌, List, [], ◌∷◌, ◌++◌, length, map, flat_map, All, Bool, true, false, nat_le, if◌then◌else◌, refl, arith, leb-true}
use Rattle.std.proofs.lemmas.List.Elements.{All-nil, All-cons, All-append}
use Rattle.problem.specs.declared.parts.Row.{Row}
use Rattle.hydro_read.specs.declared.plants.Plants.{Plants}
use Rattle.hydro_make.specs.Layout.{HydroStore, volume_of, way_of, Variable, after, turbine_of, spill_of, thermal_of, line_of, deficit_of, travel, all_reservoirs, all_thermals, all_lines, all_buses, steps, ways, stores, variables_of, hydro_variables}
use Rattle.hydro_make.specs.Rows.{water_row, way_row, way_rows, bus_row, all_rows}
use Rattle.hydro_make.proofs.Lists.{All-left, All-right, all_each, each_all, all_flat, each_flat, all_steps, each_step}

-- P holds of each variable
pub record Each (h : Plants) (P : Variable → Type 0) : Type 0 where
  pub volumes : (j : ℕ) → j < length h.reservoirs → P (after (volume_of j))
  pub turbines : (j : ℕ) → j < length h.reservoirs → P (turbine_of j)
  pub spills : (j : ℕ) → j < length h.reservoirs → P (spill_of j)
  pub ways : (j m : ℕ) → j < length h.reservoirs → m < travel h j → P (after (way_of j (suc m)))
  pub thermals : (i : ℕ) → i < length h.thermals → P (thermal_of i)
  pub lines : (l : ℕ) → l < length h.lines → P (line_of l)
  pub deficits : (b : ℕ) → b < length h.buses → P (deficit_of b)

pub all_variables : (h : Plants) (P : Variable → Type 0) → Each h P → All P (hydro_variables h)
all_variables h P e =
    let rs : List Variable = flat_map (variables_of h) (all_reservoirs h) in
    let ts : List Variable = map thermal_of (all_thermals h) in
    let ls : List Variable = map line_of (all_lines h) in
    All-append P (rs ++ ts ++ ls) (map deficit_of (all_buses h))
    (All-append P (rs ++ ts) ls (All-append P rs ts (all_flat P (variables_of h) (length h.reservoirs) block) (all_each P thermal_of (length h.thermals) e.thermals)) (all_each P line_of (length h.lines) e.lines))
    (all_each P deficit_of (length h.buses) e.deficits)
  where
    block : (j : ℕ) → j < length h.reservoirs → All P (variables_of h j)
    block j p =
        let far : List Variable = map (λ k. after (way_of j k)) (steps (travel h j)) in
        All-cons P (after (volume_of j)) (turbine_of j ∷ spill_of j ∷ far) (e.volumes j p)
        (All-cons P (turbine_of j) (spill_of j ∷ far) (e.turbines j p) (All-cons P (spill_of j) far (e.spills j p) (all_steps P (λ k. after (way_of j k)) (travel h j) (λ m q. e.ways j m p q))))

pub each_variable : (h : Plants) (P : Variable → Type 0) → All P (hydro_variables h) → Each h P
each_variable h P a =
    let rs : List Variable = flat_map (variables_of h) (all_reservoirs h) in
    let ts : List Variable = map thermal_of (all_thermals h) in
    let ls : List Variable = map line_of (all_lines h) in
    let ds : List Variable = map deficit_of (all_buses h) in
    let energy : All P (rs ++ ts ++ ls) = All-left P (rs ++ ts ++ ls) ds a in
    let plants : All P (rs ++ ts) = All-left P (rs ++ ts) ls energy in
    let block : (j : ℕ) → j < length h.reservoirs → All P (variables_of h j) = each_flat P (variables_of h) (length h.reservoirs) (All-left P rs ts plants) in
    record {
      volumes = λ j p. block j p 0 (after (volume_of j)) (omega arith);
      turbines = λ j p. block j p 1 (after (volume_of j)) (omega arith);
      spills = λ j p. block j p 2 (after (volume_of j)) (omega arith);
      ways = λ j m p q. each_step P (λ k. after (way_of j k)) (travel h j) (far j (block j p)) m q;
      thermals = each_all P thermal_of (length h.thermals) (All-right P rs ts plants);
      lines = each_all P line_of (length h.lines) (All-right P (rs ++ ts) ls energy);
      deficits = each_all P deficit_of (length h.buses) (All-right P (rs ++ ts ++ ls) ds a);
    }
  where
    far : (j : ℕ) → All P (variables_of h j) → All P (map (λ k. after (way_of j k)) (steps (travel h j)))
    far j b = λ k d p. b (suc (suc (suc k))) d (omega arith)

-- P holds of each state
pub all_stores : (h : Plants) (P : HydroStore → Type 0) → ((j : ℕ) → j < length h.reservoirs → P (volume_of j)) → ((j m : ℕ) → j < length h.reservoirs → m < travel h j → P (way_of j (suc m))) → All P (stores h)
all_stores h P v w =
    All-append P (flat_map (ways h) (steps 3)) (map volume_of (all_reservoirs h))
    (All-append P (ways h 1) (ways h 2 ++ (ways h 3 ++ [])) (away 0) (All-append P (ways h 2) (ways h 3 ++ []) (away 1) (All-append P (ways h 3) [] (away 2) (All-nil P))))
    (all_each P volume_of (length h.reservoirs) v)
  where
    one : (b : Bool) (s : HydroStore) → (b ≡ true → P s) → All P (if b then s ∷ [] else [])
    one true s f = All-cons P s [] (f refl) (All-nil P)
    one false s f = All-nil P

    away : (m : ℕ) → All P (ways h (suc m))
    away m = all_flat P (λ j. if nat_le (suc m) (travel h j) then way_of j (suc m) ∷ [] else []) (length h.reservoirs)
        (λ j p. one (nat_le (suc m) (travel h j)) (way_of j (suc m)) (λ e. w j m p (leb-true (suc m) (travel h j) e)))

-- P holds of each row
pub record EachRow (h : Plants) (P : Row → Type 0) : Type 0 where
  pub waters : (j : ℕ) → j < length h.reservoirs → P (water_row h j)
  pub ways : (j m : ℕ) → j < length h.reservoirs → m < travel h j → P (way_row h j (suc m))
  pub buses : (b : ℕ) → b < length h.buses → P (bus_row h b)

pub all_of_rows : (h : Plants) (P : Row → Type 0) → EachRow h P → All P (all_rows h)
all_of_rows h P e =
    let first : List Row = map (water_row h) (all_reservoirs h) in
    let second : List Row = flat_map (way_rows h) (all_reservoirs h) in
    All-append P (first ++ second) (map (bus_row h) (all_buses h))
    (All-append P first second (all_each P (water_row h) (length h.reservoirs) e.waters) (all_flat P (way_rows h) (length h.reservoirs) (λ j p. all_steps P (way_row h j) (travel h j) (λ m q. e.ways j m p q))))
    (all_each P (bus_row h) (length h.buses) e.buses)

pub each_row : (h : Plants) (P : Row → Type 0) → All P (all_rows h) → EachRow h P
each_row h P a =
    let first : List Row = map (water_row h) (all_reservoirs h) in
    let second : List Row = flat_map (way_rows h) (all_reservoirs h) in
    let third : List Row = map (bus_row h) (all_buses h) in
    let water : All P (first ++ second) = All-left P (first ++ second) third a in
    record {
      waters = each_all P (water_row h) (length h.reservoirs) (All-left P first second water);
      ways = λ j m p q. each_step P (way_row h j) (travel h j) (each_flat P (way_rows h) (length h.reservoirs) (All-right P first second water) j p) m q;
      buses = each_all P (bus_row h) (length h.buses) (All-right P (first ++ second) third a);
    }
