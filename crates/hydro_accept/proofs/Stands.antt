-- Each variable that a stage's text names stands among its variables; boxes and sums of a stage are small.
use Rattle.std.proofs.Common.{◌≡◌, ℕ, suc, ◌*◌, ◌^◌, ◌<◌, ◌≤◌, ◌==◌, ℤ, pos, negsuc, ◌+ℤ◌, List, [], ◌∷◌, ◌++◌, length, map, Bool, true, false, cond, nat_lt, if◌then◌else◌, Option, Some, None, unsigned_abs, bytes_eq, refl, ap, arith}
use Rattle.std.specs.List.{AllByRecursion, flat_map}
use Rattle.std.proofs.lemmas.Bool.{ltb-true}
use Rattle.std.proofs.lemmas.Bool.Decides.{nat_tests}
use Rattle.std.proofs.lemmas.Int.{ints}
use Rattle.std.proofs.lemmas.List.{length-append, length-map}
use Rattle.std.proofs.lemmas.List.FromFn.{length-range_with_len}
use Rattle.read_json.proofs.Distinct.{each-at}
use Rattle.hydro_read.specs.declared.plants.Travel.{Travel}
use Rattle.hydro_read.specs.declared.plants.Plants.{Plants}
use Rattle.hydro_read.specs.Fields.{Within}
use Rattle.hydro_read.specs.Described.{IsAmount, IsBus, IsReservoir, IsThermal, IsLine, IsPlants}
use Rattle.hydro_make.specs.Layout.{volume_of, way_of, after, turbine_of, spill_of, thermal_of, deficit_of, demand_of, numbered_reservoir, thermal, line, bus, travel, travel_of, all_reservoirs, all_thermals, all_lines, all_buses, store_low, store_high, variable_least, variable_greatest}
use Rattle.hydro_make.specs.Columns.{Column, before, random, decided, columns, column_name}
use Rattle.hydro_make.specs.Stage.{Sum, coming_by, coming, water_sum, way_sum, turbined_at, burned_at, arriving_at, leaving_at, bus_sum, spill_cost_at, hydro_cost_sum}
use Rattle.hydro_accept.proofs.Named.{Stands, stands}
use Rattle.hydro_accept.proofs.Functions.{IsSmall, IsTerm, factor}
use Rattle.hydro_accept.proofs.Constraints.{IsBox}
use Rattle.hydro_accept.proofs.Pairs.{all_append, all_weaker, all_flat_map, all_map, all_numbers, all_of}
use Rattle.hydro_accept.proofs.Listing.{OfColumns, somewhere}
use Rattle.hydro_accept.proofs.Apart.{distinct_columns}

-- a property of each column follows from a stronger one
pub more_of : (h : Plants) (P Q : Column → Type 0) → ((c : Column) → P c → Q c) → OfColumns h P → OfColumns h Q
more_of h P Q f a = record {
  stores = record { volume = λ j p. f _ (a.stores.volume j p); way = λ j k p low high. f _ (a.stores.way j k p low high) };
  chances = record { inflow = λ j p. f _ (a.chances.inflow j p); demand = λ b p. f _ (a.chances.demand b p) };
  variables = record {
    volume = λ j p. f _ (a.variables.volume j p);
    way = λ j k p low high. f _ (a.variables.way j k p low high);
    turbine = λ j p. f _ (a.variables.turbine j p);
    spill = λ j p. f _ (a.variables.spill j p);
    thermal = λ n p. f _ (a.variables.thermal n p);
    line = λ l p. f _ (a.variables.line l p);
    deficit = λ b p. f _ (a.variables.deficit b p);
  };
}

-- at most 2^20 in absolute value
abbrev IsFine : ℤ → Type 0
IsFine z = unsigned_abs z ≤ 2 ^ 20

amount_fine : (z : ℤ) → IsAmount z → IsFine z
amount_fine z a = let low = a.low in let high = a.high in omega (arith, ints, low, high)

-- few terms with fine factors sum up to small factors
module _ (h : Plants) where
  bounded : (b : Bool) (a f : ℤ) (n : ℕ) → IsFine a → unsigned_abs f ≤ n * 2 ^ 20 → unsigned_abs (cond b a (pos 0) +ℤ f) ≤ suc n * 2 ^ 20
  bounded true a f n p q = omega (arith, ints, p, q)
  bounded false a f n p q = omega (arith, ints, p, q)

  factor_bounded : (ts : Sum) (d : Column) → AllByRecursion (λ t. IsFine t.0) ts → unsigned_abs (factor (column_name h) ts d) ≤ length ts * 2 ^ 20
  factor_bounded [] d all = omega arith
  factor_bounded (t ∷ ts) d all = bounded (bytes_eq (column_name h t.1) (column_name h d)) t.0 (factor (column_name h) ts d) (length ts) all.0 (factor_bounded ts d all.1)

flat_short : {A : Type 0} (f : ℕ → List A) (most : ℕ) (ns : List ℕ) → ((n : ℕ) → length (f n) ≤ most) → length (flat_map f ns) ≤ most * length ns
flat_short f most [] e = omega arith
flat_short f most (n ∷ ns) e = let here = e n in let tail = flat_short f most ns e in let both = length-append (f n) (flat_map f ns) in omega (arith, here, tail, both)

one_or_none : {A : Type 0} (b : Bool) (x : A) → length (if b then x ∷ [] else []) ≤ 1
one_or_none true x = omega arith
one_or_none false x = omega arith

module _ (h : Plants) (i : IsPlants h) where
  pub standing : OfColumns h (Stands (column_name h) (columns h))
  standing = more_of h _ (Stands (column_name h) (columns h)) (λ c s. stands (column_name h) c (columns h) s.0 (distinct_columns h i) s.1) (somewhere h)

  -- ---- plants

  pub reservoir_is : (j : ℕ) → j < length h.reservoirs → IsReservoir (length h.buses) (length h.reservoirs) (numbered_reservoir h j)
  reservoir_is j p = each-at (IsReservoir (length h.buses) (length h.reservoirs)) h.reservoirs j _ i.reservoirs p

  pub thermal_is : (j : ℕ) → j < length h.thermals → IsThermal (length h.buses) (thermal h j)
  thermal_is j p = each-at (IsThermal (length h.buses)) h.thermals j _ i.thermals p

  pub line_is : (j : ℕ) → j < length h.lines → IsLine (length h.buses) (line h j)
  line_is j p = each-at (IsLine (length h.buses)) h.lines j _ i.lines p

  pub bus_is : (j : ℕ) → j < length h.buses → IsBus (bus h j)
  bus_is j p = each-at IsBus h.buses j _ i.buses p

  -- ---- boxes

  abbrev pub low_of : Column → ℤ
  low_of (before s) = store_low h s
  low_of (random c) = pos 0
  low_of (decided v) = variable_least h v

  abbrev pub high_of : Column → ℤ
  high_of (before s) = store_high h s
  high_of (random c) = pos 0
  high_of (decided v) = variable_greatest h v

  up_to : (z : ℤ) → IsAmount z → IsBox (pos 0) z
  up_to z a = let low = a.low in let high = a.high in record { order = a.low; low_small = omega arith; high_small = omega (arith, ints, low, high) }

  sum_box : (a b : ℤ) → IsAmount a → IsAmount b → IsBox (pos 0) (a +ℤ b)
  sum_box a b p q =
      let al = p.low in
      let ah = p.high in
      let bl = q.low in
      let bh = q.high in
      record { order = omega (arith, ints, al, bl); low_small = omega arith; high_small = omega (arith, ints, al, ah, bl, bh) }

  level_box : (low high initial : ℤ) → IsAmount low → IsAmount high → Within low high initial → IsBox low high
  level_box low high initial p q w =
      let a = w.low in
      let b = w.high in
      let pl = p.low in
      let ph = p.high in
      let ql = q.low in
      let qh = q.high in
      record { order = omega (arith, ints, a, b); low_small = omega (arith, ints, pl, ph); high_small = omega (arith, ints, ql, qh) }

  volume_box : (j : ℕ) → j < length h.reservoirs → IsBox (store_low h (volume_of j)) (store_high h (volume_of j))
  volume_box j p = let r = reservoir_is j p in level_box (numbered_reservoir h j).low (numbered_reservoir h j).high (numbered_reservoir h j).initial r.low r.high r.initial

  way_box : (j k : ℕ) → j < length h.reservoirs → IsBox (store_low h (way_of j k)) (store_high h (way_of j k))
  way_box j k p = let r = reservoir_is j p in sum_box (numbered_reservoir h j).turbine (numbered_reservoir h j).spill r.turbine r.spill

  nothing_box : IsBox (pos 0) (pos 0)
  nothing_box = record { order = omega (arith, ints); low_small = omega arith; high_small = omega arith }

  pub boxes : OfColumns h (λ c. IsBox (low_of c) (high_of c))
  boxes = record {
    stores = record { volume = volume_box; way = λ j k p low high. way_box j k p };
    chances = record { inflow = λ j p. nothing_box; demand = λ b p. nothing_box };
    variables = record {
      volume = volume_box;
      way = λ j k p low high. way_box j k p;
      turbine = λ j p. up_to (numbered_reservoir h j).turbine (reservoir_is j p).turbine;
      spill = λ j p. up_to (numbered_reservoir h j).spill (reservoir_is j p).spill;
      thermal = λ n p. up_to (thermal h n).high (thermal_is n p).high;
      line = λ l p. up_to (line h l).high (line_is l p).high;
      deficit = λ b p. record { order = omega (arith, ints); low_small = omega arith; high_small = omega arith };
    };
  }

  -- ---- sums

  pub record IsFew (ts : Sum) : Type 0 where
    pub terms : AllByRecursion (λ t. IsFine t.0 × Stands (column_name h) (columns h) t.1) ts
    pub few : length ts ≤ 2 ^ 12

  abbrev Good : ℤ × Column → Type 0
  Good t = IsFine t.0 × Stands (column_name h) (columns h) t.1

  pub terms_of : (ts : Sum) → IsFew ts → AllByRecursion (IsTerm (column_name h) (columns h)) ts
  terms_of ts f = all_weaker Good (IsTerm (column_name h) (columns h)) (λ t g. let fine = g.0 in (omega (arith, fine), g.1)) ts f.terms

  pub small_of : (ts : Sum) → IsFew ts → AllByRecursion (λ c. IsSmall (factor (column_name h) ts c)) (columns h)
  small_of ts f =
      let few = f.few in
      all_of (λ c. IsSmall (factor (column_name h) ts c)) (λ c. let most = factor_bounded h ts c (all_weaker Good (λ t. IsFine t.0) (λ t g. g.0) ts f.terms) in omega (arith, most, few)) (columns h)

  one_fine : IsFine (pos 1)
  one_fine = omega arith

  minus_fine : IsFine (negsuc 0)
  minus_fine = omega arith

  coming_good : (j n : ℕ) → n < length h.reservoirs → AllByRecursion Good (coming h j n)
  unfolding coming
  coming_good j n p = by (numbered_reservoir h n).downstream refl
    where
      by : (o : Option Travel) → (numbered_reservoir h n).downstream ≡ o → AllByRecursion Good (coming_by n o j)
      by None e = tt
      by (Some t) e = there (t.target == j)
        where
          at_once : (b : Bool) → (t.stages == 0) ≡ b → AllByRecursion Good (if b then (negsuc 0, decided (turbine_of n)) ∷ (negsuc 0, decided (spill_of n)) ∷ [] else (negsuc 0, before (way_of n 1)) ∷ [])
          at_once true z = ((minus_fine, standing.variables.turbine n p), ((minus_fine, standing.variables.spill n p), tt))
          at_once false z =
              let far : travel h n ≡ t.stages = ap travel_of e in
              let some : 1 ≤ t.stages = grind (arith, nat_tests) in
              ((minus_fine, standing.stores.way n 1 p (omega arith) (omega (arith, far, some))), tt)

          there : (b : Bool) → AllByRecursion Good (if b then (if t.stages == 0 then (negsuc 0, decided (turbine_of n)) ∷ (negsuc 0, decided (spill_of n)) ∷ [] else (negsuc 0, before (way_of n 1)) ∷ []) else [])
          there true = at_once (t.stages == 0) refl
          there false = tt

  coming_short : (j n : ℕ) → length (coming h j n) ≤ 2
  unfolding coming
  coming_short j n = by (numbered_reservoir h n).downstream
    where
      two : (b c : Bool) → length {A = ℤ × Column} (if b then (if c then (negsuc 0, decided (turbine_of n)) ∷ (negsuc 0, decided (spill_of n)) ∷ [] else (negsuc 0, before (way_of n 1)) ∷ []) else []) ≤ 2
      two true true = omega arith
      two true false = omega arith
      two false c = omega arith

      by : (o : Option Travel) → length (coming_by n o j) ≤ 2
      by None = omega arith
      by (Some t) = two (t.target == j) (t.stages == 0)

  pub water_few : (j : ℕ) → j < length h.reservoirs → IsFew (water_sum h j)
  unfolding water_sum
  water_few j p =
      let short = flat_short (coming h j) 2 (all_reservoirs h) (coming_short j) in
      let n = length-range_with_len 0 (length h.reservoirs) in
      let most = i.few_reservoirs in
      record {
        terms = (
          (one_fine, standing.variables.volume j p),
          (
            (one_fine, standing.variables.turbine j p),
            (
              (one_fine, standing.variables.spill j p),
              (
                (minus_fine, standing.stores.volume j p),
                (
                  (minus_fine, standing.chances.inflow j p),
                  all_flat_map Good (coming h j) (all_reservoirs h) (all_numbers (λ n. AllByRecursion Good (coming h j n)) (length h.reservoirs) (coming_good j)),
                ),
              ),
            ),
          ),
        );
        few = omega (arith, short, n, most);
      }

  pub way_few : (j k : ℕ) → j < length h.reservoirs → 1 ≤ k → k ≤ travel h j → IsFew (way_sum h j k)
  unfolding way_sum
  way_few j k p low high = by (nat_lt k (travel h j)) refl
    where
      by : (b : Bool) → nat_lt k (travel h j) ≡ b → IsFew ((pos 1, decided (after (way_of j k))) ∷ (if b then (negsuc 0, before (way_of j (suc k))) ∷ [] else (negsuc 0, decided (turbine_of j)) ∷ (negsuc 0, decided (spill_of j)) ∷ []))
      by true e = record { terms = ((one_fine, standing.variables.way j k p low high), ((minus_fine, standing.stores.way j (suc k) p (omega arith) (omega (arith, ltb-true k (travel h j) e))), tt)); few = omega arith }
      by false e = record { terms = ((one_fine, standing.variables.way j k p low high), ((minus_fine, standing.variables.turbine j p), ((minus_fine, standing.variables.spill j p), tt))); few = omega arith }

  if_good : (b : Bool) (t : ℤ × Column) → Good t → AllByRecursion Good (if b then t ∷ [] else [])
  if_good true t g = (g, tt)
  if_good false t g = tt

  pub bus_few : (b : ℕ) → b < length h.buses → IsFew (bus_sum h b)
  unfolding bus_sum turbined_at burned_at arriving_at leaving_at
  bus_few b p =
      let ts : Sum = flat_map (turbined_at h b) (all_reservoirs h) in
      let gs : Sum = flat_map (burned_at h b) (all_thermals h) in
      let rs : Sum = flat_map (arriving_at h b) (all_lines h) in
      let ls : Sum = flat_map (leaving_at h b) (all_lines h) in
      let us : Sum = (pos 1, decided (deficit_of b)) ∷ (negsuc 0, random (demand_of b)) ∷ [] in
      let a = flat_short (turbined_at h b) 1 (all_reservoirs h) (λ n. one_or_none _ _) in
      let c = flat_short (burned_at h b) 1 (all_thermals h) (λ n. one_or_none _ _) in
      let d = flat_short (arriving_at h b) 1 (all_lines h) (λ n. one_or_none _ _) in
      let e = flat_short (leaving_at h b) 1 (all_lines h) (λ n. one_or_none _ _) in
      let n1 = length-range_with_len 0 (length h.reservoirs) in
      let n2 = length-range_with_len 0 (length h.thermals) in
      let n3 = length-range_with_len 0 (length h.lines) in
      let l1 = length-append ts gs in
      let l2 = length-append (ts ++ gs) rs in
      let l3 = length-append (ts ++ gs ++ rs) ls in
      let l4 = length-append (ts ++ gs ++ rs ++ ls) us in
      let m1 = i.few_reservoirs in
      let m2 = i.few_thermals in
      let m3 = i.few_lines in
      record {
        terms =
            all_append Good (ts ++ gs ++ rs ++ ls) us
            (all_append Good (ts ++ gs ++ rs) ls
            (all_append Good (ts ++ gs) rs
            (all_append Good ts gs
            (all_flat_map Good (turbined_at h b) (all_reservoirs h) (all_numbers (λ n. AllByRecursion Good (turbined_at h b n)) (length h.reservoirs) (λ n q. if_good _ _ (amount_fine _ (reservoir_is n q).factor, standing.variables.turbine n q))))
            (all_flat_map Good (burned_at h b) (all_thermals h) (all_numbers (λ n. AllByRecursion Good (burned_at h b n)) (length h.thermals) (λ n q. if_good _ _ (one_fine, standing.variables.thermal n q)))))
            (all_flat_map Good (arriving_at h b) (all_lines h) (all_numbers (λ n. AllByRecursion Good (arriving_at h b n)) (length h.lines) (λ n q. if_good _ _ (one_fine, standing.variables.line n q)))))
            (all_flat_map Good (leaving_at h b) (all_lines h) (all_numbers (λ n. AllByRecursion Good (leaving_at h b n)) (length h.lines) (λ n q. if_good _ _ (minus_fine, standing.variables.line n q)))))
            ((one_fine, standing.variables.deficit b p), ((minus_fine, standing.chances.demand b p), tt));
        few = omega (arith, a, c, d, e, n1, n2, n3, l1, l2, l3, l4, m1, m2, m3);
      }

  pub cost_few : IsFew (hydro_cost_sum h)
  unfolding hydro_cost_sum spill_cost_at
  cost_few =
      let f : ℕ → ℤ × Column = λ n. ((thermal h n).cost, decided (thermal_of n)) in
      let g : ℕ → ℤ × Column = λ b. ((bus h b).deficit_cost, decided (deficit_of b)) in
      let gs : Sum = map f (all_thermals h) in
      let us : Sum = map g (all_buses h) in
      let ss : Sum = flat_map (spill_cost_at h) (all_reservoirs h) in
      let a = flat_short (spill_cost_at h) 1 (all_reservoirs h) (λ n. one_or_none _ _) in
      let n1 = length-map (all_thermals h) f in
      let n2 = length-map (all_buses h) g in
      let n3 = length-range_with_len 0 (length h.thermals) in
      let n4 = length-range_with_len 0 (length h.buses) in
      let n5 = length-range_with_len 0 (length h.reservoirs) in
      let l1 = length-append gs us in
      let l2 = length-append (gs ++ us) ss in
      let m1 = i.few_thermals in
      let m2 = i.few_buses in
      let m3 = i.few_reservoirs in
      record {
        terms =
            all_append Good (gs ++ us) ss
            (all_append Good gs us
            (all_map Good f (all_thermals h) (all_numbers (λ n. Good (f n)) (length h.thermals) (λ n q. (amount_fine (thermal h n).cost (thermal_is n q).cost, standing.variables.thermal n q))))
            (all_map Good g (all_buses h) (all_numbers (λ b. Good (g b)) (length h.buses) (λ b q. (amount_fine (bus h b).deficit_cost (bus_is b q).deficit_cost, standing.variables.deficit b q)))))
            (all_flat_map Good (spill_cost_at h) (all_reservoirs h) (all_numbers (λ n. AllByRecursion Good (spill_cost_at h n)) (length h.reservoirs) (λ n q. if_good _ _ (amount_fine _ (reservoir_is n q).spill_cost, standing.variables.spill n q))));
        few = omega (arith, a, n1, n2, n3, n4, n5, l1, l2, m1, m2, m3);
      }
