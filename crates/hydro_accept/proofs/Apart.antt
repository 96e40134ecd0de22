-- No two variables of a stage's text have one name, and the names of states rise.
use Rattle.std.proofs.Common.{◌≡◌, ℕ, suc, ◌<◌, ◌≤◌, ◌⊎◌, inl, inr, List, [], ◌∷◌, ◌++◌, length, map, codes, Bool, true, false, Less, nat_cmp, is_eq, nat_eq, bytes_eq, ◌&&◌, refl, sym, ap, ap₂, ◌∙◌, arith}
use Rattle.std.specs.List.{AllByRecursion, flat_map}
use Rattle.std.specs.Cmp.Lexicographic.{slice_cmp}
use Rattle.std.proofs.lemmas.Bool.Decides.{nat_tests}
use Rattle.std.proofs.lemmas.Map.Text.{is_eq-slice_cmp}
use Rattle.base_graph.specs.Paths.{numbers}
use Rattle.hydro_form.specs.Listed.{digit}
use Rattle.hydro_read.specs.declared.plants.Bus.{Bus}
use Rattle.hydro_read.specs.declared.plants.Reservoir.{Reservoir}
use Rattle.hydro_read.specs.declared.plants.Thermal.{Thermal}
use Rattle.hydro_read.specs.declared.plants.Line.{Line}
use Rattle.hydro_read.specs.declared.plants.Plants.{Plants}
use Rattle.hydro_read.specs.Described.{IsPlants}
use Rattle.hydro_make.specs.Layout.{volume_of, after, turbine_of, spill_of, thermal_of, line_of, inflow_of, numbered_reservoir, thermal, line, bus, travel, all_reservoirs, all_thermals, all_lines, all_buses, steps}
use Rattle.hydro_make.specs.Columns.{Column, before, random, decided, way_columns, reservoir_columns, bus_columns, columns, named, staged, before_name, after_name, variable_name, chance_name, column_name}
use Rattle.hydro_make.proofs.Described.{short}
use Rattle.hydro_accept.proofs.Named.{Distinct}
use Rattle.hydro_accept.proofs.Pairs.{Pairwise, Across, all_append, all_weaker, all_of, all_map, all_flat_map, pair_append, pair_map, pair_flat_map, pair_numbers, across_flat, risen, pair_get}

-- ---- names of plants

pub apart_of : (a b : List ℕ) → slice_cmp nat_cmp a b ≡ Less → bytes_eq a b ≡ false
apart_of a b e = sym (is_eq-slice_cmp a b) ∙ ap is_eq e

module _ (h : Plants) (i : IsPlants h) where
  pub reservoirs_rise : (j k : ℕ) → j < k → k < length h.reservoirs → slice_cmp nat_cmp (numbered_reservoir h j).name (numbered_reservoir h k).name ≡ Less
  reservoirs_rise j k p q = pair_get (λ (r : Reservoir). r.name) h.reservoirs j k _ (risen (λ (r : Reservoir). r.name) h.reservoirs i.names.reservoirs) p q

  pub thermals_rise : (j k : ℕ) → j < k → k < length h.thermals → slice_cmp nat_cmp (thermal h j).name (thermal h k).name ≡ Less
  thermals_rise j k p q = pair_get (λ (t : Thermal). t.name) h.thermals j k _ (risen (λ (t : Thermal). t.name) h.thermals i.names.thermals) p q

  pub lines_rise : (j k : ℕ) → j < k → k < length h.lines → slice_cmp nat_cmp (line h j).name (line h k).name ≡ Less
  lines_rise j k p q = pair_get (λ (l : Line). l.name) h.lines j k _ (risen (λ (l : Line). l.name) h.lines i.names.lines) p q

  pub buses_rise : (j k : ℕ) → j < k → k < length h.buses → slice_cmp nat_cmp (bus h j).name (bus h k).name ≡ Less
  buses_rise j k p q = pair_get (λ (b : Bus). b.name) h.buses j k _ (risen (λ (b : Bus). b.name) h.buses i.names.buses) p q

-- ---- letters

differ : (x y : ℕ) → x < y → nat_eq x y ≡ false
differ x y h = grind (arith, nat_tests)

differ_back : (x y : ℕ) → y < x → nat_eq x y ≡ false
differ_back x y h = grind (arith, nat_tests)

pub digit_less : (k m : ℕ) → k < m → m ≤ 9 → digit k < digit m
digit_less k m p q = omega arith

digit_small : (k : ℕ) → digit k < 58
digit_small k = omega arith

-- a letter, or a letter and a digit
data Letters : List ℕ → Type 0 where
  one : (x : ℕ) → Letters (x ∷ [])
  two : (x k : ℕ) → Letters (x ∷ digit k ∷ [])

and_none : (b : Bool) → (b && false) ≡ false
and_none true = refl
and_none false = refl

plants_apart : (p q a b : List ℕ) → Letters p → Letters q → bytes_eq a b ≡ false → bytes_eq (named p a) (named q b) ≡ false
unfolding named
plants_apart p q a b (one x) (one y) e = ap (λ z. nat_eq x y && z) e ∙ and_none (nat_eq x y)
plants_apart p q a b (one x) (two y m) e = ap (λ z. nat_eq x y && (z && bytes_eq a (58 ∷ b))) (differ_back 58 (digit m) (digit_small m)) ∙ and_none (nat_eq x y)
plants_apart p q a b (two x k) (one y) e = ap (λ z. nat_eq x y && (z && bytes_eq (58 ∷ a) b)) (differ (digit k) 58 (digit_small k)) ∙ and_none (nat_eq x y)
plants_apart p q a b (two x k) (two y m) e = ap (λ z. nat_eq x y && (nat_eq (digit k) (digit m) && z)) e ∙ ap (λ z. nat_eq x y && z) (and_none (nat_eq (digit k) (digit m))) ∙ and_none (nat_eq x y)

module _ (h : Plants) where
  abbrev Apart : Column → Column → Type 0
  Apart c d = bytes_eq (column_name h c) (column_name h d) ≡ false

  -- the columns of the plant or bus of this name
  record Block (a : List ℕ) (c : Column) : Type 0 where
    letters : List ℕ
    form : Letters letters
    name : column_name h c ≡ named letters a

  across_blocks : (a b : List ℕ) → bytes_eq a b ≡ false → (xs ys : List Column) → AllByRecursion (Block a) xs → AllByRecursion (Block b) ys → Across Apart xs ys
  across_blocks a b e xs ys p q = all_weaker (Block a) (λ x. AllByRecursion (Apart x) ys) (λ x bx. all_weaker (Block b) (Apart x) (λ y by. ap₂ bytes_eq bx.name by.name ∙ plants_apart bx.letters by.letters a b bx.form by.form e) ys q) xs p

  abbrev five : ℕ → List Column
  five j = before (volume_of j) ∷ random (inflow_of j) ∷ decided (after (volume_of j)) ∷ decided (turbine_of j) ∷ decided (spill_of j) ∷ []

  reservoir_block : (j : ℕ) → AllByRecursion (Block (numbered_reservoir h j).name) (reservoir_columns h j)
  unfolding reservoir_columns column_name before_name after_name variable_name chance_name
  reservoir_block j =
      all_append _ (five j) (flat_map (way_columns j) (steps (travel h j)))
      (record { letters = codes "i"; form = one 105; name = refl }, (record { letters = codes "w"; form = one 119; name = refl }, (record { letters = codes "o"; form = one 111; name = refl }, (record { letters = codes "q"; form = one 113; name = refl }, (record { letters = codes "z"; form = one 122; name = refl }, tt)))))
      (all_flat_map _ (way_columns j) (steps (travel h j)) (all_of _ (λ k. (record { letters = staged 97 k; form = two 97 k; name = refl }, (record { letters = staged 98 k; form = two 98 k; name = refl }, tt))) (steps (travel h j))))

  bus_block : (b : ℕ) → AllByRecursion (Block (bus h b).name) (bus_columns b)
  unfolding column_name variable_name chance_name
  bus_block b = (record { letters = codes "d"; form = one 100; name = refl }, (record { letters = codes "u"; form = one 117; name = refl }, tt))

  ways_across : (j k m : ℕ) → k < m → m ≤ 9 → Across Apart (way_columns j k) (way_columns j m)
  unfolding column_name before_name after_name variable_name named
  ways_across j k m p q =
      let e = differ (digit k) (digit m) (digit_less k m p q) in
      ((rw e refl, (refl, tt)), ((refl, (rw e refl, tt)), tt))

  reservoir_apart : (j : ℕ) → travel h j ≤ 9 → Pairwise Apart (reservoir_columns h j)
  unfolding reservoir_columns column_name before_name after_name variable_name chance_name named
  reservoir_apart j few =
      pair_append Apart (five j) (flat_map (way_columns j) (steps (travel h j)))
      ((refl, (refl, (refl, (refl, tt)))), ((refl, (refl, (refl, tt))), ((refl, (refl, tt)), ((refl, tt), (tt, tt)))))
      (pair_flat_map Apart (way_columns j) (steps (travel h j)) (all_of _ (λ k. ((refl, tt), (tt, tt))) (steps (travel h j)))
      (pair_map _ suc (numbers (travel h j)) (pair_numbers _ (travel h j) (λ k m p q. ways_across j (suc k) (suc m) (omega arith) (omega arith)))))
      (across_flat Apart (way_columns j) (five j) (steps (travel h j)) (all_of _ (λ k. ((refl, (refl, tt)), ((refl, (refl, tt)), ((refl, (refl, tt)), ((refl, (refl, tt)), ((refl, (refl, tt)), tt)))))) (steps (travel h j))))

  -- ---- across kinds, by their first letters

  record First (l : ℕ) (c : Column) : Type 0 where
    tail : List ℕ
    name : column_name h c ≡ l ∷ tail

  -- a first letter that is none of `d`, `g`, `l` and `u`
  record OfReservoir (c : Column) : Type 0 where
    letter : ℕ
    first : First letter c
    no_d : nat_eq letter 100 ≡ false
    no_g : nat_eq letter 103 ≡ false
    no_l : nat_eq letter 108 ≡ false
    no_u : nat_eq letter 117 ≡ false

  apart_first : (l m : ℕ) (c d : Column) → nat_eq l m ≡ false → First l c → First m d → Apart c d
  apart_first l m c d e f g = ap₂ bytes_eq f.name g.name ∙ ap (λ z. z && bytes_eq f.tail g.tail) e

  abbrev rs : List Column
  rs = flat_map (reservoir_columns h) (all_reservoirs h)

  abbrev ts : List Column
  ts = map (λ i. decided (thermal_of i)) (all_thermals h)

  abbrev ls : List Column
  ls = map (λ l. decided (line_of l)) (all_lines h)

  abbrev bs : List Column
  bs = flat_map bus_columns (all_buses h)

  of_reservoirs : AllByRecursion OfReservoir rs
  unfolding reservoir_columns column_name before_name after_name variable_name chance_name named
  of_reservoirs =
      all_flat_map OfReservoir (reservoir_columns h) (all_reservoirs h) (all_of (λ j. AllByRecursion OfReservoir (reservoir_columns h j)) (λ j.
      all_append OfReservoir (five j) (flat_map (way_columns j) (steps (travel h j)))
      (record { letter = 105; first = record { tail = 58 ∷ (numbered_reservoir h j).name; name = refl }; no_d = refl; no_g = refl; no_l = refl; no_u = refl }, (record { letter = 119; first = record { tail = 58 ∷ (numbered_reservoir h j).name; name = refl }; no_d = refl; no_g = refl; no_l = refl; no_u = refl }, (record { letter = 111; first = record { tail = 58 ∷ (numbered_reservoir h j).name; name = refl }; no_d = refl; no_g = refl; no_l = refl; no_u = refl }, (record { letter = 113; first = record { tail = 58 ∷ (numbered_reservoir h j).name; name = refl }; no_d = refl; no_g = refl; no_l = refl; no_u = refl }, (record { letter = 122; first = record { tail = 58 ∷ (numbered_reservoir h j).name; name = refl }; no_d = refl; no_g = refl; no_l = refl; no_u = refl }, tt)))))
      (all_flat_map OfReservoir (way_columns j) (steps (travel h j)) (all_of (λ k. AllByRecursion OfReservoir (way_columns j k)) (λ k.
      (record { letter = 97; first = record { tail = digit k ∷ 58 ∷ (numbered_reservoir h j).name; name = refl }; no_d = refl; no_g = refl; no_l = refl; no_u = refl }, (record { letter = 98; first = record { tail = digit k ∷ 58 ∷ (numbered_reservoir h j).name; name = refl }; no_d = refl; no_g = refl; no_l = refl; no_u = refl }, tt))) (steps (travel h j)))))
      (all_reservoirs h))

  of_thermals : AllByRecursion (First 103) ts
  unfolding column_name variable_name named
  of_thermals = all_map (First 103) (λ i. decided (thermal_of i)) (all_thermals h) (all_of (λ i. First 103 (decided (thermal_of i))) (λ i. record { tail = 58 ∷ (thermal h i).name; name = refl }) (all_thermals h))

  of_lines : AllByRecursion (First 108) ls
  unfolding column_name variable_name named
  of_lines = all_map (First 108) (λ l. decided (line_of l)) (all_lines h) (all_of (λ l. First 108 (decided (line_of l))) (λ l. record { tail = 58 ∷ (line h l).name; name = refl }) (all_lines h))

  of_buses : AllByRecursion (λ c. First 100 c ⊎ First 117 c) bs
  unfolding column_name variable_name chance_name named
  of_buses =
      all_flat_map (λ c. First 100 c ⊎ First 117 c) bus_columns (all_buses h) (all_of (λ b. AllByRecursion (λ c. First 100 c ⊎ First 117 c) (bus_columns b))
      (λ b. (inl (record { tail = 58 ∷ (bus h b).name; name = refl }), (inr (record { tail = 58 ∷ (bus h b).name; name = refl }), tt))) (all_buses h))

  beside_buses : (l : ℕ) (c d : Column) → nat_eq l 100 ≡ false → nat_eq l 117 ≡ false → First l c → First 100 d ⊎ First 117 d → Apart c d
  beside_buses l c d e f g (inl k) = apart_first l 100 c d e g k
  beside_buses l c d e f g (inr k) = apart_first l 117 c d f g k

  -- as soon as plants of one kind have different names
  record PlantsApart : Type 0 where
    reservoirs : (j k : ℕ) → j < k → k < length h.reservoirs → bytes_eq (numbered_reservoir h j).name (numbered_reservoir h k).name ≡ false
    thermals : (j k : ℕ) → j < k → k < length h.thermals → bytes_eq (thermal h j).name (thermal h k).name ≡ false
    lines : (j k : ℕ) → j < k → k < length h.lines → bytes_eq (line h j).name (line h k).name ≡ false
    buses : (j k : ℕ) → j < k → k < length h.buses → bytes_eq (bus h j).name (bus h k).name ≡ false

  bus_apart : (b : ℕ) → Pairwise Apart (bus_columns b)
  unfolding column_name variable_name chance_name named
  bus_apart b = ((refl, tt), (tt, tt))

  columns_apart : PlantsApart → ((j : ℕ) → travel h j ≤ 3) → Pairwise Apart (columns h)
  unfolding columns column_name variable_name named
  columns_apart p few =
      pair_append Apart (rs ++ ts ++ ls) bs
      (pair_append Apart (rs ++ ts) ls
      (pair_append Apart rs ts
      (pair_flat_map Apart (reservoir_columns h) (all_reservoirs h) (all_of (λ j. Pairwise Apart (reservoir_columns h j)) (λ j. let most = few j in reservoir_apart j (omega arith)) (all_reservoirs h))
      (pair_numbers (λ j k. Across Apart (reservoir_columns h j) (reservoir_columns h k)) (length h.reservoirs)
      (λ j k l m. across_blocks (numbered_reservoir h j).name (numbered_reservoir h k).name (p.reservoirs j k l m) (reservoir_columns h j) (reservoir_columns h k) (reservoir_block j) (reservoir_block k))))
      (pair_map Apart (λ i. decided (thermal_of i)) (all_thermals h) (pair_numbers _ (length h.thermals) (λ j k l m. p.thermals j k l m)))
      (all_weaker OfReservoir (λ c. AllByRecursion (Apart c) ts) (λ c o. all_weaker (First 103) (Apart c) (λ d f. apart_first o.letter 103 c d o.no_g o.first f) ts of_thermals) rs of_reservoirs))
      (pair_map Apart (λ l. decided (line_of l)) (all_lines h) (pair_numbers _ (length h.lines) (λ j k l m. p.lines j k l m)))
      (all_append (λ c. AllByRecursion (Apart c) ls) rs ts
      (all_weaker OfReservoir (λ c. AllByRecursion (Apart c) ls) (λ c o. all_weaker (First 108) (Apart c) (λ d f. apart_first o.letter 108 c d o.no_l o.first f) ls of_lines) rs of_reservoirs)
      (all_weaker (First 103) (λ c. AllByRecursion (Apart c) ls) (λ c o. all_weaker (First 108) (Apart c) (λ d f. apart_first 103 108 c d refl o f) ls of_lines) ts of_thermals)))
      (pair_flat_map Apart bus_columns (all_buses h) (all_of (λ b. Pairwise Apart (bus_columns b)) bus_apart (all_buses h))
      (pair_numbers (λ j k. Across Apart (bus_columns j) (bus_columns k)) (length h.buses) (λ j k l m. across_blocks (bus h j).name (bus h k).name (p.buses j k l m) (bus_columns j) (bus_columns k) (bus_block j) (bus_block k))))
      (all_append (λ c. AllByRecursion (Apart c) bs) (rs ++ ts) ls
      (all_append (λ c. AllByRecursion (Apart c) bs) rs ts
      (all_weaker OfReservoir (λ c. AllByRecursion (Apart c) bs) (λ c o. all_weaker (λ d. First 100 d ⊎ First 117 d) (Apart c) (λ d f. beside_buses o.letter c d o.no_d o.no_u o.first f) bs of_buses) rs of_reservoirs)
      (all_weaker (First 103) (λ c. AllByRecursion (Apart c) bs) (λ c o. all_weaker (λ d. First 100 d ⊎ First 117 d) (Apart c) (λ d f. beside_buses 103 c d refl refl o f) bs of_buses) ts of_thermals))
      (all_weaker (First 108) (λ c. AllByRecursion (Apart c) bs) (λ c o. all_weaker (λ d. First 100 d ⊎ First 117 d) (Apart c) (λ d f. beside_buses 108 c d refl refl o f) bs of_buses) ls of_lines))

pub distinct_columns : (h : Plants) → IsPlants h → Distinct (column_name h) (columns h)
distinct_columns h i =
    columns_apart h (record {
      reservoirs = λ j k l m. apart_of (numbered_reservoir h j).name (numbered_reservoir h k).name (reservoirs_rise h i j k l m);
      thermals = λ j k l m. apart_of (thermal h j).name (thermal h k).name (thermals_rise h i j k l m);
      lines = λ j k l m. apart_of (line h j).name (line h k).name (lines_rise h i j k l m);
      buses = λ j k l m. apart_of (bus h j).name (bus h k).name (buses_rise h i j k l m);
    }) (short h i)
