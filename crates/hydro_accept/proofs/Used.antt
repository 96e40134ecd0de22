-- The reader's answer on the subproblem of a stage.
use Rattle.std.proofs.Common.{◌≡◌, ℕ, zero, suc, ◌+◌, ◌≤◌, ℤ, List, [], ◌∷◌, length, map, filter, slice_get, Bool, true, false, cond, Some, Ok, refl, sym, ap, ap₂, subst, ◌∙◌, arith}
use Rattle.std.specs.List.{AllByRecursion}
use Rattle.std.proofs.lemmas.Bool.{le-leb}
use Rattle.std.proofs.lemmas.List.{length-append, length-map}
use Rattle.std.proofs.lemmas.List.FromFn.{length-range_with_len}
use Rattle.serde_json.specs.Data.{Data}
use Rattle.serde_json.specs.Events.{items_len}
use Rattle.serde_json.specs.View.{items_of}
use Rattle.problem.specs.declared.parts.State.{State}
use Rattle.read_stage.specs.Decisions as decisions
use Rattle.read_stage.specs.Rows as rows
use Rattle.hydro_read.specs.declared.plants.Plants.{Plants}
use Rattle.hydro_read.specs.Described.{IsPlants}
use Rattle.hydro_make.specs.Terms as terms
use Rattle.hydro_make.specs.Layout.{HydroStore, volume_of, way_of, Variable, after, turbine_of, spill_of, thermal_of, line_of, deficit_of, Chance, inflow_of, demand_of, all_reservoirs, all_buses, stores, hydro_variables, chances, store_initial}
use Rattle.hydro_make.specs.Columns.{Column, before, random, decided, columns, state_name, chance_name, column_name}
use Rattle.hydro_make.proofs.Described.{short}
use Rattle.hydro_accept.proofs.Named.{same, Distinct, Stands, place, found_at, one_of, some_is, map_alike}
use Rattle.hydro_accept.proofs.Pairs.{Somewhere, all_somewhere, Pairwise, all_weaker, all_map, all_of}
use Rattle.hydro_accept.proofs.Uses as uses
use Rattle.hydro_accept.proofs.Uses.{Role, given, given_by, given_in, Respects, FitsState, places_are}
use Rattle.hydro_accept.proofs.Constraints.{vars}
use Rattle.hydro_accept.proofs.Listing.{OfStores, OfChances, OfColumns, each_store, each_chance, each_column}
use Rattle.hydro_accept.proofs.Apart.{distinct_columns}
use Rattle.hydro_accept.proofs.Rising.{used, before_random, after_random}
use Rattle.hydro_accept.proofs.Choices.{is_choice, choices, of_stores, of_chances, length-hydro_variables, travels_are}
use Rattle.hydro_accept.proofs.Fit.{IsFit, fit_columns}
use Rattle.hydro_accept.proofs.Stands.{more_of, standing}

-- ---- lists

pub filter_ext : {A : Type 0} (test other : A → Bool) (xs : List A) → ((x : A) → test x ≡ other x) → filter test xs ≡ filter other xs
filter_ext test other [] h = refl
filter_ext {A} test other (x ∷ xs) h = ap₂ (λ (b : Bool) (ys : List A). cond b (x ∷ ys) ys) (h x) (filter_ext test other xs h)

pub filter_at : {A : Type 0} (test : A → Bool) (xs : List A) (k : ℕ) (x : A) → slice_get xs k ≡ Some x → test x ≡ true → Somewhere (filter test xs) x
filter_at test [] k x at e = absurd cc
filter_at {A} test (y ∷ ys) zero x at e = (0, rw (ap test (some_is y x at) ∙ e) at)
filter_at {A} test (y ∷ ys) (suc k) x at e = later (test y) (filter_at test ys k x at e)
  where
    later : (b : Bool) → Somewhere (filter test ys) x → Somewhere (cond b (y ∷ filter test ys) (filter test ys)) x
    later true s = (suc s.0, s.1)
    later false s = s

all_filter : {A : Type 0} (P : A → Type 0) (test : A → Bool) (xs : List A) → AllByRecursion P xs → AllByRecursion P (filter test xs)
all_filter P test [] a = tt
all_filter {A} P test (x ∷ xs) a = by (test x) (all_filter P test xs a.1)
  where
    by : (b : Bool) → AllByRecursion P (filter test xs) → AllByRecursion P (cond b (x ∷ filter test xs) (filter test xs))
    by true r = (a.0, r)
    by false r = r

pub all_passing : {A : Type 0} (P : A → Type 0) (test : A → Bool) (xs : List A) → AllByRecursion (λ x. test x ≡ true → P x) xs → AllByRecursion P (filter test xs)
all_passing P test [] a = tt
all_passing {A} P test (x ∷ xs) a = by (test x) refl (all_passing P test xs a.1)
  where
    by : (b : Bool) → test x ≡ b → AllByRecursion P (filter test xs) → AllByRecursion P (cond b (x ∷ filter test xs) (filter test xs))
    by true e r = (a.0 e, r)
    by false e r = r

pub pair_filter : {A : Type 0} (R : A → A → Type 0) (test : A → Bool) (xs : List A) → Pairwise R xs → Pairwise R (filter test xs)
pair_filter R test [] p = tt
pair_filter {A} R test (x ∷ xs) p = by (test x) (pair_filter R test xs p.1)
  where
    by : (b : Bool) → Pairwise R (filter test xs) → Pairwise R (cond b (x ∷ filter test xs) (filter test xs))
    by true r = (all_filter (R x) test xs p.0, r)
    by false r = r

pub all_got : {A : Type 0} (P : A → Type 0) (xs : List A) (k : ℕ) (x : A) → AllByRecursion P xs → slice_get xs k ≡ Some x → P x
all_got P [] k x a at = absurd cc
all_got P (y ∷ ys) zero x a at = subst P (some_is y x at) a.0
all_got P (y ∷ ys) (suc k) x a at = all_got P ys k x a.1 at

pub terms_same : (k : ℕ) (zs : List ℤ) → rows.terms_from k zs ≡ terms.terms_from_place k zs
terms_same k [] = refl
terms_same k (z ∷ zs) = rw (terms_same (k + 1) zs) refl

-- ---- roles

abbrev pub role_of : Column → Role
role_of (before s) = uses.incoming
role_of (random c) = uses.random
role_of (decided (after s)) = uses.outgoing
role_of (decided (turbine_of j)) = uses.free
role_of (decided (spill_of j)) = uses.free
role_of (decided (thermal_of n)) = uses.free
role_of (decided (line_of l)) = uses.free
role_of (decided (deficit_of b)) = uses.free

role_decides : (c : Column) → decisions.is_decision (role_of c) ≡ is_choice c
role_decides (before s) = uses.incoming_decides
role_decides (random c) = uses.random_decides
role_decides (decided (after s)) = uses.outgoing_decides
role_decides (decided (turbine_of j)) = refl
role_decides (decided (spill_of j)) = refl
role_decides (decided (thermal_of n)) = refl
role_decides (decided (line_of l)) = refl
role_decides (decided (deficit_of b)) = refl

module _ (h : Plants) (i : IsPlants h) where
  abbrev xs : List Column
  xs = columns h

  pub distinct : Distinct (column_name h) (columns h)
  distinct = distinct_columns h i

  given_out : {B : Type 0} (g f : Column → B) (cs : List Column) (y : Column) → AllByRecursion (λ x. same (column_name h) x y ≡ false) cs → given (column_name h) g f cs y ≡ f y
  given_out g f [] y a = refl
  given_out g f (x ∷ cs) y a = given_out g (λ z. cond (same (column_name h) x z) (g x) (f z)) cs y a.1 ∙ ap (λ b. cond b (g x) (f y)) a.0

  -- each thing that is given is given to one
  pub respects : {B : Type 0} (g : Column → B) (y : Column) (cs : List Column) → Stands (column_name h) (columns h) y → AllByRecursion (Stands (column_name h) (columns h)) cs → Respects (column_name h) g y cs
  respects g y cs sy all = all_weaker (Stands (column_name h) (columns h)) (λ x. same (column_name h) x y ≡ true → g x ≡ g y) (λ x sx e. ap g (one_of (column_name h) x y (columns h) distinct sx sy e)) cs all

  abbrev pub us : List Column
  us = used h i (stores h)

  abbrev pub ps : List Column
  ps = map random (chances h)

  all_used : (P : Column → Type 0) (ss : List HydroStore) → AllByRecursion (λ s. P (before s) × P (decided (after s))) ss → AllByRecursion P (used h i ss)
  all_used P [] a = tt
  all_used P (s ∷ ss) a = (a.0.0, (a.0.1, all_used P ss a.1))

  used_at : (ss : List HydroStore) (k : ℕ) (s : HydroStore) → slice_get ss k ≡ Some s → Somewhere (used h i ss) (before s) × Somewhere (used h i ss) (decided (after s))
  used_at [] k s at = absurd cc
  used_at (t ∷ ss) zero s at = ((0, ap (λ (r : HydroStore). Some (before r)) (some_is t s at)), (1, ap (λ (r : HydroStore). Some (decided (after r))) (some_is t s at)))
  used_at (t ∷ ss) (suc k) s at = let r = used_at ss k s at in ((suc (suc r.0.0), r.0.1), (suc (suc r.1.0), r.1.1))

  standing_used : AllByRecursion (Stands (column_name h) (columns h)) us
  standing_used =
      all_used (Stands (column_name h) (columns h)) (stores h)
      (each_store h (λ s. Stands (column_name h) (columns h) (before s) × Stands (column_name h) (columns h) (decided (after s)))
      (record { volume = λ j p. ((standing h i).stores.volume j p, (standing h i).variables.volume j p); way = λ j k p low high. ((standing h i).stores.way j k p low high, (standing h i).variables.way j k p low high) }))

  standing_random : AllByRecursion (Stands (column_name h) (columns h)) ps
  standing_random = all_map (Stands (column_name h) (columns h)) random (chances h) (each_chance h (λ c. Stands (column_name h) (columns h) (random c)) (standing h i).chances)

  -- after the states
  abbrev pub first : Column → Role
  first = given (column_name h) role_of (λ y. uses.free) us

  abbrev pub final : Column → Role
  final = given (column_name h) role_of first ps

  pub random_free : (c : Chance) → first (random c) ≡ uses.free
  random_free c = given_out role_of (λ y. uses.free) us (random c) (all_used (λ x. same (column_name h) x (random c) ≡ false) (stores h) (all_of (λ s. (same (column_name h) (before s) (random c) ≡ false) × (same (column_name h) (decided (after s)) (random c) ≡ false)) (λ s. (before_random h i s c, after_random h i s c)) (stores h)))

  somewhere_store : OfStores h (Somewhere (stores h))
  somewhere_store = of_stores h (Somewhere (stores h)) (all_somewhere (stores h)) (short h i)

  in_states : (y : Column) → Stands (column_name h) (columns h) y → Somewhere us y → final y ≡ role_of y
  in_states y sy s = given_by (column_name h) role_of first ps y (given_in (column_name h) role_of (λ z. uses.free) us s.0 y s.1 (respects role_of y us sy standing_used)) (respects role_of y ps sy standing_random)

  in_randoms : (y : Column) → Stands (column_name h) (columns h) y → Somewhere ps y → final y ≡ role_of y
  in_randoms y sy s = given_in (column_name h) role_of first ps s.0 y s.1 (respects role_of y ps sy standing_random)

  in_neither : (y : Column) → Stands (column_name h) (columns h) y → role_of y ≡ uses.free → final y ≡ role_of y
  in_neither y sy e = given_by (column_name h) role_of first ps y (given_by (column_name h) role_of (λ z. uses.free) us y (sym e) (respects role_of y us sy standing_used)) (respects role_of y ps sy standing_random)

  abbrev chance_named : Chance → List ℕ
  chance_named c = chance_name h c

  chances_at : OfChances h (λ c. Somewhere ps (random c))
  chances_at = of_chances h (λ c. Somewhere ps (random c)) (all_weaker (Somewhere (chances h)) (λ c. Somewhere ps (random c)) (λ c s. (s.0, found_at chance_named random c (chances h) s.0 s.1)) (chances h) (all_somewhere (chances h)))

  finals : OfColumns h (λ y. final y ≡ role_of y)
  finals =
      let s = standing h i in
      let t = somewhere_store in
      let store : (z : HydroStore) → Somewhere (stores h) z → Somewhere us (before z) × Somewhere us (decided (after z)) = λ z w. used_at (stores h) w.0 z w.1 in
      record {
        stores = record { volume = λ j p. in_states (before (volume_of j)) (s.stores.volume j p) (store (volume_of j) (t.volume j p)).0; way = λ j k p low high. in_states (before (way_of j k)) (s.stores.way j k p low high) (store (way_of j k) (t.way j k p low high)).0 };
        chances = record { inflow = λ j p. in_randoms (random (inflow_of j)) (s.chances.inflow j p) (chances_at.inflow j p); demand = λ b p. in_randoms (random (demand_of b)) (s.chances.demand b p) (chances_at.demand b p) };
        variables = record {
          volume = λ j p. in_states (decided (after (volume_of j))) (s.variables.volume j p) (store (volume_of j) (t.volume j p)).1;
          way = λ j k p low high. in_states (decided (after (way_of j k))) (s.variables.way j k p low high) (store (way_of j k) (t.way j k p low high)).1;
          turbine = λ j p. in_neither (decided (turbine_of j)) (s.variables.turbine j p) refl;
          spill = λ j p. in_neither (decided (spill_of j)) (s.variables.spill j p) refl;
          thermal = λ n p. in_neither (decided (thermal_of n)) (s.variables.thermal n p) refl;
          line = λ l p. in_neither (decided (line_of l)) (s.variables.line l p) refl;
          deficit = λ b p. in_neither (decided (deficit_of b)) (s.variables.deficit b p) refl;
        };
      }

  pub roles_are : map final xs ≡ map role_of xs
  roles_are = map_alike final role_of xs (each_column h (λ y. final y ≡ role_of y) finals)

  -- ---- variables

  abbrev pub vs : List Variable
  vs = hydro_variables h

  abbrev pub decs : List Column
  decs = map decided (hydro_variables h)

  pub decided_are : filter (λ y. decisions.is_decision (role_of y)) xs ≡ decs
  decided_are = filter_ext (λ y. decisions.is_decision (role_of y)) is_choice xs role_decides ∙ choices h

  places_decided : decisions.decisions_from 0 (map role_of xs) ≡ map (place (column_name h) xs) decs
  places_decided = places_are (column_name h) role_of xs distinct ∙ ap (map (place (column_name h) xs)) decided_are

  pub few_variables : length (hydro_variables h) ≤ 200
  few_variables =
      let n = length-hydro_variables h in
      let t = travels_are h in
      let s = i.few_states in
      let r = i.few_reservoirs in
      let g = i.few_thermals in
      let l = i.few_lines in
      let b = i.few_buses in
      omega (arith, n, t, s, r, g, l, b)

  pub decisions_read : (p : ℕ) → decisions.decisions_at p (map role_of xs) ≡ Ok (map (place (column_name h) xs) decs)
  unfolding decisions.decisions_at
  decisions_read p = rw (places_decided, length-map decs (place (column_name h) xs), length-map vs decided, le-leb (length vs) 200 few_variables) refl

  pub fits : AllByRecursion (λ s. FitsState (column_name h) xs role_of (before s) (decided (after s))) (stores h)
  fits = each_store h (λ s. FitsState (column_name h) xs role_of (before s) (decided (after s))) (record {
    volume = λ j p. record { first = (standing h i).stores.volume j p; second = (standing h i).variables.volume j p; comes = refl; goes = refl };
    way = λ j k p low high. record { first = (standing h i).stores.way j k p low high; second = (standing h i).variables.way j k p low high; comes = refl; goes = refl };
  })

  pub random_fits : AllByRecursion (λ c. Stands (column_name h) xs (random c) × (role_of (random c) ≡ uses.random)) (chances h)
  random_fits = each_chance h (λ c. Stands (column_name h) xs (random c) × (role_of (random c) ≡ uses.random)) (record { inflow = λ j p. ((standing h i).chances.inflow j p, refl); demand = λ b p. ((standing h i).chances.demand b p, refl) })

  pub items_count : (ds : List Data) → items_len (items_of ds) ≡ length ds
  items_count [] = refl
  items_count (x ∷ ds) = ap suc (items_count ds)

  pub chances_count : length (chances h) ≤ 50
  chances_count =
      let a = length-append (map inflow_of (all_reservoirs h)) (map demand_of (all_buses h)) in
      let b = length-map (all_reservoirs h) inflow_of in
      let c = length-map (all_buses h) demand_of in
      let e = length-range_with_len 0 (length h.reservoirs) in
      let f = length-range_with_len 0 (length h.buses) in
      let r = i.few_reservoirs in
      let s = i.few_buses in
      omega (arith, a, b, c, e, f, r, s)

  abbrev pub states_are : List State
  states_are = map (λ s. record { name = state_name h s; initial = store_initial h s }) (stores h)

  -- the variables as they are read
  abbrev pub form_vars : Rattle.hydro_accept.proofs.Constraints.Variables
  form_vars = vars (column_name h) role_of xs (map before (stores h)) ps decs (map (λ s. decided (after s)) (stores h)) (map (chance_name h) (chances h)) distinct

  pub short_names : AllByRecursion (λ c. length (column_name h c) ≤ 128) xs
  short_names = each_column h (λ c. length (column_name h c) ≤ 128) (more_of h (λ c. IsFit (column_name h c)) (λ c. length (column_name h c) ≤ 128) (λ c f. f.few) (fit_columns h i))
