-- The problem that is read means what the plants mean.
use Rattle.std.proofs.Common.{◌≡◌, ℕ, zero, suc, ◌+◌, ◌<◌, ◌≤◌, ◌⊎◌, inl, inr, ℤ, ◌≤ℤ◌, List, [], ◌∷◌, length, map, drop, slice_get, Bool, true, false, nat_lt, if◌then◌else◌, Some, None, refl, sym, ap, ap₂, subst, ◌∙◌, arith, length-drop, drop_of_length-le}
use mathlib.Core.Path.{fun_ext}
use Rattle.std.specs.List.{AllByRecursion, range_with_len}
use Rattle.std.proofs.lemmas.Bool.{cases_lt, lt-ltb, ltb-true}
use Rattle.std.proofs.lemmas.Int.{ints}
use Rattle.std.proofs.lemmas.List.{length-map}
use Rattle.std.proofs.Math.Seq.{drop-cons}
use Rattle.base_num.specs.Sums.{entry}
use Rattle.base_graph.specs.Paths.{numbers}
use Rattle.problem.specs.declared.parts.State.{State}
use Rattle.problem.specs.declared.parts.Decision.{Decision}
use Rattle.problem.specs.declared.parts.Node as all_parts
use Rattle.problem.specs.Validated.{Validated, initial_values}
use Rattle.theory.specs.Problem.{Successor, Node, node_at}
use Rattle.theory.specs.View.{realizations_of, successors_of, node_of, problem_of}
use Rattle.theory.proofs.Views.{node_at-problem_of, node_at-past}
use Rattle.hydro_read.specs.declared.plants.Inflow.{Inflow}
use Rattle.hydro_read.specs.declared.plants.Stage.{Stage}
use Rattle.hydro_read.specs.declared.plants.Plants.{Plants}
use Rattle.hydro_read.specs.Described.{IsPlants}
use Rattle.hydro_make.specs.Layout.{HydroStore, volume_of, way_of, Variable, after, stores, hydro_variables, chances, chance_value, store_low, store_high, store_initial, store_place, variable_least, variable_greatest}
use Rattle.hydro_make.specs.Made.{following, stage_node, node_from, problem_of_plants}
use Rattle.hydro_make.specs.Columns.{state_name}
use Rattle.hydro_make.specs.Nodes.{hydro_stage}
use Rattle.hydro_make.proofs.Places.{map_map}
use Rattle.hydro_accept.proofs.Named.{map_alike, map_ext, some_is}
use Rattle.hydro_accept.proofs.Listing.{OfStores, each_store}
use Rattle.hydro_accept.proofs.Stands.{reservoir_is, boxes}
use Rattle.hydro_accept.proofs.Subproblems.{form, choice_of, after_there}
use Rattle.hydro_accept.proofs.AllParts.{node_form, parts_form}
use Rattle.hydro_accept.proofs.Chain.{next}
use Rattle.hydro_accept.proofs.Boxing.{Inside, IsChain, validated, low_at, high_at, node_there}

-- ---- lists

realizations_made : (weight : Inflow → ℕ) (values : Inflow → List ℤ) (fs : List Inflow) → realizations_of (map weight fs) (map values fs) ≡ map (λ f. record { weight = weight f; values = values f }) fs
realizations_made weight values [] = refl
realizations_made weight values (f ∷ fs) = ap (λ rs. record { weight = weight f; values = values f } ∷ rs) (realizations_made weight values fs)

entries : {A : Type 0} (low high initial : A → ℤ) (xs : List A) → AllByRecursion (λ x. Inside (low x) (high x) (initial x)) xs → (s : ℕ) → s < length (map low xs)
    → (z : ℤ) × (slice_get (map initial xs) s ≡ Some z) × Inside (entry (map low xs) s) (entry (map high xs) s) z
entries low high initial [] a s p = absurd (omega arith)
entries low high initial (x ∷ xs) a zero p = (initial x, refl, a.0)
entries low high initial (x ∷ xs) a (suc s) p = entries low high initial xs a.1 s (omega arith)

orders : {A : Type 0} (low high : A → ℤ) (xs : List A) → AllByRecursion (λ x. low x ≤ℤ high x) xs → (s : ℕ) → s < length (map low xs) → entry (map low xs) s ≤ℤ entry (map high xs) s
orders low high [] a s p = absurd (omega arith)
orders low high (x ∷ xs) a zero p = a.0
orders low high (x ∷ xs) a (suc s) p = orders low high xs a.1 s (omega arith)

entry_there : {A : Type 0} (f : A → ℤ) (xs : List A) (k : ℕ) (x : A) → slice_get xs k ≡ Some x → entry (map f xs) k ≡ f x
entry_there f [] k x at = absurd cc
entry_there f (y ∷ ys) zero x at = ap f (some_is y x at)
entry_there f (y ∷ ys) (suc k) x at = entry_there f ys k x at

module _ (h : Plants) (i : IsPlants h) where
  abbrev pub many : ℕ
  many = length h.stages

  abbrev pub lows : List ℤ
  lows = map (store_low h) (stores h)

  abbrev pub highs : List ℤ
  highs = map (store_high h) (stores h)

  inside : OfStores h (λ s. Inside (store_low h s) (store_high h s) (store_initial h s))
  inside = record {
    volume = λ j p. let r = reservoir_is h i j p in record { above = r.initial.low; below = r.initial.high };
    way = λ j k p low high. let b = (boxes h i).stores.way j k p low high in record { above = omega (arith, ints); below = b.order };
  }

  ordered : OfStores h (λ s. store_low h s ≤ℤ store_high h s)
  ordered = let b = (boxes h i).stores in record { volume = λ j p. (b.volume j p).order; way = λ j k p low high. (b.way j k p low high).order }

  initials : initial_values (parts_form h i) ≡ map (store_initial h) (stores h)
  initials = map_map (λ (s : State). s.initial) (λ s. record { name = state_name h s; initial = store_initial h s }) (stores h)

  outs_at : (x : Variable → ℤ) (f : Decision → ℤ) (b : HydroStore → ℤ) → ((v : Variable) → f (choice_of h i v) ≡ x v) → ((s : HydroStore) → x (after s) ≡ b s) → map (λ o. entry (map f (form h i).decisions) o) (form h i).outs ≡ map b (stores h)
  outs_at x f b e1 e2 =
      let values : map f (map (choice_of h i) (hydro_variables h)) ≡ map x (hydro_variables h) = map_map f (choice_of h i) (hydro_variables h) ∙ map_ext (λ v. f (choice_of h i v)) x (hydro_variables h) e1 in
      ap (λ (zs : List ℤ). map (λ o. entry zs o) (map (store_place h) (stores h))) values
      ∙ map_map (λ o. entry (map x (hydro_variables h)) o) (store_place h) (stores h)
      ∙ map_alike (λ s. entry (map x (hydro_variables h)) (store_place h s)) b (stores h)
      (each_store h (λ s. entry (map x (hydro_variables h)) (store_place h s) ≡ b s)
      (let t = after_there h i in record {
        volume = λ j p. entry_there x (hydro_variables h) (store_place h (volume_of j)) (after (volume_of j)) (t.volume j p) ∙ e2 (volume_of j);
        way = λ j k p low high. entry_there x (hydro_variables h) (store_place h (way_of j k)) (after (way_of j k)) (t.way j k p low high) ∙ e2 (way_of j k);
      }))

  graph_is : (ns : List ℕ) → map (λ (n : all_parts.Node). n.successors) (map (node_form h i) ns) ≡ map (next many) ns
  graph_is ns = map_map (λ (n : all_parts.Node). n.successors) (node_form h i) ns

  pub is_chain : IsChain (parts_form h i) (node_form h i) (form h i) many lows highs
  is_chain = record {
    some = i.some_stages;
    nodes = refl;
    own = λ m. refl;
    subs = refl;
    root = refl;
    graph = graph_is (numbers many);
    low = sym (map_map Some (store_low h) (stores h));
    high = sym (map_map Some (store_high h) (stores h));
    out_low = outs_at (variable_least h) (λ (d : Decision). d.low) (store_low h) (λ v. refl) (λ s. refl);
    out_high = outs_at (variable_greatest h) (λ (d : Decision). d.high) (store_high h) (λ v. refl) (λ s. refl);
    states = length-map (stores h) (λ s. record { name = state_name h s; initial = store_initial h s }) ∙ sym (length-map (stores h) (store_low h));
    as_many = length-map (stores h) (store_high h) ∙ sym (length-map (stores h) (store_low h));
    ordered = orders (store_low h) (store_high h) (stores h) (each_store h (λ s. store_low h s ≤ℤ store_high h s) ordered);
    initial = λ s p. subst (λ (zs : List ℤ). (z : ℤ) × (slice_get zs s ≡ Some z) × Inside (entry lows s) (entry highs s) z) (sym initials) (entries (store_low h) (store_high h) (store_initial h) (stores h) (each_store h (λ s. Inside (store_low h s) (store_high h s) (store_initial h s)) inside) s p);
  }

  -- the problem that is read
  abbrev pub validated_form : Validated
  validated_form = validated (parts_form h i) (node_form h i) (form h i) many lows highs is_chain

  -- ---- its nodes

  following_by : (m : ℕ) (ss : List Stage) (n : ℕ) → n ≡ m + length ss → successors_of (if nat_lt m n then m ∷ [] else []) (if nat_lt m n then 1 ∷ [] else []) ≡ following m ss
  following_by m [] n e = let no : nat_lt m n ≡ false = none in rw no refl
    where
      none : nat_lt m n ≡ false
      none = by (nat_lt m n) refl
        where
          by : (b : Bool) → nat_lt m n ≡ b → b ≡ false
          by true is = absurd (omega (arith, e, ltb-true m n is))
          by false is = refl
  following_by m (s ∷ ss) n e = rw (lt-ltb m n (omega (arith, e))) refl

  later_length : (m : ℕ) → m < many → many ≡ suc m + length (drop (suc m) h.stages)
  later_length m p = let l = length-drop (suc m) h.stages in omega (arith, l, p)

  node_is : (m : ℕ) → m < many → node_of (node_form h i m) (form h i) lows highs ≡ stage_node h (hydro_stage h m) (following (suc m) (drop (suc m) h.stages))
  unfolding node_of stage_node
  node_is m p =
      rw (
        map_map (λ (d : Decision). d.low) (choice_of h i) (hydro_variables h),
        map_map (λ (d : Decision). d.high) (choice_of h i) (hydro_variables h),
        map_map (λ (d : Decision). d.cost) (choice_of h i) (hydro_variables h),
        realizations_made (λ (f : Inflow). f.weight) (λ (f : Inflow). map (chance_value (hydro_stage h m).demand f.water) (chances h)) (hydro_stage h m).inflows,
        following_by (suc m) (drop (suc m) h.stages) many (later_length m p),
      ) refl

  same_node : (m : ℕ) → (m < many) ⊎ (many ≤ m) → node_at (problem_of validated_form) m ≡ node_from h m (drop m h.stages)
  same_node m (inl p) =
      node_at-problem_of validated_form m (node_form h i m) (form h i) (node_there (node_form h i) many m p) refl
      ∙ ap₂ (node_of (node_form h i m) (form h i)) (low_at (parts_form h i) (node_form h i) (form h i) many lows highs is_chain m p) (high_at (parts_form h i) (node_form h i) (form h i) many lows highs is_chain m p)
      ∙ node_is m p ∙ sym (ap (node_from h m) (drop-cons h.stages m (record { demand = []; inflows = [] }) p))
  same_node m (inr p) =
      node_at-past validated_form m (past (node_form h i) 0 many m p) ∙ sym (ap (node_from h m) (drop_of_length-le h.stages p))
    where
      past : (f : ℕ → all_parts.Node) (a n m : ℕ) → n ≤ m → slice_get (map f (range_with_len a n)) m ≡ None
      past f a zero m p = refl
      past f a (suc n) zero p = absurd (omega arith)
      past f a (suc n) (suc m) p = past f (a + 1) n m (omega arith)

  first_following : (ss : List Stage) → 0 < length ss → successors_of (0 ∷ []) (1 ∷ []) ≡ following 0 ss
  first_following [] p = absurd (omega arith)
  first_following (s ∷ ss) p = refl

  pub same_problem : problem_of validated_form ≡ problem_of_plants h
  unfolding problem_of
  same_problem =
      ap₂ (λ (ns : ℕ → Node) (r : List Successor × List ℤ). record { nodes = ns; root = r.0; initial = r.1 })
      (fun_ext (λ m. same_node m (cases_lt m many)))
      (ap₂ (λ (r : List Successor) (z : List ℤ). (r, z)) (first_following h.stages i.some_stages) initials)
