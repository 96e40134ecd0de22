-- The base cuts of the problem that hydro plants mean are 0, and fit.
use Rattle.std.proofs.Common.{◌≡◌, ℕ, zero, suc, ◌+◌, ◌*◌, ◌-◌, ◌^◌, ◌<◌, ◌≤◌, ◌⊎◌, inl, inr, max, ℤ, pos, nat_abs, ◌+ℤ◌, ◌*ℤ◌, ◌≤ℤ◌, List, [], ◌∷◌, length, map, drop, replicate, sum, mul-le-mul, Ok, refl, sym, ap, ap₂, subst, ◌∙◌, arith, drop_of_length-le}
use Rattle.std.specs.List.{AllByRecursion}
use Rattle.std.proofs.lemmas.Bool.{cases_lt}
use Rattle.std.proofs.lemmas.Int.{ints}
use Rattle.std.proofs.lemmas.List.{length-map}
use Rattle.std.proofs.lemmas.List.Sums.{sum_by-cons}
use Rattle.std.proofs.Math.Seq.{drop-cons}
use lib.IntN.{zero-*ℤ, *ℤ-zero}
use Rattle.base_num.specs.Sums.{sum_to, entry, dot}
use Rattle.base_num.proofs.Order.{le_scale}
use Rattle.theory.specs.declared.cut.Cut.{Cut}
use Rattle.theory.specs.Problem.{S, Problem, node_at, weight_of_realizations, weight_of_successors}
use Rattle.theory.specs.Range.{based}
use Rattle.theory.specs.Size.{magnitude, magnitudes, reach}
use Rattle.theory.specs.View.{problem_of}
use Rattle.theory.proofs.Ranges.{some_pos}
use Rattle.hydro_read.specs.declared.plants.Inflow.{Inflow}
use Rattle.hydro_read.specs.declared.plants.Stage.{Stage}
use Rattle.hydro_read.specs.declared.plants.Plants.{Plants}
use Rattle.hydro_read.specs.Stages.{total_inflow_weight}
use Rattle.hydro_read.specs.Described.{IsInflow, IsPlants}
use Rattle.hydro_make.specs.Layout.{HydroStore, volume_of, way_of, Variable, after, turbine_of, spill_of, thermal_of, line_of, deficit_of, Chance, numbered_reservoir, thermal, bus, stores, hydro_variables, chances, variable_least, variable_greatest, cost_of, store_low}
use Rattle.hydro_make.specs.Rows.{no_store, no_chance}
use Rattle.hydro_make.specs.Made.{realization, following, stage_node, node_from}
use Rattle.hydro_make.specs.Nodes.{hydro_stage}
use Rattle.hydro_gen.proofs.Basing.{Tame, MayBeTame, all_based, no_cuts_zero}
use Rattle.hydro_accept.proofs.Pairs.{all_weaker}
use Rattle.hydro_accept.proofs.Listing.{OfVariables, each_variable}
use Rattle.hydro_accept.proofs.Stands.{boxes, reservoir_is, thermal_is, bus_is}
use Rattle.hydro_accept.proofs.Constraints.{IsBox}
use Rattle.hydro_accept.proofs.Used.{few_variables}
use Rattle.hydro_accept.proofs.AllParts.{stage_is}
use Rattle.hydro_accept.proofs.Meaning.{many, validated_form, same_problem}

-- ---- lists of zeros

dot_none : (cs : List Chance) (ys : List ℤ) → dot (map no_chance cs) ys ≡ pos 0
dot_none [] ys = refl
dot_none (c ∷ cs) [] = refl
dot_none (c ∷ cs) (y ∷ ys) = ap₂ ◌+ℤ◌ (zero-*ℤ y) (dot_none cs ys)

dot_small : (cs : List Chance) (ys : List ℤ) → dot (magnitudes (map no_chance cs)) ys ≡ pos 0
dot_small [] ys = refl
dot_small (c ∷ cs) [] = refl
dot_small (c ∷ cs) (y ∷ ys) = ap₂ ◌+ℤ◌ (zero-*ℤ y) (dot_small cs ys)

entry_none : (ss : List HydroStore) (k : ℕ) → entry (map no_store ss) k ≡ pos 0
entry_none [] k = refl
entry_none (s ∷ ss) zero = refl
entry_none (s ∷ ss) (suc k) = entry_none ss k

-- ---- entries

each_entry : {A : Type 0} (P : ℤ → Type 0) (f : A → ℤ) → P (pos 0) → (xs : List A) → AllByRecursion (λ x. P (f x)) xs → (j : ℕ) → P (entry (map f xs) j)
each_entry P f z [] a j = z
each_entry P f z (x ∷ xs) a zero = a.0
each_entry P f z (x ∷ xs) (a) (suc j) = each_entry P f z xs a.1 j

both_entries : {A : Type 0} (f g : A → ℤ) → ((x : A) → f x *ℤ g x ≡ pos 0) → (xs : List A) (j : ℕ) → entry (map f xs) j *ℤ entry (map g xs) j ≡ pos 0
both_entries f g e [] j = refl
both_entries f g e (x ∷ xs) zero = e x
both_entries f g e (x ∷ xs) (suc j) = both_entries f g e xs j

sum_most : (n : ℕ) (f : ℕ → ℤ) (most : ℕ) → ((j : ℕ) → f j ≤ℤ pos most) → sum_to n f ≤ℤ pos (n * most)
sum_most zero f most e = omega (arith, ints)
sum_most (suc n) f most e =
    let first = e 0 in
    let tail = sum_most n (λ j. f (suc j)) most (λ j. e (suc j)) in
    omega (arith, ints, first, tail)

module _ (h : Plants) (i : IsPlants h) where
  free : (v : Variable) → cost_of h v *ℤ variable_least h v ≡ pos 0
  free (after s) = zero-*ℤ (store_low h s)
  free (turbine_of j) = refl
  free (spill_of j) = *ℤ-zero (numbered_reservoir h j).spill_cost
  free (thermal_of n) = *ℤ-zero (thermal h n).cost
  free (line_of l) = refl
  free (deficit_of b) = *ℤ-zero (bus h b).deficit_cost

  not_negative : OfVariables h (λ v. (pos 0 ≤ℤ cost_of h v) × (pos 0 ≤ℤ variable_greatest h v))
  not_negative =
      let b = (boxes h i).variables in
      let above : (low high : ℤ) → pos 0 ≤ℤ low → IsBox low high → pos 0 ≤ℤ high = λ low high z x. let o = x.order in omega (arith, ints, o, z) in
      record {
        volume = λ j p. (some_pos 0, above (store_low h (volume_of j)) (variable_greatest h (after (volume_of j))) (reservoir_is h i j p).low.low (b.volume j p));
        way = λ j k p low high. (some_pos 0, above (pos 0) (variable_greatest h (after (way_of j k))) (some_pos 0) (b.way j k p low high));
        turbine = λ j p. (some_pos 0, (b.turbine j p).order);
        spill = λ j p. ((reservoir_is h i j p).spill_cost.low, (b.spill j p).order);
        thermal = λ n p. ((thermal_is h i n p).cost.low, (b.thermal n p).order);
        line = λ l p. (some_pos 0, (b.line l p).order);
        deficit = λ n p. ((bus_is h i n p).deficit_cost.low, (b.deficit n p).order);
      }

  all_not_negative : AllByRecursion (λ v. (pos 0 ≤ℤ cost_of h v) × (pos 0 ≤ℤ variable_greatest h v)) (hydro_variables h)
  all_not_negative = each_variable h (λ v. (pos 0 ≤ℤ cost_of h v) × (pos 0 ≤ℤ variable_greatest h v)) not_negative

  -- ---- sizes

  abbrev reach_of : ℤ → ℤ → ℤ
  reach_of low high = pos (max 1 (max (nat_abs low) (nat_abs high)))

  product_most : (a b : ℕ) → a ≤ 2 ^ 20 → b ≤ 2 ^ 20 → (pos a *ℤ pos b) ≤ℤ pos (2 ^ 40)
  product_most a b p q = let m = mul-le-mul p q in omega (arith, ints, m)

  costless : (r : ℤ) → (r *ℤ magnitude (pos 0)) ≤ℤ pos (2 ^ 40)
  costless r = subst (λ (z : ℤ). z ≤ℤ pos (2 ^ 40)) (sym (*ℤ-zero r)) (omega (arith, ints))

  costly : (high cost : ℤ) → pos 0 ≤ℤ high → high ≤ℤ pos (2 ^ 20) → pos 0 ≤ℤ cost → cost ≤ℤ pos (2 ^ 20) → (reach_of (pos 0) high *ℤ magnitude cost) ≤ℤ pos (2 ^ 40)
  costly high cost a b c d = product_most (max 1 (max 0 (nat_abs high))) (nat_abs cost) (omega (arith, ints, a, b)) (omega (arith, ints, c, d))

  abbrev IsMost : Variable → Type 0
  IsMost v = (reach_of (variable_least h v) (variable_greatest h v) *ℤ magnitude (cost_of h v)) ≤ℤ pos (2 ^ 40)

  most_of : OfVariables h IsMost
  most_of = record {
    volume = λ j p. costless (reach_of (variable_least h (after (volume_of j))) (variable_greatest h (after (volume_of j))));
    way = λ j k p low high. costless (reach_of (variable_least h (after (way_of j k))) (variable_greatest h (after (way_of j k))));
    turbine = λ j p. costless (reach_of (pos 0) (variable_greatest h (turbine_of j)));
    spill = λ j p. let r = reservoir_is h i j p in costly (numbered_reservoir h j).spill (numbered_reservoir h j).spill_cost r.spill.low r.spill.high r.spill_cost.low r.spill_cost.high;
    thermal = λ n p. let t = thermal_is h i n p in costly (thermal h n).high (thermal h n).cost t.high.low t.high.high t.cost.low t.cost.high;
    line = λ l p. costless (reach_of (pos 0) (variable_greatest h (line_of l)));
    deficit = λ n p. let b = bus_is h i n p in costly (pos (2 ^ 20)) (bus h n).deficit_cost (omega (arith, ints)) (omega (arith, ints)) b.deficit_cost.low b.deficit_cost.high;
  }

  reach_entries : (vs : List Variable) → AllByRecursion IsMost vs → (j : ℕ) → (reach (map (variable_least h) vs) (map (variable_greatest h) vs) j *ℤ magnitude (entry (map (cost_of h) vs) j)) ≤ℤ pos (2 ^ 40)
  reach_entries [] a j = costless (pos 1)
  reach_entries (v ∷ vs) a zero = a.0
  reach_entries (v ∷ vs) a (suc j) = reach_entries vs a.1 j

  abbrev costs_size : ℤ
  costs_size = sum_to (length (map (cost_of h) (hydro_variables h))) (λ j. reach (map (variable_least h) (hydro_variables h)) (map (variable_greatest h) (hydro_variables h)) j *ℤ magnitude (entry (map (cost_of h) (hydro_variables h)) j))

  costs_small : costs_size ≤ℤ pos (2 ^ 48)
  costs_small =
      let most = sum_most (length (map (cost_of h) (hydro_variables h))) (λ j. reach (map (variable_least h) (hydro_variables h)) (map (variable_greatest h) (hydro_variables h)) j *ℤ magnitude (entry (map (cost_of h) (hydro_variables h)) j)) (2 ^ 40) (reach_entries (hydro_variables h) (each_variable h IsMost most_of)) in
      let count = length-map (hydro_variables h) (cost_of h) in
      let few = few_variables h i in
      omega (arith, ints, most, count, few)

  far_within : (k : ℕ) (c : ℤ) → k ≤ 2 ^ 64 → (pos k *ℤ c) ≤ℤ (pos k *ℤ pos (2 ^ 48)) → (pos k *ℤ c) ≤ℤ pos (2 ^ 127 - 1)
  far_within k c p l = omega (arith, ints, p, l)

  -- ---- weights

  weights_are : (demand : List ℤ) (fs : List Inflow) → weight_of_realizations (map (realization h demand) fs) ≡ sum (map (λ (f : Inflow). f.weight) fs)
  weights_are demand [] = refl
  weights_are demand (f ∷ fs) = ap (λ (w : ℕ). f.weight + w) (weights_are demand fs) ∙ sym (sum_by-cons (λ k. k) f.weight (map (λ (g : Inflow). g.weight) fs))

  some_weight : (fs : List Inflow) → 0 < length fs → AllByRecursion (IsInflow (length h.reservoirs)) fs → 0 < sum (map (λ (f : Inflow). f.weight) fs)
  some_weight [] p a = absurd (omega arith)
  some_weight (f ∷ fs) p a = let w = a.0.weight in let all = sum_by-cons (λ k. k) f.weight (map (λ (g : Inflow). g.weight) fs) in omega (arith, w, all)

  one_successor : (m : ℕ) (ss : List Stage) → weight_of_successors 0 (following m ss) ≡ 1
  one_successor m [] = refl
  one_successor m (s ∷ ss) = refl

  some_divisor : (q w : ℕ) → q ≡ 1 → 0 < w → 0 < S * q * w
  unfolding S
  some_divisor q w e p = rw e (omega (arith, p))

  factor_fits : (q w : ℕ) → q ≡ 1 → w ≤ 65535 → w * (S * S * q) ≤ 2 ^ 64
  unfolding S
  factor_fits q w e p = rw e (omega (arith, p))

  -- ---- nodes

  tame_node : (m : ℕ) → m < many h i → (k : ℕ) (ss : List Stage) → Tame (stage_node h (hydro_stage h m) (following k ss))
  unfolding stage_node total_inflow_weight
  tame_node m p k ss =
      let s = stage_is h i m p in
      let total = weights_are (hydro_stage h m).demand (hydro_stage h m).inflows in
      let some = some_weight (hydro_stage h m).inflows s.some_inflows s.inflows in
      let few = s.weights in
      let q : ℕ = weight_of_successors 0 (following k ss) in
      let w : ℕ = weight_of_realizations (map (realization h (hydro_stage h m).demand) (hydro_stage h m).inflows) in
      record {
        constant = refl;
        randoms = dot_none (chances h);
        randoms_small = dot_small (chances h);
        states = entry_none (stores h);
        lows = both_entries (cost_of h) (variable_least h) free (hydro_variables h);
        highs = each_entry (λ z. pos 0 ≤ℤ z) (variable_greatest h) (some_pos 0) (hydro_variables h) (all_weaker (λ v. (pos 0 ≤ℤ cost_of h v) × (pos 0 ≤ℤ variable_greatest h v)) (λ v. pos 0 ≤ℤ variable_greatest h v) (λ v b. b.1) (hydro_variables h) all_not_negative);
        costs = each_entry (λ z. pos 0 ≤ℤ z) (cost_of h) (some_pos 0) (hydro_variables h) (all_weaker (λ v. (pos 0 ≤ℤ cost_of h v) × (pos 0 ≤ℤ variable_greatest h v)) (λ v. pos 0 ≤ℤ cost_of h v) (λ v b. b.0) (hydro_variables h) all_not_negative);
        weights = some_divisor q w (one_successor k ss) (omega (arith, total, some));
        fits = far_within (w * (S * S * q)) costs_size (factor_fits q w (one_successor k ss) (omega (arith, total, few))) (le_scale (w * (S * S * q)) costs_size (pos (2 ^ 48)) costs_small);
      }

  may_node : (m : ℕ) → (m < many h i) ⊎ (many h i ≤ m) → MayBeTame (node_from h m (drop m h.stages))
  may_node m (inl p) = subst (λ (ss : List Stage). MayBeTame (node_from h m ss)) (sym (drop-cons h.stages m (record { demand = []; inflows = [] }) p)) (inr (tame_node m p (suc m) (drop (suc m) h.stages)))
  may_node m (inr p) = subst (λ (ss : List Stage). MayBeTame (node_from h m ss)) (sym (drop_of_length-le h.stages p)) (inl refl)

  pub base_form : (all : List (List Cut)) × (based (validated_form h i) ≡ Ok all)
  unfolding based
  base_form =
      let s = validated_form h i in
      all_based (problem_of s) (λ m. subst (λ (p : Problem). MayBeTame (node_at p m)) (sym (same_problem h i)) (may_node m (cases_lt m (many h i)))) s.order (replicate (length s.parts.nodes) []) (no_cuts_zero (length s.parts.nodes))
