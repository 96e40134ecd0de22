-- Decisions that meet the boxes and rows of a stage are the numbers of a choice that works, and the states that it leads to.
use Rattle.std.proofs.Common.{◌≡◌, ◌↔◌, ℕ, zero, suc, ◌-◌, ◌<◌, ◌≤◌, ℤ, pos, ◌+ℤ◌, ◌*ℤ◌, ◌≤ℤ◌, List, [], ◌∷◌, length, map, drop, refl, sym, ap, ap₂, subst, ◌∙◌, arith}
use Rattle.std.proofs.lemmas.List.{length-map}
use Rattle.std.proofs.lemmas.List.Elements.{All-cons, All-head, All-tail}
use Rattle.std.proofs.lemmas.Int.{ints}
use lib.IntN.{*ℤ-zero, +ℤ_idr}
use Rattle.base_num.specs.Sums.{total, entry}
use Rattle.base_num.proofs.Ring.{mul_add}
use Rattle.theory.specs.Problem.{Successor}
use Rattle.theory.specs.Tree.{Decides, next_state, times_all}
use Rattle.hydro_read.specs.declared.plants.Stage.{Stage}
use Rattle.hydro_read.specs.declared.plants.Plants.{Plants}
use Rattle.hydro_make.specs.Layout.{HydroStore, volume_of, way_of, Variable, numbered_reservoir, travel, leads, all_reservoirs, stores, hydro_variables, chances, chance_value, variable_least, variable_greatest, store_initial, store_place, layout_place}
use Rattle.hydro_make.specs.Made.{stage_node}
use Rattle.hydro_make.specs.Plan.{Choice, Moment, Past, released, arrived, IsWithinUnits, InBounds, PastInBounds, Works}
use Rattle.hydro_make.specs.Trees.{left_ago, ahead_of, ahead, value_with, full, choice_of}
use Rattle.hydro_make.proofs.Lists.{map_same, total_none}
use Rattle.hydro_make.proofs.ByKind.{Each, all_variables, each_variable, all_stores}
use Rattle.hydro_make.proofs.Places.{at_place, by_places, map_map}
use Rattle.hydro_make.proofs.Meets.{Meets, meets_from, meets_to}

-- ---- what left a reservoir is within the bounds of both ways out

sum_within : (units : ℕ) (t z q w : ℤ) → IsWithinUnits units (pos 0) t q → IsWithinUnits units (pos 0) z w → IsWithinUnits units (pos 0) (t +ℤ z) (q +ℤ w)
sum_within units t z q w a b = record {
  above = low (pos units *ℤ pos 0) (*ℤ-zero (pos units)) a.above b.above;
  below = high (pos units *ℤ t) (pos units *ℤ z) (pos units *ℤ (t +ℤ z)) (mul_add (pos units) t z) a.below b.below;
}
  where
    low : (o : ℤ) → o ≡ pos 0 → o ≤ℤ q → o ≤ℤ w → o ≤ℤ (q +ℤ w)
    low o e f g = omega (arith, ints)

    high : (x y s : ℤ) → s ≡ x +ℤ y → q ≤ℤ x → w ≤ℤ y → (q +ℤ w) ≤ℤ s
    high x y s e f g = omega (arith, ints)

none_within : (units : ℕ) (r x : ℤ) → IsWithinUnits units (pos 0) r x → IsWithinUnits units (pos 0) r (pos 0)
none_within units r x w = record { above = low (pos units *ℤ pos 0) (*ℤ-zero (pos units)); below = high (pos units *ℤ pos 0) (pos units *ℤ r) (*ℤ-zero (pos units)) w.above w.below }
  where
    low : (o : ℤ) → o ≡ pos 0 → o ≤ℤ pos 0
    low o e = omega (arith, ints)

    high : (o y : ℤ) → o ≡ pos 0 → o ≤ℤ x → x ≤ℤ y → pos 0 ≤ℤ y
    high o y e f g = omega (arith, ints)

left_within : (h : Plants) (units j d : ℕ) (past : Past) → j < length h.reservoirs → IsWithinUnits units (pos 0) ((numbered_reservoir h j).turbine +ℤ (numbered_reservoir h j).spill) (pos 0) → PastInBounds h units past
    → IsWithinUnits units (pos 0) ((numbered_reservoir h j).turbine +ℤ (numbered_reservoir h j).spill) (left_ago j d past)
left_within h units j d [] p w b = w
left_within h units j zero (m ∷ past) p w b =
    let i : InBounds h units m.choice = All-head (λ (n : Moment). InBounds h units n.choice) m past b in
    sum_within units (numbered_reservoir h j).turbine (numbered_reservoir h j).spill (m.choice.turbine j) (m.choice.spill j) (i.turbine j p) (i.spill j p)
left_within h units j (suc d) (m ∷ past) p w b = left_within h units j d past p w (All-tail (λ (n : Moment). InBounds h units n.choice) m past b)

-- ---- one branch

module _ (h : Plants) (units : ℕ) (s : Stage) (successors : List Successor) (past : Past) (water : List ℤ) (short : (j : ℕ) → travel h j ≤ 3) where
  abbrev pub Decision : List ℤ → Type 0
  Decision u = Decides units (stage_node h s successors) (map (chance_value s.demand water) (chances h)) (ahead h units past) u

  abbrev moment : Choice → Moment
  moment c = record { water = water; choice = c }

  -- a full branch that meets boxes and rows works
  pub works_from : (c : Choice) → Decision (full h units past (moment c)) → Works h units s.demand past (moment c)
  works_from c d =
      let next : HydroStore → ℤ = ahead_of h units (moment c ∷ past) in
      let m : Meets h units s.demand past (moment c) next = meets_from h units s successors past water c next short d in
      let e : Each h (λ v. IsWithinUnits units (variable_least h v) (variable_greatest h v) (value_with c next v)) = each_variable h (λ v. IsWithinUnits units (variable_least h v) (variable_greatest h v) (value_with c next v)) m.box in
      record { bounds = record { turbine = e.turbines; spill = e.spills; thermal = e.thermals; line = e.lines; deficit = e.deficits }; volumes = e.volumes; buses = m.buses }

  -- a branch that works meets them
  pub works_to : (c : Choice) → PastInBounds h units past → Works h units s.demand past (moment c) → Decision (full h units past (moment c))
  works_to c b w =
      let next : HydroStore → ℤ = ahead_of h units (moment c ∷ past) in
      let all : PastInBounds h units (moment c ∷ past) = All-cons (λ (n : Moment). InBounds h units n.choice) (moment c) past w.bounds b in
      meets_to h units s successors past water c next short (record {
        box = all_variables h (λ v. IsWithinUnits units (variable_least h v) (variable_greatest h v) (value_with c next v)) (record {
          volumes = w.volumes;
          turbines = w.bounds.turbine;
          spills = w.bounds.spill;
          ways = λ j m p q. left_within h units j (travel h j - suc m) (moment c ∷ past) p
              (none_within units ((numbered_reservoir h j).turbine +ℤ (numbered_reservoir h j).spill) (c.turbine j +ℤ c.spill j) (sum_within units (numbered_reservoir h j).turbine (numbered_reservoir h j).spill (c.turbine j) (c.spill j) (w.bounds.turbine j p) (w.bounds.spill j p))) all;
          thermals = w.bounds.thermal;
          lines = w.bounds.line;
          deficits = w.bounds.deficit;
        });
        volumes = λ j p. refl;
        ways = λ j m p q. refl;
        buses = w.buses;
      })

  -- decisions that meet them are full
  pub full_from : (u : List ℤ) → Decision u → u ≡ full h units past (moment (choice_of h u))
  unfolding stage_node
  full_from u d =
      let c : Choice = choice_of h u in
      let own : HydroStore → ℤ = λ t. entry u (store_place h t) in
      let next : HydroStore → ℤ = ahead_of h units (moment c ∷ past) in
      let e : u ≡ map (value_with c own) (hydro_variables h) = by_places h u (d.box.count ∙ length-map (hydro_variables h) (variable_least h)) in
      let m : Meets h units s.demand past (moment c) own = meets_from h units s successors past water c own short (subst Decision e d) in
      e ∙ map_same (value_with c own) (value_with c next) (hydro_variables h) (all_variables h (λ v. value_with c own v ≡ value_with c next v) (record {
        volumes = m.volumes;
        turbines = λ j p. refl;
        spills = λ j p. refl;
        ways = m.ways;
        thermals = λ i p. refl;
        lines = λ l p. refl;
        deficits = λ b p. refl;
      }))

  -- decisions meet boxes and rows where they are full of their own numbers, and these work
  pub hydro_stage : (u : List ℤ) → PastInBounds h units past → Decision u ↔ (u ≡ full h units past (moment (choice_of h u))) × Works h units s.demand past (moment (choice_of h u))
  hydro_stage u b = (λ d. let e : u ≡ full h units past (moment (choice_of h u)) = full_from u d in (e, works_from (choice_of h u) (subst Decision e d)), λ w. subst Decision (sym w.0) (works_to (choice_of h u) b w.1))

  -- the state after a full branch
  pub next_ahead : (here : Moment) → next_state (stage_node h s successors) (full h units past here) ≡ ahead h units (here ∷ past)
  unfolding stage_node
  next_ahead here =
      let x : Variable → ℤ = value_with here.choice (ahead_of h units (here ∷ past)) in
      let e : Each h (λ v. entry (map x (hydro_variables h)) (layout_place h v) ≡ x v) = each_variable h (λ v. entry (map x (hydro_variables h)) (layout_place h v) ≡ x v) (at_place h x) in
      map_map (λ p. entry (full h units past here) p) (store_place h) (stores h)
      ∙ map_same (λ t. entry (full h units past here) (store_place h t)) (ahead_of h units (here ∷ past)) (stores h) (all_stores h (λ t. entry (full h units past here) (store_place h t) ≡ ahead_of h units (here ∷ past) t) e.volumes e.ways)

-- ---- the first state

nothing_left : (i n : ℕ) → total (released i) (drop n []) ≡ pos 0
nothing_left i zero = refl
nothing_left i (suc n) = refl

pub first_ahead : (h : Plants) (units : ℕ) → times_all units (map (store_initial h) (stores h)) ≡ ahead h units []
first_ahead h units = map_map (λ x. pos units *ℤ x) (store_initial h) (stores h) ∙ each (stores h)
  where
    same : (t : HydroStore) → pos units *ℤ store_initial h t ≡ ahead_of h units [] t
    same (volume_of j) =
        sym (ap₂ ◌+ℤ◌ (+ℤ_idr (pos units *ℤ (numbered_reservoir h j).initial)) (total_none (λ i. leads h i j *ℤ arrived h i []) (all_reservoirs h) (λ i. ap (λ (z : ℤ). leads h i j *ℤ z) (nothing_left i (travel h i)) ∙ *ℤ-zero (leads h i j))) ∙ +ℤ_idr (pos units *ℤ (numbered_reservoir h j).initial))
    same (way_of j k) = *ℤ-zero (pos units)

    each : (ts : List HydroStore) → map (λ t. pos units *ℤ store_initial h t) ts ≡ map (ahead_of h units []) ts
    each [] = refl
    each (t ∷ ts) = ap₂ ◌∷◌ (same t) (each ts)
