-- A plan costs what its tree costs.
use Rattle.std.proofs.Common.{◌≡◌, ℕ, suc, ◌+◌, ◌*◌, ◌<◌, ℤ, pos, ◌+ℤ◌, ◌*ℤ◌, List, [], ◌∷◌, length, map, drop, sum, refl, ap, ap₂, ◌∙◌, arith}
use lib.IntN.{zero-*ℤ}
use Rattle.base_num.specs.Sums.{total, dot}
use Rattle.base_num.proofs.Sums.{total_ext}
use Rattle.base_num.proofs.Ring.{ring, var, num, ◌⊕◌, ◌⊗◌}
use Rattle.theory.specs.Cost.{stage, cost_sum, costs_of, policy_cost}
use Rattle.theory.specs.Fraction.{Fraction, plus, times, over, weighted}
use Rattle.theory.specs.Problem.{Successor, Node, Problem, node_at, weight_of_realizations, realization_weight, successor_weights, weight_of_successors}
use Rattle.theory.specs.Tree.{next_state, times_all}
use Rattle.hydro_read.specs.declared.plants.Inflow.{Inflow}
use Rattle.hydro_read.specs.declared.plants.Stage.{Stage}
use Rattle.hydro_read.specs.declared.plants.Plants.{Plants}
use Rattle.hydro_make.specs.Layout.{HydroStore, volume_of, way_of, Variable, numbered_reservoir, thermal, bus, travel, all_reservoirs, all_thermals, all_lines, all_buses, steps, stores, hydro_variables, chances, cost_of}
use Rattle.hydro_make.specs.Rows.{no_store, no_chance}
use Rattle.hydro_make.specs.Made.{realization, following, stage_node, node_from, problem_of_plants}
use Rattle.hydro_make.specs.Plan.{Choice, Plan, no_plan, choose, LaterPlan, the_end, later, Moment, Past}
use Rattle.hydro_make.specs.PlanCost.{choice_cost, inflow_weight, inflow_branches_cost, later_cost, plan_cost}
use Rattle.hydro_make.specs.Trees.{ahead_of, value_with, full, branches_of, later_of, plan_forest}
use Rattle.hydro_make.proofs.Lists.{total_none}
use Rattle.hydro_make.proofs.Blocks.{of_reservoir, total-hydro_variables, none}
use Rattle.hydro_make.proofs.Equivalent.{next_left}

dot-map : {A : Type 0} (c x : A → ℤ) (ds : List A) → dot (map c ds) (map x ds) ≡ total (λ d. c d *ℤ x d) ds
dot-map c x [] = refl
dot-map c x (d ∷ ds) = ap (λ (z : ℤ). c d *ℤ x d +ℤ z) (dot-map c x ds)

dot_none : {A : Type 0} (c : A → ℤ) (ds : List A) (ys : List ℤ) → ((d : A) → c d ≡ pos 0) → dot (map c ds) ys ≡ pos 0
dot_none c [] ys h = refl
dot_none c (d ∷ ds) [] h = refl
dot_none c (d ∷ ds) (y ∷ ys) h = ap₂ ◌+ℤ◌ (ap (λ (z : ℤ). z *ℤ y) (h d) ∙ zero-*ℤ y) (dot_none c ds ys h)

-- thermals, deficits and spills alone cost
costs_sum : (h : Plants) (c : Choice) (next : HydroStore → ℤ) → total (λ d. cost_of h d *ℤ value_with c next d) (hydro_variables h)
    ≡ total (λ i. (thermal h i).cost *ℤ c.thermal i) (all_thermals h) +ℤ total (λ b. (bus h b).deficit_cost *ℤ c.deficit b) (all_buses h)
    +ℤ total (λ j. (numbered_reservoir h j).spill_cost *ℤ c.spill j) (all_reservoirs h)
costs_sum h c next =
    let f : Variable → ℤ = λ d. cost_of h d *ℤ value_with c next d in
    let ts : ℤ = total (λ i. (thermal h i).cost *ℤ c.thermal i) (all_thermals h) in
    let ds : ℤ = total (λ b. (bus h b).deficit_cost *ℤ c.deficit b) (all_buses h) in
    let ss : ℤ = total spilled (all_reservoirs h) in
    total-hydro_variables h f
    ∙ ap₂ (λ (x y : ℤ). x +ℤ ts +ℤ y +ℤ ds) (total_ext (of_reservoir h f) spilled (all_reservoirs h) block) (total_none (λ l. pos 0 *ℤ c.line l) (all_lines h) (λ l. none (c.line l)))
    ∙ ring (ss ∷ ts ∷ ds ∷ []) (var 0 ⊕ var 1 ⊕ num (pos 0) ⊕ var 2) (var 1 ⊕ var 2 ⊕ var 0) tt
  where
    spilled : ℕ → ℤ
    spilled j = (numbered_reservoir h j).spill_cost *ℤ c.spill j

    block : (i : ℕ) → of_reservoir h (λ d. cost_of h d *ℤ value_with c next d) i ≡ spilled i
    block i =
        ap₂ ◌+ℤ◌ (none (next (volume_of i)))
        (ap₂ ◌+ℤ◌ (none (c.turbine i)) (ap (λ (z : ℤ). spilled i +ℤ z) (total_none (λ k. pos 0 *ℤ next (way_of i k)) (steps (travel h i)) (λ k. none (next (way_of i k))))))
        ∙ ring (spilled i ∷ []) (num (pos 0) ⊕ (num (pos 0) ⊕ (var 0 ⊕ num (pos 0)))) (var 0) tt

stage_is : (h : Plants) (units : ℕ) (s : Stage) (successors : List Successor) (values xi : List ℤ) (past : Past) (here : Moment) → stage units (stage_node h s successors) values xi (full h units past here) ≡ choice_cost h units here.choice
unfolding stage_node
stage_is h units s successors values xi past here =
    let next : HydroStore → ℤ = ahead_of h units (here ∷ past) in
    let own : ℤ =
    total (λ i. (thermal h i).cost *ℤ here.choice.thermal i) (all_thermals h) +ℤ total (λ b. (bus h b).deficit_cost *ℤ here.choice.deficit b) (all_buses h)
    +ℤ total (λ j. (numbered_reservoir h j).spill_cost *ℤ here.choice.spill j) (all_reservoirs h) in
    ap (λ (z : ℤ). record { up = z; under = units })
    (ap₂ ◌+ℤ◌ (ap₂ ◌+ℤ◌ (ap (λ (z : ℤ). pos units *ℤ pos 0 +ℤ pos units *ℤ z) (dot_none no_chance (chances h) values (λ d. refl))) (dot-map (cost_of h) (value_with here.choice next) (hydro_variables h) ∙ costs_sum h here.choice next)) (dot_none no_store (stores h) xi (λ d. refl))
    ∙ ring (pos units ∷ own ∷ []) (var 0 ⊗ num (pos 0) ⊕ var 0 ⊗ num (pos 0) ⊕ var 1 ⊕ num (pos 0)) (var 1) tt)

one_successor : (f : Fraction) → over (weighted (1 ∷ []) (f ∷ [])) 1 ≡ f
one_successor f =
    let e : f.under * 1 * 1 ≡ f.under = omega arith in
    ap₂ (λ (a : ℤ) (b : ℕ). record { up = a; under = b }) (ring (f.up ∷ pos f.under ∷ []) (num (pos 1) ⊗ var 0 ⊗ num (pos 1) ⊕ num (pos 0) ⊗ var 1) (var 0) tt) e

weight_is : (h : Plants) (demand : List ℤ) (is : List Inflow) → weight_of_realizations (map (realization h demand) is) ≡ inflow_weight is
weight_is h demand [] = refl
weight_is h demand (i ∷ is) = ap (λ (k : ℕ). i.weight + k) (weight_is h demand is)

module _ (h : Plants) (units : ℕ) where
  abbrev made : Problem
  made = problem_of_plants h

  mutual
    unfolding stage_node

    tree_cost : (m : ℕ) (s : Stage) (stages : List Stage) (past : Past) (xi : List ℤ) (is : List Inflow) (p : Plan) → drop (suc m) h.stages ≡ stages
        → cost_sum made units (stage_node h s (following (suc m) stages)) (map (realization h s.demand) is) xi (branches_of h units stages past is p) ≡ inflow_branches_cost h units stages is p
    tree_cost m s stages past xi is no_plan e = refl
    tree_cost m s stages past xi [] (choose c l p) e = refl
    tree_cost m s stages past xi (i ∷ is) (choose c l p) e =
        let here : Moment = record { water = i.water; choice = c } in
        let n : Node = stage_node h s (following (suc m) stages) in
        ap₂ (λ (a b : Fraction). plus (times i.weight a) b)
        (ap₂ plus (stage_is h units s (following (suc m) stages) (realization h s.demand i).values xi past here) (forest_cost (suc m) stages (here ∷ past) (next_state n (full h units past here)) l e))
        (tree_cost m s stages past xi is p e)

    forest_cost : (m : ℕ) (stages : List Stage) (past : Past) (x : List ℤ) (l : LaterPlan) → drop m h.stages ≡ stages
        → over (weighted (successor_weights (following m stages)) (costs_of made units (following m stages) x (later_of h units stages past l))) (weight_of_successors 0 (following m stages)) ≡ later_cost h units stages l
    forest_cost m [] past x the_end e = refl
    forest_cost m (s ∷ stages) past x the_end e = refl
    forest_cost m [] past x (later p) e = refl
    forest_cost m (s ∷ stages) past x (later p) e =
        one_successor (over (cost_sum made units (node_at made m) (node_at made m).realizations x (branches_of h units stages past s.inflows p)) (realization_weight (node_at made m)))
        ∙ ap (λ (tail : List Stage). over (cost_sum made units (node_from h m tail) (node_from h m tail).realizations x (branches_of h units stages past s.inflows p)) (realization_weight (node_from h m tail))) e
        ∙ ap₂ over (tree_cost m s stages past x s.inflows p (next_left m h.stages s stages e)) (weight_is h s.demand s.inflows)

  some_stage : (stages : List Stage) (p : Plan) → drop 0 h.stages ≡ stages → 0 < length stages → (x : List ℤ)
      → over (weighted (successor_weights (following 0 stages)) (costs_of made units (following 0 stages) x (later_of h units stages [] (later p)))) (sum (successor_weights (following 0 stages))) ≡ later_cost h units stages (later p)
  some_stage [] p e z x = absurd (omega arith)
  some_stage (s ∷ stages) p e z x = forest_cost 0 (s ∷ stages) [] x (later p) e

  pub tree_of_cost : (p : Plan) → 0 < length h.stages → policy_cost made units (plan_forest h units p) ≡ plan_cost h units p
  tree_of_cost p z = some_stage h.stages p refl z (times_all units made.initial)
