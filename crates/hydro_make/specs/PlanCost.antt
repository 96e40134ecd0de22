-- The expected cost of a plan: thermal, deficit and spill costs and the cost of later stages, averaged by the weights.
use Rattle.std.specs.Prelude.{ℕ, ◌+◌, ◌+ℤ◌, ◌*ℤ◌, List, [], ◌∷◌}
use Rattle.base_num.specs.Sums.{total}
use Rattle.theory.specs.Fraction.{Fraction, nothing, plus, times, over}
use Rattle.hydro_read.specs.declared.plants.Inflow.{Inflow}
use Rattle.hydro_read.specs.declared.plants.Stage.{Stage}
use Rattle.hydro_read.specs.declared.plants.Plants.{Plants}
use Rattle.hydro_make.specs.Layout.{numbered_reservoir, thermal, bus, all_reservoirs, all_thermals, all_buses}
use Rattle.hydro_make.specs.Plan.{Choice, Plan, no_plan, choose, LaterPlan, the_end, later}

-- of thermals, deficits and spills, divided by N
abbrev pub choice_cost : Plants → ℕ → Choice → Fraction
choice_cost h units c = record {
  up =
      total (λ i. (thermal h i).cost *ℤ c.thermal i) (all_thermals h) +ℤ total (λ b. (bus h b).deficit_cost *ℤ c.deficit b) (all_buses h)
      +ℤ total (λ j. (numbered_reservoir h j).spill_cost *ℤ c.spill j) (all_reservoirs h);
  under = units;
}

abbrev pub inflow_weight : List Inflow → ℕ
inflow_weight [] = 0
inflow_weight (i ∷ is) = i.weight + inflow_weight is

abbrev mutual
  -- the sum over the branches of weight * (choice + the cost of later stages)
  pub inflow_branches_cost : Plants → ℕ → List Stage → List Inflow → Plan → Fraction
  inflow_branches_cost h units stages is no_plan = nothing
  inflow_branches_cost h units stages [] (choose c l p) = nothing
  inflow_branches_cost h units stages (i ∷ is) (choose c l p) = plus (times i.weight (plus (choice_cost h units c) (later_cost h units stages l))) (inflow_branches_cost h units stages is p)

  -- the sum over the total of the weights
  pub later_cost : Plants → ℕ → List Stage → LaterPlan → Fraction
  later_cost h units stages the_end = nothing
  later_cost h units [] (later p) = nothing
  later_cost h units (s ∷ stages) (later p) = over (inflow_branches_cost h units stages s.inflows p) (inflow_weight s.inflows)

abbrev pub plan_cost : Plants → ℕ → Plan → Fraction
plan_cost h units p = later_cost h units h.stages (later p)
