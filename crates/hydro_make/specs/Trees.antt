-- Plans as decision trees of the problem made from a hydro description, and back.
use Rattle.std.specs.Prelude.{ℕ, zero, suc, ◌-◌, ℤ, pos, List, [], ◌∷◌, map}
use Rattle.base_num.specs.Sums.{entry}
use Rattle.theory.specs.Tree.{Tree, Forest, no_branch, branch, no_tree, tree}
use Rattle.hydro_read.specs.declared.plants.Inflow.{Inflow}
use Rattle.hydro_read.specs.declared.plants.Stage.{Stage}
use Rattle.hydro_read.specs.declared.plants.Plants.{Plants}
use Rattle.hydro_make.specs.Layout.{HydroStore, volume_of, way_of, Variable, after, turbine_of, spill_of, thermal_of, line_of, deficit_of, travel, stores, hydro_variables, layout_place}
use Rattle.hydro_make.specs.Plan.{Choice, Plan, no_plan, choose, LaterPlan, the_end, later, Moment, moment, Past, released, volume}

-- the water that left reservoir j n stages before the last one of the past, 0 before the first
abbrev pub left_ago : ℕ → ℕ → Past → ℤ
left_ago j n [] = pos 0
left_ago j zero (m ∷ past) = released j m
left_ago j (suc n) (m ∷ past) = left_ago j n past

-- the states after the past
abbrev pub ahead_of : Plants → ℕ → Past → HydroStore → ℤ
ahead_of h units past (volume_of j) = volume h units past j
ahead_of h units past (way_of j k) = left_ago j (travel h j - k) past

abbrev pub ahead : Plants → ℕ → Past → List ℤ
ahead h units past = map (ahead_of h units past) (stores h)

-- the choice's own numbers, beside these states after it
abbrev pub value_with : Choice → (HydroStore → ℤ) → Variable → ℤ
value_with c next (after s) = next s
value_with c next (turbine_of j) = c.turbine j
value_with c next (spill_of j) = c.spill j
value_with c next (thermal_of i) = c.thermal i
value_with c next (line_of l) = c.line l
value_with c next (deficit_of b) = c.deficit b

-- the decisions that have the branch's own numbers, and the states ahead of it
abbrev pub full : Plants → ℕ → Past → Moment → List ℤ
full h units past here = map (value_with here.choice (ahead_of h units (here ∷ past))) (hydro_variables h)

abbrev mutual
  -- a full branch for each; one for which the stage has no inflow decides nothing
  pub branches_of : Plants → ℕ → List Stage → Past → List Inflow → Plan → Tree
  branches_of h units stages past is no_plan = no_branch
  branches_of h units stages past [] (choose c l p) = branch [] no_tree no_branch
  branches_of h units stages past (i ∷ is) (choose c l p) =
      branch (full h units past (moment i c)) (later_of h units stages (moment i c ∷ past) l) (branches_of h units stages past is p)

  -- the one tree of the next stage, which is empty where no stage is left
  pub later_of : Plants → ℕ → List Stage → Past → LaterPlan → Forest
  later_of h units stages past the_end = no_tree
  later_of h units [] past (later p) = tree no_branch no_tree
  later_of h units (s ∷ stages) past (later p) = tree (branches_of h units stages past s.inflows p) no_tree

abbrev pub plan_forest : Plants → ℕ → Plan → Forest
plan_forest h units p = later_of h units h.stages [] (later p)

-- the turbine, spill, thermal, line and deficit numbers of decisions
abbrev pub choice_of : Plants → List ℤ → Choice
choice_of h u = record {
  turbine = λ j. entry u (layout_place h (turbine_of j));
  spill = λ j. entry u (layout_place h (spill_of j));
  thermal = λ i. entry u (layout_place h (thermal_of i));
  line = λ l. entry u (layout_place h (line_of l));
  deficit = λ b. entry u (layout_place h (deficit_of b));
}

abbrev mutual
  pub plan_in : Plants → Tree → Plan
  plan_in h no_branch = no_plan
  plan_in h (branch u f t) = choose (choice_of h u) (later_in h f) (plan_in h t)

  pub later_in : Plants → Forest → LaterPlan
  later_in h no_tree = the_end
  later_in h (tree t f) = later (plan_in h t)

-- the plan of the first tree
abbrev pub plan_of : Plants → Forest → Plan
plan_of h no_tree = no_plan
plan_of h (tree t f) = plan_in h t
