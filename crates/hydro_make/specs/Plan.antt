-- Plans for hydro plants, the volumes that they lead to, and when a plan is workable.
use Rattle.std.specs.Prelude.{◌≡◌, ℕ, ◌<◌, ℤ, pos, ◌+ℤ◌, ◌*ℤ◌, ◌-ℤ◌, ◌≤ℤ◌, List, [], ◌∷◌, length, drop, All}
use Rattle.base_num.specs.Sums.{entry, total, same_place}
use Rattle.hydro_read.specs.declared.plants.Inflow.{Inflow}
use Rattle.hydro_read.specs.declared.plants.Stage.{Stage}
use Rattle.hydro_read.specs.declared.plants.Plants.{Plants}
use Rattle.hydro_make.specs.Layout.{numbered_reservoir, thermal, line, travel, leads, all_reservoirs, all_thermals, all_lines, greatest_deficit}

-- the decisions for one inflow of a stage, in units of 1/N: by the numbers of reservoirs, thermals, lines and buses. Beyond these numbers
-- they mean nothing.
pub record Choice : Type 0 where
  pub turbine : ℕ → ℤ
  pub spill : ℕ → ℤ
  pub thermal : ℕ → ℤ
  pub line : ℕ → ℤ
  pub deficit : ℕ → ℤ

mutual
  -- one branch per inflow of a stage: its choice, the plan for the stages after it, and the branches beside it
  pub data Plan : Type 0 where
    no_plan : Plan
    choose : Choice → LaterPlan → Plan → Plan

  -- the plan from the next stage on, none after the last
  pub data LaterPlan : Type 0 where
    the_end : LaterPlan
    later : Plan → LaterPlan

-- a branch that was chosen, with its inflow
pub record Moment : Type 0 where
  pub water : List ℤ
  pub choice : Choice

abbrev pub moment : Inflow → Choice → Moment
moment i c = record { water = i.water; choice = c }

-- the branches that were chosen so far, the last one first
abbrev pub Past : Type 0
Past = List Moment

-- the water that leaves reservoir j
abbrev pub released : ℕ → Moment → ℤ
released j m = m.choice.turbine j +ℤ m.choice.spill j

-- the inflow of reservoir j, less the water that leaves it
abbrev pub gained : ℕ → ℕ → Moment → ℤ
gained units j m = pos units *ℤ entry m.water j -ℤ released j m

-- the water that came from reservoir i: all that left it at least as many stages ago as it travels
abbrev pub arrived : Plants → ℕ → Past → ℤ
arrived h i past = total (released i) (drop (travel h i) past)

-- the volume of reservoir j after the past
abbrev pub volume : Plants → ℕ → Past → ℕ → ℤ
volume h units past j = pos units *ℤ (numbered_reservoir h j).initial +ℤ total (gained units j) past +ℤ total (λ i. leads h i j *ℤ arrived h i past) (all_reservoirs h)

-- the energy that is made at bus b
abbrev pub served : Plants → Choice → ℕ → ℤ
served h c b =
    total (λ j. same_place (numbered_reservoir h j).bus b *ℤ (numbered_reservoir h j).factor *ℤ c.turbine j) (all_reservoirs h)
    +ℤ total (λ i. same_place (thermal h i).bus b *ℤ c.thermal i) (all_thermals h)
    +ℤ total (λ l. (same_place (line h l).target b -ℤ same_place (line h l).source b) *ℤ c.line l) (all_lines h)
    +ℤ c.deficit b

-- the number x in units of 1/N is from low to high
pub record IsWithinUnits (units : ℕ) (low high x : ℤ) : Type 0 where
  pub above : (pos units *ℤ low) ≤ℤ x
  pub below : x ≤ℤ (pos units *ℤ high)

pub record InBounds (h : Plants) (units : ℕ) (c : Choice) : Type 0 where
  pub turbine : (j : ℕ) → j < length h.reservoirs → IsWithinUnits units (pos 0) (numbered_reservoir h j).turbine (c.turbine j)
  pub spill : (j : ℕ) → j < length h.reservoirs → IsWithinUnits units (pos 0) (numbered_reservoir h j).spill (c.spill j)
  pub thermal : (i : ℕ) → i < length h.thermals → IsWithinUnits units (pos 0) (thermal h i).high (c.thermal i)
  pub line : (l : ℕ) → l < length h.lines → IsWithinUnits units (pos 0) (line h l).high (c.line l)
  pub deficit : (b : ℕ) → b < length h.buses → IsWithinUnits units (pos 0) (pos greatest_deficit) (c.deficit b)

-- the branches of the past are in their bounds, as each is that works
abbrev pub PastInBounds : Plants → ℕ → Past → Type 0
PastInBounds h units past = All (λ (m : Moment). InBounds h units m.choice) past

-- the present branch's part: its numbers are in their bounds, volumes after it too, and each bus has its demand
pub record Works (h : Plants) (units : ℕ) (demand : List ℤ) (past : Past) (here : Moment) : Type 0 where
  pub bounds : InBounds h units here.choice
  pub volumes : (j : ℕ) → j < length h.reservoirs → IsWithinUnits units (numbered_reservoir h j).low (numbered_reservoir h j).high (volume h units (here ∷ past) j)
  pub buses : (b : ℕ) → b < length h.buses → served h here.choice b ≡ pos units *ℤ entry demand b

abbrev mutual
  -- one branch works per inflow of the stage s, and so do the plans after each
  pub WorksAfter : Plants → ℕ → Stage → List Stage → Past → List Inflow → Plan → Type 0
  WorksAfter h units s stages past [] no_plan = Unit {0}
  WorksAfter h units s stages past (i ∷ is) no_plan = ⊥
  WorksAfter h units s stages past [] (choose c l p) = ⊥
  WorksAfter h units s stages past (i ∷ is) (choose c l p) =
      Works h units s.demand past (moment i c) × WorksLater h units stages (moment i c ∷ past) l × WorksAfter h units s stages past is p

  -- a plan from the first of the stages that are left on, none where none is left
  pub WorksLater : Plants → ℕ → List Stage → Past → LaterPlan → Type 0
  WorksLater h units [] past the_end = Unit {0}
  WorksLater h units (s ∷ stages) past the_end = ⊥
  WorksLater h units [] past (later p) = ⊥
  WorksLater h units (s ∷ stages) past (later p) = WorksAfter h units s stages past s.inflows p

abbrev pub Workable : Plants → ℕ → Plan → Type 0
Workable h units p = WorksLater h units h.stages [] (later p)
