-- The ranges that every description keeps once it is read.
use Rattle.std.specs.Prelude.{◌≡◌, ◌≤◌, ◌<◌, ℕ, ℤ, pos, true, List, length, IfSome}
use Rattle.std.specs.List.{AllByRecursion}
use Rattle.problem.specs.Distinct.{rises, is_before}
use Rattle.hydro_read.specs.declared.plants.Bus.{Bus}
use Rattle.hydro_read.specs.declared.plants.Travel.{Travel}
use Rattle.hydro_read.specs.declared.plants.Reservoir.{Reservoir}
use Rattle.hydro_read.specs.declared.plants.Thermal.{Thermal}
use Rattle.hydro_read.specs.declared.plants.Line.{Line}
use Rattle.hydro_read.specs.declared.plants.Inflow.{Inflow}
use Rattle.hydro_read.specs.declared.plants.Stage.{Stage}
use Rattle.hydro_read.specs.declared.plants.Plants.{Plants}
use Rattle.hydro_read.specs.Fields.{Within, greatest_number}
use Rattle.hydro_read.specs.Grid.{state_count}
use Rattle.hydro_read.specs.Names.{is_hydro_name}
use Rattle.hydro_read.specs.Stages.{least_inflow, total_inflow_weight}

-- an amount or a cost, 0 to 2^20
abbrev pub IsAmount : ℤ → Type 0
IsAmount z = Within (pos 0) greatest_number z

pub record IsBus (bus : Bus) : Type 0 where
  pub name : is_hydro_name bus.name ≡ true
  pub deficit_cost : IsAmount bus.deficit_cost

-- to one of so many reservoirs, in 0 to 3 stages
pub record IsTravel (reservoirs : ℕ) (t : Travel) : Type 0 where
  pub target : t.target < reservoirs
  pub stages : t.stages ≤ 3

-- at one of so many buses, and one of so many reservoirs
pub record IsReservoir (buses reservoirs : ℕ) (r : Reservoir) : Type 0 where
  pub name : is_hydro_name r.name ≡ true
  pub bus : r.bus < buses
  pub low : IsAmount r.low
  pub high : IsAmount r.high
  pub initial : Within r.low r.high r.initial
  pub turbine : IsAmount r.turbine
  pub spill : IsAmount r.spill
  pub factor : IsAmount r.factor
  pub spill_cost : IsAmount r.spill_cost
  pub downstream : IfSome r.downstream (IsTravel reservoirs)

pub record IsThermal (buses : ℕ) (t : Thermal) : Type 0 where
  pub name : is_hydro_name t.name ≡ true
  pub bus : t.bus < buses
  pub high : IsAmount t.high
  pub cost : IsAmount t.cost

pub record IsLine (buses : ℕ) (l : Line) : Type 0 where
  pub name : is_hydro_name l.name ≡ true
  pub source : l.source < buses
  pub target : l.target < buses
  pub high : IsAmount l.high

-- a number from `least` to 2^20 for each of so many
pub record AreEntries (count : ℕ) (least : ℤ) (zs : List ℤ) : Type 0 where
  pub many : length zs ≡ count
  pub each : AllByRecursion (Within least greatest_number) zs

pub record IsInflow (reservoirs : ℕ) (f : Inflow) : Type 0 where
  pub weight : 0 < f.weight
  pub water : AreEntries reservoirs least_inflow f.water

pub record IsStage (buses reservoirs : ℕ) (s : Stage) : Type 0 where
  pub demand : AreEntries buses (pos 0) s.demand
  pub some_inflows : 0 < length s.inflows
  pub few_inflows : length s.inflows ≤ 100
  pub inflows : AllByRecursion (IsInflow reservoirs) s.inflows
  pub weights : total_inflow_weight s.inflows ≤ 65535

-- the names of each kind rise in byte order, so that all are different
pub record NamesRise (p : Plants) : Type 0 where
  pub buses : rises (λ (a b : Bus). is_before a.name b.name) p.buses ≡ true
  pub reservoirs : rises (λ (a b : Reservoir). is_before a.name b.name) p.reservoirs ≡ true
  pub thermals : rises (λ (a b : Thermal). is_before a.name b.name) p.thermals ≡ true
  pub lines : rises (λ (a b : Line). is_before a.name b.name) p.lines ≡ true

pub record IsPlants (p : Plants) : Type 0 where
  pub some_buses : 0 < length p.buses
  pub few_buses : length p.buses ≤ 20
  pub few_reservoirs : length p.reservoirs ≤ 20
  pub few_thermals : length p.thermals ≤ 40
  pub few_lines : length p.lines ≤ 40
  pub some_stages : 0 < length p.stages
  pub few_stages : length p.stages ≤ 100
  pub few_states : state_count p.reservoirs ≤ 50
  pub names : NamesRise p
  pub buses : AllByRecursion IsBus p.buses
  pub reservoirs : AllByRecursion (IsReservoir (length p.buses) (length p.reservoirs)) p.reservoirs
  pub thermals : AllByRecursion (IsThermal (length p.buses)) p.thermals
  pub lines : AllByRecursion (IsLine (length p.buses)) p.lines
  pub stages : AllByRecursion (IsStage (length p.buses) (length p.reservoirs)) p.stages
