-- A description that was read keeps the ranges of every description.
use Rattle.std.proofs.Common.{◌≡◌, ◌≤◌, ◌<◌, ◌≤ℤ◌, ◌^◌, ℕ, ℤ, pos, List, [], length, map, true, ◌&&◌, Option, Some, None, IfSome, Ok, int_le, nat_le, nat_lt, codes, sym, ap, subst, ◌∙◌, arith}
use Rattle.std.specs.List.{AllByRecursion}
use Rattle.std.proofs.lemmas.Bool.{leb-true, ltb-true}
use Rattle.std.proofs.lemmas.Int.{ints}
use Rattle.std.proofs.lemmas.List.{length-map}
use Rattle.serde_json.specs.Data.{Data, Items, Members}
use Rattle.serde_json.specs.Events.{items_len, members_len}
use Rattle.base_num.proofs.Tests.{and_first, and_second}
use Rattle.problem.specs.Distinct.{rises, is_before}
use Rattle.read_json.specs.Fields.{keys_of}
use Rattle.read_json.proofs.Distinct.{rises-map, rises-sorted}
use Rattle.read_json.proofs.InOrder.{length-keys_of}
use Rattle.read_json.proofs.Rising.{Rising, RisingMembers, keys-sorted}
use Rattle.hydro_read.specs.declared.refusal.HydroKind.TheVariants as kinds
use Rattle.hydro_read.specs.declared.place.HydroPlace.{HydroPlace}
use Rattle.hydro_read.specs.declared.plants.Bus.{Bus}
use Rattle.hydro_read.specs.declared.plants.Travel.{Travel}
use Rattle.hydro_read.specs.declared.plants.Reservoir.{Reservoir}
use Rattle.hydro_read.specs.declared.plants.Thermal.{Thermal}
use Rattle.hydro_read.specs.declared.plants.Line.{Line}
use Rattle.hydro_read.specs.declared.plants.Inflow.{Inflow}
use Rattle.hydro_read.specs.declared.plants.Stage.{Stage}
use Rattle.hydro_read.specs.declared.plants.Plants.{Plants}
use Rattle.hydro_read.specs.Fields.{Within, hydro_whole, hydro_json_at, hydro_object_at, hydro_table_at, hydro_members_at, hydro_items_at, amount_at, amount_or_zero_at, natural_at, hydro_entries_at}
use Rattle.hydro_read.specs.Names.{hydro_key_at, named_at}
use Rattle.hydro_read.specs.Tables.{HydroTables, hydro_counts_at, parts_at, hydro_tables_at}
use Rattle.hydro_read.specs.Grid.{bus_at, buses_at, travel_at, levels_at, read_reservoir_at, reservoirs_at, state_count, state_count_at, thermal_at, thermals_at, line_at, lines_at}
use Rattle.hydro_read.specs.Stages.{least_inflow, inflow_at, inflows_at, inflow_count_at, total_inflow_weight, total_at, hydro_stage_at, stages_at}
use Rattle.hydro_read.specs.Plants.{described_at, plants_of, plants_at}
use Rattle.hydro_read.specs.Described.{IsBus, IsTravel, IsReservoir, IsThermal, IsLine, IsInflow, IsStage, IsPlants}
use Rattle.hydro_read.proofs.Accepted.{then-Ok, Ok-is, test-Ok, Added, added, amount_at-Ok, amount_or_zero_at-Ok, natural_at-Ok, hydro_key_at-Ok, named_at-Ok, hydro_entries_at-Ok, from_none, walk_members-each, walk_items-each}
use Rattle.hydro_read.proofs.Rising.{hydro_json_at-Rising, hydro_table_at-Rising, hydro_members_at-Rising}

-- the entries that were read for these members: each has the property, and their names rise
record Read {A : Type 0} (Q : A → Type 0) (name : A → List ℕ) (ms : Members) (xs : List A) : Type 0 where
  each : AllByRecursion Q xs
  many : length xs ≡ members_len ms
  rise : rises (λ (a b : A). is_before (name a) (name b)) xs ≡ true

read_from : {A : Type 0} (Q : A → Type 0) (name : A → List ℕ) (ms : Members) (xs : List A) → RisingMembers ms → AllByRecursion Q xs × (map name xs ≡ keys_of ms) → Read Q name ms xs
read_from Q name ms xs rising w = record {
  each = w.0;
  many = sym (length-map xs name) ∙ ap length w.1 ∙ length-keys_of ms;
  rise = sym (rises-map name is_before xs) ∙ ap (rises is_before) w.1 ∙ rises-sorted (keys_of ms) (keys-sorted ms rising);
}

-- ---- buses

bus_at-adds : (found next : List Bus) (i : ℕ) (k : List ℕ) (d : Data) → bus_at found i k d ≡ Ok next → Added IsBus (λ (b : Bus). b.name ≡ k) found next
unfolding bus_at
bus_at-adds found next i k d e =
    then-Ok (hydro_key_at _ _) _ next e (λ name is_name_of e.
    then-Ok (hydro_object_at _ _) _ next e (λ all is e.
    then-Ok (amount_at _ _) _ next e (λ cost is_cost e.
    let n = hydro_key_at-Ok _ k name is_name_of in
    added found next _ e (record { name = n.1; deficit_cost = amount_at-Ok _ _ cost is_cost }) (sym n.0))))

buses_at-Ok : (ms : Members) (buses : List Bus) → RisingMembers ms → buses_at ms ≡ Ok buses → Read IsBus (λ (b : Bus). b.name) ms buses
unfolding buses_at
buses_at-Ok ms buses rising e = read_from IsBus (λ (b : Bus). b.name) ms buses rising (walk_members-each IsBus (λ (b : Bus). b.name) bus_at (λ found next i k d e. bus_at-adds found next i k d e) ms [] buses 0 e tt)

-- ---- reservoirs

travel_at-Ok : (p : HydroPlace) (reservoirs : List (List ℕ)) (d : Data) (o : Option Data) (t : Option Travel) → travel_at p reservoirs d o ≡ Ok t → IfSome t (IsTravel (length reservoirs))
unfolding travel_at
travel_at-Ok p reservoirs d None t e = subst (λ t. IfSome t (IsTravel (length reservoirs))) (Ok-is None t e) tt
travel_at-Ok p reservoirs d (Some downstream) t e =
    then-Ok (named_at _ _ _) _ t e (λ target is_target e.
    then-Ok (natural_at _ _ _ _) _ t e (λ stages is_stages e.
    subst (λ t. IfSome t (IsTravel (length reservoirs))) (Ok-is _ t e) (record { target = named_at-Ok p reservoirs (Some downstream) target is_target; stages = (natural_at-Ok p 0 3 _ stages is_stages).1 })))

at_most : (a b : ℤ) → int_le a b ≡ true → a ≤ℤ b
at_most a b e = omega (arith, ints)

levels_at-Ok : (p : HydroPlace) (low high initial : ℤ) (x : Unit {0}) → levels_at p low high initial ≡ Ok x → Within low high initial
unfolding levels_at
levels_at-Ok p low high initial x e =
    let a = int_le low high in
    let b = int_le low initial in
    let c = int_le initial high in
    let all = (test-Ok (a && b && c) _ kinds.Limit p x e).0 in
    record { low = at_most low initial (and_second a b (and_first (a && b) c all)); high = at_most initial high (and_second (a && b) c all) }

read_reservoir_at-adds : (buses reservoirs : List (List ℕ)) (found next : List Reservoir) (i : ℕ) (k : List ℕ) (d : Data) → read_reservoir_at buses reservoirs found i k d ≡ Ok next
    → Added (IsReservoir (length buses) (length reservoirs)) (λ (r : Reservoir). r.name ≡ k) found next
unfolding read_reservoir_at
read_reservoir_at-adds buses reservoirs found next i k d e =
    then-Ok (hydro_key_at _ _) _ next e (λ name is_name_of e.
    then-Ok (hydro_object_at _ _) _ next e (λ all is e.
    then-Ok (named_at _ _ _) _ next e (λ bus is_bus e.
    then-Ok (amount_at _ _) _ next e (λ low is_low e.
    then-Ok (amount_at _ _) _ next e (λ high is_high e.
    then-Ok (amount_at _ _) _ next e (λ initial is_initial e.
    then-Ok (amount_at _ _) _ next e (λ turbine is_turbine e.
    then-Ok (amount_at _ _) _ next e (λ spill is_spill e.
    then-Ok (amount_at _ _) _ next e (λ factor is_factor e.
    then-Ok (amount_or_zero_at _ _) _ next e (λ spill_cost is_spill_cost e.
    then-Ok (travel_at _ _ _ _) _ next e (λ downstream is_downstream e.
    then-Ok (levels_at _ _ _ _) _ next e (λ levels is_levels e.
    let n = hydro_key_at-Ok _ k name is_name_of in
    added found next _ e (record {
      name = n.1;
      bus = named_at-Ok _ buses _ bus is_bus;
      low = amount_at-Ok _ _ low is_low;
      high = amount_at-Ok _ _ high is_high;
      initial = levels_at-Ok _ low high initial levels is_levels;
      turbine = amount_at-Ok _ _ turbine is_turbine;
      spill = amount_at-Ok _ _ spill is_spill;
      factor = amount_at-Ok _ _ factor is_factor;
      spill_cost = amount_or_zero_at-Ok _ _ spill_cost is_spill_cost;
      downstream = travel_at-Ok _ reservoirs d _ downstream is_downstream;
    }) (sym n.0)))))))))))))

reservoirs_at-Ok : (buses : List (List ℕ)) (ms : Members) (names : List (List ℕ)) (reservoirs : List Reservoir) → RisingMembers ms → reservoirs_at buses ms names ≡ Ok reservoirs
    → Read (IsReservoir (length buses) (length names)) (λ (r : Reservoir). r.name) ms reservoirs
unfolding reservoirs_at
reservoirs_at-Ok buses ms names reservoirs rising e =
    read_from (IsReservoir (length buses) (length names)) (λ (r : Reservoir). r.name) ms reservoirs rising
    (walk_members-each (IsReservoir (length buses) (length names)) (λ (r : Reservoir). r.name) (read_reservoir_at buses names) (λ found next i k d e. read_reservoir_at-adds buses names found next i k d e) ms [] reservoirs 0 e tt)

state_count_at-Ok : (rs : List Reservoir) (x : Unit {0}) → state_count_at rs ≡ Ok x → state_count rs ≤ 50
unfolding state_count_at
state_count_at-Ok rs x e = leb-true (state_count rs) 50 (test-Ok (nat_le (state_count rs) 50) _ kinds.States hydro_whole x e).0

-- ---- thermals

thermal_at-adds : (buses : List (List ℕ)) (found next : List Thermal) (i : ℕ) (k : List ℕ) (d : Data) → thermal_at buses found i k d ≡ Ok next → Added (IsThermal (length buses)) (λ (t : Thermal). t.name ≡ k) found next
unfolding thermal_at
thermal_at-adds buses found next i k d e =
    then-Ok (hydro_key_at _ _) _ next e (λ name is_name_of e.
    then-Ok (hydro_object_at _ _) _ next e (λ all is e.
    then-Ok (named_at _ _ _) _ next e (λ bus is_bus e.
    then-Ok (amount_at _ _) _ next e (λ high is_high e.
    then-Ok (amount_at _ _) _ next e (λ cost is_cost e.
    let n = hydro_key_at-Ok _ k name is_name_of in
    added found next _ e (record { name = n.1; bus = named_at-Ok _ buses _ bus is_bus; high = amount_at-Ok _ _ high is_high; cost = amount_at-Ok _ _ cost is_cost }) (sym n.0))))))

thermals_at-Ok : (buses : List (List ℕ)) (ms : Members) (thermals : List Thermal) → RisingMembers ms → thermals_at buses ms ≡ Ok thermals → Read (IsThermal (length buses)) (λ (t : Thermal). t.name) ms thermals
unfolding thermals_at
thermals_at-Ok buses ms thermals rising e =
    read_from (IsThermal (length buses)) (λ (t : Thermal). t.name) ms thermals rising
    (walk_members-each (IsThermal (length buses)) (λ (t : Thermal). t.name) (thermal_at buses) (λ found next i k d e. thermal_at-adds buses found next i k d e) ms [] thermals 0 e tt)

-- ---- lines

line_at-adds : (buses : List (List ℕ)) (found next : List Line) (i : ℕ) (k : List ℕ) (d : Data) → line_at buses found i k d ≡ Ok next → Added (IsLine (length buses)) (λ (l : Line). l.name ≡ k) found next
unfolding line_at
line_at-adds buses found next i k d e =
    then-Ok (hydro_key_at _ _) _ next e (λ name is_name_of e.
    then-Ok (hydro_object_at _ _) _ next e (λ all is e.
    then-Ok (named_at _ _ _) _ next e (λ source is_source e.
    then-Ok (named_at _ _ _) _ next e (λ target is_target e.
    then-Ok (amount_at _ _) _ next e (λ high is_high e.
    let n = hydro_key_at-Ok _ k name is_name_of in
    added found next _ e (record { name = n.1; source = named_at-Ok _ buses _ source is_source; target = named_at-Ok _ buses _ target is_target; high = amount_at-Ok _ _ high is_high }) (sym n.0))))))

lines_at-Ok : (buses : List (List ℕ)) (ms : Members) (lines : List Line) → RisingMembers ms → lines_at buses ms ≡ Ok lines → Read (IsLine (length buses)) (λ (l : Line). l.name) ms lines
unfolding lines_at
lines_at-Ok buses ms lines rising e =
    read_from (IsLine (length buses)) (λ (l : Line). l.name) ms lines rising
    (walk_members-each (IsLine (length buses)) (λ (l : Line). l.name) (line_at buses) (λ found next i k d e. line_at-adds buses found next i k d e) ms [] lines 0 e tt)

-- ---- stages

positive : (n : ℕ) → 1 ≤ n → 0 < n
positive n h = omega arith

inflow_at-adds : (reservoirs : List (List ℕ)) (t : ℕ) (found next : List Inflow) (i : ℕ) (d : Data) → inflow_at reservoirs t found i d ≡ Ok next → Added (IsInflow (length reservoirs)) (λ x. Unit {0}) found next
unfolding inflow_at
inflow_at-adds reservoirs t found next i d e =
    then-Ok (hydro_object_at _ _) _ next e (λ all is e.
    then-Ok (natural_at _ _ _ _) _ next e (λ weight is_weight e.
    then-Ok (hydro_table_at _ _) _ next e (λ inflow is e.
    then-Ok (hydro_entries_at _ _ _ _) _ next e (λ water is_water e.
    added found next _ e (record { weight = positive weight (natural_at-Ok _ 1 (2 ^ 20) _ weight is_weight).0; water = hydro_entries_at-Ok _ least_inflow reservoirs inflow water is_water }) tt))))

inflows_at-Ok : (reservoirs : List (List ℕ)) (t : ℕ) (ds : Items) (inflows : List Inflow) → inflows_at reservoirs t ds ≡ Ok inflows → AllByRecursion (IsInflow (length reservoirs)) inflows × (length inflows ≡ items_len ds)
unfolding inflows_at
inflows_at-Ok reservoirs t ds inflows e =
    let w = walk_items-each (IsInflow (length reservoirs)) (inflow_at reservoirs t) (λ found next i d e. inflow_at-adds reservoirs t found next i d e) ds [] inflows 0 e tt in
    (w.0, from_none (length inflows) (items_len ds) w.1)

inflow_count_at-Ok : (p : HydroPlace) (count : ℕ) (x : Unit {0}) → inflow_count_at p count ≡ Ok x → (0 < count) × (count ≤ 100)
unfolding inflow_count_at
inflow_count_at-Ok p count x e =
    let all = (test-Ok (nat_lt 0 count && nat_le count 100) _ kinds.Limit p x e).0 in
    (ltb-true 0 count (and_first (nat_lt 0 count) (nat_le count 100) all), leb-true count 100 (and_second (nat_lt 0 count) (nat_le count 100) all))

total_at-Ok : (p : HydroPlace) (inflows : List Inflow) (x : Unit {0}) → total_at p inflows ≡ Ok x → total_inflow_weight inflows ≤ 65535
unfolding total_at
total_at-Ok p inflows x e = leb-true (total_inflow_weight inflows) 65535 (test-Ok (nat_le (total_inflow_weight inflows) 65535) _ kinds.Limit p x e).0

hydro_stage_at-adds : (buses reservoirs : List (List ℕ)) (found next : List Stage) (i : ℕ) (d : Data) → hydro_stage_at buses reservoirs found i d ≡ Ok next → Added (IsStage (length buses) (length reservoirs)) (λ x. Unit {0}) found next
unfolding hydro_stage_at
hydro_stage_at-adds buses reservoirs found next i d e =
    then-Ok (hydro_object_at _ _) _ next e (λ all is e.
    then-Ok (hydro_table_at _ _) _ next e (λ demands is e.
    then-Ok (hydro_items_at _ _) _ next e (λ items is e.
    then-Ok (inflow_count_at _ _) _ next e (λ counted is_counted e.
    then-Ok (hydro_entries_at _ _ _ _) _ next e (λ demand is_demand e.
    then-Ok (inflows_at _ _ _) _ next e (λ inflows is_inflows e.
    then-Ok (total_at _ _) _ next e (λ total is_total e.
    let count = inflow_count_at-Ok _ (items_len items) counted is_counted in
    let w = inflows_at-Ok reservoirs i items inflows is_inflows in
    added found next _ e (record {
      demand = hydro_entries_at-Ok _ (pos 0) buses demands demand is_demand;
      some_inflows = subst (λ n. 0 < n) (sym w.1) count.0;
      few_inflows = subst (λ n. n ≤ 100) (sym w.1) count.1;
      inflows = w.0;
      weights = total_at-Ok _ inflows total is_total;
    }) tt)))))))

stages_at-Ok : (buses reservoirs : List (List ℕ)) (ds : Items) (stages : List Stage) → stages_at buses reservoirs ds ≡ Ok stages → AllByRecursion (IsStage (length buses) (length reservoirs)) stages × (length stages ≡ items_len ds)
unfolding stages_at
stages_at-Ok buses reservoirs ds stages e =
    let w = walk_items-each (IsStage (length buses) (length reservoirs)) (hydro_stage_at buses reservoirs) (λ found next i d e. hydro_stage_at-adds buses reservoirs found next i d e) ds [] stages 0 e tt in
    (w.0, from_none (length stages) (items_len ds) w.1)

-- ---- tables

record TablesFit (t : HydroTables) : Type 0 where
  buses : RisingMembers t.buses
  reservoirs : RisingMembers t.reservoirs
  thermals : RisingMembers t.thermals
  lines : RisingMembers t.lines

record CountsFit (t : HydroTables) : Type 0 where
  some_buses : 0 < members_len t.buses
  few_buses : members_len t.buses ≤ 20
  few_reservoirs : members_len t.reservoirs ≤ 20
  few_thermals : members_len t.thermals ≤ 40
  few_lines : members_len t.lines ≤ 40
  some_stages : 0 < items_len t.stages
  few_stages : items_len t.stages ≤ 100

hydro_counts_at-Ok : (t : HydroTables) (x : Unit {0}) → hydro_counts_at t ≡ Ok x → CountsFit t
unfolding hydro_counts_at
hydro_counts_at-Ok t x e =
    let b0 = nat_lt 0 (members_len t.buses) in
    let b1 = nat_le (members_len t.buses) 20 in
    let r = nat_le (members_len t.reservoirs) 20 in
    let th = nat_le (members_len t.thermals) 40 in
    let l = nat_le (members_len t.lines) 40 in
    let s0 = nat_lt 0 (items_len t.stages) in
    let s1 = nat_le (items_len t.stages) 100 in
    let all = (test-Ok (b0 && b1 && r && th && l && s0 && s1) _ kinds.Limit hydro_whole x e).0 in
    let six = and_first (b0 && b1 && r && th && l && s0) s1 all in
    let five = and_first (b0 && b1 && r && th && l) s0 six in
    let four = and_first (b0 && b1 && r && th) l five in
    let three = and_first (b0 && b1 && r) th four in
    let two = and_first (b0 && b1) r three in
    record {
      some_buses = ltb-true 0 (members_len t.buses) (and_first b0 b1 two);
      few_buses = leb-true (members_len t.buses) 20 (and_second b0 b1 two);
      few_reservoirs = leb-true (members_len t.reservoirs) 20 (and_second (b0 && b1) r three);
      few_thermals = leb-true (members_len t.thermals) 40 (and_second (b0 && b1 && r) th four);
      few_lines = leb-true (members_len t.lines) 40 (and_second (b0 && b1 && r && th) l five);
      some_stages = ltb-true 0 (items_len t.stages) (and_second (b0 && b1 && r && th && l) s0 six);
      few_stages = leb-true (items_len t.stages) 100 (and_second (b0 && b1 && r && th && l && s0) s1 all);
    }

parts_at-Ok : (d : Data) (t : HydroTables) → Rising d → parts_at d ≡ Ok t → TablesFit t
unfolding parts_at
parts_at-Ok d t rising e =
    then-Ok (hydro_object_at _ _) _ t e (λ all is e.
    then-Ok (hydro_table_at _ _) _ t e (λ buses is_buses e.
    then-Ok (hydro_members_at _ _) _ t e (λ reservoirs is_reservoirs e.
    then-Ok (hydro_members_at _ _) _ t e (λ thermals is_thermals e.
    then-Ok (hydro_members_at _ _) _ t e (λ lines is_lines e.
    then-Ok (hydro_items_at _ _) _ t e (λ stages is e.
    subst TablesFit (Ok-is _ t e) (record {
      buses = hydro_table_at-Rising hydro_whole (codes "buses") d buses rising is_buses;
      reservoirs = hydro_members_at-Rising hydro_whole (codes "reservoirs") d reservoirs rising is_reservoirs;
      thermals = hydro_members_at-Rising hydro_whole (codes "thermals") d thermals rising is_thermals;
      lines = hydro_members_at-Rising hydro_whole (codes "lines") d lines rising is_lines;
    })))))))

hydro_tables_at-Ok : (d : Data) (t : HydroTables) → Rising d → hydro_tables_at d ≡ Ok t → TablesFit t × CountsFit t
unfolding hydro_tables_at
hydro_tables_at-Ok d t rising e =
    then-Ok (parts_at _) _ t e (λ tables is_tables e.
    then-Ok (hydro_counts_at _) _ t e (λ counted is_counted e.
    subst (λ t. TablesFit t × CountsFit t) (Ok-is tables t e) (parts_at-Ok d tables rising is_tables, hydro_counts_at-Ok tables counted is_counted)))

-- ---- the whole

described_at-Ok : (t : HydroTables) (p : Plants) → TablesFit t → CountsFit t → described_at (keys_of t.buses) (keys_of t.reservoirs) t ≡ Ok p → IsPlants p
unfolding described_at
described_at-Ok t p fit count e =
    then-Ok (buses_at _) _ p e (λ buses is_buses e.
    then-Ok (reservoirs_at _ _ _) _ p e (λ reservoirs is_reservoirs e.
    then-Ok (thermals_at _ _) _ p e (λ thermals is_thermals e.
    then-Ok (lines_at _ _) _ p e (λ lines is_lines e.
    then-Ok (state_count_at _) _ p e (λ states is_states e.
    then-Ok (stages_at _ _ _) _ p e (λ stages is_stages e.
    let bus_names = keys_of t.buses in
    let names = keys_of t.reservoirs in
    let b = buses_at-Ok t.buses buses fit.buses is_buses in
    let r = reservoirs_at-Ok bus_names t.reservoirs names reservoirs fit.reservoirs is_reservoirs in
    let th = thermals_at-Ok bus_names t.thermals thermals fit.thermals is_thermals in
    let l = lines_at-Ok bus_names t.lines lines fit.lines is_lines in
    let s = stages_at-Ok bus_names names t.stages stages is_stages in
    let as_many : length bus_names ≡ length buses = length-keys_of t.buses ∙ sym b.many in
    let as_many_reservoirs : length names ≡ length reservoirs = length-keys_of t.reservoirs ∙ sym r.many in
    subst IsPlants (Ok-is _ p e) (record {
      some_buses = subst (λ n. 0 < n) (sym b.many) count.some_buses;
      few_buses = subst (λ n. n ≤ 20) (sym b.many) count.few_buses;
      few_reservoirs = subst (λ n. n ≤ 20) (sym r.many) count.few_reservoirs;
      few_thermals = subst (λ n. n ≤ 40) (sym th.many) count.few_thermals;
      few_lines = subst (λ n. n ≤ 40) (sym l.many) count.few_lines;
      some_stages = subst (λ n. 0 < n) (sym s.1) count.some_stages;
      few_stages = subst (λ n. n ≤ 100) (sym s.1) count.few_stages;
      few_states = state_count_at-Ok reservoirs states is_states;
      names = record { buses = b.rise; reservoirs = r.rise; thermals = th.rise; lines = l.rise };
      buses = b.each;
      reservoirs = subst (λ n. AllByRecursion (IsReservoir n (length reservoirs)) reservoirs) as_many (subst (λ n. AllByRecursion (IsReservoir (length bus_names) n) reservoirs) as_many_reservoirs r.each);
      thermals = subst (λ n. AllByRecursion (IsThermal n) thermals) as_many th.each;
      lines = subst (λ n. AllByRecursion (IsLine n) lines) as_many l.each;
      stages = subst (λ n. AllByRecursion (IsStage n (length reservoirs)) stages) as_many (subst (λ n. AllByRecursion (IsStage (length bus_names) n) stages) as_many_reservoirs s.0);
    })))))))

plants_of-Ok : (d : Data) (p : Plants) → Rising d → plants_of d ≡ Ok p → IsPlants p
unfolding plants_of
plants_of-Ok d p rising e =
    then-Ok (hydro_tables_at _) _ p e (λ t is_t e.
    let fit = hydro_tables_at-Ok d t rising is_t in
    described_at-Ok t p fit.0 fit.1 e)

-- a description that the reader accepts keeps the ranges of every description
pub plants_at-Ok : (bytes : List ℕ) (p : Plants) → plants_at bytes ≡ Ok p → IsPlants p
unfolding plants_at
plants_at-Ok bytes p e = then-Ok (hydro_json_at _) _ p e (λ d is_d e. plants_of-Ok d p (hydro_json_at-Rising bytes d is_d) e)
