-- The refusal of a description is the one that the first check finds.
use Rattle.std.proofs.Common.{◌≡◌, ◌↔◌, ◌+◌, ℕ, suc, List, [], ◌++◌, codes, pos, Option, Some, Result, Ok, Err, refl, sym, ap, subst, ◌∙◌, arith}
use Rattle.serde_json.specs.Data.{Data, Items, no_items, item, Members, no_members, member}
use Rattle.serde_json.specs.Events.{items_len, members_len}
use Rattle.serde_json.specs.Find.{get}
use Rattle.read_json.specs.Fields.{keys_of}
use Rattle.hydro_read.specs.declared.refusal.HydroPart.TheVariants as part_kinds
use Rattle.hydro_read.specs.declared.refusal.HydroRefusal.{HydroRefusal}
use Rattle.hydro_read.specs.declared.plants.Bus.{Bus}
use Rattle.hydro_read.specs.declared.plants.Reservoir.{Reservoir}
use Rattle.hydro_read.specs.declared.plants.Thermal.{Thermal}
use Rattle.hydro_read.specs.declared.plants.Line.{Line}
use Rattle.hydro_read.specs.declared.plants.Inflow.{Inflow}
use Rattle.hydro_read.specs.declared.plants.Stage.{Stage}
use Rattle.read_json.specs.Steps.{walk_items, walk_members}
use Rattle.hydro_read.specs.Steps.{◌>>=◌}
use Rattle.hydro_read.specs.Fields.{hydro_place, hydro_whole, hydro_json_at, hydro_object_at, hydro_table_at, hydro_items_at, hydro_members_at, amount_at, amount_or_zero_at, natural_at, hydro_entries_at}
use Rattle.hydro_read.specs.Names.{hydro_key_at, named_at}
use Rattle.hydro_read.specs.Tables.{HydroTables, hydro_counts_at, parts_at, hydro_tables_at}
use Rattle.hydro_read.specs.Grid.{bus_at, buses_at, travel_at, levels_at, read_reservoir_at, reservoirs_at, state_count_at, thermal_at, thermals_at, line_at, lines_at}
use Rattle.hydro_read.specs.Stages.{inflow_at, inflows_at, inflow_count_at, total_at, hydro_stage_at, stages_at}
use Rattle.hydro_read.specs.Plants.{described_at, plants_of, plants_at}
use Rattle.run_program.specs.FirstRefusal.{Check, IsFirst, of_each, nth_item, nth_member, refusal_of}
use Rattle.run_program.specs.PresentParts.{items_in, members_in}
use Rattle.hydro_make.specs.Text.{hydro_at, hydro_text}
use Rattle.run_program.specs.HydroList as list
use Rattle.run_program.specs.HydroList.{hydro_whole_checks, bus_checks, reservoir_checks, thermal_checks, line_checks, state_checks, inflow_checks, stage_checks, hydro_checks}
use Rattle.run_program.proofs.FirstRefusal.{Told, refusal-same, one-then, all-then, one-last, made, in-turn}
use Rattle.run_program.proofs.Finding.{told-none-before}

-- ---- no step depends on what was found before

bus-same : (found : List Bus) (i : ℕ) (k : List ℕ) (d : Data) → refusal_of (bus_at [] i k d) ≡ refusal_of (bus_at found i k d)
unfolding bus_at
bus-same found i k d =
    refusal-same (hydro_key_at (hydro_place part_kinds.Bus i 0) k) _ _ (λ name. refusal-same (hydro_object_at (hydro_place part_kinds.Bus i 0) d) _ _ (λ all. refusal-same (amount_at (hydro_place part_kinds.Bus i 0) (get (codes "deficit_cost") d)) _ _ (λ cost. refl)))

reservoir-same : (bs rs : List (List ℕ)) (found : List Reservoir) (i : ℕ) (k : List ℕ) (d : Data) → refusal_of (read_reservoir_at bs rs [] i k d) ≡ refusal_of (read_reservoir_at bs rs found i k d)
unfolding read_reservoir_at
reservoir-same bs rs found i k d =
    refusal-same (hydro_key_at (hydro_place part_kinds.Reservoir i 0) k) _ _ (λ name.
    refusal-same (hydro_object_at (hydro_place part_kinds.Reservoir i 0) d) _ _ (λ all.
    refusal-same (named_at (hydro_place part_kinds.Reservoir i 0) bs (get (codes "bus") d)) _ _ (λ bus.
    refusal-same (amount_at (hydro_place part_kinds.Reservoir i 0) (get (codes "low") d)) _ _ (λ low.
    refusal-same (amount_at (hydro_place part_kinds.Reservoir i 0) (get (codes "high") d)) _ _ (λ high.
    refusal-same (amount_at (hydro_place part_kinds.Reservoir i 0) (get (codes "initial") d)) _ _ (λ initial.
    refusal-same (amount_at (hydro_place part_kinds.Reservoir i 0) (get (codes "turbine") d)) _ _ (λ turbine.
    refusal-same (amount_at (hydro_place part_kinds.Reservoir i 0) (get (codes "spill") d)) _ _ (λ spill.
    refusal-same (amount_at (hydro_place part_kinds.Reservoir i 0) (get (codes "factor") d)) _ _ (λ factor.
    refusal-same (amount_or_zero_at (hydro_place part_kinds.Reservoir i 0) (get (codes "spill_cost") d)) _ _ (λ spill_cost.
    refusal-same (travel_at (hydro_place part_kinds.Reservoir i 0) rs d (get (codes "downstream") d)) _ _ (λ downstream.
    refusal-same (levels_at (hydro_place part_kinds.Reservoir i 0) low high initial) _ _ (λ levels. refl))))))))))))

thermal-same : (bs : List (List ℕ)) (found : List Thermal) (i : ℕ) (k : List ℕ) (d : Data) → refusal_of (thermal_at bs [] i k d) ≡ refusal_of (thermal_at bs found i k d)
unfolding thermal_at
thermal-same bs found i k d =
    refusal-same (hydro_key_at (hydro_place part_kinds.Thermal i 0) k) _ _ (λ name.
    refusal-same (hydro_object_at (hydro_place part_kinds.Thermal i 0) d) _ _ (λ all.
    refusal-same (named_at (hydro_place part_kinds.Thermal i 0) bs (get (codes "bus") d)) _ _ (λ bus.
    refusal-same (amount_at (hydro_place part_kinds.Thermal i 0) (get (codes "high") d)) _ _ (λ high.
    refusal-same (amount_at (hydro_place part_kinds.Thermal i 0) (get (codes "cost") d)) _ _ (λ cost. refl)))))

line-same : (bs : List (List ℕ)) (found : List Line) (i : ℕ) (k : List ℕ) (d : Data) → refusal_of (line_at bs [] i k d) ≡ refusal_of (line_at bs found i k d)
unfolding line_at
line-same bs found i k d =
    refusal-same (hydro_key_at (hydro_place part_kinds.Line i 0) k) _ _ (λ name.
    refusal-same (hydro_object_at (hydro_place part_kinds.Line i 0) d) _ _ (λ all.
    refusal-same (named_at (hydro_place part_kinds.Line i 0) bs (get (codes "from") d)) _ _ (λ source.
    refusal-same (named_at (hydro_place part_kinds.Line i 0) bs (get (codes "to") d)) _ _ (λ target.
    refusal-same (amount_at (hydro_place part_kinds.Line i 0) (get (codes "high") d)) _ _ (λ high. refl)))))

inflow-same : (rs : List (List ℕ)) (t : ℕ) (found : List Inflow) (k : ℕ) (d : Data) → refusal_of (inflow_at rs t [] k d) ≡ refusal_of (inflow_at rs t found k d)
unfolding inflow_at
inflow-same rs t found k d =
    refusal-same (hydro_object_at (hydro_place part_kinds.Stage t (suc k)) d) _ _ (λ all.
    refusal-same (natural_at (hydro_place part_kinds.Stage t (suc k)) 1 _ (get (codes "weight") d)) _ _ (λ weight.
    refusal-same (hydro_table_at (hydro_place part_kinds.Stage t (suc k)) (get (codes "inflow") d)) _ _ (λ inflow.
    refusal-same (hydro_entries_at (hydro_place part_kinds.Stage t (suc k)) _ rs inflow) _ _ (λ water. refl))))

-- ---- walks

module _ (bytes : List ℕ) {A : Type 0} (checks : ℕ → List (Check HydroRefusal)) where
  members-told : (step : A → ℕ → List ℕ → Data → Result A HydroRefusal) (all : Members)
      → ((found : A) (i : ℕ) (k : List ℕ) (d : Data) → nth_member i all ≡ Some (k, d) → Told bytes (checks i) (step found i k d))
      → (ms : Members) (i : ℕ) → ((j : ℕ) → nth_member (i + j) all ≡ nth_member j ms) → (found : A) → Told bytes (of_each checks i (members_len ms)) (walk_members step found i ms)
  unfolding walk_members
  members-told step all told no_members i same found = record { is = refl }
  members-told step all told (member k d ms) i same found =
      all-then bytes (checks i) (of_each checks (suc i) (members_len ms)) (step found i k d) (λ next. walk_members step next (suc i) ms)
      (told found i k d (ap (λ n. nth_member n all) (omega arith) ∙ same 0))
      (λ next e. members-told step all told ms (suc i) (λ j. ap (λ n. nth_member n all) (omega arith) ∙ same (suc j)) next)

  all-members : (step : A → ℕ → List ℕ → Data → Result A HydroRefusal) (o : Option Members) (ms : Members) (found : A) → o ≡ Some ms
      → ((found : A) (i : ℕ) (k : List ℕ) (d : Data) → nth_member i ms ≡ Some (k, d) → Told bytes (checks i) (step found i k d))
      → Told bytes (of_each checks 0 (members_in o)) (walk_members step found 0 ms)
  all-members step o ms found is told =
      subst (λ o. Told bytes (of_each checks 0 (members_in o)) (walk_members step found 0 ms)) (sym is) (members-told step ms told ms 0 (λ j. ap (λ n. nth_member n ms) (omega arith)) found)

  items-told : (step : A → ℕ → Data → Result A HydroRefusal) (all : Items)
      → ((found : A) (i : ℕ) (d : Data) → nth_item i all ≡ Some d → Told bytes (checks i) (step found i d))
      → (ds : Items) (i : ℕ) → ((j : ℕ) → nth_item (i + j) all ≡ nth_item j ds) → (found : A) → Told bytes (of_each checks i (items_len ds)) (walk_items step found i ds)
  unfolding walk_items
  items-told step all told no_items i same found = record { is = refl }
  items-told step all told (item d ds) i same found =
      all-then bytes (checks i) (of_each checks (suc i) (items_len ds)) (step found i d) (λ next. walk_items step next (suc i) ds)
      (told found i d (ap (λ n. nth_item n all) (omega arith) ∙ same 0))
      (λ next e. items-told step all told ds (suc i) (λ j. ap (λ n. nth_item n all) (omega arith) ∙ same (suc j)) next)

  all-items : (step : A → ℕ → Data → Result A HydroRefusal) (o : Option Items) (ds : Items) (found : A) → o ≡ Some ds
      → ((found : A) (i : ℕ) (d : Data) → nth_item i ds ≡ Some d → Told bytes (checks i) (step found i d))
      → Told bytes (of_each checks 0 (items_in o)) (walk_items step found 0 ds)
  all-items step o ds found is told =
      subst (λ o. Told bytes (of_each checks 0 (items_in o)) (walk_items step found 0 ds)) (sym is) (items-told step ds told ds 0 (λ j. ap (λ n. nth_item n ds) (omega arith)) found)

-- ---- the part_kinds, by what is there

module _ (bytes : List ℕ) (bs : Members) (has : list.buses bytes ≡ Some bs) where
  buses-told : Told bytes (of_each bus_checks 0 (members_in (list.buses bytes))) (buses_at bs)
  unfolding buses_at bus_checks
  buses-told = all-members bytes bus_checks bus_at (list.buses bytes) bs [] has (λ found i k d e. one-last bytes _ (bus_at found i k d) (rw (has, e) (bus-same found i k d)))

  reservoirs-told : (ms : Members) → list.reservoirs bytes ≡ Some ms → Told bytes (of_each reservoir_checks 0 (members_in (list.reservoirs bytes))) (reservoirs_at (keys_of bs) ms (keys_of ms))
  unfolding reservoirs_at reservoir_checks
  reservoirs-told ms is =
      all-members bytes reservoir_checks (read_reservoir_at (keys_of bs) (keys_of ms)) (list.reservoirs bytes) ms [] is
      (λ found i k d e. one-last bytes _ (read_reservoir_at (keys_of bs) (keys_of ms) found i k d) (rw (has, is, e) (reservoir-same (keys_of bs) (keys_of ms) found i k d)))

  thermals-told : (ms : Members) → list.thermals bytes ≡ Some ms → Told bytes (of_each thermal_checks 0 (members_in (list.thermals bytes))) (thermals_at (keys_of bs) ms)
  unfolding thermals_at thermal_checks
  thermals-told ms is =
      all-members bytes thermal_checks (thermal_at (keys_of bs)) (list.thermals bytes) ms [] is
      (λ found i k d e. one-last bytes _ (thermal_at (keys_of bs) found i k d) (rw (has, is, e) (thermal-same (keys_of bs) found i k d)))

  lines-told : (ms : Members) → list.lines bytes ≡ Some ms → Told bytes (of_each line_checks 0 (members_in (list.lines bytes))) (lines_at (keys_of bs) ms)
  unfolding lines_at line_checks
  lines-told ms is =
      all-members bytes line_checks (line_at (keys_of bs)) (list.lines bytes) ms [] is
      (λ found i k d e. one-last bytes _ (line_at (keys_of bs) found i k d) (rw (has, is, e) (line-same (keys_of bs) found i k d)))

  module _ (rs : Members) (have : list.reservoirs bytes ≡ Some rs) where
    inflows-told : (t : ℕ) (ds : Items) → list.inflows t bytes ≡ Some ds → Told bytes (of_each (inflow_checks t) 0 (items_in (list.inflows t bytes))) (inflows_at (keys_of rs) t ds)
    unfolding inflows_at inflow_checks
    inflows-told t ds is =
        all-items bytes (inflow_checks t) (inflow_at (keys_of rs) t) (list.inflows t bytes) ds [] is
        (λ found k d e. one-last bytes _ (inflow_at (keys_of rs) t found k d) (rw (have, is, e) (inflow-same (keys_of rs) t found k d)))

    demand-is : (t : ℕ) (d : Data) (ms : Members) → list.hydro_stage_there t bytes ≡ Some d → hydro_table_at (hydro_place part_kinds.Stage t 0) (get (codes "demand") d) ≡ Ok ms → list.hydro_demand t bytes ≡ Some ms
    unfolding list.hydro_demand
    demand-is t d ms a e = rw (a, e) refl

    inflows-is : (t : ℕ) (d : Data) (ds : Items) → list.hydro_stage_there t bytes ≡ Some d → hydro_items_at (hydro_place part_kinds.Stage t 0) (get (codes "inflows") d) ≡ Ok ds → list.inflows t bytes ≡ Some ds
    unfolding list.inflows
    inflows-is t d ds a e = rw (a, e) refl

    stage-told : (found : List Stage) (t : ℕ) (d : Data) → list.hydro_stage_there t bytes ≡ Some d → Told bytes (stage_checks bytes t) (hydro_stage_at (keys_of bs) (keys_of rs) found t d)
    unfolding hydro_stage_at stage_checks
    stage-told found t d is =
        one-then bytes _ _ (hydro_object_at (hydro_place part_kinds.Stage t 0) d) _ (rw is refl) (λ all e1.
        one-then bytes _ _ (hydro_table_at (hydro_place part_kinds.Stage t 0) (get (codes "demand") d)) _ (rw is refl) (λ demands e2.
        one-then bytes _ _ (hydro_items_at (hydro_place part_kinds.Stage t 0) (get (codes "inflows") d)) _ (rw is refl) (λ ds e3.
        let is3 = inflows-is t d ds is e3 in
        one-then bytes _ _ (inflow_count_at (hydro_place part_kinds.Stage t 0) (items_len ds)) _ (rw is3 refl) (λ counted e4.
        one-then bytes _ _ (hydro_entries_at (hydro_place part_kinds.Stage t 0) (pos 0) (keys_of bs) demands) _ (rw (has, demand-is t d demands is e2) refl) (λ demand e5.
        all-then bytes (of_each (inflow_checks t) 0 (items_in (list.inflows t bytes))) _ (inflows_at (keys_of rs) t ds) _ (inflows-told t ds is3) (λ all e6.
        made bytes _ (total_at (hydro_place part_kinds.Stage t 0) all) _ (one-last bytes _ (total_at (hydro_place part_kinds.Stage t 0) all) (rw (have, is3, e6) refl))))))))

    stage-is : (ds : Items) (t : ℕ) (d : Data) → list.stages bytes ≡ Some ds → nth_item t ds ≡ Some d → list.hydro_stage_there t bytes ≡ Some d
    unfolding list.hydro_stage_there
    stage-is ds t d a e = rw (a, e) refl

    stages-told : (ds : Items) → list.stages bytes ≡ Some ds → Told bytes (of_each (stage_checks bytes) 0 (items_in (list.stages bytes))) (stages_at (keys_of bs) (keys_of rs) ds)
    unfolding stages_at
    stages-told ds is = all-items bytes (stage_checks bytes) (hydro_stage_at (keys_of bs) (keys_of rs)) (list.stages bytes) ds [] is (λ found t d e. stage-told found t d (stage-is ds t d is e))

    described-told : (ts ls : Members) (ds : Items) → list.thermals bytes ≡ Some ts → list.lines bytes ≡ Some ls → list.stages bytes ≡ Some ds
        → Told bytes
        (of_each bus_checks 0 (members_in (list.buses bytes))
        ++ (of_each reservoir_checks 0 (members_in (list.reservoirs bytes))
        ++ (of_each thermal_checks 0 (members_in (list.thermals bytes)) ++ (of_each line_checks 0 (members_in (list.lines bytes)) ++ (state_checks ++ of_each (stage_checks bytes) 0 (items_in (list.stages bytes)))))))
        (described_at (keys_of bs) (keys_of rs) (record { buses = bs; reservoirs = rs; thermals = ts; lines = ls; stages = ds }))
    unfolding described_at state_checks
    described-told ts ls ds a b c =
        all-then bytes (of_each bus_checks 0 (members_in (list.buses bytes))) _ (buses_at bs) _ buses-told (λ buses e1.
        all-then bytes (of_each reservoir_checks 0 (members_in (list.reservoirs bytes))) _ (reservoirs_at (keys_of bs) rs (keys_of rs)) _ (reservoirs-told rs have) (λ all e2.
        all-then bytes (of_each thermal_checks 0 (members_in (list.thermals bytes))) _ (thermals_at (keys_of bs) ts) _ (thermals-told ts a) (λ thermals e3.
        all-then bytes (of_each line_checks 0 (members_in (list.lines bytes))) _ (lines_at (keys_of bs) ls) _ (lines-told ls b) (λ lines e4.
        one-then bytes _ _ (state_count_at all) _ (rw (has, have, e2) refl) (λ states e5.
        made bytes _ (stages_at (keys_of bs) (keys_of rs) ds) _ (stages-told ds c))))))

-- ---- the whole

module _ (bytes : List ℕ) (d : Data) (doc : list.hydro_document bytes ≡ Some d) where
  buses-is : (ms : Members) → hydro_table_at hydro_whole (get (codes "buses") d) ≡ Ok ms → list.buses bytes ≡ Some ms
  unfolding list.buses
  buses-is ms e = rw (doc, e) refl

  reservoirs-is : (ms : Members) → hydro_members_at hydro_whole (get (codes "reservoirs") d) ≡ Ok ms → list.reservoirs bytes ≡ Some ms
  unfolding list.reservoirs
  reservoirs-is ms e = rw (doc, e) refl

  thermals-is : (ms : Members) → hydro_members_at hydro_whole (get (codes "thermals") d) ≡ Ok ms → list.thermals bytes ≡ Some ms
  unfolding list.thermals
  thermals-is ms e = rw (doc, e) refl

  lines-is : (ms : Members) → hydro_members_at hydro_whole (get (codes "lines") d) ≡ Ok ms → list.lines bytes ≡ Some ms
  unfolding list.lines
  lines-is ms e = rw (doc, e) refl

  stages-is : (ds : Items) → hydro_items_at hydro_whole (get (codes "stages") d) ≡ Ok ds → list.stages bytes ≡ Some ds
  unfolding list.stages
  stages-is ds e = rw (doc, e) refl

  tables-is : (bs rs ts ls : Members) (ds : Items) (all : Members) → hydro_object_at hydro_whole d ≡ Ok all → hydro_table_at hydro_whole (get (codes "buses") d) ≡ Ok bs → hydro_members_at hydro_whole (get (codes "reservoirs") d) ≡ Ok rs
      → hydro_members_at hydro_whole (get (codes "thermals") d) ≡ Ok ts → hydro_members_at hydro_whole (get (codes "lines") d) ≡ Ok ls → hydro_items_at hydro_whole (get (codes "stages") d) ≡ Ok ds
      → list.tables bytes ≡ Some (record { buses = bs; reservoirs = rs; thermals = ts; lines = ls; stages = ds })
  unfolding list.tables parts_at
  tables-is bs rs ts ls ds all a b c e f g = rw (doc, a, b, c, e, f, g) refl

document-is : (bytes : List ℕ) (d : Data) → hydro_json_at bytes ≡ Ok d → list.hydro_document bytes ≡ Some d
unfolding list.hydro_document
document-is bytes d e = rw e refl

pub plants-told : (bytes : List ℕ) → Told bytes (hydro_checks bytes) (plants_at bytes)
unfolding plants_at plants_of hydro_tables_at parts_at hydro_checks hydro_whole_checks
plants-told bytes =
    one-then bytes _ _ (hydro_json_at bytes) _ refl (λ d e1.
    let doc = document-is bytes d e1 in
    in-turn bytes _ (parts_at d) _ _ (
    in-turn bytes _ (hydro_object_at hydro_whole d) _ _ (
    one-then bytes _ _ (hydro_object_at hydro_whole d) _ (rw doc refl) (λ all e2.
    in-turn bytes _ (hydro_table_at hydro_whole (get (codes "buses") d)) _ _ (
    one-then bytes _ _ (hydro_table_at hydro_whole (get (codes "buses") d)) _ (rw doc refl) (λ bs e3.
    in-turn bytes _ (hydro_members_at hydro_whole (get (codes "reservoirs") d)) _ _ (
    one-then bytes _ _ (hydro_members_at hydro_whole (get (codes "reservoirs") d)) _ (rw doc refl) (λ rs e4.
    in-turn bytes _ (hydro_members_at hydro_whole (get (codes "thermals") d)) _ _ (
    one-then bytes _ _ (hydro_members_at hydro_whole (get (codes "thermals") d)) _ (rw doc refl) (λ ts e5.
    in-turn bytes _ (hydro_members_at hydro_whole (get (codes "lines") d)) _ _ (
    one-then bytes _ _ (hydro_members_at hydro_whole (get (codes "lines") d)) _ (rw doc refl) (λ ls e6.
    in-turn bytes _ (hydro_items_at hydro_whole (get (codes "stages") d)) _ _ (
    one-then bytes _ _ (hydro_items_at hydro_whole (get (codes "stages") d)) _ (rw doc refl) (λ ds e7.
    let t : HydroTables = record { buses = bs; reservoirs = rs; thermals = ts; lines = ls; stages = ds } in
    in-turn bytes _ (hydro_counts_at t) _ _ (
    one-then bytes _ _ (hydro_counts_at t) _ (rw (tables-is bytes d doc bs rs ts ls ds all e2 e3 e4 e5 e6 e7) refl) (λ counted e8.
    described-told bytes bs (buses-is bytes d doc bs e3) rs (reservoirs-is bytes d doc rs e4) ts ls ds (thermals-is bytes d doc ts e5) (lines-is bytes d doc ls e6) (stages-is bytes d doc ds e7)))))))))))))))))

-- the text that is made refuses nothing more
pub hydro-first : (bytes : List ℕ) (r : HydroRefusal) → (hydro_at bytes ≡ Err r) ↔ IsFirst (hydro_checks bytes) bytes r
unfolding hydro_at
hydro-first bytes r = told-none-before bytes (hydro_checks bytes) (plants_at bytes >>= λ h. Ok (hydro_text h)) (made bytes (hydro_checks bytes) (plants_at bytes) hydro_text (plants-told bytes)) r
