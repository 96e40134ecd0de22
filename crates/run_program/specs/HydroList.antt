-- The checks of a description, in their order. docs/use/FORMAT.md has the same list in words.
use Rattle.std.specs.Prelude.{ℕ, List, [], ◌∷◌, ◌++◌, Option, codes, pos}
use Rattle.serde_json.specs.Data.{Data, Items, Members}
use Rattle.serde_json.specs.Events.{items_len}
use Rattle.serde_json.specs.Find.{get}
use Rattle.read_profile.specs.File.{◌>>=◌}
use Rattle.read_json.specs.Fields.{keys_of}
use Rattle.hydro_read.specs.declared.refusal.HydroPart.TheVariants as part_kinds
use Rattle.hydro_read.specs.declared.refusal.HydroRefusal.{HydroRefusal}
use Rattle.hydro_read.specs.Fields.{hydro_place, hydro_whole, hydro_json_at, hydro_object_at, hydro_table_at, hydro_items_at, hydro_members_at, hydro_entries_at}
use Rattle.hydro_read.specs.Tables.{HydroTables, hydro_counts_at, parts_at}
use Rattle.hydro_read.specs.Grid.{bus_at, read_reservoir_at, reservoirs_at, state_count_at, thermal_at, line_at}
use Rattle.hydro_read.specs.Stages.{inflow_at, inflows_at, inflow_count_at, total_at}
use Rattle.run_program.specs.FirstRefusal.{Check, check, of_each, nth_item, nth_member, there, refusal_of}
use Rattle.run_program.specs.PresentParts.{items_in, members_in}

-- ---- what there is in the bytes of a description, part by part

unfoldable pub hydro_document : List ℕ → Option Data
hydro_document bytes = there (hydro_json_at bytes)

unfoldable pub buses : List ℕ → Option Members
buses bytes = hydro_document bytes >>= λ d. there (hydro_table_at hydro_whole (get (codes "buses") d))

unfoldable pub reservoirs : List ℕ → Option Members
reservoirs bytes = hydro_document bytes >>= λ d. there (hydro_members_at hydro_whole (get (codes "reservoirs") d))

unfoldable pub thermals : List ℕ → Option Members
thermals bytes = hydro_document bytes >>= λ d. there (hydro_members_at hydro_whole (get (codes "thermals") d))

unfoldable pub lines : List ℕ → Option Members
lines bytes = hydro_document bytes >>= λ d. there (hydro_members_at hydro_whole (get (codes "lines") d))

unfoldable pub stages : List ℕ → Option Items
stages bytes = hydro_document bytes >>= λ d. there (hydro_items_at hydro_whole (get (codes "stages") d))

unfoldable pub tables : List ℕ → Option HydroTables
tables bytes = hydro_document bytes >>= λ d. there (parts_at d)

-- the stage t
unfoldable pub hydro_stage_there : ℕ → List ℕ → Option Data
hydro_stage_there t bytes = stages bytes >>= λ ds. nth_item t ds

unfoldable pub hydro_demand : ℕ → List ℕ → Option Members
hydro_demand t bytes = hydro_stage_there t bytes >>= λ d. there (hydro_table_at (hydro_place part_kinds.Stage t 0) (get (codes "demand") d))

unfoldable pub inflows : ℕ → List ℕ → Option Items
inflows t bytes = hydro_stage_there t bytes >>= λ d. there (hydro_items_at (hydro_place part_kinds.Stage t 0) (get (codes "inflows") d))

-- ---- the checks

-- 1 to 3. the whole
unfoldable pub hydro_whole_checks : List (Check HydroRefusal)
hydro_whole_checks =
    check (codes "JSON") [] (λ b. refusal_of (hydro_json_at b))
    ∷ check (codes "an object") [] (λ b. hydro_document b >>= λ d. refusal_of (hydro_object_at hydro_whole d))
    ∷ check (codes "type of buses") [] (λ b. hydro_document b >>= λ d. refusal_of (hydro_table_at hydro_whole (get (codes "buses") d)))
    ∷ check (codes "type of reservoirs") [] (λ b. hydro_document b >>= λ d. refusal_of (hydro_members_at hydro_whole (get (codes "reservoirs") d)))
    ∷ check (codes "type of thermals") [] (λ b. hydro_document b >>= λ d. refusal_of (hydro_members_at hydro_whole (get (codes "thermals") d)))
    ∷ check (codes "type of lines") [] (λ b. hydro_document b >>= λ d. refusal_of (hydro_members_at hydro_whole (get (codes "lines") d)))
    ∷ check (codes "type of stages") [] (λ b. hydro_document b >>= λ d. refusal_of (hydro_items_at hydro_whole (get (codes "stages") d)))
    ∷ check (codes "counts") [] (λ b. tables b >>= λ t. refusal_of (hydro_counts_at t))
    ∷ []

-- 4. each bus i
unfoldable pub bus_checks : ℕ → List (Check HydroRefusal)
bus_checks i = check (codes "bus") (i ∷ []) (λ b. buses b >>= λ ms. nth_member i ms >>= λ it. refusal_of (bus_at [] i it.0 it.1)) ∷ []

-- 5. each reservoir i
unfoldable pub reservoir_checks : ℕ → List (Check HydroRefusal)
reservoir_checks i =
    check (codes "reservoir") (i ∷ []) (λ b. buses b >>= λ bs. reservoirs b >>= λ ms. nth_member i ms >>= λ it. refusal_of (read_reservoir_at (keys_of bs) (keys_of ms) [] i it.0 it.1)) ∷ []

-- 6. each thermal i
unfoldable pub thermal_checks : ℕ → List (Check HydroRefusal)
thermal_checks i = check (codes "thermal") (i ∷ []) (λ b. buses b >>= λ bs. thermals b >>= λ ms. nth_member i ms >>= λ it. refusal_of (thermal_at (keys_of bs) [] i it.0 it.1)) ∷ []

-- 7. each line i
unfoldable pub line_checks : ℕ → List (Check HydroRefusal)
line_checks i = check (codes "line") (i ∷ []) (λ b. buses b >>= λ bs. lines b >>= λ ms. nth_member i ms >>= λ it. refusal_of (line_at (keys_of bs) [] i it.0 it.1)) ∷ []

-- 8. reservoirs and travels together
unfoldable pub state_checks : List (Check HydroRefusal)
state_checks = check (codes "states") [] (λ b. buses b >>= λ bs. reservoirs b >>= λ ms. there (reservoirs_at (keys_of bs) ms (keys_of ms)) >>= λ rs. refusal_of (state_count_at rs)) ∷ []

-- 9 to 11. each stage t, with each inflow k
unfoldable pub inflow_checks : ℕ → ℕ → List (Check HydroRefusal)
inflow_checks t k =
    check (codes "inflow") (t ∷ k ∷ []) (λ b. reservoirs b >>= λ rs. inflows t b >>= λ ds. nth_item k ds >>= λ d. refusal_of (inflow_at (keys_of rs) t [] k d)) ∷ []

unfoldable pub stage_checks : List ℕ → ℕ → List (Check HydroRefusal)
stage_checks bytes t =
    check (codes "a stage is an object") (t ∷ []) (λ b. hydro_stage_there t b >>= λ d. refusal_of (hydro_object_at (hydro_place part_kinds.Stage t 0) d))
    ∷ check (codes "type of demand") (t ∷ []) (λ b. hydro_stage_there t b >>= λ d. refusal_of (hydro_table_at (hydro_place part_kinds.Stage t 0) (get (codes "demand") d)))
    ∷ check (codes "type of inflows") (t ∷ []) (λ b. hydro_stage_there t b >>= λ d. refusal_of (hydro_items_at (hydro_place part_kinds.Stage t 0) (get (codes "inflows") d)))
    ∷ check (codes "count of inflows") (t ∷ []) (λ b. inflows t b >>= λ ds. refusal_of (inflow_count_at (hydro_place part_kinds.Stage t 0) (items_len ds)))
    ∷ check (codes "demand of each bus") (t ∷ []) (λ b. buses b >>= λ bs. hydro_demand t b >>= λ ms. refusal_of (hydro_entries_at (hydro_place part_kinds.Stage t 0) (pos 0) (keys_of bs) ms))
    ∷ (of_each (inflow_checks t) 0 (items_in (inflows t bytes))
    ++ (check (codes "weights of a stage") (t ∷ []) (λ b. reservoirs b >>= λ rs. inflows t b >>= λ ds. there (inflows_at (keys_of rs) t ds) >>= λ all. refusal_of (total_at (hydro_place part_kinds.Stage t 0) all)) ∷ []))

-- the checks of a description
unfoldable pub hydro_checks : List ℕ → List (Check HydroRefusal)
hydro_checks bytes =
    hydro_whole_checks
    ++ (of_each bus_checks 0 (members_in (buses bytes))
    ++ (of_each reservoir_checks 0 (members_in (reservoirs bytes))
    ++ (of_each thermal_checks 0 (members_in (thermals bytes)) ++ (of_each line_checks 0 (members_in (lines bytes)) ++ (state_checks ++ of_each (stage_checks bytes) 0 (items_in (stages bytes)))))))
