use Rattle.std.proofs.Common.{◌≡◌, ℤ, [], get_or, to_z, of_z, w64, arith, ap, subst, refl, Ok}
use Rattle.std.proofs.lemmas.Int.{to_z-of_z}
use Rattle.std.proofs.lemmas.Result.{err_from_is_err_and}
use Rattle.serde_json.specs.View.{members_view}
use Rattle.read_json.specs.Steps.{walk_list}
use Rattle.hydro_read.specs.Steps.{HydroFails}
use Rattle.hydro_read.specs.Fields.{hydro_entry_at, hydro_entries_at}
use Rattle.read_json.proofs.Walks.{list-go, list-done}
use Rattle.hydro_read.proofs.Walks.{list-fail}
use Rattle.hydro_read.proofs.entries.entries.Goals as goal

pub loop-i-init : goal.loop-i-init
unfolding hydro_entries_at
loop-i-init c =
    let a = c.args in
    ap (λ f. walk_list (hydro_entry_at a.place (to_z w64 (of_z w64 a.least)) (members_view a.table.now.entries)) f 0 a.names.now) c.new-found.ensures

pub returns-in_err-entry : goal.returns-in_err-entry
returns-in_err-entry c =
    let a = c.args in
    let l = c.loop-i in
    let z = to_z w64 (of_z w64 a.least) in
    let ms = members_view a.table.now.entries in
    let p = err_from_is_err_and c.from_residual.result c.from_residual.ensures.1 in
    let fails : HydroFails c.in_err-entry.field-0.0 (hydro_entries_at a.place z a.names.now ms) = list-fail (hydro_entry_at a.place z ms) l.found l.i (get_or a.names.now l.i []) [] a.names.now _ c.in_err-entry.field-0.0 (omega arith) refl c.in_err-entry.ensures l.invariant in
    rw (p.1, p.2) (subst (λ (y : ℤ). HydroFails c.in_err-entry.field-0.0 (hydro_entries_at a.place y a.names.now ms)) (to_z-of_z w64 a.least c.ranges.least) fails)

pub loop-i-preserved : goal.loop-i-preserved
loop-i-preserved c =
    let a = c.args in
    let l = c.loop-i in
    list-go (hydro_entry_at a.place (to_z w64 (of_z w64 a.least)) (members_view a.table.now.entries)) l.found c.entry.new.found l.i (get_or a.names.now l.i []) [] a.names.now _ (omega arith) refl c.in_ok-entry.ensures l.invariant

pub returns : goal.returns
returns c =
    let a = c.args in
    let l = c.loop-i in
    let z = to_z w64 (of_z w64 a.least) in
    let ms = members_view a.table.now.entries in
    let done = list-done (hydro_entry_at a.place z ms) l.found l.i a.names.now (hydro_entries_at a.place z a.names.now ms) (omega arith) l.invariant in
    subst (λ (y : ℤ). hydro_entries_at a.place y a.names.now ms ≡ Ok l.found) (to_z-of_z w64 a.least c.ranges.least) done
