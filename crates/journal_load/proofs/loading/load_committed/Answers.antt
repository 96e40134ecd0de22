use Rattle.std.proofs.Common.{[], Ok, true, refl}
use Rattle.std.proofs.lemmas.Result.{err_from_is_err_and}
use Rattle.theory.proofs.Based.{fit-based}
use Rattle.journal_load.specs.declared.loaded.Loaded.{Loaded}
use Rattle.journal_load.specs.Refusals.{LoadFails}
use Rattle.journal_load.specs.Records.{EndsAs, fresh_found, gathered_found, records_at}
use Rattle.journal_load.proofs.DiskReadings.{told, known}
use Rattle.journal_load.proofs.Outcomes.{committed_fails, committed_loads}
use Rattle.journal_load.proofs.loading.load_committed.Goals as goal

pub root_values-requires : goal.root_values-requires
root_values-requires g c = fit-based c.args.problem.now c.args.base.lists c.parts.ensures.validated c.requires.base

pub returns-in_err-end-clause-value : goal.returns-in_err-end-clause-value
returns-in_err-end-clause-value g c =
    let e = err_from_is_err_and c.from_residual-in_err-end.result c.from_residual-in_err-end.ensures.1 in
    let f = c.in_err-end.field-0.0 in
    let p = c.args.problem.now in
    let base = c.args.base.lists in
    let first = c.first_commit_byte.result in
    let r = (g.D.Disk.store c.args.disk.now).reads in
    rw (e.1, e.2) (told r (λ b is. committed_fails p base b c.args.version.number c.args.version.batch first c.first_commit_byte.ensures.value f (known (λ b. LoadFails f (records_at p c.args.version.batch b 2000 first (fresh_found base) [])) r b is c.in_err-end.ensures.value)))

pub returns-clause-value : goal.returns-clause-value
returns-clause-value g c =
    let p = c.args.problem.now in
    let base = c.args.base.lists in
    let first = c.first_commit_byte.result in
    let kept = g.K.Keeper.kept c.read_records.new.keep in
    let found = c.read_records.new.found in
    let end = c.in_ok-end.end in
    let l : Loaded = record { pools = found.pools; bounds = found.bounds; unanswered = found.unanswered; committed = true; end = end.end; tail = end.tail; version = c.args.version.number; batch = c.args.version.batch } in
    let r = (g.D.Disk.store c.args.disk.now).reads in
    told r (λ b is. committed_loads p base b c.args.version.number c.args.version.batch first c.first_commit_byte.ensures.value kept end l refl
    (known (λ b. EndsAs kept (gathered_found found) (Ok end) (records_at p c.args.version.batch b 2000 first (fresh_found base) [])) r b is c.in_ok-end.ensures.value))
