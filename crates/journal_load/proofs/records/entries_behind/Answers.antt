use Rattle.std.proofs.Common.{◌≡◌, Ok, List, ℕ, sym, ◌∙◌, ap, subst}
use Rattle.std.proofs.lemmas.Result.{err_from_is_err_and}
use Rattle.problem.specs.Formulas.{too_much}
use Rattle.journal_record.specs.Reading.{read_batch}
use Rattle.journal_record.specs.declared.fault.EntryFault.TheVariants.{Bad}
use Rattle.journal_file.specs.CommitBytes.{payload_of}
use Rattle.journal_load.specs.Refusals.{of_payload, of_entries, with_fault, within_formula, LoadFails}
use Rattle.journal_load.proofs.Binding.{fails_from}
use Rattle.journal_load.proofs.DiskReadings.{told, known, formulas_bad, payload_bad, entries_bad, entries_read}
use Rattle.journal_load.proofs.records.entries_behind.Goals as goal

pub returns-in_err-check_formulas-clause-value : goal.returns-in_err-check_formulas-clause-value
returns-in_err-check_formulas-clause-value g c =
    let e = err_from_is_err_and c.from_residual.result c.from_residual.ensures.1 in
    let f = c.in_err-check_formulas.field-0.0 in
    let p = c.args.problem.now in
    rw (e.1, e.2) (told (g.D.Disk.store c.args.disk.now).reads (λ b is. formulas_bad p c.args.batch c.args.iteration c.args.at b f (fails_from f (within_formula (too_much p c.args.iteration c.args.batch)) c.in_err-check_formulas.ensures.value)))

pub returns-in_err-next-clause-value : goal.returns-in_err-next-clause-value
returns-in_err-next-clause-value g c =
    let e = err_from_is_err_and c.from_residual-in_err-next.result c.from_residual-in_err-next.ensures.1 in
    let f = c.in_err-next.field-0.0 in
    let p = c.args.problem.now in
    let r = (g.D.Disk.store c.args.disk.now).reads in
    rw (e.1, e.2) (told r (λ b is. payload_bad p c.args.batch c.args.iteration c.args.at b (sym c.in_ok-check_formulas.ensures.value) f (known (λ b. LoadFails f (with_fault (of_payload c.args.iteration) (payload_of b c.args.at))) r b is c.in_err-next.ensures.value)))

pub returns-in_err-entries-clause-value : goal.returns-in_err-entries-clause-value
returns-in_err-entries-clause-value g c =
    let e = err_from_is_err_and c.from_residual-in_err-entries.result c.from_residual-in_err-entries.ensures.1 in
    let f = c.in_err-entries.field-0.0 in
    let p = c.args.problem.now in
    let k = c.args.iteration in
    let bytes = c.read_payload.new.into.items in
    let r = (g.D.Disk.store c.args.disk.now).reads in
    rw (e.1, e.2) (told r (λ b is. entries_bad p c.args.batch k c.args.at b (sym c.in_ok-check_formulas.ensures.value) bytes
    (known (λ b. with_fault (of_payload k) (payload_of b c.args.at) ≡ Ok bytes) r b is c.in_ok-next.ensures.value) f
    (subst (λ (l : List ℕ). LoadFails f (with_fault (λ place. of_entries k (Bad place)) (read_batch p k c.args.batch l))) c.as_slice-payload.ensures.value c.in_err-entries.ensures.value)))

pub returns-clause-value : goal.returns-clause-value
returns-clause-value g c =
    let p = c.args.problem.now in
    let k = c.args.iteration in
    let bytes = c.read_payload.new.into.items in
    let r = (g.D.Disk.store c.args.disk.now).reads in
    told r (λ b is. entries_read p c.args.batch k c.args.at b (sym c.in_ok-check_formulas.ensures.value) bytes
    (known (λ b. with_fault (of_payload k) (payload_of b c.args.at) ≡ Ok bytes) r b is c.in_ok-next.ensures.value) c.in_ok-entries.entries c.in_ok-next.next
    (ap (λ (l : List ℕ). with_fault (λ place. of_entries k (Bad place)) (read_batch p k c.args.batch l)) (sym c.as_slice-payload.ensures.value) ∙ c.in_ok-entries.ensures.value) c.in_ok-next.ensures.next)
