use Rattle.std.proofs.Common.{◌≡◌, ◌+◌, suc, length, Ok, List, ℕ, sym, ◌∙◌, ap, subst, arith}
use Rattle.std.proofs.lemmas.Result.{err_from_is_err_and}
use Rattle.cut_pool.specs.declared.entry.Entry.{Entry}
use Rattle.journal_load.specs.Refusals.{LoadFails}
use Rattle.journal_load.specs.Records.{gathered_found, record_entries_at, record_added}
use Rattle.journal_load.proofs.DiskReadings.{told, known, record_unread, record_bad, record_read}
use Rattle.journal_load.proofs.records.read_record.Goals as goal

pub returns-in_err-entries-clause-value : goal.returns-in_err-entries-clause-value
returns-in_err-entries-clause-value g c =
    let e = err_from_is_err_and c.from_residual.result c.from_residual.ensures.1 in
    let f = c.in_err-entries.field-0.0 in
    let p = c.args.problem.now in
    let r = (g.D.Disk.store c.args.disk.now).reads in
    let found = gathered_found c.args.found.now in
    let k : c.len.result + 1 ≡ suc (length found.bounds) = omega (arith, c.len.ensures) in
    rw (e.1, e.2) (told r (λ b is. record_unread p c.args.batch b c.args.at found f
    (subst (λ (k : ℕ). LoadFails f (record_entries_at p c.args.batch b k c.args.at)) k (known (λ b. LoadFails f (record_entries_at p c.args.batch b (c.len.result + 1) c.args.at)) r b is c.in_err-entries.ensures.value))))

pub returns-in_err-add_record-clause-value : goal.returns-in_err-add_record-clause-value
returns-in_err-add_record-clause-value g c =
    let e = err_from_is_err_and c.from_residual-in_err-add_record.result c.from_residual-in_err-add_record.ensures.1 in
    let f = c.in_err-add_record.field-0.0 in
    let p = c.args.problem.now in
    let r = (g.D.Disk.store c.args.disk.now).reads in
    let found = gathered_found c.args.found.now in
    let es = c.in_ok-entries.entries in
    let next = c.in_ok-entries.next in
    let k : c.len.result + 1 ≡ suc (length found.bounds) = omega (arith, c.len.ensures) in
    rw (e.1, e.2) (told r (λ b is. record_bad p c.args.batch b c.args.at found es next
    (subst (λ (k : ℕ). record_entries_at p c.args.batch b k c.args.at ≡ Ok (es, next)) k (known (λ b. record_entries_at p c.args.batch b (c.len.result + 1) c.args.at ≡ Ok (es, next)) r b is c.in_ok-entries.ensures.value)) f
    (subst (λ (l : List Entry). LoadFails f (record_added p found l)) c.as_slice.ensures c.in_err-add_record.ensures.value)))

pub returns-clause-value : goal.returns-clause-value
returns-clause-value g c =
    let p = c.args.problem.now in
    let r = (g.D.Disk.store c.args.disk.now).reads in
    let found = gathered_found c.args.found.now in
    let es = c.in_ok-entries.entries in
    let next = c.in_ok-entries.next in
    let k : c.len.result + 1 ≡ suc (length found.bounds) = omega (arith, c.len.ensures) in
    told r (λ b is. record_read p c.args.batch b c.args.at found es next
    (subst (λ (k : ℕ). record_entries_at p c.args.batch b k c.args.at ≡ Ok (es, next)) k (known (λ b. record_entries_at p c.args.batch b (c.len.result + 1) c.args.at ≡ Ok (es, next)) r b is c.in_ok-entries.ensures.value)) (gathered_found c.add_record.new.found)
    (ap (λ (l : List Entry). record_added p found l) (sym c.as_slice.ensures) ∙ c.in_ok-add_record.ensures.value))
