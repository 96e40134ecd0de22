use Rattle.std.proofs.Common.{◌≡◌, ◌⊎◌, Some, None, ap}
use Rattle.std.proofs.lemmas.Result.{err_from_is_err_and}
use Rattle.journal_file.specs.declared.commit_byte.CommitByteFault.TheVariants as commit_bytes
use Rattle.journal_file.specs.CommitBytes.{commit_byte_of}
use Rattle.journal_load.specs.Records.{rest_behind}
use Rattle.journal_load.proofs.DiskReadings.{told, known, a_commit_byte, no_commit_byte, commit_byte_bad, commit_byte_good}
use Rattle.journal_load.proofs.records.rest_at.Goals as goal

pub returns-in_err-tail-clause-value : goal.returns-in_err-tail-clause-value
returns-in_err-tail-clause-value g c =
    let e = err_from_is_err_and c.from_residual.result c.from_residual.ensures.1 in
    let f = c.in_err-tail.field-0.0 in
    let r = (g.D.Disk.store c.args.disk.now).reads in
    rw (e.1, e.2) (told r (λ b is. commit_byte_bad b c.args.at f (known (λ b. (no_commit_byte f ≡ commit_byte_of b c.args.at) ⊎ (no_commit_byte f ≡ no_commit_byte commit_bytes.DiskFault)) r b is c.in_err-tail.ensures.value)))

pub returns-in-Clear-clause-value : goal.returns-in-Clear-clause-value
returns-in-Clear-clause-value g c =
    let x = c.in_ok-tail.field-0 in
    let r = (g.D.Disk.store c.args.disk.now).reads in
    told r (λ b is. commit_byte_good b c.args.at x (Some c.in-Clear.tail) (known (λ b. (a_commit_byte x ≡ commit_byte_of b c.args.at) ⊎ (a_commit_byte x ≡ no_commit_byte commit_bytes.DiskFault)) r b is c.in_ok-tail.ensures.value) (ap rest_behind c.in-Clear.is))

pub returns-in-Set-clause-value : goal.returns-in-Set-clause-value
returns-in-Set-clause-value g c =
    let x = c.in_ok-tail.field-0 in
    let r = (g.D.Disk.store c.args.disk.now).reads in
    told r (λ b is. commit_byte_good b c.args.at x None (known (λ b. (a_commit_byte x ≡ commit_byte_of b c.args.at) ⊎ (a_commit_byte x ≡ no_commit_byte commit_bytes.DiskFault)) r b is c.in_ok-tail.ensures.value) (ap rest_behind c.in-Set.is))
