use Rattle.std.proofs.Common.{◌≡◌, ◌-◌}
use Rattle.journal_record.specs.Reading.{many, read_row_at}
use Rattle.journal_record.proofs.Loop.{with_front}
use Rattle.journal_record.proofs.certificates.rows.Given as goal

abbrev pub invariant-loop : goal.invariant-loop
invariant-loop l = with_front l.found.items (many read_row_at (l.count - l.counter) l.tail) ≡ many read_row_at l.count l.bytes
