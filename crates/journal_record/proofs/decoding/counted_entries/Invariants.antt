use Rattle.std.proofs.Common.{◌≡◌, ◌-◌}
use Rattle.journal_record.specs.Reading.{many, entry_at}
use Rattle.journal_record.proofs.Loop.{with_front}
use Rattle.journal_record.proofs.decoding.counted_entries.Given as goal

abbrev pub invariant-loop : goal.invariant-loop
invariant-loop l = with_front l.found.items (many (entry_at l.problem l.wanted) (l.count - l.counter) l.tail) ≡ many (entry_at l.problem l.wanted) l.count l.bytes
