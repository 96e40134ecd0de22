use Rattle.std.proofs.Common.{◌≡◌, ◌-◌}
use Rattle.journal_record.specs.Reading.{many, pair_at}
use Rattle.journal_record.proofs.Loop.{with_front}
use Rattle.journal_record.proofs.certificates.counted_pairs.Given as goal

abbrev pub invariant-loop : goal.invariant-loop
invariant-loop l = with_front l.found.items (many pair_at (l.count - l.counter) l.tail) ≡ many pair_at l.count l.bytes
