use Rattle.std.proofs.Common.{◌≡◌, ◌-◌}
use Rattle.journal_record.specs.Reading.{many, certificate_at}
use Rattle.journal_record.proofs.Loop.{with_front}
use Rattle.journal_record.proofs.certificates.certificates.Given as goal

abbrev pub invariant-loop : goal.invariant-loop
invariant-loop l = with_front l.found.items (many (certificate_at l.sizes) (l.sizes.realizations - l.counter) l.tail) ≡ many (certificate_at l.sizes) l.sizes.realizations l.bytes
