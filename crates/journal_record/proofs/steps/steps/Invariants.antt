use Rattle.std.proofs.Common.{◌≡◌, ◌-◌}
use Rattle.std.specs.Prelude.{None}
use Rattle.journal_record.specs.Reading.{entry_steps_at}
use Rattle.journal_record.proofs.Loop.{with_front}
use Rattle.journal_record.proofs.steps.steps.Given as goal

abbrev pub invariant-loop-i : goal.invariant-loop-i
invariant-loop-i l = with_front l.found.items (entry_steps_at l.problem l.before (l.count - l.i) l.tail) ≡ entry_steps_at l.problem None l.count l.bytes
