use Rattle.std.proofs.Common.{arith}
use Rattle.journal_file.proofs.Reading.{told_commit_byte_short, told_commit_byte_set, told_commit_byte_clear}
use Rattle.journal_file.proofs.commit_byte.read_commit_byte.Goals as goal

pub returns-then-len-at-clause-value : goal.returns-then-len-at-clause-value
returns-then-len-at-clause-value g c = told_commit_byte_short _ _ c.in_ok-byte.len c.in_ok-byte.ensures.length _ c.if-len-at.true

pub returns-then-byte-eq1-clause-value : goal.returns-then-byte-eq1-clause-value
returns-then-byte-eq1-clause-value g c = told_commit_byte_set _ _ c.in_ok-byte.len c.in_ok-byte.ensures.length c.in_ok-byte.byte c.in_ok-byte.ensures.byte (omega (arith, c.if-len-at.false)) _ c.if-byte-eq1.true

pub returns-clause-value : goal.returns-clause-value
returns-clause-value g c = told_commit_byte_clear _ _ c.in_ok-byte.len c.in_ok-byte.ensures.length c.in_ok-byte.byte c.in_ok-byte.ensures.byte (omega (arith, c.if-len-at.false)) _ c.if-byte-eq1.false
