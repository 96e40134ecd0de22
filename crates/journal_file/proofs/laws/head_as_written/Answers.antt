use Rattle.journal_file.proofs.HeadsRead.{head_of_journal, head_of_uncommitted, first_commit_byte}
use Rattle.journal_file.proofs.laws.head_as_written.Goals as goal

pub returns-clause-committed : goal.returns-clause-committed
returns-clause-committed c = λ t payloads commit_byte tail is. head_of_journal t payloads commit_byte tail is

pub returns-clause-uncommitted : goal.returns-clause-uncommitted
returns-clause-uncommitted c = λ t bytes is uncommitted. head_of_uncommitted t bytes is uncommitted

pub returns-clause-first : goal.returns-clause-first
returns-clause-first c = λ t is. first_commit_byte t is
