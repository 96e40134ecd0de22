use Rattle.journal_file.proofs.CommitBytesRead.{open_commit_byte, payload_there, next_commit_byte, last_commit_byte}
use Rattle.journal_file.proofs.laws.records_as_written.Goals as goal

pub returns-clause-open : goal.returns-clause-open
returns-clause-open c = λ t payloads commit_byte tail j below. open_commit_byte t payloads commit_byte tail j below

pub returns-clause-payload : goal.returns-clause-payload
returns-clause-payload c = λ t payloads commit_byte tail j below few. payload_there t payloads commit_byte tail j below few

pub returns-clause-next : goal.returns-clause-next
returns-clause-next c = λ t payloads j below. next_commit_byte t payloads j below

pub returns-clause-end : goal.returns-clause-end
returns-clause-end c = λ t payloads commit_byte tail other. last_commit_byte t payloads commit_byte tail other
