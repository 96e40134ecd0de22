use Rattle.journal_record.proofs.Lengths.{text_length}
use Rattle.journal_record.proofs.laws.bytes_of_a_payload.Goals as goal

pub returns : goal.returns
returns c = text_length
