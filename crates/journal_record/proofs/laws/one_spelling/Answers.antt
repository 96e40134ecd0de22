use Rattle.std.proofs.Common.{◌<◌}
use Rattle.std.proofs.lemmas.List.Elements.{recursion_from_All}
use Rattle.journal_record.proofs.Fields.{bytes_from_All}
use Rattle.journal_record.proofs.Whole.{batch_again, batch_spelled}
use Rattle.journal_record.proofs.laws.one_spelling.Goals as goal

pub returns-clause-again : goal.returns-clause-again
returns-clause-again c = batch_again

pub returns-clause-spelled : goal.returns-clause-spelled
returns-clause-spelled c = λ p iteration count bytes list small e. batch_spelled p iteration count bytes list (bytes_from_All bytes (recursion_from_All (λ b. b < 256) bytes small)) e
