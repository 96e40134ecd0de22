use Rattle.journal_record.proofs.PathsBackwards.{backwards_from_path, path_from_backwards}
use Rattle.journal_record.proofs.laws.paths_read_backwards.Goals as goal

pub returns : goal.returns
returns c = record { backwards = backwards_from_path; path = path_from_backwards }
