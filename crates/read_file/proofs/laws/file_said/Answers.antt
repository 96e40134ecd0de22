use Rattle.read_file.proofs.FileWhole.{file-says}
use Rattle.read_file.proofs.laws.file_said.Goals as goal

pub returns : goal.returns
returns c = λ bytes parts e. file-says bytes parts e
