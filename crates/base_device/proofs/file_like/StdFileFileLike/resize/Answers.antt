use Rattle.base_device.proofs.Unobservable.{cut_nothing}
use Rattle.base_device.proofs.file_like.StdFileFileLike.resize.Goals as goal

pub returns-clause-crash : goal.returns-clause-crash
returns-clause-crash g c = λ left now. (left, tt, cut_nothing _ left)
