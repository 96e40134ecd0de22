use Rattle.base_device.proofs.Unobservable.{torn_nothing}
use Rattle.base_device.proofs.file_like.StdFileFileLike.write_whole.Goals as goal

pub returns-clause-crash : goal.returns-clause-crash
returns-clause-crash g c = λ left now. (left, tt, torn_nothing _ _ left)
