use Rattle.base_device.proofs.FoundAgain.{kept_after_write, kept_after_cut}
use Rattle.base_device.proofs.file_end.found_behind_changes.Goals as goal

pub returns-clause-write : goal.returns-clause-write
returns-clause-write c = λ kept bytes at piece le is. kept_after_write kept bytes at piece le is

pub returns-clause-cut : goal.returns-clause-cut
returns-clause-cut c = λ kept bytes len le is. kept_after_cut kept bytes len le is
