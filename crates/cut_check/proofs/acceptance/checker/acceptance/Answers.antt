use Rattle.theory.specs.Base.{base_list}
use Rattle.theory.proofs.SoundBase.{base_right}
use Rattle.cut_check.proofs.Accepted as laws
use Rattle.cut_check.proofs.Faultless.{accepted, right-range_fault}
use Rattle.cut_check.proofs.acceptance.checker.acceptance.Goals as goal

pub returns-clause-right : goal.returns-clause-right
returns-clause-right c = laws.right-fault_of

pub returns-clause-size : goal.returns-clause-size
returns-clause-size c = laws.size-fault_of

pub returns-clause-accepted : goal.returns-clause-accepted
returns-clause-accepted c = accepted

pub returns-clause-base : goal.returns-clause-base
returns-clause-base c = λ pools n h. right-range_fault pools n (base_list n) (base_right pools n h)
