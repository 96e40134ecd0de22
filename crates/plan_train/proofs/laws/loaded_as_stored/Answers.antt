use Rattle.plan_train.proofs.Stored.{stands_there}
use Rattle.plan_train.proofs.StoredPrefix.{grown_stored, prefix_stored, more_goes_on}
use Rattle.plan_train.proofs.laws.loaded_as_stored.Goals as goal

pub returns-clause-stands : goal.returns-clause-stands
returns-clause-stands c = stands_there

pub returns-clause-grows : goal.returns-clause-grows
returns-clause-grows c = λ base digest seed batch bytes o lists more s. grown_stored base digest seed batch bytes o lists s more

pub returns-clause-prefix : goal.returns-clause-prefix
returns-clause-prefix c = λ base digest seed batch bytes o lists more j s prefix. prefix_stored base digest seed batch bytes o lists s more j prefix

pub returns-clause-more : goal.returns-clause-more
returns-clause-more c = more_goes_on
