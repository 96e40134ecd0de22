use Rattle.journal_load.specs.Load.{seen_outcome}
use Rattle.plan_train.specs.Training.{title_of}
use Rattle.plan_train.proofs.Opened.{repaired_leaves}
use Rattle.plan_train.proofs.opening.open_old.Goals as goal

pub returns-in_err-recover-clause-any_moment : goal.returns-in_err-recover-clause-any_moment
returns-in_err-recover-clause-any_moment g c = repaired_leaves (title_of c.args.digest.now c.args.seed (seen_outcome c.args.loaded.now)) (seen_outcome c.args.loaded.now) (g.D.Disk.store c.args.disk.now) (g.D.Disk.store c.recover.new.disk) c.requires.committed c.recover.ensures.any_moment

pub returns-clause-any_moment : goal.returns-clause-any_moment
returns-clause-any_moment g c = repaired_leaves (title_of c.args.digest.now c.args.seed (seen_outcome c.args.loaded.now)) (seen_outcome c.args.loaded.now) (g.D.Disk.store c.args.disk.now) (g.D.Disk.store c.recover.new.disk) c.requires.committed c.recover.ensures.any_moment
