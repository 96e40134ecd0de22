use Rattle.run_program.proofs.Synced.{sync_leaves, train_leaves}
use Rattle.run_program.proofs.TrainReports.{cause_as, cause_later, disk_plan, plan_disk, plan_stops, plan_whole}
use Rattle.run_program.proofs.training.train_on.Goals as goal

pub returns-in_default-clause-any_moment : goal.returns-in_default-clause-any_moment
returns-in_default-clause-any_moment g c = sync_leaves _ _ _ _ _ _ (g.D.Disk.lawful c.args.journal.now) c.sync.ensures.crash c.sync.ensures.time

pub returns-in-Ok-train-clause-any_moment : goal.returns-in-Ok-train-clause-any_moment
returns-in-Ok-train-clause-any_moment g c = train_leaves _ _ _ _ _ _ (g.D.Disk.lawful c.args.journal.now) c.sync.ensures.crash c.sync.ensures.time _ c.sync.ensures.reads c.train.ensures.any_moment

pub returns-in-Err-clause-stop : goal.returns-in-Err-clause-stop
returns-in-Err-clause-stop g c = rw c.status_of_plan.ensures (plan_stops (Unit {0}) (Unit {0}) c.in-Err.fault _ c.in-Err.ensures.stop)

pub returns-in-Err-clause-reads : goal.returns-in-Err-clause-reads
returns-in-Err-clause-reads g c = rw (c.status_of_plan.ensures, ← c.sync.ensures.reads) (plan_whole (Unit {0}) (Unit {0}) c.in-Err.fault _ c.in-Err.ensures.reads)

pub returns-in-Err-clause-quiet : goal.returns-in-Err-clause-quiet
returns-in-Err-clause-quiet g c = rw c.status_of_plan.ensures (plan_whole (Unit {0}) (Unit {0}) c.in-Err.fault _ c.in-Err.ensures.quiet)

pub returns-in-Err-clause-any_moment : goal.returns-in-Err-clause-any_moment
returns-in-Err-clause-any_moment g c = train_leaves _ _ _ _ _ _ (g.D.Disk.lawful c.args.journal.now) c.sync.ensures.crash c.sync.ensures.time _ c.sync.ensures.reads c.train.ensures.any_moment

pub returns-in-Err-clause-cause : goal.returns-in-Err-clause-cause
returns-in-Err-clause-cause g c = cause_later _ _ _ _ c.in-Ok.ensures.cause.succeeded
    (cause_as _ _ _ _ c.in-Err.ensures.cause (plan_disk (Unit {0}) (Unit {0}) c.in-Err.fault _ c.status_of_plan.ensures) (disk_plan (Unit {0}) (Unit {0}) c.in-Err.fault _ c.status_of_plan.ensures))
