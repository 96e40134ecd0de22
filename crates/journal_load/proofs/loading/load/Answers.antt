use Rattle.std.proofs.Common.{None}
use Rattle.journal_load.specs.Load.{LoadsAs, load_of}
use Rattle.journal_load.proofs.DiskReadings.{told, known}
use Rattle.journal_load.proofs.Outcomes.{forgets}
use Rattle.journal_load.proofs.loading.load.Goals as goal

pub returns-clause-value : goal.returns-clause-value
returns-clause-value g c =
    let r = (g.D.Disk.store c.args.disk.now).reads in
    told r (λ b is. forgets None c.load_with.result (load_of c.args.problem.now c.args.base.lists c.args.asked.now.digest.now c.args.asked.now.seed c.args.asked.now.batch b) (known (λ b. LoadsAs None c.load_with.result (load_of c.args.problem.now c.args.base.lists c.args.asked.now.digest.now c.args.asked.now.seed c.args.asked.now.batch b)) r b is c.load_with.ensures.value))
