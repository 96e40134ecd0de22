use Rattle.std.proofs.Common.{Some, None}
use Rattle.journal_load.specs.Load.{LoadsAs, load_of}
use Rattle.journal_load.proofs.DiskReadings.{told, known}
use Rattle.journal_load.proofs.Outcomes.{keeps_all}
use Rattle.journal_load.proofs.loading.load_keep.Goals as goal

pub returns-clause-value : goal.returns-clause-value
returns-clause-value g c =
    let r = (g.D.Disk.store c.args.disk.now).reads in
    let keep = c.load_with.new.keep in
    told r (λ b is. keeps_all keep c.load_with.result (load_of c.args.problem.now c.args.base.lists c.args.digest.now None None b) (known (λ b. LoadsAs (Some keep) c.load_with.result (load_of c.args.problem.now c.args.base.lists c.args.digest.now None None b)) r b is c.load_with.ensures.value))
