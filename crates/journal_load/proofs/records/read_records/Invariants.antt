use Rattle.std.proofs.Common.{◌≡◌}
use Rattle.base_device.specs.Disks.{Stays}
use Rattle.journal_load.specs.RootValues.{root_values}
use Rattle.journal_load.specs.Records.{gathered_found}
use Rattle.journal_load.proofs.Reaching.{Reached}
use Rattle.journal_load.proofs.records.read_records.Given as goal

abbrev pub invariant-loop : goal.invariant-loop
invariant-loop g l = Reached l.problem l.initial.found.pools.lists l.layout.batch l.layout.first (g.D.Disk.store l.initial.disk).reads (g.K.Keeper.kept l.keep) l.counter l.at (gathered_found l.found) × Stays (g.D.Disk.store l.initial.disk) (g.D.Disk.store l.disk) × (g.D.Disk.faults l.disk ≡ g.D.Disk.faults l.initial.disk) × (l.found.values ≡ root_values l.problem l.found.pools.lists)
