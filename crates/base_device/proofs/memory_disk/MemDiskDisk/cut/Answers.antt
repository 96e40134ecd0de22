use Rattle.base_device.proofs.MemoryDisks.{agrees_cut}
use Rattle.base_device.proofs.memory_disk.MemDiskDisk.cut.Goals as goal

pub invariant_of-self : goal.invariant_of-self
invariant_of-self c =
    agrees_cut c.self.inside.initial.items c.self.inside.history _ c.self.inside.readings _ c.args.len c.self.invariant c.add_cut.ensures c.cut.ensures
