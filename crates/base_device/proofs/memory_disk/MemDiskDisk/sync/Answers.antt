use Rattle.base_device.proofs.MemoryDisks.{agrees_sync}
use Rattle.base_device.proofs.memory_disk.MemDiskDisk.sync.Goals as goal

pub invariant_of-self : goal.invariant_of-self
invariant_of-self c =
    agrees_sync c.self.inside.initial.items c.self.inside.history _ c.self.inside.readings _ c.self.invariant c.add_sync.ensures c.sync.ensures
