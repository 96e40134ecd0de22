use Rattle.std.proofs.Common.{◌≤◌, length, ap, arith}
use Rattle.base_device.specs.Changes.{Contents}
use Rattle.base_device.specs.MemoryDisks.{MemoryDisk, reads}
use Rattle.base_device.proofs.MemoryDisks.{agrees_write}
use Rattle.base_device.proofs.memory_disk.MemDiskDisk.write_at.Goals as goal

pub invariant_of-self : goal.invariant_of-self
invariant_of-self c =
    let view = ap (λ (d : MemoryDisk). length (reads d)) c.self.view_is in
    let kept = ap (λ (s : Contents). length s.kept) c.self.invariant.contents in
    let place : c.args.at ≤ length c.self.inside.readings.contents.kept = omega (arith, c.requires.place, view, kept) in
    agrees_write c.self.inside.initial.items c.self.inside.history _ c.self.inside.readings _ c.args.at c.args.piece.now c.self.invariant place c.add_write.ensures c.write.ensures
