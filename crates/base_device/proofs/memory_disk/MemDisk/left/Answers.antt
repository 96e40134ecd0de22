use Rattle.std.proofs.Common.{◌≡◌, sym, subst, rules}
use Rattle.base_device.specs.Changes.{Image, Placed, at_rest}
use Rattle.base_device.specs.Crashes.{IsTorn}
use Rattle.base_device.specs.MemoryDisks.{MemoryDisk, contents_of}
use Rattle.base_device.proofs.Changes.{image_lost, image_torn}
use Rattle.base_device.proofs.Torn.{is_torn}
use Rattle.base_device.proofs.memory_disk.MemDisk.left.Goals as goal

pub returns-in-Lost-clause-image : goal.returns-in-Lost-clause-image
returns-in-Lost-clause-image c =
    let disk = c.args.self.now in
    let is : c.lost.result.now ≡ (contents_of disk).lost = search rules in
    subst (Image disk.log disk.initial) (sym is) (image_lost disk.log disk.initial)

pub returns-in-Torn-clause-image : goal.returns-in-Torn-clause-image
returns-in-Torn-clause-image c =
    let disk = c.args.self.now in
    let is : c.torn.result.now ≡ (contents_of disk).torn = search rules in
    let placed : Placed disk.log (at_rest disk.initial) = subst (λ (d : MemoryDisk). Placed d.log (at_rest d.initial)) c.self.view_is c.self.invariant.placed in
    subst (Image disk.log disk.initial) (sym is) (image_torn disk.log disk.initial placed)

pub returns-in-Torn-clause-torn : goal.returns-in-Torn-clause-torn
returns-in-Torn-clause-torn c how =
    let disk = c.args.self.now in
    let is : c.torn.result.now ≡ (contents_of disk).torn = search rules in
    let placed : Placed disk.log (at_rest disk.initial) = subst (λ (d : MemoryDisk). Placed d.log (at_rest d.initial)) c.self.view_is c.self.invariant.placed in
    subst (IsTorn disk) (sym is) (is_torn disk placed)
