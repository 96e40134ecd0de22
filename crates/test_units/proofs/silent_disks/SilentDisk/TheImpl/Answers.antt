-- This disk tells nothing of its bytes, so that each clause on them holds.
use Rattle.std.proofs.Common.{arith}
use Rattle.base_device.proofs.Unobservable.{observable_length, observable_read, observable_write, observable_cut, observable_sync}
use Rattle.test_units.proofs.silent_disks.SilentDisk.TheImpl.Goals as goal

pub len-tells : goal.len-tells
len-tells c = observable_length _ _ c.result c.ensures.readable c.ensures.cause

pub read_at-tells : goal.read_at-tells
read_at-tells c = observable_read _ _ c.result c.ensures.cause

pub write_at-tells : goal.write_at-tells
write_at-tells c = observable_write _ _ c.result c.ensures.cause _ _

pub cut-tells : goal.cut-tells
cut-tells c = observable_cut _ _ c.result c.ensures.cause _ _ (omega arith)

pub sync-tells : goal.sync-tells
sync-tells c = observable_sync _ _ c.result c.ensures.cause
