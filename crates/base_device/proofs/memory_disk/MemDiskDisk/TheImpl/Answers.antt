-- The exact effect of calls of a disk in memory is what a disk owes.
use Rattle.std.proofs.Common.{◌≡◌, List, ℕ, ◌≤◌, min, length, take, Some, refl, ap, arith}
use Rattle.base_device.specs.Disks.{Torn, Cut, Follows, Elapses, Only, written}
use Rattle.base_device.specs.Changes.{cut_to, synced}
use Rattle.base_device.specs.MemoryDisks.{reads, store_of, after_failed, after_change, after_write}
use Rattle.base_device.proofs.Unobservable.{torn_nothing, cut_nothing}
use Rattle.base_device.proofs.MemoryDisks.{by_outcome, after_ok, reads_write, reads_cut, reads_sync, longer_write, shorter_cut, follows_write, follows_cut, follows_nothing, durable_sync, image_synced, elapses_change, elapses_write, elapses_nothing}
use Rattle.base_device.proofs.memory_disk.MemDiskDisk.TheImpl.Goals as goal

pub write_at-tells : goal.write_at-tells
write_at-tells c =
    let old = c.args.self.now in
    let new = c.new.self.now in
    let done = after_write old c.args.at c.args.piece.now in
    let failed = after_failed old in record {
      written = after_ok (λ d. Some (reads d) ≡ Some (written (reads old) c.args.at c.args.piece.now)) c.result new done c.ensures.ok (ap (λ (l : List ℕ). Some l) (reads_write old c.args.at c.args.piece.now));
      observable = refl;
      readable = by_outcome (λ d. length (reads old) ≤ length (reads d)) c.result new done failed c.ensures.ok c.ensures.err (longer_write old c.args.at c.args.piece.now c.requires.place) (omega arith);
      crash =
          by_outcome (λ d. Follows (Torn c.args.at (length c.args.piece.now)) (store_of old) (store_of d)) c.result new done failed c.ensures.ok c.ensures.err (follows_write old c.args.at c.args.piece.now c.requires.place)
          (follows_nothing (Torn c.args.at (length c.args.piece.now)) old (torn_nothing c.args.at (length c.args.piece.now)));
      time = by_outcome (λ d. Elapses (store_of old) (store_of d)) c.result new done failed c.ensures.ok c.ensures.err (elapses_write old c.args.at c.args.piece.now) (elapses_nothing old);
      cause = c.ensures.cause;
    }

pub cut-tells : goal.cut-tells
cut-tells c =
    let old = c.args.self.now in
    let new = c.new.self.now in
    let done = after_change old (cut_to c.args.len) in
    let failed = after_failed old in record {
      cut = after_ok (λ d. Some (reads d) ≡ Some (take c.args.len (reads old))) c.result new done c.ensures.ok (ap (λ (l : List ℕ). Some l) (reads_cut old c.args.len));
      observable = refl;
      readable = by_outcome (λ d. min (length (reads old)) c.args.len ≤ length (reads d)) c.result new done failed c.ensures.ok c.ensures.err (shorter_cut old c.args.len) (omega arith);
      crash = by_outcome (λ d. Follows (Cut c.args.len) (store_of old) (store_of d)) c.result new done failed c.ensures.ok c.ensures.err (follows_cut old c.args.len) (follows_nothing (Cut c.args.len) old (cut_nothing c.args.len));
      time = by_outcome (λ d. Elapses (store_of old) (store_of d)) c.result new done failed c.ensures.ok c.ensures.err (elapses_change old (cut_to c.args.len)) (elapses_nothing old);
      cause = c.ensures.cause;
    }

pub sync-tells : goal.sync-tells
sync-tells c =
    let old = c.args.self.now in
    let new = c.new.self.now in
    let done = after_change old synced in
    let failed = after_failed old in record {
      durable = after_ok (λ d. Only (reads old) (store_of d)) c.result new done c.ensures.ok (durable_sync old);
      reads = by_outcome (λ d. Some (reads d) ≡ Some (reads old)) c.result new done failed c.ensures.ok c.ensures.err (ap (λ (l : List ℕ). Some l) (reads_sync old)) refl;
      readable = by_outcome (λ d. length (reads old) ≤ length (reads d)) c.result new done failed c.ensures.ok c.ensures.err (omega (arith, ap (λ (l : List ℕ). length l) (reads_sync old))) (omega arith);
      crash = by_outcome (λ d. (left : List ℕ) → (store_of d).images left → (store_of old).images left) c.result new done failed c.ensures.ok c.ensures.err (image_synced old) (λ left now. now);
      time = by_outcome (λ d. Elapses (store_of old) (store_of d)) c.result new done failed c.ensures.ok c.ensures.err (elapses_change old synced) (elapses_nothing old);
      cause = c.ensures.cause;
    }
