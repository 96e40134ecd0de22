-- The effect of a call on a disk in memory, and what the disk tells of it.
use Rattle.std.proofs.Common.{◌≡◌, inl, ℕ, ◌+◌, ◌≤◌, min, List, [], ◌∷◌, ◌++◌, length, take, Result, Ok, Err, OnOk, OnErr, sym, ◌∙◌, ap, subst, arith, length-append, length-take}
use Rattle.base_device.specs.Disks.{Torn, Cut, Follows, Only, Elapses, written}
use Rattle.base_device.specs.Changes.{Change, wrote, cut_to, synced, Contents, at_rest, changed, after_changes, Placed}
use Rattle.base_device.specs.Histories.{MemoryHistory}
use Rattle.base_device.specs.Readings.{MemoryReadings}
use Rattle.base_device.specs.MemoryDisks.{MemoryDisk, reads, Agrees, store_of, after_failed, after_change, after_write}
use Rattle.base_device.proofs.Steps.{length_written}
use Rattle.base_device.proofs.Changes.{after_push, placed_write, placed_cut, placed_sync, image_write, image_cut, image_sync, since_more, since_keeps}

-- the parts agree again after one change more
agrees : (initial : List ℕ) (h : MemoryHistory) (r : MemoryReadings) (x : Change) (taken : ℕ) → Agrees initial h r → Placed (h.log ++ x ∷ []) (at_rest initial) → length (changed x r.contents).kept ≤ length initial + taken
    → Agrees initial (record h { log = h.log ++ x ∷ []; taken = taken }) (record r { contents = changed x r.contents })
agrees initial h r x taken is placed least = record {
  contents = ap (changed x) is.contents ∙ sym (after_push h.log x (at_rest initial));
  placed = placed;
  least = least;
  space = is.space;
}

pub agrees_write : (initial : List ℕ) (h h' : MemoryHistory) (r r' : MemoryReadings) (at : ℕ) (piece : List ℕ) → Agrees initial h r → at ≤ length r.contents.kept
    → h' ≡ record h { log = h.log ++ wrote at piece ∷ []; taken = h.taken + length piece } → r' ≡ record r { contents = changed (wrote at piece) r.contents } → Agrees initial h' r'
agrees_write initial h h' r r' at piece is le history readings =
    let kept : at ≤ length (after_changes h.log (at_rest initial)).kept = omega (arith, le, ap (λ (s : Contents). length s.kept) is.contents) in
    let longer : length (written r.contents.kept at piece) ≤ length initial + (h.taken + length piece) = omega (arith, le, is.least, length_written r.contents.kept at piece le) in
    let new = agrees initial h r (wrote at piece) (h.taken + length piece) is (placed_write h.log at piece (at_rest initial) is.placed kept) longer in
    subst (λ a. Agrees initial a r') (sym history) (subst (λ b. Agrees initial (record h { log = h.log ++ wrote at piece ∷ []; taken = h.taken + length piece }) b) (sym readings) new)

pub agrees_cut : (initial : List ℕ) (h h' : MemoryHistory) (r r' : MemoryReadings) (len : ℕ) → Agrees initial h r
    → h' ≡ record h { log = h.log ++ cut_to len ∷ [] } → r' ≡ record r { contents = changed (cut_to len) r.contents } → Agrees initial h' r'
agrees_cut initial h h' r r' len is history readings =
    let shorter : length (take len r.contents.kept) ≤ length initial + h.taken = omega (arith, is.least, length-take len r.contents.kept) in
    let new = agrees initial h r (cut_to len) h.taken is (placed_cut h.log len (at_rest initial) is.placed) shorter in
    subst (λ a. Agrees initial a r') (sym history) (subst (λ b. Agrees initial (record h { log = h.log ++ cut_to len ∷ [] }) b) (sym readings) new)

pub agrees_sync : (initial : List ℕ) (h h' : MemoryHistory) (r r' : MemoryReadings) → Agrees initial h r
    → h' ≡ record h { log = h.log ++ synced ∷ [] } → r' ≡ record r { contents = changed synced r.contents } → Agrees initial h' r'
agrees_sync initial h h' r r' is history readings =
    let new = agrees initial h r synced h.taken is (placed_sync h.log (at_rest initial) is.placed) is.least in
    subst (λ a. Agrees initial a r') (sym history) (subst (λ b. Agrees initial (record h { log = h.log ++ synced ∷ [] }) b) (sym readings) new)

-- what holds of both outcomes holds of the new disk, and what holds of the one after `Ok` holds then
pub by_outcome : {T E : Type 0} (P : MemoryDisk → Type 0) (r : Result T E) (new a b : MemoryDisk) → OnOk r (new ≡ a) → OnErr r (new ≡ b) → P a → P b → P new
by_outcome P (Ok x) new a b ok err here there = subst P (sym ok) here
by_outcome P (Err e) new a b ok err here there = subst P (sym err) there

pub after_ok : {T E : Type 0} (P : MemoryDisk → Type 0) (r : Result T E) (new a : MemoryDisk) → OnOk r (new ≡ a) → P a → OnOk r (P new)
after_ok P (Ok x) new a ok here = subst P (sym ok) here
after_ok P (Err e) new a ok here = tt

-- what a disk reads after one change more
pub reads_write : (d : MemoryDisk) (at : ℕ) (piece : List ℕ) → reads (after_write d at piece) ≡ written (reads d) at piece
reads_write d at piece = ap (λ (s : Contents). s.kept) (after_push d.log (wrote at piece) (at_rest d.initial))

pub reads_cut : (d : MemoryDisk) (len : ℕ) → reads (after_change d (cut_to len)) ≡ take len (reads d)
reads_cut d len = ap (λ (s : Contents). s.kept) (after_push d.log (cut_to len) (at_rest d.initial))

pub reads_sync : (d : MemoryDisk) → reads (after_change d synced) ≡ reads d
reads_sync d = ap (λ (s : Contents). s.kept) (after_push d.log synced (at_rest d.initial))

pub longer_write : (d : MemoryDisk) (at : ℕ) (piece : List ℕ) → at ≤ length (reads d) → length (reads d) ≤ length (reads (after_write d at piece))
longer_write d at piece le = omega (arith, ap (λ (l : List ℕ). length l) (reads_write d at piece), length_written (reads d) at piece le)

pub shorter_cut : (d : MemoryDisk) (len : ℕ) → min (length (reads d)) len ≤ length (reads (after_change d (cut_to len)))
shorter_cut d len = omega (arith, ap (λ (l : List ℕ). length l) (reads_cut d len), length-take len (reads d))

-- what a crash may leave
pub follows_write : (d : MemoryDisk) (at : ℕ) (piece : List ℕ) → at ≤ length (reads d) → Follows (Torn at (length piece)) (store_of d) (store_of (after_write d at piece))
follows_write d at piece le c left = image_write d.log d.initial at piece c le left

pub follows_cut : (d : MemoryDisk) (len : ℕ) → Follows (Cut len) (store_of d) (store_of (after_change d (cut_to len)))
follows_cut d len c left = image_cut d.log d.initial len c left

pub follows_nothing : (step : List ℕ → List ℕ → Type 0) (d : MemoryDisk) → ((c : List ℕ) → step c c) → Follows step (store_of d) (store_of (after_failed d))
follows_nothing step d same c left = (c, left, same c)

pub elapses_change : (d : MemoryDisk) (x : Change) → Elapses (store_of d) (store_of (after_change d x))
elapses_change d x = record {
  later = omega (arith, length-append d.log (x ∷ []));
  nothing_else = λ t c le left. since_more d.log x d.initial t c left;
  keeps = λ t c le left. since_keeps d.log x d.initial t c le left;
}

pub elapses_nothing : (d : MemoryDisk) → Elapses (store_of d) (store_of (after_failed d))
elapses_nothing d = record { later = omega arith; nothing_else = λ t c le left. inl left; keeps = λ t c le left. left }

pub elapses_write : (d : MemoryDisk) (at : ℕ) (piece : List ℕ) → Elapses (store_of d) (store_of (after_write d at piece))
elapses_write d at piece = elapses_change d (wrote at piece)

-- after a sync only what a read gives is left, which was left before too
pub durable_sync : (d : MemoryDisk) → Only (reads d) (store_of (after_change d synced))
durable_sync d c left = image_sync d.log d.initial c left

pub image_synced : (d : MemoryDisk) (c : List ℕ) → (store_of (after_change d synced)).images c → (store_of d).images c
image_synced d c left = inl (image_sync d.log d.initial c left)
