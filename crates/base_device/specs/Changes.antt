-- The changes of a disk one after another, what it reads after them, and what a crash may leave of it.
use Rattle.std.specs.Prelude.{◌≡◌, ◌⊎◌, ⊤, ℕ, ◌≤◌, List, [], ◌∷◌, length, take, replicate}
use Rattle.base_device.specs.Disks.{written, Torn, Cut}

-- a piece was written from a place on, the disk was cut to a length, or it was synced
pub data Change : Type 0 where
  wrote : ℕ → List ℕ → Change
  cut_to : ℕ → Change
  synced : Change

-- the bytes that a read gives, and those that it gives after a crash that keeps all, loses all since the last sync, or
-- tears all that was written since
pub record Contents : Type 0 where
  pub kept : List ℕ
  pub lost : List ℕ
  pub torn : List ℕ

-- with nothing written, cut or lost since the last sync
abbrev pub at_rest : List ℕ → Contents
at_rest bytes = record { kept = bytes; lost = bytes; torn = bytes }

-- after one change; what is torn holds 165 in place of each byte of a piece
abbrev pub changed : Change → Contents → Contents
changed (wrote at piece) s = record { kept = written s.kept at piece; lost = s.lost; torn = written s.torn at (replicate (length piece) 165) }
changed (cut_to len) s = record { kept = take len s.kept; lost = s.lost; torn = take len s.torn }
changed synced s = at_rest s.kept

-- after all changes of a list, the first one first
abbrev pub after_changes : List Change → Contents → Contents
after_changes [] s = s
after_changes (change ∷ changes) s = after_changes changes (changed change s)

-- each write began inside the disk or at its end
abbrev pub Placed : List Change → Contents → Type 0
Placed [] s = ⊤
Placed (wrote at piece ∷ changes) s = (at ≤ length s.kept) × Placed changes (changed (wrote at piece) s)
Placed (cut_to len ∷ changes) s = Placed changes (changed (cut_to len) s)
Placed (synced ∷ changes) s = Placed changes (changed synced s)

-- bytes that a crash may leave after one change more: after a write or a cut what that step makes of what a
-- crash might have left, after a sync what a read gives
abbrev pub LeftBy : Change → List ℕ → (List ℕ → Type 0) → List ℕ → Type 0
LeftBy (wrote at piece) kept left c = (d : List ℕ) × left d × Torn at (length piece) d c
LeftBy (cut_to len) kept left c = (d : List ℕ) × left d × Cut len d c
LeftBy synced kept left c = c ≡ kept

abbrev pub LeftAfter : List Change → Contents → (List ℕ → Type 0) → List ℕ → Type 0
LeftAfter [] s left c = left c
LeftAfter (change ∷ changes) s left c = LeftAfter changes (changed change s) (LeftBy change s.kept left) c

-- a crash after these changes may leave c of a disk that began with these bytes
abbrev pub Image : List Change → List ℕ → List ℕ → Type 0
Image changes initial c = (c ≡ (after_changes changes (at_rest initial)).kept) ⊎ LeftAfter changes (at_rest initial) (λ d. d ≡ initial) c

-- a crash at some moment after the first t of them or more might have left it
abbrev pub ImageSince : List Change → List ℕ → ℕ → List ℕ → Type 0
ImageSince changes initial t c = (k : ℕ) × (t ≤ k) × Image (take k changes) initial c
