-- The bytes that a crash might have left since a moment.
use Rattle.std.specs.Prelude.{◌⊎◌, ℕ, ◌≤◌, List, IfSome}
use Rattle.base_device.specs.Disks.{Store, Only}

-- nothing is pending: a crash leaves what a read gives
abbrev pub Quiet : Store → Type 0
Quiet store = IfSome store.reads (λ bytes. Only bytes store)

-- a crash at any moment since `old` leaves bytes that have P
pub record LeavesOnly (old new : Store) (P : List ℕ → Type 0) : Type 0 where
  pub later : old.moment ≤ new.moment
  pub each : (c : List ℕ) → new.since old.moment c → P c
  -- for a run that began earlier
  pub before : (t : ℕ) (c : List ℕ) → t ≤ old.moment → new.since t c → old.since t c ⊎ P c
