-- The bytes of a disk, and those that a crash may leave of it.
use Rattle.std.specs.Prelude.{◌≡◌, ◌⊎◌, ◌↔◌, ⊤, ℕ, ◌+◌, ◌≤◌, min, max, List, ◌++◌, length, take, drop, Option}

-- a disk as far as it tells: what a read gives, what a crash now may leave, the moment (a number that
-- does not fall), and what a crash at some moment from a given one on might have left
pub record Store : Type 1 where
  pub reads : Option (List ℕ)
  pub images : List ℕ → Type 0
  pub moment : ℕ
  pub since : ℕ → List ℕ → Type 0

-- these bytes with a piece in the place of what stood from `at` on
abbrev pub written : List ℕ → ℕ → List ℕ → List ℕ
written bytes at piece = take at bytes ++ piece ++ drop (at + length piece) bytes

-- a write of n bytes that a crash may cut short: any bytes in its range and past the old end, the same elsewhere
pub record Torn (at n : ℕ) (old new : List ℕ) : Type 0 where
  pub before : take at new ≡ take at old
  pub after : drop (at + n) new ≡ drop (at + n) old
  pub no_shorter : length old ≤ length new
  pub no_longer : length new ≤ max (length old) (at + n)

-- a cut that a crash may come before: some length between
pub record Cut (n : ℕ) (old new : List ℕ) : Type 0 where
  pub no_shorter : min n (length old) ≤ length new
  pub front : take (length new) old ≡ new

-- each new image comes from an old one by this step
abbrev pub Follows : (List ℕ → List ℕ → Type 0) → Store → Store → Type 0
Follows step old new = (c : List ℕ) → new.images c → (d : List ℕ) × old.images d × step d c

-- a crash leaves these bytes and nothing else
abbrev pub Only : List ℕ → Store → Type 0
Only bytes store = (c : List ℕ) → store.images c → c ≡ bytes

-- time goes on: a crash since t might have left what it might have left before, or what it may leave now
pub record Elapses (old new : Store) : Type 0 where
  pub later : old.moment ≤ new.moment
  pub nothing_else : (t : ℕ) (c : List ℕ) → t ≤ old.moment → new.since t c → old.since t c ⊎ new.images c
  pub keeps : (t : ℕ) (c : List ℕ) → t ≤ old.moment → old.since t c → new.since t c

-- nothing was written, cut or synced: all that is told is as before
pub record Stays (old new : Store) : Type 0 where
  pub reads : new.reads ≡ old.reads
  pub images : (c : List ℕ) → new.images c ↔ old.images c
  pub moment : new.moment ≡ old.moment
  pub since : (t : ℕ) (c : List ℕ) → new.since t c ↔ old.since t c

-- the laws of a store: it is one of its images as it reads, and its images are those of its last moment
pub record Lawful (store : Store) : Type 0 where
  pub itself : (bytes : List ℕ) → store.reads ≡ Option.Some bytes → store.images bytes
  pub counts_now : (t : ℕ) (c : List ℕ) → t ≤ store.moment → store.images c → store.since t c
  pub only_now : (c : List ℕ) → store.since store.moment c → store.images c

-- a disk that tells nothing: a crash may leave anything
abbrev pub unobservable : Store
unobservable = record { reads = Option.None; images = λ c. ⊤; moment = 0; since = λ t c. ⊤ }

pub unobservable_lawful : Lawful unobservable
unobservable_lawful = record { itself = λ bytes told. tt; counts_now = λ t c le now. tt; only_now = λ c left. tt }
