-- The bytes that a crash leaves after one call of a disk more, and after a run of calls behind another.
use Rattle.std.proofs.Common.{inl, inr, ⊎_elim, ℕ, List, arith}
use Rattle.base_device.specs.Disks.{Store, Elapses, Stays, Lawful}
use Rattle.base_device.specs.Since.{LeavesOnly}

-- before the first call
pub started : (old : Store) (P : List ℕ → Type 0) → Lawful old → ((c : List ℕ) → old.images c → P c) → LeavesOnly old old P
started old P lawful here = record { later = omega arith; each = λ c left. here c (lawful.only_now c left); before = λ t c le left. inl left }

-- one call more, after which a crash leaves what has P
pub goes_on : (old mid new : Store) (P : List ℕ → Type 0) → LeavesOnly old mid P → Elapses mid new → ((c : List ℕ) → new.images c → P c) → LeavesOnly old new P
goes_on old mid new P so_far time here = record {
  later = omega (arith, so_far.later, time.later);
  each = λ c left. ⊎_elim (so_far.each c) (here c) (time.nothing_else old.moment c so_far.later left);
  before = λ t c le left. ⊎_elim (so_far.before t c le) (λ now. inr (here c now)) (time.nothing_else t c (omega (arith, le, so_far.later)) left);
}

-- a call that writes nothing
pub stays_on : (old mid new : Store) (P : List ℕ → Type 0) → LeavesOnly old mid P → Stays mid new → LeavesOnly old new P
stays_on old mid new P so_far same = record {
  later = omega (arith, so_far.later, same.moment);
  each = λ c left. so_far.each c ((same.since old.moment c).0 left);
  before = λ t c le left. so_far.before t c le ((same.since t c).0 left);
}

-- a run of calls after another
pub then_on : (old mid new : Store) (P Q : List ℕ → Type 0) → LeavesOnly old mid P → LeavesOnly mid new Q → ((c : List ℕ) → Q c → P c) → LeavesOnly old new P
then_on old mid new P Q first second wider = record {
  later = omega (arith, first.later, second.later);
  each = λ c left. ⊎_elim (first.each c) (wider c) (second.before old.moment c first.later left);
  before = λ t c le left. ⊎_elim (first.before t c le) (λ q. inr (wider c q)) (second.before t c (omega (arith, le, first.later)) left);
}

-- what a crash may leave stays what it was, and more is said of it
pub wider : (old new : Store) (P Q : List ℕ → Type 0) → LeavesOnly old new P → ((c : List ℕ) → P c → Q c) → LeavesOnly old new Q
wider old new P Q run so = record {
  later = run.later;
  each = λ c left. so c (run.each c left);
  before = λ t c le left. ⊎_elim (λ was. inl was) (λ p. inr (so c p)) (run.before t c le left);
}
