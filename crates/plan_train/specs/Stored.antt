-- The relation between a loaded outcome and the journal's bytes.
use Rattle.std.specs.Prelude.{◌≡◌, ℕ, ◌+◌, ◌-◌, true, false, List, [], length, take, Option, IfSome}
use Rattle.theory.specs.declared.cut.Cut.{Cut}
use Rattle.cut_pool.specs.declared.entry.Entry.{Entry}
use Rattle.journal_file.specs.CommitBytes.{IsClearAt}
use Rattle.journal_file.specs.Head.{IsUncommitted}
use Rattle.journal_file.specs.Layout.{IsTitle, front}
use Rattle.journal_load.specs.Load.{Outcome, uncommitted}
use Rattle.plan_train.specs.Training.{payloads, title_of}

-- Of a journal with a committed header: behind the head of its title, with its own seed, stand the records of these lists, up to a commit byte
-- that is clear, with the rest behind it. A seed and a batch that are asked are its own.
pub record IsStored (digest : List ℕ) (asked_seed asked_batch : Option ℕ) (bytes : List ℕ) (o : Outcome) (lists : List (List Entry)) (seed : ℕ) : Type 0 where
  pub title : IsTitle (title_of digest seed o)
  pub same_seed : IfSome asked_seed (λ s. s ≡ seed)
  pub same_batch : IfSome asked_batch (λ b. b ≡ o.batch)
  pub stands : take o.end bytes ≡ front (title_of digest seed o) (payloads lists)
  pub clear : IsClearAt o.end bytes
  pub tail : o.tail ≡ length bytes - (o.end + 1)

-- Of one that is not committed: no list, over the base cuts.
pub record IsNotStored (base : List (List Cut)) (asked_batch : Option ℕ) (bytes : List ℕ) (o : Outcome) (lists : List (List Entry)) : Type 0 where
  pub none : lists ≡ []
  pub head : IsUncommitted bytes
  pub outcome : o ≡ uncommitted base asked_batch

-- one or the other
pub record StandsThere (base : List (List Cut)) (digest : List ℕ) (asked_seed asked_batch : Option ℕ) (bytes : List ℕ) (o : Outcome) (lists : List (List Entry)) : Type 0 where
  pub committed : o.committed ≡ true → (seed : ℕ) × IsStored digest asked_seed asked_batch bytes o lists seed
  pub uncommitted : o.committed ≡ false → IsNotStored base asked_batch bytes o lists
