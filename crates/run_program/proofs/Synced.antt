-- The bytes that a crash leaves of the journal while it is synced, and while training goes on from there.
use Rattle.std.proofs.Common.{◌≡◌, ℕ, ◌≤◌, List, IfSome, arith, ◌∙◌}
use Rattle.base_device.specs.Disks.{Store, Lawful, Elapses}
use Rattle.base_device.specs.Since.{LeavesOnly}
use Rattle.base_device.proofs.RunsOfCalls.{started, goes_on, then_on}
use Rattle.cut_pool.specs.declared.entry.Entry.{Entry}
use Rattle.journal_file.specs.Layout.{Title}
use Rattle.journal_file.proofs.DiskBytes.{told, known}
use Rattle.journal_load.specs.Load.{Outcome}
use Rattle.plan_train.specs.Training.{GoesOnWith, IsPrefixFrom, HoldsPrefix, title_of}

-- what is said of a run that began with something pending
abbrev pub LeavesFrom : List ℕ → ℕ → Outcome → List (List Entry) → Store → Store → Type 0
LeavesFrom digest seed o lists old new = IfSome old.reads (λ kept. (ps : List (List ℕ)) (j i : ℕ) → HoldsPrefix (title_of digest seed o) o ps j kept → GoesOnWith j ps lists → i ≤ j → ((c : List ℕ) → old.images c → IsPrefixFrom (title_of digest seed o) ps i c) → LeavesOnly old new (IsPrefixFrom (title_of digest seed o) ps i))

module _ (digest : List ℕ) (seed : ℕ) (o : Outcome) (lists : List (List Entry)) (old mid : Store) (lawful : Lawful old) where
  -- nothing was done
  pub untouched_leaves : LeavesFrom digest seed o lists old old
  untouched_leaves = told old.reads (λ kept is ps j i stands goes le here. started old (IsPrefixFrom (title_of digest seed o) ps i) lawful here)

  module _ (crash : (c : List ℕ) → mid.images c → old.images c) (time : Elapses old mid) where
    synced : (t : Title) (ps : List (List ℕ)) (i : ℕ) → ((c : List ℕ) → old.images c → IsPrefixFrom t ps i c) → LeavesOnly old mid (IsPrefixFrom t ps i)
    synced t ps i here = goes_on old old mid (IsPrefixFrom t ps i) (started old (IsPrefixFrom t ps i) lawful here) time (λ c left. here c (crash c left))

    -- the sync
    pub sync_leaves : LeavesFrom digest seed o lists old mid
    sync_leaves = told old.reads (λ kept is ps j i stands goes le here. synced (title_of digest seed o) ps i here)

    -- the sync, and training behind it
    pub train_leaves : (new : Store) → mid.reads ≡ old.reads → IfSome mid.reads (λ bytes. (ps : List (List ℕ)) (j : ℕ) → HoldsPrefix (title_of digest seed o) o ps j bytes → GoesOnWith j ps lists → LeavesOnly mid new (IsPrefixFrom (title_of digest seed o) ps j)) → LeavesFrom digest seed o lists old new
    train_leaves new same run = told old.reads (λ kept is ps j i stands goes le here.
        let t : Title = title_of digest seed o in
        let more = known (λ b. (ps : List (List ℕ)) (j : ℕ) → HoldsPrefix t o ps j b → GoesOnWith j ps lists → LeavesOnly mid new (IsPrefixFrom t ps j)) mid.reads kept (same ∙ is) run ps j stands goes in
        then_on old mid new (IsPrefixFrom t ps i) (IsPrefixFrom t ps j) (synced t ps i here) more (λ c m. (m.0, omega (arith, le, m.1), m.2)))
