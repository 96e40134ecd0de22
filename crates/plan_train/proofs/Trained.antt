-- Training on a journal: its end is made ready, and then iterations follow.
use Rattle.std.proofs.Common.{◌≡◌, ℕ, ◌-◌, List, [], ◌∷◌, ◌++◌, length, take, true, Option, Some, None, IfSome, Result, Ok, Err, refl, sym, ap, subst, ◌∙◌}
use Rattle.std.specs.Option.{option_map}
use Rattle.base_device.specs.Disks.{Store}
use Rattle.base_device.specs.Since.{LeavesOnly}
use Rattle.base_device.proofs.RunsOfCalls.{then_on}
use Rattle.problem.specs.Validated.{Validated}
use Rattle.cut_pool.specs.declared.entry.Entry.{Entry}
use Rattle.journal_file.specs.CommitBytes.{IsClearAt}
use Rattle.journal_file.specs.Layout.{Title, IsTitle, journal}
use Rattle.journal_file.specs.IsPrefix.{IsGrownPrefix}
use Rattle.journal_file.proofs.DiskBytes.{told, known, mapped}
use Rattle.journal_load.specs.Load.{Outcome}
use Rattle.lp_program.specs.Solving.{Solving}
use Rattle.plan_train.specs.Continuing.{Continued, continued}
use Rattle.plan_train.specs.Iterating.{EndsClear, behind}
use Rattle.plan_train.specs.Training.{GoesOnWith, IsPrefixFrom, HoldsPrefix, WhenWhole, grown_journal, iterations, last_commit_byte, loaded_front, opened, title_of}
use Rattle.plan_answer.specs.declared.plan_fault.PlanFault.{PlanFault}
use Rattle.plan_answer.specs.declared.plan_fault.PlanFault.TheVariants as faults
use Rattle.plan_train.proofs.Opened.{behind_front, front_ends, front_length, front_stands, grown_prefix}

-- the iterations behind what was loaded, once the end is ready
same_iterations : {Start Chain : Type 0} (v : Solving Start Chain) (p : Validated) (seed count : ℕ) (o m : Outcome) (left : ℕ) → m ≡ opened o → left ≡ count - length m.bounds → continued v p m.pools seed m.batch (length m.bounds) left ≡ iterations v p seed count o
same_iterations v p seed count o m left is so = subst (λ (x : Outcome). left ≡ count - length x.bounds → continued v p x.pools seed x.batch (length x.bounds) left ≡ iterations v p seed count o) (sym is) (λ h. ap (λ (n : ℕ). continued v p o.pools seed o.batch (length o.bounds) n) h) so

pub when_also : {A : Type 0} (r : Result A PlanFault) (P Q : Type 0) → WhenWhole r P → (P → Q) → WhenWhole r Q
when_also (Ok x) P Q h so = so h
when_also (Err (faults.Infeasible infeasible)) P Q h so = so h
when_also (Err (faults.Range k m i)) P Q h so = so h
when_also (Err faults.DiskFault) P Q h so = tt
when_also (Err faults.Memory) P Q h so = tt

some_map : (r : Option (List ℕ)) (f : List ℕ → List ℕ) (P : List ℕ → Type 0) → IfSome r (λ b. P (f b)) → IfSome (option_map f r) P
some_map None f P h = tt
some_map (Some b) f P h = h

map_map : (r : Option (List ℕ)) (f g h : List ℕ → List ℕ) → IfSome r (λ b. g (f b) ≡ h b) → option_map g (option_map f r) ≡ option_map h r
map_map None f g h is = refl
map_map (Some b) f g h is = ap (λ (x : List ℕ). Some x) is

module _ (digest : List ℕ) (seed : ℕ) (o : Outcome) (title : IsTitle (title_of digest seed o)) where
  abbrev ready : List ℕ → List ℕ
  ready b = loaded_front digest seed o b ++ 0 ∷ []

  long : (r : Option (List ℕ)) → (o.committed ≡ true → IfSome r (IsClearAt o.end)) → (bytes : List ℕ) → r ≡ Some bytes → length (loaded_front digest seed o bytes) ≡ last_commit_byte o
  long r clear bytes is = front_length digest seed o bytes title (λ committed. known (IsClearAt o.end) r bytes is (clear committed))

  -- the end is ready
  pub ready_ends : (r now : Option (List ℕ)) (end : ℕ) → (o.committed ≡ true → IfSome r (IsClearAt o.end)) → now ≡ option_map ready r → end ≡ last_commit_byte o → IfSome now (EndsClear end)
  ready_ends r now end clear reads is =
      subst (λ (x : Option (List ℕ)). IfSome x (EndsClear end)) (sym reads) (subst (λ (n : ℕ). IfSome (option_map ready r) (EndsClear n)) (sym is)
      (some_map r ready (EndsClear (last_commit_byte o)) (told r (λ bytes there. front_ends digest seed o bytes (long r clear bytes there)))))

  -- the records behind it
  ready_grows : (r now : Option (List ℕ)) (end : ℕ) (lists : List (List Entry)) → (o.committed ≡ true → IfSome r (IsClearAt o.end)) → now ≡ option_map ready r → end ≡ last_commit_byte o → option_map (behind end lists) now ≡ option_map (λ b. grown_journal digest seed o b lists) r
  ready_grows r now end lists clear reads is =
      ap (λ (x : Option (List ℕ)). option_map (behind end lists) x) reads ∙ ap (λ (n : ℕ). option_map (behind n lists) (option_map ready r)) is
      ∙ map_map r ready (behind (last_commit_byte o) lists) (λ b. grown_journal digest seed o b lists) (told r (λ bytes there. behind_front digest seed o bytes lists (long r clear bytes there)))

  -- a crash at any moment
  all_moments : (old mid new : Store) (lists : List (List Entry)) → mid.reads ≡ option_map ready old.reads
      → IfSome old.reads (λ bytes. (ps : List (List ℕ)) (j : ℕ) → HoldsPrefix (title_of digest seed o) o ps j bytes → LeavesOnly old mid (IsPrefixFrom (title_of digest seed o) ps j))
      → IfSome mid.reads (λ bytes. (t : Title) (ps : List (List ℕ)) (j : ℕ) → bytes ≡ journal t (take j ps) 0 [] → GoesOnWith j ps lists → LeavesOnly mid new (IsGrownPrefix t ps j))
      → IfSome old.reads (λ bytes. (ps : List (List ℕ)) (j : ℕ) → HoldsPrefix (title_of digest seed o) o ps j bytes → GoesOnWith j ps lists → LeavesOnly old new (IsPrefixFrom (title_of digest seed o) ps j))
  all_moments old mid new lists reads first then = told old.reads (λ bytes there ps j stands goes.
      let t : Title = title_of digest seed o in
      let one = known (λ b. (ps : List (List ℕ)) (j : ℕ) → HoldsPrefix t o ps j b → LeavesOnly old mid (IsPrefixFrom t ps j)) old.reads bytes there first ps j stands in
      let now : mid.reads ≡ Some (ready bytes) = mapped old.reads mid.reads ready bytes there reads in
      let is : ready bytes ≡ journal t (take j ps) 0 [] = ap (λ (f : List ℕ). f ++ 0 ∷ []) (front_stands digest seed o ps j bytes stands) in
      let two = known (λ b. (t : Title) (ps : List (List ℕ)) (j : ℕ) → b ≡ journal t (take j ps) 0 [] → GoesOnWith j ps lists → LeavesOnly mid new (IsGrownPrefix t ps j)) mid.reads (ready bytes) now then t ps j is goes in
      then_on old mid new (IsPrefixFrom t ps j) (IsPrefixFrom t ps j) one (grown_prefix t ps j mid new two) (λ c x. x))

-- while the end is made ready
pub first_moments : (digest : List ℕ) (seed : ℕ) (o : Outcome) (old mid : Store) (lists : List (List Entry))
    → IfSome old.reads (λ bytes. (ps : List (List ℕ)) (j : ℕ) → HoldsPrefix (title_of digest seed o) o ps j bytes → LeavesOnly old mid (IsPrefixFrom (title_of digest seed o) ps j))
    → IfSome old.reads (λ bytes. (ps : List (List ℕ)) (j : ℕ) → HoldsPrefix (title_of digest seed o) o ps j bytes → GoesOnWith j ps lists → LeavesOnly old mid (IsPrefixFrom (title_of digest seed o) ps j))
first_moments digest seed o old mid lists first = told old.reads (λ bytes there ps j stands goes. known (λ b. (ps : List (List ℕ)) (j : ℕ) → HoldsPrefix (title_of digest seed o) o ps j b → LeavesOnly old mid (IsPrefixFrom (title_of digest seed o) ps j)) old.reads bytes there first ps j stands)

-- training, once the end is ready: the iterations behind what was loaded leave the same journal as all of them
module _ {Start Chain : Type 0} (v : Solving Start Chain) (p : Validated) (digest : List ℕ) (seed count : ℕ) (o m : Outcome) (left : ℕ) (opens : m ≡ opened o) (tail : left ≡ count - length m.bounds) (title : IsTitle (title_of digest seed o)) (old mid new : Store)
    (reads : mid.reads ≡ option_map (λ b. loaded_front digest seed o b ++ 0 ∷ []) old.reads) where
  abbrev going : Continued
  going = continued v p m.pools seed m.batch (length m.bounds) left

  abbrev lists : List (List Entry)
  lists = (iterations v p seed count o).lists

  same : going ≡ iterations v p seed count o
  same = same_iterations v p seed count o m left opens tail

  pub trained_reads : (o.committed ≡ true → IfSome old.reads (IsClearAt o.end)) → new.reads ≡ option_map (behind m.end going.lists) mid.reads → new.reads ≡ option_map (λ b. grown_journal digest seed o b lists) old.reads
  trained_reads clear is =
      is ∙ ap (λ (x : Continued). option_map (behind m.end x.lists) mid.reads) same
      ∙ ready_grows digest seed o title old.reads mid.reads m.end lists clear reads (ap (λ (x : Outcome). x.end) opens)

  pub trained_moments : IfSome old.reads (λ bytes. (ps : List (List ℕ)) (j : ℕ) → HoldsPrefix (title_of digest seed o) o ps j bytes → LeavesOnly old mid (IsPrefixFrom (title_of digest seed o) ps j))
      → IfSome mid.reads (λ bytes. (t : Title) (ps : List (List ℕ)) (j : ℕ) → bytes ≡ journal t (take j ps) 0 [] → GoesOnWith j ps going.lists → LeavesOnly mid new (IsGrownPrefix t ps j))
      → IfSome old.reads (λ bytes. (ps : List (List ℕ)) (j : ℕ) → HoldsPrefix (title_of digest seed o) o ps j bytes → GoesOnWith j ps lists → LeavesOnly old new (IsPrefixFrom (title_of digest seed o) ps j))
  trained_moments first then =
      all_moments digest seed o title old mid new lists reads first
      (subst (λ (x : Continued). IfSome mid.reads (λ bytes. (t : Title) (ps : List (List ℕ)) (j : ℕ) → bytes ≡ journal t (take j ps) 0 [] → GoesOnWith j ps x.lists → LeavesOnly mid new (IsGrownPrefix t ps j))) same then)
