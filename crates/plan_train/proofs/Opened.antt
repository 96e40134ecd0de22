-- The journal's end once it is ready for the next record.
use Rattle.std.proofs.Common.{◌≡◌, ◌⊎◌, inl, inr, ℕ, List, [], ◌∷◌, ◌++◌, length, take, Bool, true, false, if◌then◌else◌, Option, IfSome, refl, sym, ap, ◌∙◌, length-append, arith}
use Rattle.std.specs.Option.{option_map}
use Rattle.std.proofs.lemmas.List.{length-take}
use Rattle.std.proofs.Math.Seq.{take-append_seam}
use Rattle.base_device.specs.Disks.{Store}
use Rattle.base_device.specs.Since.{LeavesOnly}
use Rattle.base_device.proofs.RunsOfCalls.{wider}
use Rattle.journal_file.specs.CommitBytes.{IsClearAt}
use Rattle.journal_file.specs.Layout.{Title, IsTitle, front, journal, records}
use Rattle.journal_file.specs.IsPrefix as prefix
use Rattle.journal_file.specs.IsPrefix.{Grown, IsGrownPrefix, IsPrefix, LeavesGrown}
use Rattle.journal_file.proofs.HeadsRead.{first_commit_byte as head_commit_byte}
use Rattle.journal_file.proofs.DiskBytes.{told, known, map_as}
use Rattle.cut_pool.specs.declared.entry.Entry.{Entry}
use Rattle.journal_load.specs.Load.{Outcome, first_commit_byte}
use Rattle.plan_train.specs.Iterating.{EndsClear, behind}
use Rattle.plan_train.specs.Training.{IsPrefixFrom, HoldsPrefix, uncommitted, committed, grown_journal, last_commit_byte, loaded_front, payloads, title_of}

true_or_false : (b : Bool) → (b ≡ true) ⊎ (b ≡ false)
true_or_false true = inl refl
true_or_false false = inr refl

-- the bytes before a byte at its place
front_of : (f bytes : List ℕ) (at commit_byte : ℕ) (tail : List ℕ) → at ≡ length f → bytes ≡ f ++ commit_byte ∷ tail → take at bytes ≡ f
front_of f bytes at commit_byte tail place same = ap (λ (b : List ℕ). take at b) same ∙ ap (λ (n : ℕ). take n (f ++ commit_byte ∷ tail)) place ∙ take-append_seam f (commit_byte ∷ tail)

not_both : (b : Bool) → b ≡ true → b ≡ false → ⊥
not_both b t f = cc

-- a journal of more payloads is one of at least so many
pub grown_prefix : (t : Title) (ps : List (List ℕ)) (j : ℕ) (old new : Store) → LeavesOnly old new (IsGrownPrefix t ps j) → LeavesOnly old new (IsPrefixFrom t ps j)
grown_prefix t ps j old new run = wider old new (IsGrownPrefix t ps j) (IsPrefixFrom t ps j) run (λ c g. (g.0, g.1, prefix.committed g.2))

module _ (t : Title) (l : Outcome) (old new : Store) where
  -- a commit of the header
  new_leaves : (ps : List (List ℕ)) (j : ℕ) (bytes : List ℕ) → l.committed ≡ false → ((qs : List (List ℕ)) → IsPrefix t qs 0 bytes → LeavesOnly old new (IsPrefix t qs 0)) → HoldsPrefix t l ps j bytes → LeavesOnly old new (IsPrefixFrom t ps j)
  new_leaves ps j bytes is leaves (uncommitted not_committed none file) = wider old new (IsPrefix t ps 0) (IsPrefixFrom t ps j) (leaves ps (prefix.uncommitted refl file)) (λ c m. (0, omega (arith, none), m))
  new_leaves ps j bytes is leaves (committed is_committed place file) = absurd (not_both l.committed is_committed is)

  pub committed_leaves : l.committed ≡ false → IfSome old.reads (λ bytes. (qs : List (List ℕ)) → IsPrefix t qs 0 bytes → LeavesOnly old new (IsPrefix t qs 0)) → IfSome old.reads (λ bytes. (ps : List (List ℕ)) (j : ℕ) → HoldsPrefix t l ps j bytes → LeavesOnly old new (IsPrefixFrom t ps j))
  committed_leaves is leaves = told old.reads (λ bytes reads ps j stands. new_leaves ps j bytes is (known (λ b. (qs : List (List ℕ)) → IsPrefix t qs 0 b → LeavesOnly old new (IsPrefix t qs 0)) old.reads bytes reads leaves) stands)

  -- a repair
  old_leaves : (ps : List (List ℕ)) (j : ℕ) (bytes : List ℕ) → l.committed ≡ true → ((s : Title) (qs : List (List ℕ)) (k : ℕ) → l.end ≡ length (front s (take k qs)) → Grown s qs k bytes → LeavesOnly old new (IsGrownPrefix s qs k)) → HoldsPrefix t l ps j bytes → LeavesOnly old new (IsPrefixFrom t ps j)
  old_leaves ps j bytes is leaves (uncommitted not_committed none file) = absurd (not_both l.committed is not_committed)
  old_leaves ps j bytes is leaves (committed is_committed place file) = grown_prefix t ps j old new (leaves t ps j place file)

  pub repaired_leaves : l.committed ≡ true → LeavesGrown l.end old new → IfSome old.reads (λ bytes. (ps : List (List ℕ)) (j : ℕ) → HoldsPrefix t l ps j bytes → LeavesOnly old new (IsPrefixFrom t ps j))
  repaired_leaves is leaves = told old.reads (λ bytes reads ps j stands. old_leaves ps j bytes is (known (λ b. (s : Title) (qs : List (List ℕ)) (k : ℕ) → l.end ≡ length (front s (take k qs)) → Grown s qs k b → LeavesOnly old new (IsGrownPrefix s qs k)) old.reads bytes reads leaves) stands)

module _ (digest : List ℕ) (seed : ℕ) (l : Outcome) where
  -- the bytes before the commit byte
  pub new_front : (bytes : List ℕ) → l.committed ≡ false → loaded_front digest seed l bytes ≡ front (title_of digest seed l) []
  new_front bytes is = ap (λ (b : Bool). if b then take l.end bytes else front (title_of digest seed l) []) is

  pub old_front : (bytes : List ℕ) → l.committed ≡ true → loaded_front digest seed l bytes ≡ take l.end bytes
  old_front bytes is = ap (λ (b : Bool). if b then take l.end bytes else front (title_of digest seed l) []) is

  pub new_reads : (r : Option (List ℕ)) → l.committed ≡ false → option_map (λ (b : List ℕ). journal (title_of digest seed l) [] 0 []) r ≡ option_map (λ b. loaded_front digest seed l b ++ 0 ∷ []) r
  new_reads r is = map_as r (λ b. journal (title_of digest seed l) [] 0 []) (λ b. loaded_front digest seed l b ++ 0 ∷ []) (told r (λ b reads. ap (λ (f : List ℕ). f ++ 0 ∷ []) (sym (new_front b is))))

  pub old_reads : (r : Option (List ℕ)) → l.committed ≡ true → option_map (λ (b : List ℕ). take l.end b ++ 0 ∷ []) r ≡ option_map (λ b. loaded_front digest seed l b ++ 0 ∷ []) r
  old_reads r is = map_as r (λ b. take l.end b ++ 0 ∷ []) (λ b. loaded_front digest seed l b ++ 0 ∷ []) (told r (λ b reads. ap (λ (f : List ℕ). f ++ 0 ∷ []) (sym (old_front b is))))

  -- a journal of the payloads that it stands for
  pub front_stands : (ps : List (List ℕ)) (j : ℕ) (bytes : List ℕ) → HoldsPrefix (title_of digest seed l) l ps j bytes → loaded_front digest seed l bytes ≡ front (title_of digest seed l) (take j ps)
  front_stands ps j bytes (uncommitted not_committed none file) = new_front bytes not_committed ∙ ap (λ (k : ℕ). front (title_of digest seed l) (take k ps)) (sym none)
  front_stands ps j bytes (committed is_committed place (prefix.clear le tail same)) = old_front bytes is_committed ∙ front_of (front (title_of digest seed l) (take j ps)) bytes l.end 0 tail place same
  front_stands ps j bytes (committed is_committed place (prefix.half_open below commit_byte g0 g1 same)) = old_front bytes is_committed ∙ front_of (front (title_of digest seed l) (take j ps)) bytes l.end commit_byte _ place same

  -- its length
  pub front_length : (bytes : List ℕ) → IsTitle (title_of digest seed l) → (l.committed ≡ true → IsClearAt l.end bytes) → length (loaded_front digest seed l bytes) ≡ last_commit_byte l
  front_length bytes title clear = elim (true_or_false l.committed) [
    | inl is_committed ↦ ap length (old_front bytes is_committed) ∙ omega (arith, length-take l.end bytes, (clear is_committed).0) ∙ ap (λ (b : Bool). if b then l.end else first_commit_byte l.version) (sym is_committed)
    | inr is_not ↦ ap length (new_front bytes is_not) ∙ omega (arith, head_commit_byte (title_of digest seed l) title) ∙ ap (λ (b : Bool). if b then l.end else first_commit_byte l.version) (sym is_not)
  ]

  -- the commit byte of 0 behind it is the last byte
  pub front_ends : (bytes : List ℕ) → length (loaded_front digest seed l bytes) ≡ last_commit_byte l → EndsClear (last_commit_byte l) (loaded_front digest seed l bytes ++ 0 ∷ [])
  front_ends bytes is =
      let f : List ℕ = loaded_front digest seed l bytes in
      (omega (arith, is, length-append f (0 ∷ [])), ap (λ (x : List ℕ). x ++ 0 ∷ []) (sym (take-append_seam f (0 ∷ [])) ∙ ap (λ (n : ℕ). take n (f ++ 0 ∷ [])) is))

  -- the records behind it
  pub behind_front : (bytes : List ℕ) (lists : List (List Entry)) → length (loaded_front digest seed l bytes) ≡ last_commit_byte l → behind (last_commit_byte l) lists (loaded_front digest seed l bytes ++ 0 ∷ []) ≡ grown_journal digest seed l bytes lists
  behind_front bytes lists is =
      let f : List ℕ = loaded_front digest seed l bytes in
      ap (λ (n : ℕ). take n (f ++ 0 ∷ []) ++ records (payloads lists) ++ 0 ∷ []) (sym is) ∙ ap (λ (x : List ℕ). x ++ records (payloads lists) ++ 0 ∷ []) (take-append_seam f (0 ∷ []))
