-- A loaded journal with more lists behind it: the journal that they grow to, and the bytes that stand for some of all these lists.
use Rattle.std.proofs.Common.{◌≡◌, ◌≢◌, ◌∙◌, ℕ, zero, suc, ◌<◌, ◌≤◌, Bool, true, false, List, [], ◌∷◌, ◌++◌, length, take, drop, get_or, Option, Some, if◌then◌else◌, refl, sym, ap, subst, append_assoc, length-append, arith}
use Rattle.std.specs.Int.{w32, to_be_bytes}
use Rattle.std.proofs.lemmas.Bool.Decides.{nat_tests}
use Rattle.std.proofs.lemmas.List.{append-nil, drop_at, get_or-take, length-map, length-take}
use Rattle.theory.specs.declared.cut.Cut.{Cut}
use Rattle.cut_pool.specs.declared.entry.Entry.{Entry}
use Rattle.journal_record.specs.Spelling.{spell}
use Rattle.journal_file.specs.Head.{IsUncommitted, is_uncommitted}
use Rattle.journal_file.specs.Layout.{Title, title_bytes, front, journal, records}
use Rattle.journal_file.specs.IsPrefix.{Uncommitted, short, zero_byte, half_committed, Grown, clear, half_open, IsPrefix, uncommitted, committed}
use Rattle.journal_file.proofs.Bytes.{byte_behind}
use Rattle.journal_load.specs.Load.{Outcome}
use Rattle.plan_train.specs.Stored.{IsStored, StandsThere}
use Rattle.plan_train.specs.Training.{GoesOnWith, HoldsPrefix, grown_journal, loaded_front, payloads, title_of}
use Rattle.plan_train.specs.Training as training
use Rattle.plan_train.proofs.Placed.{front-append, payloads-append}
use Rattle.plan_train.proofs.Resumed.{grown_to}

-- ---- two fronts of a list

-- the first j items are those of ys, or fewer, or more
data Compares {A : Type 0} (ys xs : List A) : Type 0 where
  the_same : xs ≡ ys → Compares ys xs
  fewer_items : (x : A) (tail : List A) → ys ≡ xs ++ x ∷ tail → Compares ys xs
  more_items : (x : A) (tail : List A) → xs ≡ ys ++ x ∷ tail → Compares ys xs

compares_cons : {A : Type 0} (y : A) (ys xs : List A) → Compares ys xs → Compares (y ∷ ys) (y ∷ xs)
compares_cons y ys xs (the_same e) = the_same (ap (λ l. y ∷ l) e)
compares_cons y ys xs (fewer_items x tail e) = fewer_items x tail (ap (λ l. y ∷ l) e)
compares_cons y ys xs (more_items x tail e) = more_items x tail (ap (λ l. y ∷ l) e)

compared : {A : Type 0} (j : ℕ) (ys zs : List A) → j ≤ length (ys ++ zs) → Compares ys (take j (ys ++ zs))
compared zero [] zs h = the_same refl
compared zero (y ∷ ys) zs h = fewer_items y ys refl
compared (suc j) [] [] h = absurd (omega (arith, h))
compared (suc j) [] (z ∷ zs) h = more_items z (take j zs) refl
compared (suc j) (y ∷ ys) zs h = compares_cons y ys (take j (ys ++ zs)) (compared j ys zs (omega (arith, h)))

-- ---- the bytes of more records

-- behind a front that goes on stands a commit byte of 1
goes_on : (t : Title) (xs : List (List ℕ)) (x : List ℕ) (tail : List (List ℕ)) → (l : List ℕ) × (front t (xs ++ x ∷ tail) ≡ front t xs ++ 1 ∷ l)
unfolding records
goes_on t xs x tail = (to_be_bytes w32 (length x) ++ x ++ records tail, front-append t xs (x ∷ tail))

first_byte : (t : Title) (ps : List (List ℕ)) (n : ℕ) (bytes : List ℕ) → take n bytes ≡ front t ps → (get_or bytes 0 0 ≡ 1) × (1 ≤ n)
first_byte t ps zero bytes e = absurd (no_front (title_bytes t ++ records ps) e)
  where
    no_front : (l : List ℕ) → [] ≡ 1 ∷ l → ⊥
    no_front l e = cc
first_byte t ps (suc n) [] e = absurd (no_front (title_bytes t ++ records ps) e)
  where
    no_front : (l : List ℕ) → [] ≡ 1 ∷ l → ⊥
    no_front l e = cc
first_byte t ps (suc n) (b ∷ bytes) e = (ap (λ (l : List ℕ). get_or l 0 0) e, omega arith)

-- ---- what is loaded of a journal with a committed header

module _ (digest : List ℕ) (seed : ℕ) (asked : Option ℕ) (bytes : List ℕ) (o : Outcome) (lists : List (List Entry)) (is : o.committed ≡ true) (s : (own : ℕ) × IsStored digest (Some seed) asked bytes o lists own) where
  abbrev t : Title
  t = title_of digest seed o

  stands : take o.end bytes ≡ front t (payloads lists)
  stands = s.1.stands ∙ ap (λ (n : ℕ). front (title_of digest n o) (payloads lists)) (sym s.1.same_seed)

  place : o.end ≡ length (front t (payloads lists))
  place = omega (arith, ap (λ (l : List ℕ). length l) stands, length-take o.end bytes, s.1.clear.0)

  ahead : loaded_front digest seed o bytes ≡ front t (payloads lists)
  ahead = ap (λ (b : Bool). if b then take o.end bytes else front (title_of digest seed o) []) is ∙ stands

  -- bytes in which a commit byte stands behind a front: not one of fewer records, nor of more
  commit_byte_there : (f : List ℕ) (commit_byte : ℕ) (tail : List ℕ) → bytes ≡ f ++ commit_byte ∷ tail → length f < o.end → get_or (front t (payloads lists)) (length f) 0 ≡ commit_byte
  commit_byte_there f commit_byte tail e below =
      ap (λ (l : List ℕ). get_or l (length f) 0) (sym stands) ∙ get_or-take o.end bytes (length f) 0 below ∙ ap (λ (l : List ℕ). get_or l (length f) 0) e ∙ byte_behind f commit_byte tail (length f) 0 refl

  not_fewer : (xs : List (List ℕ)) (x : List ℕ) (behind : List (List ℕ)) (commit_byte : ℕ) (tail : List ℕ) → payloads lists ≡ xs ++ x ∷ behind → commit_byte ≢ 1 → bytes ≡ journal t xs commit_byte tail → ⊥
  not_fewer xs x behind commit_byte tail parts other e =
      let g = goes_on t xs x behind in
      let whole : front t (payloads lists) ≡ front t xs ++ 1 ∷ g.0 = ap (λ (ps : List (List ℕ)). front t ps) parts ∙ g.1 in
      let below : length (front t xs) < o.end = omega (arith, place, ap (λ (l : List ℕ). length l) whole, length-append (front t xs) (1 ∷ g.0)) in
      other (sym (commit_byte_there (front t xs) commit_byte tail e below) ∙ ap (λ (l : List ℕ). get_or l (length (front t xs)) 0) whole ∙ byte_behind (front t xs) 1 g.0 (length (front t xs)) 0 refl)

  not_more : (xs : List (List ℕ)) (x : List ℕ) (behind : List (List ℕ)) (commit_byte : ℕ) (tail : List ℕ) → xs ≡ payloads lists ++ x ∷ behind → bytes ≡ journal t xs commit_byte tail → ⊥
  not_more xs x behind commit_byte tail parts e =
      let g = goes_on t (payloads lists) x behind in
      let whole : bytes ≡ front t (payloads lists) ++ 1 ∷ (g.0 ++ commit_byte ∷ tail) =
      e ∙ ap (λ (ps : List (List ℕ)). front t ps ++ commit_byte ∷ tail) parts ∙ ap (λ (l : List ℕ). l ++ commit_byte ∷ tail) g.1 ∙ append_assoc (front t (payloads lists)) (1 ∷ g.0) (commit_byte ∷ tail) in
      s.1.clear.1 (ap (λ (l : List ℕ). get_or l o.end 1) whole ∙ byte_behind (front t (payloads lists)) 1 (g.0 ++ commit_byte ∷ tail) o.end 1 place)

  -- so it is one of just these
  just_these : (more : List (List Entry)) (j commit_byte : ℕ) (tail : List ℕ) → j ≤ length (payloads (lists ++ more)) → commit_byte ≢ 1 → bytes ≡ journal t (take j (payloads (lists ++ more))) commit_byte tail → take j (payloads (lists ++ more)) ≡ payloads lists
  just_these more j commit_byte tail le other e =
      by (subst (λ (ps : List (List ℕ)). Compares (payloads lists) (take j ps)) (sym parts) (compared j (payloads lists) (payloads more) (subst (λ (ps : List (List ℕ)). j ≤ length ps) parts le)))
    where
      parts : payloads (lists ++ more) ≡ payloads lists ++ payloads more
      parts = payloads-append lists more

      by : Compares (payloads lists) (take j (payloads (lists ++ more))) → take j (payloads (lists ++ more)) ≡ payloads lists
      by (the_same is) = is
      by (fewer_items x behind is) = absurd (not_fewer (take j (payloads (lists ++ more))) x behind commit_byte tail is other e)
      by (more_items x behind is) = absurd (not_more (take j (payloads (lists ++ more))) x behind commit_byte tail is e)

  abbrev Stands : List (List Entry) → ℕ → Type 0
  Stands more j = (j ≡ length lists) × HoldsPrefix t o (payloads (lists ++ more)) j bytes

  stands_grown : (more : List (List Entry)) (j commit_byte : ℕ) (tail : List ℕ) → j ≤ length (payloads (lists ++ more)) → commit_byte ≢ 1 → bytes ≡ journal t (take j (payloads (lists ++ more))) commit_byte tail → Grown t (payloads (lists ++ more)) j bytes → Stands more j
  stands_grown more j commit_byte tail le other e grown =
      let these = just_these more j commit_byte tail le other e in (
        omega (arith, le, ap (λ (ps : List (List ℕ)). length ps) these, length-take j (payloads (lists ++ more)), length-map lists spell),
        training.committed is (place ∙ ap (λ (ps : List (List ℕ)). length (front t ps)) (sym these)) grown,
      )

  not_zero : (n : ℕ) → n ≡ 0 → n ≢ 1
  not_zero n z e = omega (arith, z, e)

  first : (get_or bytes 0 0 ≡ 1) × (1 ≤ o.end)
  first = first_byte t (payloads lists) o.end bytes stands

  not_uncommitted : Uncommitted t bytes → ⊥
  not_uncommitted (short few) = omega (arith, few, first.1, s.1.clear.0)
  not_uncommitted (zero_byte z few) = omega (arith, z, first.0)
  not_uncommitted (half_committed header_commit z one e) = one (sym (ap (λ (l : List ℕ). get_or l 0 0) e) ∙ first.0)

  prefix_committed : (more : List (List Entry)) (j : ℕ) → IsPrefix t (payloads (lists ++ more)) j bytes → Stands more j
  prefix_committed more j (uncommitted none un) = absurd (not_uncommitted un)
  prefix_committed more j (committed (clear le tail e)) = stands_grown more j 0 tail le (not_zero 0 refl) e (clear le tail e)
  prefix_committed more j (committed (half_open below commit_byte z one e)) = stands_grown more j commit_byte _ (omega (arith, below)) one e (half_open below commit_byte z one e)

-- ---- what is loaded of one that is not committed

-- two bytes or more, of which the first is 1, are no such journal
not_new : (l : List ℕ) → 1 ≤ length l → is_uncommitted (take 54 (1 ∷ l)) (length (1 ∷ l)) ≡ false
unfolding is_uncommitted
not_new l some = grind (arith, nat_tests)

not_grown : (t : Title) (ps : List (List ℕ)) (commit_byte : ℕ) (tail bytes : List ℕ) → IsUncommitted bytes → bytes ≡ journal t ps commit_byte tail → ⊥
not_grown t ps commit_byte tail bytes un e =
    two (sym (subst IsUncommitted e un) ∙ not_new ((title_bytes t ++ records ps) ++ commit_byte ∷ tail) (omega (arith, length-append (title_bytes t ++ records ps) (commit_byte ∷ tail))))
  where
    two : true ≡ false → ⊥
    two e = cc

prefix_uncommitted : (t : Title) (o : Outcome) (ps : List (List ℕ)) (j : ℕ) (bytes : List ℕ) → o.committed ≡ false → IsUncommitted bytes → IsPrefix t ps j bytes → (j ≡ 0) × HoldsPrefix t o ps j bytes
prefix_uncommitted t o ps j bytes is un (uncommitted none u) = (none, training.uncommitted is none u)
prefix_uncommitted t o ps j bytes is un (committed (clear le tail e)) = absurd (not_grown t (take j ps) 0 tail bytes un e)
prefix_uncommitted t o ps j bytes is un (committed (half_open below commit_byte z one e)) = absurd (not_grown t (take j ps) commit_byte _ bytes un e)

-- ---- both

module _ (base : List (List Cut)) (digest : List ℕ) (seed : ℕ) (asked : Option ℕ) (bytes : List ℕ) (o : Outcome) (lists : List (List Entry)) (s : StandsThere base digest (Some seed) asked bytes o lists) where
  -- the journal that grows from what was loaded
  pub grown_stored : (more : List (List Entry)) → grown_journal digest seed o bytes more ≡ journal (title_of digest seed o) (payloads (lists ++ more)) 0 []
  grown_stored more = by o.committed refl
    where
      by : (b : Bool) → o.committed ≡ b → grown_journal digest seed o bytes more ≡ journal (title_of digest seed o) (payloads (lists ++ more)) 0 []
      by true is = grown_to (title_of digest seed o) (loaded_front digest seed o bytes) lists more (ahead digest seed asked bytes o lists is (s.committed is))
      by false is =
          let none : lists ≡ [] = (s.uncommitted is).none in
          grown_to (title_of digest seed o) (loaded_front digest seed o bytes) lists more
          (ap (λ (b : Bool). if b then take o.end bytes else front (title_of digest seed o) []) is ∙ ap (λ (ls : List (List Entry)). front (title_of digest seed o) (payloads ls)) (sym none))

  -- bytes that stand for some of the lists stand for those that were loaded
  pub prefix_stored : (more : List (List Entry)) (j : ℕ) → IsPrefix (title_of digest seed o) (payloads (lists ++ more)) j bytes → (j ≡ length lists) × HoldsPrefix (title_of digest seed o) o (payloads (lists ++ more)) j bytes
  prefix_stored more j prefix = by o.committed refl
    where
      by : (b : Bool) → o.committed ≡ b → (j ≡ length lists) × HoldsPrefix (title_of digest seed o) o (payloads (lists ++ more)) j bytes
      by true is = prefix_committed digest seed asked bytes o lists is (s.committed is) more j prefix
      by false is =
          let u = s.uncommitted is in
          let m = prefix_uncommitted (title_of digest seed o) o (payloads (lists ++ more)) j bytes is u.head prefix in
          (m.0 ∙ ap (λ (ls : List (List Entry)). length ls) (sym u.none), m.1)

-- and the others go on behind them
pub more_goes_on : (lists more : List (List Entry)) → GoesOnWith (length lists) (payloads (lists ++ more)) more
more_goes_on lists more =
    let parts : payloads (lists ++ more) ≡ payloads lists ++ payloads more = payloads-append lists more in
    let count : length (payloads lists) ≡ length lists = length-map lists spell in (
      omega (arith, ap (λ (ps : List (List ℕ)). length ps) parts, length-append (payloads lists) (payloads more), count),
      [],
      ap (λ (ps : List (List ℕ)). drop (length lists) ps) parts ∙ drop_at (payloads lists) (payloads more) (length lists) count ∙ sym (append-nil (payloads more)),
    )
