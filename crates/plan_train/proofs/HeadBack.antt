-- A head that is read stands in the bytes as it is written, and so do the records that are loaded behind it.
use Rattle.std.proofs.Common.{◌≡◌, inl, inr, ◌∙◌, ℕ, ◌-◌, ◌<◌, ◌≤◌, ◌^◌, Bool, true, false, ◌&&◌, ◌||◌, not, List, [], ◌∷◌, ◌++◌, length, take, drop, Result, Ok, Err, ◌==◌, nat_lt, nat_le, if◌then◌else◌, refl, sym, ap, ap₂, subst, arith}
use Rattle.std.specs.Int.{w16, w64, to_be_bytes, from_be_bytes}
use Rattle.std.proofs.Math.Seq.{take-add}
use Rattle.std.proofs.lemmas.Bool.Decides.{nat_tests}
use Rattle.std.proofs.lemmas.List.{append-nil, length-take}
use Rattle.std.proofs.lemmas.Nat.{be_bytes_2, be_bytes_8}
use Rattle.std.proofs.lemmas.Slice.Eq.{bytes_eq-Decides}
use Rattle.base_num.proofs.Tests.{and_first, and_second}
use Rattle.journal_record.proofs.Fields.{IsBytes}
use Rattle.journal_file.specs.declared.head.Head.{Head}
use Rattle.journal_file.specs.declared.head.Head.TheVariants.{Uncommitted, Committed}
use Rattle.journal_file.specs.declared.head.HeadFault.{HeadFault}
use Rattle.journal_file.specs.declared.head.HeadFault.TheVariants as heads
use Rattle.journal_file.specs.Head.{byte_at, has_magic, version_of, digest_of, seed_of, batch_of, is_uncommitted, title_at, head_at, head_of, IsUncommitted}
use Rattle.journal_file.specs.Layout.{Title, IsTitle, magic, shared_title, title_bytes, head_length, records, front}
use Rattle.journal_file.proofs.Bytes.{piece_of_front}
use Rattle.plan_train.proofs.ReadBack.{piece_bytes, piece_length, failed_not}
use Rattle.plan_train.proofs.Answered.{same_ok}

-- ---- the parts of a head

-- bytes that begin with these parts
record Starts (b : List ℕ) (version : ℕ) (digest : List ℕ) (seed : ℕ) : Type 0 where
  header_commit : byte_at b 0 ≡ 1
  its_magic : take 8 (drop 1 b) ≡ magic
  its_version : version ≡ version_of b
  its_digest : digest_of b ≡ digest
  its_seed : seed ≡ seed_of b
  long : 51 ≤ length b
  fits : IsBytes b

module _ (b : List ℕ) (version : ℕ) (digest : List ℕ) (seed : ℕ) (s : Starts b version digest seed) where
  one_byte : (l : List ℕ) → byte_at l 0 ≡ 1 → take 1 l ≡ 1 ∷ []
  one_byte [] e = absurd (omega (arith, e))
  one_byte (x ∷ l) e = ap (λ (y : ℕ). y ∷ []) e

  -- the bytes before the batch or the first commit byte
  shared_back : take 51 b ≡ 1 ∷ shared_title version digest seed
  shared_back =
      let word : to_be_bytes w16 version ≡ take 2 (drop 9 b) = be_bytes_2 (take 2 (drop 9 b)) version (piece_length 2 9 b (omega (arith, s.long))) (piece_bytes 2 9 b s.fits) s.its_version in
      let long : to_be_bytes w64 seed ≡ take 8 (drop 43 b) = be_bytes_8 (take 8 (drop 43 b)) seed (piece_length 8 43 b (omega (arith, s.long))) (piece_bytes 8 43 b s.fits) s.its_seed in
      let nine : take 9 b ≡ 1 ∷ magic = take-add 1 8 b ∙ ap₂ (λ (l m : List ℕ). l ++ m) (one_byte b s.header_commit) s.its_magic in
      let eleven : take 11 b ≡ 1 ∷ magic ++ to_be_bytes w16 version = take-add 9 2 b ∙ ap₂ (λ (l m : List ℕ). l ++ m) nine (sym word) in
      let more : take 43 b ≡ 1 ∷ magic ++ to_be_bytes w16 version ++ digest = take-add 11 32 b ∙ ap₂ (λ (l m : List ℕ). l ++ m) eleven s.its_digest in
      take-add 43 8 b ∙ ap₂ (λ (l m : List ℕ). l ++ m) more (sym long)

  digest_long : length digest ≡ 32
  digest_long = ap (λ (l : List ℕ). length l) (sym s.its_digest) ∙ piece_length 32 11 b (omega (arith, s.long))

eight_small : (l : List ℕ) → IsBytes l → from_be_bytes w64 l < 2 ^ 64
eight_small l h = omega (arith, h 0, h 1, h 2, h 3, h 4, h 5, h 6, h 7)

-- ---- a committed head

-- the bytes up to the first commit byte, which is there
pub record HeadIs (bytes : List ℕ) (t : Title) : Type 0 where
  pub title : IsTitle t
  pub stands : take (head_length t.version - 1) bytes ≡ front t []
  pub there : head_length t.version ≤ length bytes

front_one : (digest : List ℕ) (seed : ℕ) → front (record { version = 1; digest = digest; seed = seed; batch = 1 }) [] ≡ 1 ∷ shared_title 1 digest seed
unfolding title_bytes records
front_one digest seed = ap (λ (l : List ℕ). 1 ∷ l) (append-nil (shared_title 1 digest seed ++ []) ∙ append-nil (shared_title 1 digest seed))

front_two : (digest : List ℕ) (seed batch : ℕ) → front (record { version = 2; digest = digest; seed = seed; batch = batch }) [] ≡ 1 ∷ shared_title 2 digest seed ++ to_be_bytes w16 batch
unfolding title_bytes records
front_two digest seed batch = ap (λ (l : List ℕ). 1 ∷ l) (append-nil (shared_title 2 digest seed ++ to_be_bytes w16 batch))

module _ (bytes : List ℕ) (fits : IsBytes bytes) where
  abbrev b : List ℕ
  b = take 54 bytes

  starts : (version : ℕ) → byte_at b 0 ≡ 1 → has_magic b ≡ true → version_of b ≡ version → 52 ≤ length bytes → Starts b version (digest_of b) (seed_of b)
  starts version header_commit m v long = record {
    header_commit = header_commit;
    its_magic = (bytes_eq-Decides (take 8 (drop 1 b)) magic).0 m;
    its_version = sym v;
    its_digest = refl;
    its_seed = refl;
    long = omega (arith, long, length-take 54 bytes);
    fits = piece_bytes 54 0 bytes fits;
  }

  -- a shorter front of the first 54 bytes
  front_of_front : (n : ℕ) → n ≤ 54 → take n b ≡ take n bytes
  front_of_front n h = piece_of_front n 0 54 bytes (omega (arith, h))

  committed_one : byte_at b 0 ≡ 1 → has_magic b ≡ true → version_of b ≡ 1 → 52 ≤ length bytes → HeadIs bytes (record { version = 1; digest = digest_of b; seed = seed_of b; batch = 1 })
  committed_one header_commit m v long =
      let s = starts 1 header_commit m v long in
      record {
        title = record { digest = digest_long b 1 (digest_of b) (seed_of b) s; seed = eight_small (take 8 (drop 43 b)) (piece_bytes 8 43 b s.fits); version = inl (refl, refl) };
        stands = sym (front_of_front 51 (omega arith)) ∙ shared_back b 1 (digest_of b) (seed_of b) s ∙ sym (front_one (digest_of b) (seed_of b));
        there = long;
      }

  committed_two : byte_at b 0 ≡ 1 → has_magic b ≡ true → version_of b ≡ 2 → 54 ≤ length bytes → 1 ≤ batch_of b → batch_of b ≤ 64 → HeadIs bytes (record { version = 2; digest = digest_of b; seed = seed_of b; batch = batch_of b })
  committed_two header_commit m v long some few =
      let s = starts 2 header_commit m v (omega (arith, long)) in
      let size : length b ≡ 54 = omega (arith, long, length-take 54 bytes) in
      let word : to_be_bytes w16 (batch_of b) ≡ take 2 (drop 51 b) = be_bytes_2 (take 2 (drop 51 b)) (batch_of b) (piece_length 2 51 b (omega (arith, size))) (piece_bytes 2 51 b s.fits) refl in
      record {
        title = record { digest = digest_long b 2 (digest_of b) (seed_of b) s; seed = eight_small (take 8 (drop 43 b)) (piece_bytes 8 43 b s.fits); version = inr (refl, some, few) };
        stands = sym (front_of_front 53 (omega arith)) ∙ take-add 51 2 b ∙ ap₂ (λ (l m : List ℕ). l ++ m) (shared_back b 2 (digest_of b) (seed_of b) s) (sym word) ∙ sym (front_two (digest_of b) (seed_of b) (batch_of b));
        there = long;
      }

  -- the statement of a head about the bytes
  abbrev pub HeadGives : Head → Type 0
  HeadGives (Uncommitted n) = IsUncommitted bytes × (n ≡ length bytes)
  HeadGives (Committed version digest seed batch) = HeadIs bytes (record { version = version; digest = digest; seed = seed; batch = batch })

  abbrev two : Bool → Result Head HeadFault
  two c = if nat_lt (length bytes) 54 then Err (heads.Short (length bytes)) else if c then Ok (Committed 2 (digest_of b) (seed_of b) (batch_of b)) else Err (heads.BadBatch (batch_of b))

  bad_batch : (n : ℕ) (h : Head) → ◌≡◌ {A = Result Head HeadFault} (Err (heads.BadBatch n)) (Ok h) → ⊥
  bad_batch n h e = cc

  titled : (h : Head) → byte_at b 0 ≡ 1 → has_magic b ≡ true → 52 ≤ length bytes → title_at b (length bytes) ≡ Ok h → HeadGives h
  unfolding title_at
  titled h header_commit m long e = by (version_of b == 1) refl (version_of b == 2) refl (nat_lt 0 (batch_of b) && nat_le (batch_of b) 64) refl e
    where
      in_range : (c : Bool) → (nat_lt 0 (batch_of b) && nat_le (batch_of b) 64) ≡ c → version_of b ≡ 2 → two c ≡ Ok h → HeadGives h
      in_range true is v w =
          let a = failed_not (nat_lt (length bytes) 54) _ _ h w in
          let there : 54 ≤ length bytes = grind (arith, nat_tests, a.0) in
          let some : 1 ≤ batch_of b = grind (arith, nat_tests, and_first (nat_lt 0 (batch_of b)) (nat_le (batch_of b) 64) is) in
          let few : batch_of b ≤ 64 = grind (arith, nat_tests, and_second (nat_lt 0 (batch_of b)) (nat_le (batch_of b) 64) is) in
          subst HeadGives (same_ok (Committed 2 (digest_of b) (seed_of b) (batch_of b)) h a.1) (committed_two header_commit m v there some few)
      in_range false is v w =
          let a = failed_not (nat_lt (length bytes) 54) _ _ h w in
          absurd (bad_batch (batch_of b) h a.1)

      by : (one : Bool) → (version_of b == 1) ≡ one → (other : Bool) → (version_of b == 2) ≡ other → (c : Bool) → (nat_lt 0 (batch_of b) && nat_le (batch_of b) 64) ≡ c
          → (if one then Ok (Committed 1 (digest_of b) (seed_of b) 1) else if other then two c else Err (heads.OtherVersion (version_of b))) ≡ Ok h → HeadGives h
      by true is other _ c _ w = subst HeadGives (same_ok (Committed 1 (digest_of b) (seed_of b) 1) h w) (committed_one header_commit m (grind (arith, nat_tests, is)) long)
      by false is true also c range w = in_range c range (grind (arith, nat_tests, also)) w
      by false is false also c range w = absurd cc

  pub head_gives : (h : Head) → head_of bytes ≡ Ok h → HeadGives h
  unfolding head_at
  head_gives h e = by (is_uncommitted b (length bytes)) refl e
    where
      by : (u : Bool) → is_uncommitted b (length bytes) ≡ u
          → (if u then Ok (Uncommitted (length bytes)) else if nat_lt (length bytes) 9 || not (byte_at b 0 == 1) || not (has_magic b) then Err heads.NotAJournal else if nat_lt (length bytes) 52 then Err (heads.Short (length bytes)) else title_at b (length bytes)) ≡ Ok h
          → HeadGives h
      by true is w = subst HeadGives (same_ok (Uncommitted (length bytes)) h w) (is, refl)
      by false is w =
          let a = failed_not (nat_lt (length bytes) 9 || not (byte_at b 0 == 1) || not (has_magic b)) _ _ h w in
          let c = failed_not (nat_lt (length bytes) 52) _ _ h a.1 in
          titled h (grind (arith, nat_tests, a.0)) (grind (arith, nat_tests, a.0)) (grind (arith, nat_tests, c.0)) c.1
