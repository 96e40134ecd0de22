-- The head of a file that was written is read as it was written.
use Rattle.std.proofs.Common.{◌≡◌, ◌≢◌, inl, inr, ℕ, ◌+◌, ◌≤◌, ◌<◌, ◌^◌, true, List, [], ◌∷◌, ◌++◌, length, get_or, take, drop, Ok, refl, sym, ◌∙◌, ap, subst, arith, append_assoc, length-append, if◌then◌else◌, ◌==◌}
use Rattle.std.proofs.lemmas.Bool.Decides.{nat_tests}
use Rattle.std.proofs.lemmas.List.{take_at, drop_at, take_all}
use Rattle.std.proofs.lemmas.Nat.{from_be_bytes-to_be_bytes_2, from_be_bytes-to_be_bytes_8}
use Rattle.std.specs.Int.{w16, w64, to_be_bytes, from_be_bytes}
use Rattle.journal_file.specs.declared.head.Head.TheVariants as heads
use Rattle.journal_file.specs.Head.{byte_at, has_magic, version_of, digest_of, seed_of, batch_of, is_whole_head, is_uncommitted, title_at, head_at, head_of}
use Rattle.journal_file.specs.Layout.{Title, IsTitle, shared_title, title_bytes, head_length, records, front, journal}
use Rattle.journal_file.specs.IsPrefix.{Uncommitted, short, zero_byte, half_committed}
use Rattle.journal_file.proofs.Bytes.{piece_of_front, byte_behind}
use Rattle.journal_file.proofs.Newborn.{shared_length}

-- the head with these parts
module _ (b digest : List ℕ) (len seed : ℕ) where
  read_one : byte_at b 0 ≡ 1 → has_magic b ≡ true → version_of b ≡ 1 → digest_of b ≡ digest → seed_of b ≡ seed → 52 ≤ len → head_at b len ≡ Ok (heads.Committed 1 digest seed 1)
  unfolding head_at is_uncommitted title_at
  read_one header_commit m v d s long = grind (arith, nat_tests)

  read_two : (batch : ℕ) → byte_at b 0 ≡ 1 → has_magic b ≡ true → version_of b ≡ 2 → digest_of b ≡ digest → seed_of b ≡ seed → batch_of b ≡ batch → 1 ≤ batch → batch ≤ 64 → 54 ≤ len → head_at b len ≡ Ok (heads.Committed 2 digest seed batch)
  unfolding head_at is_uncommitted title_at
  read_two batch header_commit m v d s paths some few long = grind (arith, nat_tests)

module _ (b : List ℕ) (len : ℕ) where
  read_short : len ≤ 1 → head_at b len ≡ Ok (heads.Uncommitted len)
  unfolding head_at is_uncommitted
  read_short few = grind (arith, nat_tests)

  read_zero : byte_at b 0 ≡ 0 → len ≤ 54 → head_at b len ≡ Ok (heads.Uncommitted len)
  unfolding head_at is_uncommitted
  read_zero header_commit few = grind (arith, nat_tests)

  read_half : byte_at b 0 ≢ 0 → byte_at b 0 ≢ 1 → is_whole_head b len ≡ true → head_at b len ≡ Ok (heads.Uncommitted len)
  unfolding head_at is_uncommitted
  read_half not_zero not_one whole = grind (arith, nat_tests)

  whole_one : has_magic b ≡ true → version_of b ≡ 1 → byte_at b 51 ≡ 0 → len ≡ 52 → is_whole_head b len ≡ true
  unfolding is_whole_head
  whole_one m v commit_byte is = grind (arith, nat_tests)

  whole_two : has_magic b ≡ true → version_of b ≡ 2 → byte_at b 53 ≡ 0 → len ≡ 54 → is_whole_head b len ≡ true
  unfolding is_whole_head
  whole_two m v commit_byte is = grind (arith, nat_tests)

-- the parts of what each version has, in the first 54 bytes of a file
module _ (header_commit version seed : ℕ) (digest behind : List ℕ) (long : length digest ≡ 32) where
  magic_written : has_magic (take 54 (header_commit ∷ shared_title version digest seed ++ behind)) ≡ true
  magic_written = refl

  version_written : version < 2 ^ 16 → version_of (take 54 (header_commit ∷ shared_title version digest seed ++ behind)) ≡ version
  version_written fits = from_be_bytes-to_be_bytes_2 version fits

  digest_written : digest_of (take 54 (header_commit ∷ shared_title version digest seed ++ behind)) ≡ digest
  digest_written =
      piece_of_front 32 11 54 (header_commit ∷ shared_title version digest seed ++ behind) (omega arith)
      ∙ ap (λ (l : List ℕ). take 32 l) (append_assoc digest (to_be_bytes w64 seed) behind)
      ∙ take_at digest (to_be_bytes w64 seed ++ behind) 32 long

  seed_written : seed < 2 ^ 64 → seed_of (take 54 (header_commit ∷ shared_title version digest seed ++ behind)) ≡ seed
  seed_written fits =
      ap (from_be_bytes w64) (
      piece_of_front 8 43 54 (header_commit ∷ shared_title version digest seed ++ behind) (omega arith)
      ∙ ap (λ (l : List ℕ). take 8 (drop 32 l)) (append_assoc digest (to_be_bytes w64 seed) behind)
      ∙ ap (λ (l : List ℕ). take 8 l) (drop_at digest (to_be_bytes w64 seed ++ behind) 32 long))
      ∙ from_be_bytes-to_be_bytes_8 seed fits

  forty : length (digest ++ to_be_bytes w64 seed) ≡ 40
  forty = omega (arith, long, length-append digest (to_be_bytes w64 seed), eight seed)
    where
      eight : (n : ℕ) → length (to_be_bytes w64 n) ≡ 8
      eight n = refl

  behind_seed : take 2 (drop 51 (take 54 (header_commit ∷ shared_title version digest seed ++ behind))) ≡ take 2 behind
  behind_seed =
      piece_of_front 2 51 54 (header_commit ∷ shared_title version digest seed ++ behind) (omega arith)
      ∙ ap (λ (l : List ℕ). take 2 l) (drop_at (digest ++ to_be_bytes w64 seed) behind 40 forty)

-- a committed head
module _ (seed : ℕ) (digest tail : List ℕ) (long : length digest ≡ 32) (fits : seed < 2 ^ 64) (some : 1 ≤ length tail) where
  head_one : head_of (1 ∷ shared_title 1 digest seed ++ tail) ≡ Ok (heads.Committed 1 digest seed 1)
  head_one =
      read_one (take 54 (1 ∷ shared_title 1 digest seed ++ tail)) digest _ seed refl (magic_written 1 1 seed digest tail long) (version_written 1 1 seed digest tail long (omega arith)) (digest_written 1 1 seed digest tail long) (seed_written 1 1 seed digest tail long fits) (omega (arith, some, length-append (shared_title 1 digest seed) tail, shared_length 1 seed digest long))

  head_two : (batch : ℕ) → 1 ≤ batch → batch ≤ 64 → head_of (1 ∷ shared_title 2 digest seed ++ (to_be_bytes w16 batch ++ tail)) ≡ Ok (heads.Committed 2 digest seed batch)
  head_two batch least most =
      let behind = to_be_bytes w16 batch ++ tail in
      let paths : batch_of (take 54 (1 ∷ shared_title 2 digest seed ++ behind)) ≡ batch = ap (from_be_bytes w16) (behind_seed 1 2 seed digest behind long) ∙ from_be_bytes-to_be_bytes_2 batch (omega (arith, most)) in
      read_two (take 54 (1 ∷ shared_title 2 digest seed ++ behind)) digest _ seed batch refl (magic_written 1 2 seed digest behind long) (version_written 1 2 seed digest behind long (omega arith)) (digest_written 1 2 seed digest behind long) (seed_written 1 2 seed digest behind long fits) paths least most (omega (arith, some, length-append (shared_title 2 digest seed) behind, length-append (to_be_bytes w16 batch) tail, two batch, shared_length 2 seed digest long))
    where
      two : (n : ℕ) → length (to_be_bytes w16 n) ≡ 2
      two n = refl

-- the title of each version, with what stands behind it
module _ (t : Title) (tail : List ℕ) where
  bytes_one : t.version ≡ 1 → title_bytes t ++ tail ≡ shared_title 1 t.digest t.seed ++ tail
  unfolding title_bytes
  bytes_one is =
      ap (λ v. (shared_title v t.digest t.seed ++ (if v == 2 then to_be_bytes w16 t.batch else [])) ++ tail) is
      ∙ append_assoc (shared_title 1 t.digest t.seed) [] tail

  bytes_two : t.version ≡ 2 → title_bytes t ++ tail ≡ shared_title 2 t.digest t.seed ++ (to_be_bytes w16 t.batch ++ tail)
  unfolding title_bytes
  bytes_two is =
      ap (λ v. (shared_title v t.digest t.seed ++ (if v == 2 then to_be_bytes w16 t.batch else [])) ++ tail) is
      ∙ append_assoc (shared_title 2 t.digest t.seed) (to_be_bytes w16 t.batch) tail

head_written : (t : Title) (tail : List ℕ) → IsTitle t → 1 ≤ length tail → head_of (1 ∷ title_bytes t ++ tail) ≡ Ok (heads.Committed t.version t.digest t.seed t.batch)
head_written t tail is some = elim is.version [
  | inl one ↦
      ap (λ (l : List ℕ). head_of (1 ∷ l)) (bytes_one t tail one.0)
      ∙ head_one t.seed t.digest tail is.digest is.seed some
      ∙ ap (λ v. Ok (heads.Committed v t.digest t.seed 1)) (sym one.0)
      ∙ ap (λ b. Ok (heads.Committed t.version t.digest t.seed b)) (sym one.1)
  | inr two ↦
      ap (λ (l : List ℕ). head_of (1 ∷ l)) (bytes_two t tail two.0)
      ∙ head_two t.seed t.digest tail is.digest is.seed some t.batch two.1 two.2
      ∙ ap (λ v. Ok (heads.Committed v t.digest t.seed t.batch)) (sym two.0)
]

pub head_of_journal : (t : Title) (payloads : List (List ℕ)) (commit_byte : ℕ) (tail : List ℕ) → IsTitle t → head_of (journal t payloads commit_byte tail) ≡ Ok (heads.Committed t.version t.digest t.seed t.batch)
head_of_journal t payloads commit_byte tail is =
    ap (λ (l : List ℕ). head_of (1 ∷ l)) (append_assoc (title_bytes t) (records payloads) (commit_byte ∷ tail))
    ∙ head_written t (records payloads ++ commit_byte ∷ tail) is (omega (arith, length-append (records payloads) (commit_byte ∷ tail)))

-- a whole head with a half-written header's commit byte
half_one : (seed header_commit : ℕ) (digest : List ℕ) → length digest ≡ 32 → header_commit ≢ 0 → header_commit ≢ 1 → head_of (header_commit ∷ shared_title 1 digest seed ++ 0 ∷ []) ≡ Ok (heads.Uncommitted (length (header_commit ∷ shared_title 1 digest seed ++ 0 ∷ [])))
half_one seed header_commit digest long not_zero not_one =
    let bytes = header_commit ∷ shared_title 1 digest seed ++ 0 ∷ [] in
    let size : length bytes ≡ 52 = omega (arith, length-append (shared_title 1 digest seed) (0 ∷ []), shared_length 1 seed digest long) in
    let commit_byte : byte_at (take 54 bytes) 51 ≡ 0 = ap (λ (l : List ℕ). get_or l 51 0) (take_all 54 bytes (omega (arith, size))) ∙ byte_behind (digest ++ to_be_bytes w64 seed) 0 [] 40 0 (sym (forty header_commit 1 seed digest [] long)) in
    read_half (take 54 bytes) (length bytes) not_zero not_one (whole_one (take 54 bytes) (length bytes) (magic_written header_commit 1 seed digest (0 ∷ []) long) (version_written header_commit 1 seed digest (0 ∷ []) long (omega arith)) commit_byte size)

half_two : (seed header_commit batch : ℕ) (digest : List ℕ) → length digest ≡ 32 → header_commit ≢ 0 → header_commit ≢ 1 → head_of (header_commit ∷ shared_title 2 digest seed ++ (to_be_bytes w16 batch ++ 0 ∷ [])) ≡ Ok (heads.Uncommitted (length (header_commit ∷ shared_title 2 digest seed ++ (to_be_bytes w16 batch ++ 0 ∷ []))))
half_two seed header_commit batch digest long not_zero not_one =
    let behind = to_be_bytes w16 batch ++ 0 ∷ [] in
    let bytes = header_commit ∷ shared_title 2 digest seed ++ behind in
    let three : length behind ≡ 3 = refl in
    let size : length bytes ≡ 54 = omega (arith, three, length-append (shared_title 2 digest seed) behind, shared_length 2 seed digest long) in
    let parts : (digest ++ to_be_bytes w64 seed) ++ behind ≡ ((digest ++ to_be_bytes w64 seed) ++ to_be_bytes w16 batch) ++ 0 ∷ [] = sym (append_assoc (digest ++ to_be_bytes w64 seed) (to_be_bytes w16 batch) (0 ∷ [])) in
    let place : 42 ≡ length ((digest ++ to_be_bytes w64 seed) ++ to_be_bytes w16 batch) = omega (arith, forty header_commit 2 seed digest [] long, length-append (digest ++ to_be_bytes w64 seed) (to_be_bytes w16 batch), two batch) in
    let commit_byte : byte_at (take 54 bytes) 53 ≡ 0 = ap (λ (l : List ℕ). get_or l 53 0) (take_all 54 bytes (omega (arith, size))) ∙ ap (λ (l : List ℕ). get_or l 42 0) parts ∙ byte_behind ((digest ++ to_be_bytes w64 seed) ++ to_be_bytes w16 batch) 0 [] 42 0 place in
    read_half (take 54 bytes) (length bytes) not_zero not_one (whole_two (take 54 bytes) (length bytes) (magic_written header_commit 2 seed digest behind long) (version_written header_commit 2 seed digest behind long (omega arith)) commit_byte size)
  where
    two : (n : ℕ) → length (to_be_bytes w16 n) ≡ 2
    two n = refl

pub head_of_uncommitted : (t : Title) (bytes : List ℕ) → IsTitle t → Uncommitted t bytes → head_of bytes ≡ Ok (heads.Uncommitted (length bytes))
head_of_uncommitted t bytes is (short le) = read_short (take 54 bytes) (length bytes) le
head_of_uncommitted t [] is (zero_byte e le) = read_short [] 0 (omega arith)
head_of_uncommitted t (b ∷ bytes) is (zero_byte e le) = read_zero (take 54 (b ∷ bytes)) (length (b ∷ bytes)) e le
head_of_uncommitted t bytes is (half_committed header_commit not_zero not_one same) =
    let says = λ (b : List ℕ). head_of b ≡ Ok (heads.Uncommitted (length b)) in
    subst says (sym same) (elim is.version [
      | inl one ↦ subst (λ (l : List ℕ). head_of (header_commit ∷ l) ≡ Ok (heads.Uncommitted (length (header_commit ∷ l)))) (sym (bytes_one t (0 ∷ []) one.0)) (half_one t.seed header_commit t.digest is.digest not_zero not_one)
      | inr two ↦ subst (λ (l : List ℕ). head_of (header_commit ∷ l) ≡ Ok (heads.Uncommitted (length (header_commit ∷ l)))) (sym (bytes_two t (0 ∷ []) two.0)) (half_two t.seed header_commit t.batch t.digest is.digest not_zero not_one)
    ])

-- the place of the first commit byte
pub first_commit_byte : (t : Title) → IsTitle t → length (front t []) + 1 ≡ head_length t.version
unfolding records
first_commit_byte t is = elim is.version [
  | inl one ↦
      omega (arith, ap (λ (l : List ℕ). length l) (bytes_one t [] one.0), length-append (shared_title 1 t.digest t.seed) [], shared_length 1 t.seed t.digest is.digest, ap head_length one.0)
  | inr two ↦
      omega (arith, ap (λ (l : List ℕ). length l) (bytes_two t [] two.0), length-append (shared_title 2 t.digest t.seed) (to_be_bytes w16 t.batch ++ []), length-append (to_be_bytes w16 t.batch) [], two_bytes t.batch, shared_length 2 t.seed t.digest is.digest, ap head_length two.0)
]
  where
    two_bytes : (n : ℕ) → length (to_be_bytes w16 n) ≡ 2
    two_bytes n = refl
