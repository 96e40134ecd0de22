-- The bytes that a crash leaves while a file becomes a journal.
use Rattle.std.proofs.Common.{◌≡◌, ◌≢◌, ◌⊎◌, inl, inr, ℕ, zero, suc, ◌+◌, ◌-◌, ◌≤◌, Bool, true, false, List, [], ◌∷◌, ◌++◌, length, get_or, take, drop, refl, sym, ◌∙◌, ap, subst, arith, append_assoc, length-append, if◌then◌else◌, ◌==◌, Option, None, Some, IfSome}
use Rattle.std.proofs.lemmas.Bool.{cases_eq}
use Rattle.std.proofs.lemmas.Bool.Decides.{nat_tests}
use Rattle.std.proofs.lemmas.List.{append-nil, length-take, length-drop, drop_all, drop-take}
use Rattle.std.specs.Int.{w16, w64, to_be_bytes}
use Rattle.std.specs.Option.{option_map}
use Rattle.base_device.specs.Disks.{Store, Torn, Cut, Stays, Lawful, written}
use Rattle.base_device.specs.Since.{Quiet, LeavesOnly}
use Rattle.base_device.proofs.RunsOfCalls.{stays_on}
use Rattle.journal_file.specs.Head.{IsUncommitted, is_uncommitted}
use Rattle.journal_file.specs.Layout.{Title, title_bytes, new_title, shared_title, magic, head_length, records, body_of, front, journal}
use Rattle.journal_file.specs.IsPrefix.{Uncommitted, Grown, IsPrefix, LeavesPrefix, short, zero_byte, half_committed, clear, half_open, uncommitted, committed}
use Rattle.journal_file.proofs.Bytes.{torn_byte, written_byte}
use Rattle.journal_file.proofs.DiskBytes.{told, known, begins, puts, cuts, mapped}

title_length : (t : Title) → length t.digest ≡ 32 → length (title_bytes t) ≤ 52
unfolding title_bytes
title_length t d =
    let a = magic ++ to_be_bytes w16 t.version in
    let s = to_be_bytes w64 t.seed in
    let b = if t.version == 2 then to_be_bytes w16 t.batch else [] in
    omega (arith, d, length-append (a ++ t.digest ++ s) b, length-append (a ++ t.digest) s, length-append a t.digest, ten, eight t.seed, batch_length (t.version == 2))
  where
    ten : length (magic ++ to_be_bytes w16 t.version) ≡ 10
    ten = refl

    eight : (n : ℕ) → length (to_be_bytes w64 n) ≡ 8
    eight n = refl

    batch_length : (two : Bool) → length (if two then to_be_bytes w16 t.batch else []) ≤ 2
    batch_length true = omega (arith, two_bytes t.batch)
      where
        two_bytes : (n : ℕ) → length (to_be_bytes w16 n) ≡ 2
        two_bytes n = refl
    batch_length false = omega arith

-- two bytes or more, the first of them 1, do not begin an uncommitted header
no_uncommitted : (x : List ℕ) → 1 ≤ length x → is_uncommitted (take 54 (1 ∷ x)) (length (1 ∷ x)) ≡ false
unfolding is_uncommitted
no_uncommitted x some = grind (arith, nat_tests)

-- a journal is committed
not_grown : (t : Title) (payloads : List (List ℕ)) (bytes : List ℕ) → IsUncommitted bytes → Grown t payloads 0 bytes → ⊥
not_grown t payloads bytes is (clear le tail same) = two (sym (subst IsUncommitted same is) ∙ no_uncommitted (title_bytes t ++ records [] ++ 0 ∷ tail) (omega (arith, length-append (title_bytes t ++ records []) (0 ∷ tail))))
  where
    two : true ≡ false → ⊥
    two e = cc
not_grown t payloads bytes is (half_open below commit_byte g0 g1 same) =
    let behind = body_of (get_or payloads 0 []) in
    two (sym (subst IsUncommitted same is) ∙ no_uncommitted (title_bytes t ++ records [] ++ commit_byte ∷ behind) (omega (arith, length-append (title_bytes t ++ records []) (commit_byte ∷ behind))))
  where
    two : true ≡ false → ⊥
    two e = cc

module _ (t : Title) (payloads : List (List ℕ)) (long : length t.digest ≡ 32) where
  pub still_uncommitted : (bytes : List ℕ) → IsUncommitted bytes → IsPrefix t payloads 0 bytes → Uncommitted t bytes
  still_uncommitted bytes is (uncommitted e u) = u
  still_uncommitted bytes is (committed g) = absurd (not_grown t payloads bytes is g)

  pub uncommitted_short : (bytes : List ℕ) → Uncommitted t bytes → length bytes ≤ 54
  uncommitted_short bytes (short le) = omega (arith, le)
  uncommitted_short bytes (zero_byte e le) = le
  uncommitted_short bytes (half_committed g g0 g1 same) = omega (arith, ap length same, length-append (title_bytes t) (0 ∷ []), title_length t long)

  -- any header's commit byte before the whole head
  pub any_header_commit : (g : ℕ) → IsPrefix t payloads 0 (g ∷ title_bytes t ++ 0 ∷ [])
  unfolding records
  any_header_commit g = elim (cases_eq g 0) [
    | inl is_zero ↦ uncommitted refl (zero_byte is_zero (omega (arith, length-append (title_bytes t) (0 ∷ []), title_length t long)))
    | inr not_zero ↦ elim (cases_eq g 1) [
      | inl is_one ↦ committed (clear (omega arith) [] (ap (λ (h : ℕ). h ∷ title_bytes t ++ 0 ∷ []) is_one ∙ ap (λ (l : List ℕ). 1 ∷ l ++ 0 ∷ []) (sym (append-nil (title_bytes t)))))
      | inr not_one ↦ uncommitted refl (half_committed g not_zero not_one refl)
    ]
  ]

  -- the header's commit byte is torn where it was not 0, or where there is at most one byte
  pub mark_torn : (bytes : List ℕ) → Uncommitted t bytes → (length bytes ≤ 1) ⊎ (get_or bytes 0 1 ≢ 0) → (c : List ℕ) → Torn 0 1 bytes c → IsPrefix t payloads 0 c
  mark_torn bytes u (inl le) c torn = uncommitted refl (short (omega (arith, torn.no_longer, le)))
  mark_torn bytes (short le) (inr set) c torn = uncommitted refl (short (omega (arith, torn.no_longer, le)))
  mark_torn [] (zero_byte e le) (inr set) c torn = uncommitted refl (short (omega (arith, torn.no_longer)))
  mark_torn (b ∷ bytes) (zero_byte e le) (inr set) c torn = absurd (set e)
  mark_torn bytes (half_committed g g0 g1 same) (inr set) c torn =
      let from = torn_byte [] g (title_bytes t ++ 0 ∷ []) c 0 refl (subst (λ b. Torn 0 1 b c) same torn) in
      subst (IsPrefix t payloads 0) (sym from.1) (any_header_commit from.0)

  -- bytes that begin with 0
  pub begins_with_0 : (c : List ℕ) → take 1 c ≡ 0 ∷ [] → length c ≤ 54 → IsPrefix t payloads 0 c
  begins_with_0 [] e le = absurd (omega (arith, ap length e))
  begins_with_0 (b ∷ c) e le = uncommitted refl (zero_byte (ap (λ (l : List ℕ). get_or l 0 0) e) le)

  -- behind the header's commit byte of 0 the rest is cut off
  pub tail_cut : (bytes : List ℕ) (most : ℕ) → Uncommitted t bytes → 1 ≤ most → (c : List ℕ) → Cut most (0 ∷ drop 1 bytes) c → IsPrefix t payloads 0 c
  tail_cut bytes most u some c cut = begins_with_0 c (one c cut.front (omega (arith, cut.no_shorter, some))) (omega (arith, ap length cut.front, length-take (length c) (0 ∷ drop 1 bytes), length-drop 1 bytes, uncommitted_short bytes u))
    where
      one : (c : List ℕ) → take (length c) (0 ∷ drop 1 bytes) ≡ c → 1 ≤ length c → take 1 c ≡ 0 ∷ []
      one [] e le = absurd (omega arith)
      one (b ∷ c) e le = ap (λ (l : List ℕ). take 1 l) (sym e)

  -- the head is torn behind the header's commit byte of 0
  pub head_torn : (bytes c : List ℕ) (n : ℕ) → take 1 bytes ≡ 0 ∷ [] → length bytes ≤ 54 → 1 + n ≤ 54 → Torn 1 n bytes c → IsPrefix t payloads 0 c
  head_torn bytes c n front le small torn = begins_with_0 c (torn.before ∙ front) (omega (arith, torn.no_longer, le, small))

  -- the header's commit byte is torn before the whole head
  pub header_commit_torn : (c : List ℕ) → Torn 0 1 (0 ∷ title_bytes t ++ 0 ∷ []) c → IsPrefix t payloads 0 c
  header_commit_torn c torn =
      let from = torn_byte [] 0 (title_bytes t ++ 0 ∷ []) c 0 refl torn in
      subst (IsPrefix t payloads 0) (sym from.1) (any_header_commit from.0)

  module _ (old new : Store) (bytes : List ℕ) (lawful : Lawful old) (quiet : Quiet old) (is : old.reads ≡ Some bytes) (prefix : IsPrefix t payloads 0 bytes) where
    pub mark_read : (mid : Store) → Stays old mid → LeavesOnly old mid (IsPrefix t payloads 0)
    mark_read mid same = stays_on old old mid (IsPrefix t payloads 0) (begins old (IsPrefix t payloads 0) bytes lawful is quiet prefix) same

    pub mark_put : (mid : Store) → Stays old mid → IsUncommitted bytes → (length bytes ≤ 1) ⊎ (get_or bytes 0 1 ≢ 0) → IfSome mid.reads (λ b. LeavesOnly mid new (Torn 0 1 b)) → LeavesOnly old new (IsPrefix t payloads 0)
    mark_put mid same not_committed why moment = puts old (IsPrefix t payloads 0) mid new bytes 0 1 (mark_read mid same) (same.reads ∙ is) moment (mark_torn bytes (still_uncommitted bytes not_committed prefix) why)

    pub tail_off : (mid : Store) (most : ℕ) → 1 ≤ most → IsUncommitted bytes → LeavesOnly old mid (IsPrefix t payloads 0) → mid.reads ≡ option_map (λ b. 0 ∷ drop 1 b) old.reads → IfSome mid.reads (λ b. LeavesOnly mid new (Cut most b)) → LeavesOnly old new (IsPrefix t payloads 0)
    tail_off mid most some not_committed run maps moment = cuts old (IsPrefix t payloads 0) mid new (0 ∷ drop 1 bytes) most run (mapped old.reads mid.reads (λ b. 0 ∷ drop 1 b) bytes is maps) moment (tail_cut bytes most (still_uncommitted bytes not_committed prefix) some)

    pub head_put : (mid : Store) (most n : ℕ) → 1 ≤ most → most ≤ 54 → 1 + n ≤ 54 → LeavesOnly old mid (IsPrefix t payloads 0) → mid.reads ≡ option_map (λ b. take most (0 ∷ drop 1 b)) old.reads → IfSome mid.reads (λ b. LeavesOnly mid new (Torn 1 n b)) → LeavesOnly old new (IsPrefix t payloads 0)
    head_put mid most n some few small run maps moment =
        let cleared = take most (0 ∷ drop 1 bytes) in
        puts old (IsPrefix t payloads 0) mid new cleared 1 n run (mapped old.reads mid.reads (λ b. take most (0 ∷ drop 1 b)) bytes is maps) moment (λ c. head_torn cleared c n (first most some) (omega (arith, length-take most (0 ∷ drop 1 bytes), few)) small)
      where
        first : (m : ℕ) → 1 ≤ m → take 1 (take m (0 ∷ drop 1 bytes)) ≡ 0 ∷ []
        first zero le = absurd (omega arith)
        first (suc m) le = refl

    pub header_commit_put : (mid : Store) → LeavesOnly old mid (IsPrefix t payloads 0) → mid.reads ≡ Some (0 ∷ title_bytes t ++ 0 ∷ []) → IfSome mid.reads (λ b. LeavesOnly mid new (Torn 0 1 b)) → LeavesOnly old new (IsPrefix t payloads 0)
    header_commit_put mid run reads moment = puts old (IsPrefix t payloads 0) mid new (0 ∷ title_bytes t ++ 0 ∷ []) 0 1 run reads moment header_commit_torn

-- a head behind the header's commit byte of 0 of a short file
pub headed : (bytes head : List ℕ) (most : ℕ) → 1 ≤ most → 1 + length head ≡ most → written (take most (0 ∷ drop 1 bytes)) 1 head ≡ 0 ∷ head
headed bytes head zero some is = absurd (omega arith)
headed bytes head (suc m) some is =
    append_assoc (0 ∷ []) head (drop (1 + length head) (0 ∷ take m (drop 1 bytes)))
    ∙ ap (λ (l : List ℕ). 0 ∷ head ++ l) (drop_all (1 + length head) (0 ∷ take m (drop 1 bytes)) (omega (arith, length-take m (drop 1 bytes), is)))
    ∙ ap (λ (l : List ℕ). 0 ∷ l) (append-nil head)

-- the head of each version
pub title_one : (digest : List ℕ) (seed : ℕ) → (0 ∷ shared_title 1 digest seed) ++ 0 ∷ [] ≡ 0 ∷ title_bytes (new_title digest seed None) ++ 0 ∷ []
unfolding title_bytes
title_one digest seed = ap (λ (l : List ℕ). 0 ∷ l ++ 0 ∷ []) (sym (append-nil (shared_title 1 digest seed)))

pub title_two : (digest : List ℕ) (seed paths : ℕ) → ((0 ∷ shared_title 2 digest seed) ++ to_be_bytes w16 paths) ++ 0 ∷ [] ≡ 0 ∷ title_bytes (new_title digest seed (Some paths)) ++ 0 ∷ []
unfolding title_bytes
title_two digest seed paths = refl

pub title_digest : (digest : List ℕ) (seed : ℕ) (batch : Option ℕ) → length digest ≡ 32 → length (new_title digest seed batch).digest ≡ 32
title_digest digest seed None is = is
title_digest digest seed (Some b) is = is

pub head_size : (digest : List ℕ) (seed : ℕ) (batch : Option ℕ) → (52 ≤ head_length (new_title digest seed batch).version) × (head_length (new_title digest seed batch).version ≤ 54)
head_size digest seed None = (omega arith, omega arith)
head_size digest seed (Some b) = (omega arith, omega arith)

-- the bytes behind the first of the front of a list
pub behind_first : (head x : List ℕ) (count : ℕ) → 1 ≤ count → take count head ≡ 0 ∷ x → take (count - 1) (drop 1 head) ≡ x
behind_first head x count some is = sym (drop-take 1 (count - 1) head) ∙ ap (λ (n : ℕ). drop 1 (take n head)) (whole count some) ∙ ap (λ (l : List ℕ). drop 1 l) is
  where
    whole : (n : ℕ) → 1 ≤ n → 1 + (n - 1) ≡ n
    whole n le = omega (arith, le)

-- the head is written behind the header's commit byte of 0, and then the header's commit byte is 1
pub headed_bytes : (t : Title) (bytes : List ℕ) (most : ℕ) → 1 ≤ most → 1 + length (title_bytes t ++ 0 ∷ []) ≡ most → written (take most (0 ∷ drop 1 bytes)) 1 (title_bytes t ++ 0 ∷ []) ≡ 0 ∷ title_bytes t ++ 0 ∷ []
headed_bytes t bytes most some is = headed bytes (title_bytes t ++ 0 ∷ []) most some is

pub committed_bytes : (t : Title) (bytes : List ℕ) (most : ℕ) → 1 ≤ most → 1 + length (title_bytes t ++ 0 ∷ []) ≡ most → written (written (take most (0 ∷ drop 1 bytes)) 1 (title_bytes t ++ 0 ∷ [])) 0 (1 ∷ []) ≡ journal t [] 0 []
unfolding records
committed_bytes t bytes most some is =
    ap (λ (b : List ℕ). written b 0 (1 ∷ [])) (headed_bytes t bytes most some is)
    ∙ written_byte [] 0 1 (title_bytes t ++ 0 ∷ []) 0 refl
    ∙ ap (λ (l : List ℕ). 1 ∷ l ++ 0 ∷ []) (sym (append-nil (title_bytes t)))

-- three calls that map what is told
pub map_thrice : (r0 r1 r2 r3 : Option (List ℕ)) (f g h k : List ℕ → List ℕ) → r1 ≡ option_map f r0 → r2 ≡ option_map g r1 → r3 ≡ option_map h r2 → ((b : List ℕ) → h (g (f b)) ≡ k b) → r3 ≡ option_map k r0
map_thrice r0 r1 r2 r3 f g h k e1 e2 e3 same = e3 ∙ ap (option_map h) (e2 ∙ ap (option_map g) e1) ∙ chain r0
  where
    chain : (r : Option (List ℕ)) → option_map h (option_map g (option_map f r)) ≡ option_map k r
    chain None = refl
    chain (Some b) = ap Some (same b)

pub shared_length : (version seed : ℕ) (digest : List ℕ) → length digest ≡ 32 → length (shared_title version digest seed) ≡ 50
shared_length version seed digest is = omega (arith, is, length-append (magic ++ to_be_bytes w16 version ++ digest) (to_be_bytes w64 seed), length-append (magic ++ to_be_bytes w16 version) digest, ten version, eight seed)
  where
    ten : (n : ℕ) → length (magic ++ to_be_bytes w16 n) ≡ 10
    ten n = refl

    eight : (n : ℕ) → length (to_be_bytes w64 n) ≡ 8
    eight n = refl

-- the length of a head
pub head_exact : (digest : List ℕ) (seed : ℕ) (batch : Option ℕ) → length digest ≡ 32 → 1 + length (title_bytes (new_title digest seed batch) ++ 0 ∷ []) ≡ head_length (new_title digest seed batch).version
unfolding title_bytes
head_exact digest seed None is = omega (arith, length-append (shared_title 1 digest seed ++ []) (0 ∷ []), length-append (shared_title 1 digest seed) [], shared_length 1 seed digest is)
head_exact digest seed (Some b) is = omega (arith, length-append (shared_title 2 digest seed ++ to_be_bytes w16 b) (0 ∷ []), length-append (shared_title 2 digest seed) (to_be_bytes w16 b), shared_length 2 seed digest is, two b)
  where
    two : (n : ℕ) → length (to_be_bytes w16 n) ≡ 2
    two n = refl

-- a crash at each call on a disk, whether it tells its bytes or not
module _ (old mid new : Store) (lawful : Lawful old) (quiet : Quiet old) where
  pub mark_read_leaves : Stays old mid → LeavesPrefix old mid
  mark_read_leaves same = told old.reads (λ bytes is t payloads long prefix. mark_read t payloads long old old bytes lawful quiet is prefix mid same)

  pub mark_put_leaves : Stays old mid → IfSome old.reads IsUncommitted → (byte len : ℕ) → IfSome old.reads (λ b. byte ≡ get_or b 0 1) → IfSome old.reads (λ b. len ≡ length b) → (len ≤ 1) ⊎ (byte ≢ 0) → IfSome mid.reads (λ b. LeavesOnly mid new (Torn 0 1 b)) → LeavesPrefix old new
  mark_put_leaves same not_committed byte len reads ends why moment = told old.reads (λ bytes is t payloads long prefix.
      let first = known (λ b. byte ≡ get_or b 0 1) old.reads bytes is reads in
      let size = known (λ b. len ≡ length b) old.reads bytes is ends in
      let reason : (length bytes ≤ 1) ⊎ (get_or bytes 0 1 ≢ 0) = elim why [ inl few ↦ inl (omega (arith, size, few)) | inr set ↦ inr (λ none. set (first ∙ none)) ] in
      mark_put t payloads long old new bytes lawful quiet is prefix mid same (known IsUncommitted old.reads bytes is not_committed) reason moment)

  pub tail_off_leaves : (most : ℕ) → 1 ≤ most → IfSome old.reads IsUncommitted → LeavesPrefix old mid → mid.reads ≡ option_map (λ b. 0 ∷ drop 1 b) old.reads → IfSome mid.reads (λ b. LeavesOnly mid new (Cut most b)) → LeavesPrefix old new
  tail_off_leaves most some not_committed unmarked maps moment = told old.reads (λ bytes is t payloads long prefix.
      let run = known (λ b. (t : Title) (payloads : List (List ℕ)) → length t.digest ≡ 32 → IsPrefix t payloads 0 b → LeavesOnly old mid (IsPrefix t payloads 0)) old.reads bytes is unmarked t payloads long prefix in
      tail_off t payloads long old new bytes lawful quiet is prefix mid most some (known IsUncommitted old.reads bytes is not_committed) run maps moment)

-- a new head, once the disk is cleared for it
abbrev pub LeavesCommitted : Title → Store → Store → Type 0
LeavesCommitted t old new = IfSome old.reads (λ bytes. (payloads : List (List ℕ)) → IsPrefix t payloads 0 bytes → LeavesOnly old new (IsPrefix t payloads 0))

module _ (digest : List ℕ) (seed : ℕ) (batch : Option ℕ) (long : length digest ≡ 32) (old cleared : Store) (clears : LeavesPrefix old cleared) where
  pub clear_leaves : LeavesCommitted (new_title digest seed batch) old cleared
  clear_leaves = told old.reads (λ bytes is payloads prefix.
      known (λ b. (t : Title) (payloads : List (List ℕ)) → length t.digest ≡ 32 → IsPrefix t payloads 0 b → LeavesOnly old cleared (IsPrefix t payloads 0)) old.reads bytes is clears (new_title digest seed batch) payloads (title_digest digest seed batch long) prefix)

  module _ (lawful : Lawful old) (quiet : Quiet old) (head : List ℕ) (count : ℕ) (size : count ≡ head_length (new_title digest seed batch).version) (holds : take count head ≡ 0 ∷ title_bytes (new_title digest seed batch) ++ 0 ∷ []) (maps : cleared.reads ≡ option_map (λ b. take count (0 ∷ drop 1 b)) old.reads) (headed committed : Store) where
    some : 1 ≤ count
    some = omega (arith, size, (head_size digest seed batch).0)

    few : count ≤ 54
    few = omega (arith, size, (head_size digest seed batch).1)

    piece : take (count - 1) (drop 1 head) ≡ title_bytes (new_title digest seed batch) ++ 0 ∷ []
    piece = behind_first head (title_bytes (new_title digest seed batch) ++ 0 ∷ []) count some holds

    exact : 1 + length (title_bytes (new_title digest seed batch) ++ 0 ∷ []) ≡ count
    exact = head_exact digest seed batch long ∙ sym size

    pub head_put_leaves : IfSome cleared.reads (λ b. LeavesOnly cleared headed (Torn 1 (length (take (count - 1) (drop 1 head))) b)) → LeavesCommitted (new_title digest seed batch) old headed
    head_put_leaves moment = told old.reads (λ bytes is payloads prefix.
        let t = new_title digest seed batch in
        let run = known (λ b. (payloads : List (List ℕ)) → IsPrefix t payloads 0 b → LeavesOnly old cleared (IsPrefix t payloads 0)) old.reads bytes is clear_leaves payloads prefix in
        let torn = subst (λ (p : List ℕ). IfSome cleared.reads (λ b. LeavesOnly cleared headed (Torn 1 (length p) b))) piece moment in
        head_put t payloads (title_digest digest seed batch long) old headed bytes lawful quiet is prefix cleared count (length (title_bytes t ++ 0 ∷ [])) some few (omega (arith, exact, few)) run maps torn)

    head_reads : headed.reads ≡ option_map (λ b. written b 1 (take (count - 1) (drop 1 head))) cleared.reads → headed.reads ≡ option_map (λ b. written b 1 (title_bytes (new_title digest seed batch) ++ 0 ∷ [])) cleared.reads
    head_reads put = subst (λ (p : List ℕ). headed.reads ≡ option_map (λ b. written b 1 p) cleared.reads) piece put

    pub header_commit_put_leaves : IfSome cleared.reads (λ b. LeavesOnly cleared headed (Torn 1 (length (take (count - 1) (drop 1 head))) b)) → headed.reads ≡ option_map (λ b. written b 1 (take (count - 1) (drop 1 head))) cleared.reads → IfSome headed.reads (λ b. LeavesOnly headed committed (Torn 0 1 b)) → LeavesCommitted (new_title digest seed batch) old committed
    header_commit_put_leaves moment put header_commits = told old.reads (λ bytes is payloads prefix.
        let t = new_title digest seed batch in
        let run = known (λ b. (payloads : List (List ℕ)) → IsPrefix t payloads 0 b → LeavesOnly old headed (IsPrefix t payloads 0)) old.reads bytes is (head_put_leaves moment) payloads prefix in
        let reads = mapped cleared.reads headed.reads (λ b. written b 1 (title_bytes t ++ 0 ∷ [])) (take count (0 ∷ drop 1 bytes)) (mapped old.reads cleared.reads (λ b. take count (0 ∷ drop 1 b)) bytes is maps) (head_reads put) ∙ ap Some (headed_bytes t bytes count some exact) in
        header_commit_put t payloads (title_digest digest seed batch long) old committed bytes lawful quiet is prefix headed run reads header_commits)

    pub header_commit_reads : headed.reads ≡ option_map (λ b. written b 1 (take (count - 1) (drop 1 head))) cleared.reads → committed.reads ≡ option_map (λ b. written b 0 (1 ∷ [])) headed.reads → committed.reads ≡ option_map (λ b. journal (new_title digest seed batch) [] 0 []) old.reads
    header_commit_reads put header_commit =
        let t = new_title digest seed batch in
        map_thrice old.reads cleared.reads headed.reads committed.reads (λ b. take count (0 ∷ drop 1 b)) (λ b. written b 1 (title_bytes t ++ 0 ∷ [])) (λ b. written b 0 (1 ∷ [])) (λ b. journal t [] 0 []) maps (head_reads put) header_commit (λ b. committed_bytes t b count some exact)
