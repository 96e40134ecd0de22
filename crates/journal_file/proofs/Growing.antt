-- The bytes that a crash leaves while a journal's end is repaired and while it grows.
use Rattle.std.proofs.Common.{◌≡◌, ◌≢◌, inl, inr, ℕ, suc, ◌+◌, ◌≤◌, ◌<◌, List, [], ◌∷◌, ◌++◌, length, get_or, take, refl, sym, ◌∙◌, ap, subst, arith, append_assoc, length-append, Some, IfSome}
use Rattle.std.proofs.lemmas.Bool.{cases_eq}
use Rattle.std.proofs.lemmas.List.{append-nil, length-take}
use Rattle.std.proofs.Math.Seq.{take-suc}
use Rattle.std.specs.Int.{w32, to_be_bytes}
use Rattle.base_device.specs.Disks.{Store, Torn, Cut, Stays, Lawful, written}
use Rattle.base_device.proofs.RunsOfCalls.{stays_on}
use Rattle.base_device.specs.Since.{Quiet, LeavesOnly}
use Rattle.journal_file.specs.Layout.{Title, title_bytes, records, body_of, front, journal}
use Rattle.journal_file.specs.IsPrefix.{Grown, IsGrownPrefix, LeavesGrown, clear, half_open}
use Rattle.journal_file.specs.Layout.{IsBody}
use Rattle.journal_file.proofs.Bytes.{byte_behind, torn_byte, torn_end, cut_rest, written_byte, written_end}
use Rattle.journal_file.proofs.DiskBytes.{told, known, begins, puts, cuts, mapped}
use Rattle.std.specs.Option.{option_map}
use Rattle.std.specs.Prelude.{◌^◌}

-- a record more
records_more : (ps : List (List ℕ)) (p : List ℕ) → records (ps ++ p ∷ []) ++ 0 ∷ [] ≡ records ps ++ 1 ∷ body_of p
unfolding records body_of
records_more [] p = ap (λ (l : List ℕ). 1 ∷ l ++ 0 ∷ []) (append-nil (to_be_bytes w32 (length p) ++ p))
records_more (q ∷ qs) p =
    ap (λ (l : List ℕ). 1 ∷ l) (
    append_assoc (to_be_bytes w32 (length q) ++ q) (records (qs ++ p ∷ [])) (0 ∷ [])
    ∙ ap (λ (l : List ℕ). (to_be_bytes w32 (length q) ++ q) ++ l) (records_more qs p)
    ∙ sym (append_assoc (to_be_bytes w32 (length q) ++ q) (records qs) (1 ∷ body_of p)))

module _ (t : Title) (payloads : List (List ℕ)) where
  -- a commit byte of 1 before the next body is the journal of one record more
  opened : (j : ℕ) → j < length payloads → journal t (take j payloads) 1 (body_of (get_or payloads j [])) ≡ journal t (take (suc j) payloads) 0 []
  opened j below =
      let p = get_or payloads j [] in
      let ps = take j payloads in
      let one : front t ps ++ 1 ∷ body_of p ≡ 1 ∷ title_bytes t ++ (records ps ++ 1 ∷ body_of p) = ap (λ (l : List ℕ). 1 ∷ l) (append_assoc (title_bytes t) (records ps) (1 ∷ body_of p)) in
      let more : front t (ps ++ p ∷ []) ++ 0 ∷ [] ≡ 1 ∷ title_bytes t ++ (records (ps ++ p ∷ []) ++ 0 ∷ []) = ap (λ (l : List ℕ). 1 ∷ l) (append_assoc (title_bytes t) (records (ps ++ p ∷ [])) (0 ∷ [])) in
      one ∙ ap (λ (l : List ℕ). 1 ∷ title_bytes t ++ l) (sym (records_more ps p)) ∙ sym more
      ∙ ap (λ (qs : List (List ℕ)). front t qs ++ 0 ∷ []) (sym (take-suc payloads j [] below))

  -- any byte at the commit byte before the next body
  pub any_commit_byte : (j g : ℕ) → j < length payloads → IsGrownPrefix t payloads j (journal t (take j payloads) g (body_of (get_or payloads j [])))
  any_commit_byte j g below = elim (cases_eq g 0) [
    | inl zero_commit_byte ↦ (j, omega arith, clear (omega (arith, below)) (body_of (get_or payloads j [])) (ap (λ (h : ℕ). journal t (take j payloads) h (body_of (get_or payloads j []))) zero_commit_byte))
    | inr not_zero ↦ elim (cases_eq g 1) [
      | inl one ↦ (suc j, omega arith, clear (omega (arith, below)) [] (ap (λ (h : ℕ). journal t (take j payloads) h (body_of (get_or payloads j []))) one ∙ opened j below))
      | inr not_one ↦ (j, omega arith, half_open below g not_zero not_one refl)
    ]
  ]

  -- a torn commit byte that was not 0
  pub commit_byte_torn : (j at : ℕ) (bytes : List ℕ) → at ≡ length (front t (take j payloads)) → Grown t payloads j bytes → get_or bytes at 1 ≢ 0 → (c : List ℕ) → Torn at 1 bytes c → IsGrownPrefix t payloads j c
  commit_byte_torn j at bytes is (clear le tail same) not_zero c torn = absurd (not_zero (ap (λ (b : List ℕ). get_or b at 1) same ∙ byte_behind (front t (take j payloads)) 0 tail at 1 is))
  commit_byte_torn j at bytes is (half_open below commit_byte g0 g1 same) not_zero c torn =
      let from = torn_byte (front t (take j payloads)) commit_byte (body_of (get_or payloads j [])) c at is (subst (λ b. Torn at 1 b c) same torn) in
      subst (IsGrownPrefix t payloads j) (sym from.1) (any_commit_byte j from.0 below)

  -- once the commit byte is 0 the journal has any rest
  pub commit_byte_is_clear : (j at : ℕ) (bytes : List ℕ) → at ≡ length (front t (take j payloads)) → Grown t payloads j bytes → (j ≤ length payloads) × (tail : List ℕ) × (written bytes at (0 ∷ []) ≡ journal t (take j payloads) 0 tail)
  commit_byte_is_clear j at bytes is (clear le tail same) = (le, tail, ap (λ (b : List ℕ). written b at (0 ∷ [])) same ∙ written_byte (front t (take j payloads)) 0 0 tail at is)
  commit_byte_is_clear j at bytes is (half_open below commit_byte g0 g1 same) =
      let tail = body_of (get_or payloads j []) in
      (omega (arith, below), tail, ap (λ (b : List ℕ). written b at (0 ∷ [])) same ∙ written_byte (front t (take j payloads)) commit_byte 0 tail at is)

  -- the rest is cut off
  pub rest_cut : (j at : ℕ) (bytes : List ℕ) → at ≡ length (front t (take j payloads)) → Grown t payloads j bytes → (c : List ℕ) → Cut (at + 1) (written bytes at (0 ∷ [])) c → IsGrownPrefix t payloads j c
  rest_cut j at bytes is grows c cut =
      let closed = commit_byte_is_clear j at bytes is grows in
      let left = cut_rest (front t (take j payloads)) 0 closed.1 c at is (subst (λ b. Cut (at + 1) b c) closed.2 cut) in
      (j, omega arith, clear closed.0 left.0 left.1)

  -- a body is torn behind the commit byte of 0 at the journal's end
  pub body_torn : (j at n : ℕ) (bytes : List ℕ) → j < length payloads → at ≡ length (front t (take j payloads)) → bytes ≡ journal t (take j payloads) 0 [] → (c : List ℕ) → Torn (at + 1) n bytes c → IsGrownPrefix t payloads j c
  body_torn j at n bytes below is same c torn =
      let tail = torn_end (front t (take j payloads)) 0 c at n is (subst (λ b. Torn (at + 1) n b c) same torn) in
      (j, omega arith, clear (omega (arith, below)) tail.0 tail.1)

  -- the commit byte is torn before a body that is there
  pub opening_torn : (j at : ℕ) → j < length payloads → at ≡ length (front t (take j payloads)) → (c : List ℕ) → Torn at 1 (journal t (take j payloads) 0 (body_of (get_or payloads j []))) c → IsGrownPrefix t payloads j c
  opening_torn j at below is c torn =
      let from = torn_byte (front t (take j payloads)) 0 (body_of (get_or payloads j [])) c at is torn in
      subst (IsGrownPrefix t payloads j) (sym from.1) (any_commit_byte j from.0 below)

  -- a body is put behind the commit byte, and then the commit byte becomes 1
  pub first_put : (old new : Store) (bytes : List ℕ) (j at n : ℕ) → Lawful old → Quiet old → old.reads ≡ Some bytes → j < length payloads → at ≡ length (front t (take j payloads)) → bytes ≡ journal t (take j payloads) 0 [] → IfSome old.reads (λ b. LeavesOnly old new (Torn (at + 1) n b)) → LeavesOnly old new (IsGrownPrefix t payloads j)
  first_put old new bytes j at n lawful quiet is below place same moment =
      let here : IsGrownPrefix t payloads j bytes = (j, omega arith, clear (omega (arith, below)) [] same) in
      puts old (IsGrownPrefix t payloads j) old new bytes (at + 1) n (begins old (IsGrownPrefix t payloads j) bytes lawful is quiet here) is moment (body_torn j at n bytes below place same)

  pub second_put : (old mid new : Store) (bytes : List ℕ) (j at : ℕ) → LeavesOnly old mid (IsGrownPrefix t payloads j) → old.reads ≡ Some bytes → j < length payloads → at ≡ length (front t (take j payloads)) → bytes ≡ journal t (take j payloads) 0 [] → mid.reads ≡ option_map (λ b. written b (at + 1) (body_of (get_or payloads j []))) old.reads → IfSome mid.reads (λ b. LeavesOnly mid new (Torn at 1 b)) → LeavesOnly old new (IsGrownPrefix t payloads j)
  second_put old mid new bytes j at run is below place same maps moment =
      let body = body_of (get_or payloads j []) in
      let reads : mid.reads ≡ Some (journal t (take j payloads) 0 body) = mapped old.reads mid.reads (λ b. written b (at + 1) body) bytes is maps ∙ ap (λ (b : List ℕ). Some (written b (at + 1) body)) same ∙ ap Some (written_end (front t (take j payloads)) 0 body at place) in
      puts old (IsGrownPrefix t payloads j) mid new (journal t (take j payloads) 0 body) at 1 run reads moment (opening_torn j at below place)

-- the last byte's place
pub at_end : (bytes f : List ℕ) (at : ℕ) → at < length bytes → bytes ≡ take at bytes ++ 0 ∷ [] → bytes ≡ f ++ 0 ∷ [] → at ≡ length f
at_end bytes f at below last same = omega (arith, below, ap length last, ap length same, length-append (take at bytes) (0 ∷ []), length-take at bytes, length-append f (0 ∷ []))

body_length : (p : List ℕ) → length (body_of p) ≡ length p + 5
unfolding body_of
body_length p = omega (arith, length-append (to_be_bytes w32 (length p) ++ p) (0 ∷ []), length-append (to_be_bytes w32 (length p)) p, four (length p))
  where
    four : (n : ℕ) → length (to_be_bytes w32 n) ≡ 4
    four n = refl

pub body_short : (bytes : List ℕ) → IsBody bytes → length bytes ≤ 2 ^ 26 + 5
body_short bytes is = omega (arith, ap length is.2, body_length is.0, is.1)

module _ (old new : Store) (bytes : List ℕ) (lawful : Lawful old) (quiet : Quiet old) (is : old.reads ≡ Some bytes) (at : ℕ) where
  -- the commit byte was only read
  pub commit_byte_read : (mid : Store) → Stays old mid → (t : Title) (payloads : List (List ℕ)) (j : ℕ) → Grown t payloads j bytes → LeavesOnly old mid (IsGrownPrefix t payloads j)
  commit_byte_read mid same t payloads j grows = stays_on old old mid (IsGrownPrefix t payloads j) (begins old (IsGrownPrefix t payloads j) bytes lawful is quiet (j, omega arith, grows)) same

  -- a commit byte that was not 0 is put to 0
  pub commit_byte_put : (mid : Store) → Stays old mid → get_or bytes at 1 ≢ 0 → IfSome mid.reads (λ b. LeavesOnly mid new (Torn at 1 b)) → (t : Title) (payloads : List (List ℕ)) (j : ℕ) → at ≡ length (front t (take j payloads)) → Grown t payloads j bytes → LeavesOnly old new (IsGrownPrefix t payloads j)
  commit_byte_put mid same not_zero moment t payloads j place grows =
      puts old (IsGrownPrefix t payloads j) mid new bytes at 1 (commit_byte_read mid same t payloads j grows) (same.reads ∙ is) moment (commit_byte_torn t payloads j at bytes place grows not_zero)

  -- the rest is cut off behind a commit byte of 0
  pub rest_off : (mid : Store) (t : Title) (payloads : List (List ℕ)) (j : ℕ) → LeavesOnly old mid (IsGrownPrefix t payloads j) → mid.reads ≡ option_map (λ b. written b at (0 ∷ [])) old.reads → IfSome mid.reads (λ b. LeavesOnly mid new (Cut (at + 1) b)) → at ≡ length (front t (take j payloads)) → Grown t payloads j bytes → LeavesOnly old new (IsGrownPrefix t payloads j)
  rest_off mid t payloads j run maps moment place grows =
      cuts old (IsGrownPrefix t payloads j) mid new (written bytes at (0 ∷ [])) (at + 1) run (mapped old.reads mid.reads (λ b. written b at (0 ∷ [])) bytes is maps) moment (rest_cut t payloads j at bytes place grows)

-- a crash while a disk is repaired, whether it tells its bytes or not
module _ (old mid new : Store) (lawful : Lawful old) (quiet : Quiet old) (at : ℕ) where
  pub commit_byte_read_leaves : Stays old mid → LeavesGrown at old mid
  commit_byte_read_leaves same = told old.reads (λ bytes is t payloads j place grows. commit_byte_read old old bytes lawful quiet is at mid same t payloads j grows)

  pub commit_byte_put_leaves : Stays old mid → (byte : ℕ) → byte ≢ 0 → IfSome old.reads (λ b. byte ≡ get_or b at 1) → IfSome mid.reads (λ b. LeavesOnly mid new (Torn at 1 b)) → LeavesGrown at old new
  commit_byte_put_leaves same byte set reads moment = told old.reads (λ bytes is t payloads j place grows.
      let not_zero : get_or bytes at 1 ≢ 0 = λ zero. set (known (λ b. byte ≡ get_or b at 1) old.reads bytes is reads ∙ zero) in
      commit_byte_put old new bytes lawful quiet is at mid same not_zero moment t payloads j place grows)

  pub rest_off_leaves : LeavesGrown at old mid → mid.reads ≡ option_map (λ b. written b at (0 ∷ [])) old.reads → IfSome mid.reads (λ b. LeavesOnly mid new (Cut (at + 1) b)) → LeavesGrown at old new
  rest_off_leaves shuts maps moment = told old.reads (λ bytes is t payloads j place grows.
      let run = known (λ b. (t : Title) (payloads : List (List ℕ)) (j : ℕ) → at ≡ length (front t (take j payloads)) → Grown t payloads j b → LeavesOnly old mid (IsGrownPrefix t payloads j)) old.reads bytes is shuts t payloads j place grows in
      rest_off old new bytes lawful quiet is at mid t payloads j run maps moment place grows)

-- a crash while a record is appended
abbrev pub LeavesAppended : ℕ → List ℕ → Store → Store → Type 0
LeavesAppended at body old new = IfSome old.reads (λ bytes. (t : Title) (payloads : List (List ℕ)) (j : ℕ) → j < length payloads → bytes ≡ journal t (take j payloads) 0 [] → body ≡ body_of (get_or payloads j []) → LeavesOnly old new (IsGrownPrefix t payloads j))

module _ (old mid new : Store) (lawful : Lawful old) (quiet : Quiet old) (at : ℕ) (body : List ℕ) (last : IfSome old.reads (λ b. (at < length b) × (b ≡ take at b ++ 0 ∷ []))) (moment : IfSome old.reads (λ b. LeavesOnly old mid (Torn (at + 1) (length body) b))) where
  place_of : (bytes : List ℕ) → old.reads ≡ Some bytes → (t : Title) (payloads : List (List ℕ)) (j : ℕ) → bytes ≡ journal t (take j payloads) 0 [] → at ≡ length (front t (take j payloads))
  place_of bytes is t payloads j same =
      let ends = known (λ b. (at < length b) × (b ≡ take at b ++ 0 ∷ [])) old.reads bytes is last in
      at_end bytes (front t (take j payloads)) at ends.0 ends.1 same

  pub body_put_leaves : LeavesAppended at body old mid
  body_put_leaves = told old.reads (λ bytes is t payloads j below same spells.
      first_put t payloads old mid bytes j at (length body) lawful quiet is below (place_of bytes is t payloads j same) same moment)

  pub commit_byte_opened_leaves : mid.reads ≡ option_map (λ b. written b (at + 1) body) old.reads → IfSome mid.reads (λ b. LeavesOnly mid new (Torn at 1 b)) → LeavesAppended at body old new
  commit_byte_opened_leaves maps opens = told old.reads (λ bytes is t payloads j below same spells.
      let place = place_of bytes is t payloads j same in
      let run = first_put t payloads old mid bytes j at (length body) lawful quiet is below place same moment in
      second_put t payloads old mid new bytes j at run is below place same (subst (λ (p : List ℕ). mid.reads ≡ option_map (λ b. written b (at + 1) p) old.reads) spells maps) opens)
