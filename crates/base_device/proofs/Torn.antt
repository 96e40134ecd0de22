-- A torn disk holds 165 in each place that was written since the last sync, and is the same elsewhere.
use Rattle.std.proofs.Common.{◌≡◌, ◌⊎◌, inl, inr, ⊎_elim, ℕ, ◌+◌, ◌-◌, ◌≤◌, ◌<◌, max, List, [], ◌∷◌, ◌++◌, length, get_or, take, drop, replicate, refl, sym, ◌∙◌, ap, arith, length-append, length-take}
use Rattle.std.proofs.lemmas.List.{get_or-take, get_or-drop, get_or-replicate, get_or_append_left, get_or-append_right, length-replicate}
use Rattle.std.proofs.lemmas.Bool.{cases_lt}
use Rattle.base_device.specs.Disks.{written}
use Rattle.base_device.specs.Changes.{Change, wrote, cut_to, synced, Contents, at_rest, changed, after_changes, Placed}
use Rattle.base_device.specs.Crashes.{Rewritten, IsTorn}
use Rattle.base_device.specs.MemoryDisks.{MemoryDisk, contents_of}
use Rattle.base_device.proofs.Steps.{length_written, cut_alike}

-- a byte before, inside and behind the range of a write
module _ (d : List ℕ) (at : ℕ) (piece : List ℕ) (i : ℕ) (le : at ≤ length d) where
  front : length (take at d) ≡ at
  front = omega (arith, le, length-take at d)

  both : length (take at d ++ piece) ≡ at + length piece
  both = omega (arith, front, length-append (take at d) piece)

  pub byte_before : i < at → get_or (written d at piece) i 0 ≡ get_or d i 0
  byte_before lt =
      get_or_append_left (take at d ++ piece) (drop (at + length piece) d) 0 i (omega (arith, both, lt))
      ∙ get_or_append_left (take at d) piece 0 i (omega (arith, front, lt))
      ∙ get_or-take at d i 0 lt

  pub byte_inside : at ≤ i → i < at + length piece → get_or (written d at piece) i 0 ≡ get_or piece (i - at) 0
  byte_inside ge lt =
      get_or_append_left (take at d ++ piece) (drop (at + length piece) d) 0 i (omega (arith, both, lt)) ∙ get_or-append_right (take at d) piece at i 0 front ge

  pub byte_behind : at + length piece ≤ i → get_or (written d at piece) i 0 ≡ get_or d i 0
  byte_behind ge =
      let place : at + length piece + (i - (at + length piece)) ≡ i = omega (arith, ge) in
      get_or-append_right (take at d ++ piece) (drop (at + length piece) d) (at + length piece) i 0 both ge
      ∙ get_or-drop (at + length piece) d (i - (at + length piece)) 0
      ∙ ap (λ k. get_or d k 0) place

-- what holds of a torn content after some changes, where `was` tells the places that were written
record Marks (was : ℕ → Type 0) (s : Contents) : Type 0 where
  long : length s.torn ≡ length s.kept
  marked : (i : ℕ) → i < length s.kept → was i → get_or s.torn i 0 ≡ 165
  others : (i : ℕ) → i < length s.kept → (was i → ⊥) → get_or s.torn i 0 ≡ get_or s.kept i 0

zones : (at n i : ℕ) → (i < at) ⊎ (((at ≤ i) × (i < at + n)) ⊎ (at + n ≤ i))
zones at n i = ⊎_elim inl (λ ge. ⊎_elim (λ lt. inr (inl (ge, lt))) (λ behind. inr (inr behind)) (cases_lt i (at + n))) (cases_lt i at)

marks_write : (was : ℕ → Type 0) (s : Contents) (at : ℕ) (piece : List ℕ) → at ≤ length s.kept → Marks was s → Marks (λ i. was i ⊎ ((at ≤ i) × (i < at + length piece))) (changed (wrote at piece) s)
marks_write was s at piece le is = record {
  long = omega (arith, is.long, long_torn, long_kept, many);
  marked = λ i lt w. elim (zones at (length piece) i) [
    | inl before ↦ byte_before s.torn at torn i here before ∙ is.marked i (omega (arith, le, before)) (old i w (λ here. omega (arith, here.0, before)))
    | inr (inl amid) ↦ inside i amid
    | inr (inr behind) ↦ byte_behind s.torn at torn i here (omega (arith, behind, many)) ∙ is.marked i (omega (arith, long_kept, lt, behind)) (old i w (λ here. omega (arith, here.1, behind)))
  ];
  others = λ i lt no. elim (zones at (length piece) i) [
    | inl before ↦
        byte_before s.torn at torn i here before ∙ is.others i (omega (arith, le, before)) (λ w. no (inl w)) ∙ sym (byte_before s.kept at piece i le before)
    | inr (inl amid) ↦ absurd (no (inr amid))
    | inr (inr behind) ↦
        byte_behind s.torn at torn i here (omega (arith, behind, many)) ∙ is.others i (omega (arith, long_kept, lt, behind)) (λ w. no (inl w)) ∙ sym (byte_behind s.kept at piece i le behind)
  ];
}
  where
    torn : List ℕ
    torn = replicate (length piece) 165

    many : length torn ≡ length piece
    many = length-replicate {A = ℕ} (length piece) 165

    here : at ≤ length s.torn
    here = omega (arith, le, is.long)

    long_torn : length (written s.torn at torn) ≡ max (length s.torn) (at + length torn)
    long_torn = length_written s.torn at torn here

    long_kept : length (written s.kept at piece) ≡ max (length s.kept) (at + length piece)
    long_kept = length_written s.kept at piece le

    old : (i : ℕ) → was i ⊎ ((at ≤ i) × (i < at + length piece)) → ((at ≤ i) × (i < at + length piece) → ⊥) → was i
    old i (inl w) never = w
    old i (inr amid) never = absurd (never amid)

    inside : (i : ℕ) → (at ≤ i) × (i < at + length piece) → get_or (written s.torn at torn) i 0 ≡ 165
    inside i amid = byte_inside s.torn at torn i here amid.0 (omega (arith, amid.1, many)) ∙ get_or-replicate {A = ℕ} (length piece) (i - at) 165 0 (omega (arith, amid.0, amid.1))

marks_cut : (was : ℕ → Type 0) (s : Contents) (len : ℕ) → Marks was s → Marks was (changed (cut_to len) s)
marks_cut was s len is = record {
  long = cut_alike len s.torn s.kept is.long;
  marked = λ i lt w. get_or-take len s.torn i 0 (low i lt) ∙ is.marked i (omega (arith, lt, length-take len s.kept)) w;
  others = λ i lt no. get_or-take len s.torn i 0 (low i lt) ∙ is.others i (omega (arith, lt, length-take len s.kept)) no ∙ sym (get_or-take len s.kept i 0 (low i lt));
}
  where
    low : (i : ℕ) → i < length (take len s.kept) → i < len
    low i lt = omega (arith, lt, length-take len s.kept)

marks : (xs : List Change) (was : ℕ → Type 0) (s : Contents) → Placed xs s → Marks was s → Marks (λ i. Rewritten (was i) xs i) (after_changes xs s)
marks [] was s placed is = is
marks (wrote at piece ∷ xs) was s placed is = marks xs _ _ placed.1 (marks_write was s at piece placed.0 is)
marks (cut_to len ∷ xs) was s placed is = marks xs _ _ placed (marks_cut was s len is)
marks (synced ∷ xs) was s placed is = marks xs (λ i. ⊥) _ placed (record { long = refl; marked = λ i lt w. absurd w; others = λ i lt no. refl })

pub is_torn : (disk : MemoryDisk) → Placed disk.log (at_rest disk.initial) → IsTorn disk (contents_of disk).torn
is_torn disk placed =
    let all = marks disk.log (λ i. ⊥) (at_rest disk.initial) placed (record { long = refl; marked = λ i lt w. absurd w; others = λ i lt no. refl }) in
    record {
      long = all.long;
      marked = λ i lt w. all.marked i (omega (arith, lt, all.long)) w;
      others = λ i lt no. all.others i (omega (arith, lt, all.long)) no;
    }
