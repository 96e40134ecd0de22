-- A write and a cut that go through are among what a crash may make of them.
use Rattle.std.proofs.Common.{◌≡◌, ℕ, zero, suc, ◌+◌, ◌≤◌, max, List, [], ◌∷◌, ◌++◌, length, take, drop, replicate, refl, ◌∙◌, ap, subst, arith, length-append, length-drop, length-take, append_assoc}
use Rattle.std.proofs.lemmas.List.{take_at, drop_at, length-replicate}
use Rattle.base_device.specs.Disks.{written, Torn, Cut}

pub length_written : (d : List ℕ) (at : ℕ) (piece : List ℕ) → at ≤ length d → length (written d at piece) ≡ max (length d) (at + length piece)
length_written d at piece le =
    omega (arith, length-append (take at d ++ piece) (drop (at + length piece) d), length-append (take at d) piece, length-take at d, length-drop (at + length piece) d)

pub torn_written : (at : ℕ) (piece d : List ℕ) → at ≤ length d → Torn at (length piece) d (written d at piece)
torn_written at piece d le = record {
  before = ap (λ (l : List ℕ). take at l) (append_assoc (take at d) piece (drop (at + length piece) d)) ∙ take_at (take at d) (piece ++ drop (at + length piece) d) at front;
  after = drop_at (take at d ++ piece) (drop (at + length piece) d) (at + length piece) both;
  no_shorter = omega (arith, length_written d at piece le);
  no_longer = omega (arith, length_written d at piece le);
}
  where
    front : length (take at d) ≡ at
    front = omega (arith, le, length-take at d)

    both : length (take at d ++ piece) ≡ at + length piece
    both = omega (arith, front, length-append (take at d) piece)

pub torn_marked : (at n : ℕ) (d : List ℕ) → at ≤ length d → Torn at n d (written d at (replicate n 165))
torn_marked at n d le = subst (λ m. Torn at m d (written d at (replicate n 165))) (length-replicate n 165) (torn_written at (replicate n 165) d le)

pub take_front : {X : Type 0} (n : ℕ) (d : List X) → take (length (take n d)) d ≡ take n d
take_front zero d = refl
take_front (suc n) [] = refl
take_front (suc n) (x ∷ d) = ap (λ l. x ∷ l) (take_front n d)

pub cut_taken : (n : ℕ) (d : List ℕ) → Cut n d (take n d)
cut_taken n d = record { no_shorter = omega (arith, length-take n d); front = take_front n d }

-- cuts of two lists of one length
pub cut_alike : (n : ℕ) (a b : List ℕ) → length a ≡ length b → length (take n a) ≡ length (take n b)
cut_alike n a b same = omega (arith, same, length-take n a, length-take n b)
