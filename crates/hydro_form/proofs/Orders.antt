-- Names that are compared byte by byte.
use Rattle.std.proofs.Common.{◌≡◌, ℕ, ◌<◌, ◌≤◌, ◌⊎◌, inl, inr, List, [], ◌∷◌, Less, Equal, Greater, nat_cmp, ap, ◌∙◌, arith}
use Rattle.std.specs.Cmp.Lexicographic.{slice_cmp}
use Rattle.std.specs.Ordering.{ordering_reverse, ordering_then}
use Rattle.std.proofs.lemmas.Cmp.{nat_list_cmp_total}
use Rattle.std.proofs.lemmas.Bool.Decides.{nat_tests}

pub less : (x y : ℕ) → x < y → nat_cmp x y ≡ Less
less x y h = grind (arith, nat_tests)

pub same : (x y : ℕ) → x ≡ y → nat_cmp x y ≡ Equal
same x y h = grind (arith, nat_tests)

pub first_less : (x y : ℕ) (xs ys : List ℕ) → x < y → slice_cmp nat_cmp (x ∷ xs) (y ∷ ys) ≡ Less
first_less x y xs ys h = ap (λ o. ordering_then o (slice_cmp nat_cmp xs ys)) (less x y h)

pub later_less : (x y : ℕ) (xs ys : List ℕ) → x ≡ y → slice_cmp nat_cmp xs ys ≡ Less → slice_cmp nat_cmp (x ∷ xs) (y ∷ ys) ≡ Less
later_less x y xs ys e h = ap (λ o. ordering_then o (slice_cmp nat_cmp xs ys)) (same x y e) ∙ h

-- the first digit decides, and where both have the same one the second does
pub two_digits : (a b c d : ℕ) → (a < c) ⊎ (c ≤ a) → a ≤ c → (c ≤ a → b < d) → slice_cmp nat_cmp (a ∷ b ∷ []) (c ∷ d ∷ []) ≡ Less
two_digits a b c d (inl h) most then = first_less a c (b ∷ []) (d ∷ []) h
two_digits a b c d (inr h) most then = later_less a c (b ∷ []) (d ∷ []) (omega arith) (first_less b d [] [] (then h))

pub three_digits : (a b c d e f : ℕ) (xs ys : List ℕ) → (a < d) ⊎ (d ≤ a) → (b < e) ⊎ (e ≤ b) → (c < f) ⊎ (f ≤ c) → a ≤ d → (d ≤ a → b ≤ e) → (d ≤ a → e ≤ b → c ≤ f)
    → (d ≤ a → e ≤ b → f ≤ c → slice_cmp nat_cmp xs ys ≡ Less) → slice_cmp nat_cmp (a ∷ b ∷ c ∷ xs) (d ∷ e ∷ f ∷ ys) ≡ Less
three_digits a b c d e f xs ys (inl h) s t m1 m2 m3 more = first_less a d (b ∷ c ∷ xs) (e ∷ f ∷ ys) h
three_digits a b c d e f xs ys (inr h) (inl s) t m1 m2 m3 more = later_less a d (b ∷ c ∷ xs) (e ∷ f ∷ ys) (omega arith) (first_less b e (c ∷ xs) (f ∷ ys) s)
three_digits a b c d e f xs ys (inr h) (inr s) (inl t) m1 m2 m3 more =
    let l : b ≤ e = m2 h in
    later_less a d (b ∷ c ∷ xs) (e ∷ f ∷ ys) (omega arith) (later_less b e (c ∷ xs) (f ∷ ys) (omega arith) (first_less c f xs ys t))
three_digits a b c d e f xs ys (inr h) (inr s) (inr t) m1 m2 m3 more =
    let l : b ≤ e = m2 h in
    let k : c ≤ f = m3 h s in
    later_less a d (b ∷ c ∷ xs) (e ∷ f ∷ ys) (omega arith) (later_less b e (c ∷ xs) (f ∷ ys) (omega arith) (later_less c f xs ys (omega arith) (more h s t)))

-- the other way round
pub above_from_below : (xs ys : List ℕ) → slice_cmp nat_cmp xs ys ≡ Less → slice_cmp nat_cmp ys xs ≡ Greater
above_from_below xs ys h = nat_list_cmp_total.antisymm ys xs ∙ ap ordering_reverse h
