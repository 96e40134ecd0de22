-- A chain of nodes, each the next one's predecessor: it has no cycle, and its first node reaches all.
use Rattle.std.proofs.Common.{◌≡◌, ℕ, zero, suc, ◌+◌, ◌<◌, ◌≤◌, ◌⊎◌, inl, inr, ◌==◌, ◌||◌, not, sym, List, [], ◌∷◌, length, map, get_or, Bool, true, false, nat_lt, None, if◌then◌else◌, find, refl, ap, ◌∙◌, arith}
use Rattle.std.specs.List.{list_any, range_with_len}
use Rattle.std.proofs.lemmas.Bool.{cases_lt, ne_eqb, lt-ltb}
use Rattle.std.proofs.lemmas.Bool.Decides.{nat_tests}
use Rattle.std.proofs.lemmas.List.FromFn.{length-map-range_with_len, get_or-map-range_with_len}
use Rattle.base_graph.specs.Paths.{numbers, arcs_from, within, reached, in_cycle, first_in_cycle, first_unreached}

-- the next node of n nodes
abbrev pub next : ℕ → ℕ → List ℕ
next n m = if nat_lt (suc m) n then suc m ∷ [] else []

abbrev pub chain : ℕ → List (List ℕ)
chain n = map (next n) (numbers n)

pub length-chain : (n : ℕ) → length (chain n) ≡ n
length-chain n = length-map-range_with_len (next n) 0 n

get_or-past : (xs : List (List ℕ)) (m : ℕ) → length xs ≤ m → get_or xs m [] ≡ []
get_or-past [] m h = refl
get_or-past (x ∷ xs) zero h = absurd (omega arith)
get_or-past (x ∷ xs) (suc m) h = get_or-past xs m (omega arith)

pub successors_within : (n m : ℕ) → m < n → arcs_from (chain n) m ≡ next n m
successors_within n m h = get_or-map-range_with_len (next n) 0 n m m [] h (omega arith)

successors_past : (n m : ℕ) → n ≤ m → arcs_from (chain n) m ≡ []
successors_past n m h = get_or-past (chain n) m (omega (arith, length-chain n))

pub itself : (m : ℕ) → (m == m) ≡ true
itself m = grind (arith, nat_tests)

-- a step leads to nothing where the next node leads to nothing
none_on : (n k m j : ℕ) → within (chain n) k (suc m) j ≡ false → list_any (λ l. within (chain n) k l j) (arcs_from (chain n) m) ≡ false
none_on n k m j e = by (cases_lt m n)
  where
    more : (b : Bool) → list_any (λ l. within (chain n) k l j) (if b then suc m ∷ [] else []) ≡ false
    more true = rw e refl
    more false = refl

    by : (m < n) ⊎ (n ≤ m) → list_any (λ l. within (chain n) k l j) (arcs_from (chain n) m) ≡ false
    by (inl p) = rw (successors_within n m p) (more (nat_lt (suc m) n))
    by (inr p) = rw (successors_past n m p) refl

-- no path leads back
away : (n k m j : ℕ) → j < m → within (chain n) k m j ≡ false
away n zero m j h = ne_eqb m j (λ e. omega arith)
away n (suc k) m j h = rw (ne_eqb m j (λ e. omega arith)) (none_on n k m j (away n k (suc m) j (omega arith)))

not_back : (n m : ℕ) → in_cycle (chain n) m ≡ false
unfolding reached
not_back n m = none_on n (length (chain n)) m m (away n (length (chain n)) (suc m) m (omega arith))

some_on : (n k m j : ℕ) → suc m < n → within (chain n) k (suc m) j ≡ true → list_any (λ l. within (chain n) k l j) (arcs_from (chain n) m) ≡ true
some_on n k m j p e = rw (successors_within n m (omega arith), lt-ltb (suc m) n p, e) refl

or_right : (a b : Bool) → b ≡ true → (a || b) ≡ true
or_right true b e = refl
or_right false b e = e

-- d steps lead from a to a + d
forth : (n d k a : ℕ) → d ≤ k → a + d < n → within (chain n) k a (a + d) ≡ true
forth n zero zero a l h = let e : a + 0 ≡ a = omega arith in rw e (itself a)
forth n zero (suc k) a l h = let e : a + 0 ≡ a = omega arith in rw (e, itself a) refl
forth n (suc d) zero a l h = absurd (omega arith)
forth n (suc d) (suc k) a l h =
    let e : suc a + d ≡ a + suc d = omega arith in
    or_right (a == a + suc d) _ (some_on n k a (a + suc d) (omega arith) (ap (within (chain n) k (suc a)) (sym e) ∙ forth n d k (suc a) (omega arith) (omega arith)))

all_reached : (n m : ℕ) → m < n → reached (chain n) (0 ∷ []) m ≡ true
unfolding reached
all_reached n m h =
    let e : 0 + m ≡ m = omega arith in
    let there : within (chain n) (length (chain n)) 0 m ≡ true = ap (within (chain n) (length (chain n)) 0) (sym e) ∙ forth n m (length (chain n)) 0 (omega (arith, length-chain n)) (omega arith) in
    rw there refl

pub none_found : (p : ℕ → Bool) (a n : ℕ) → ((m : ℕ) → m < a + n → p m ≡ false) → find p (range_with_len a n) ≡ None
none_found p a zero h = refl
none_found p a (suc n) h = rw (h a (omega arith)) (none_found p (a + 1) n (λ m l. h m (omega arith)))

pub no_cycle : (n : ℕ) → first_in_cycle (chain n) ≡ None
unfolding first_in_cycle
no_cycle n = none_found (in_cycle (chain n)) 0 (length (chain n)) (λ m l. not_back n m)

pub none_unreached : (n : ℕ) → first_unreached (chain n) (0 ∷ []) ≡ None
unfolding first_unreached
none_unreached n = none_found (λ m. not (reached (chain n) (0 ∷ []) m)) 0 (length (chain n)) (λ m l. ap not (all_reached n m (omega (arith, length-chain n))))
