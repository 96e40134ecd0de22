-- Sums, products and least common multiples of numbers that stop at a cap.
use Rattle.std.proofs.Common.{◌≡◌, ◌∙◌, ℕ, zero, suc, ◌+◌, ◌*◌, ◌<◌, ◌≤◌, min, List, [], ◌∷◌, map, sum, All, Contains, length, get_or, drop, ◌⊎◌, inl, inr, refl, sym, ap, arith}
use Rattle.std.proofs.lemmas.Bool.{cases_lt}
use Rattle.std.proofs.lemmas.List.Sums.{sum_by-cons}
use Rattle.std.proofs.lemmas.List.{drop_all, drop_more}
use Rattle.std.proofs.lemmas.List.Elements.{All-cons, All-drop, All-nil}
use Rattle.policy_evaluate.specs.Multiples.{lcm, lcm_all}
use Rattle.policy_evaluate.proofs.Divisors.{lcm_second, lcm_positive, lcm_all_least}

-- numbers at or above the cap stop alike
pub both_stop : (x y cap : ℕ) → cap ≤ x → cap ≤ y → min x cap ≡ min y cap
both_stop x y cap h k = omega arith

-- a factor may be stopped before
pub product_stops : (a x cap : ℕ) → min (a * min x cap) cap ≡ min (a * x) cap
product_stops zero x cap = omega arith
product_stops (suc a) x cap = by (cases_lt x cap)
  where
    by : (x < cap) ⊎ (cap ≤ x) → min (suc a * min x cap) cap ≡ min (suc a * x) cap
    by (inl h) = let same : min x cap ≡ x = omega arith in ap (λ (k : ℕ). min (suc a * k) cap) same
    by (inr h) =
        let same : min x cap ≡ cap = omega arith in
        ap (λ (k : ℕ). min (suc a * k) cap) same ∙ both_stop (suc a * cap) (suc a * x) cap (omega arith) (omega arith)

-- and so may a summand
pub summand_stops : (a x cap : ℕ) → min (a + min x cap) cap ≡ min (a + x) cap
summand_stops a x cap = omega arith

-- the sum of stopped numbers
pub sum_stops : (f g : ℕ → ℕ) (cap : ℕ) (ks : List ℕ) → ((k : ℕ) → Contains ks k → f k ≡ min (g k) cap) → min (sum (map f ks)) cap ≡ min (sum (map g ks)) cap
sum_stops f g cap [] h = refl
sum_stops f g cap (k ∷ ks) h =
    let first : f k ≡ min (g k) cap = h k (0, omega arith, refl) in
    let tail : min (sum (map f ks)) cap ≡ min (sum (map g ks)) cap = sum_stops f g cap ks (λ i c. h i (suc c.0, omega (arith, c.1), c.2)) in
    omega (arith, first, tail, sum_by-cons (λ i. i) (f k) (map f ks), sum_by-cons (λ i. i) (g k) (map g ks))

pub all_positive : (f : ℕ → ℕ) (ks : List ℕ) → ((k : ℕ) → Contains ks k → 0 < f k) → All (λ b. 0 < b) (map f ks)
all_positive f [] h = All-nil (λ b. 0 < b)
all_positive f (k ∷ ks) h = All-cons (λ b. 0 < b) (f k) (map f ks) (h k (0, omega arith, refl)) (all_positive f ks (λ i c. h i (suc c.0, omega (arith, c.1), c.2)))

-- least common multiples of stopped numbers
pub multiple_stops : (a cap : ℕ) (bs : List ℕ) → 0 < a → 0 < cap → All (λ b. 0 < b) bs → min (lcm_all (min a cap) bs) cap ≡ min (lcm_all a bs) cap
multiple_stops a cap bs h k p = by (cases_lt a cap)
  where
    by : (a < cap) ⊎ (cap ≤ a) → min (lcm_all (min a cap) bs) cap ≡ min (lcm_all a bs) cap
    by (inl l) = let same : min a cap ≡ a = omega arith in ap (λ (b : ℕ). min (lcm_all b bs) cap) same
    by (inr l) =
        let same : min a cap ≡ cap = omega arith in
        let least : cap ≤ lcm_all cap bs = lcm_all_least cap bs k p in
        let whole : a ≤ lcm_all a bs = lcm_all_least a bs h p in
        ap (λ (b : ℕ). min (lcm_all b bs) cap) same ∙ both_stop (lcm_all cap bs) (lcm_all a bs) cap least (omega (arith, whole))

pub multiples_stop : (f g : ℕ → ℕ) (a cap : ℕ) (ks : List ℕ) → 0 < a → 0 < cap → ((k : ℕ) → Contains ks k → (f k ≡ min (g k) cap) × (0 < g k)) → min (lcm_all a (map f ks)) cap ≡ min (lcm_all a (map g ks)) cap
multiples_stop f g a cap [] h some e = refl
multiples_stop f g a cap (k ∷ ks) h some e = by (cases_lt (g k) cap) (multiples_stop f g (lcm a (g k)) cap ks (lcm_positive a (g k) h (e k (0, omega arith, refl)).1) some (λ i c. e i (suc c.0, omega (arith, c.1), c.2)))
  where
    here : (f k ≡ min (g k) cap) × (0 < g k)
    here = e k (0, omega arith, refl)

    later : (i : ℕ) → Contains ks i → (f i ≡ min (g i) cap) × (0 < g i)
    later i c = e i (suc c.0, omega (arith, c.1), c.2)

    positive : 0 < f k
    positive = omega (arith, here.0, here.1, some)

    by : (g k < cap) ⊎ (cap ≤ g k) → min (lcm_all (lcm a (g k)) (map f ks)) cap ≡ min (lcm_all (lcm a (g k)) (map g ks)) cap → min (lcm_all (lcm a (f k)) (map f ks)) cap ≡ min (lcm_all (lcm a (g k)) (map g ks)) cap
    by (inl l) tail =
        let same : f k ≡ g k = omega (arith, here.0) in
        ap (λ (b : ℕ). min (lcm_all (lcm a b) (map f ks)) cap) same ∙ tail
    by (inr l) tail =
        let full : f k ≡ cap = omega (arith, here.0) in
        let left : lcm a (f k) ≤ lcm_all (lcm a (f k)) (map f ks) = lcm_all_least (lcm a (f k)) (map f ks) (lcm_positive a (f k) h positive) (all_positive f ks (λ i c. let q = later i c in omega (arith, q.0, q.1, some))) in
        let right : lcm a (g k) ≤ lcm_all (lcm a (g k)) (map g ks) = lcm_all_least (lcm a (g k)) (map g ks) (lcm_positive a (g k) h here.1) (all_positive g ks (λ i c. (later i c).1)) in
        both_stop (lcm_all (lcm a (f k)) (map f ks)) (lcm_all (lcm a (g k)) (map g ks)) cap
        (omega (arith, left, lcm_second a (f k) h, full)) (omega (arith, right, lcm_second a (g k) h, l))

-- one number more goes into a stopped multiple
pub record Goes (bs : List ℕ) (cap i multiple : ℕ) : Type 0 where
  pub value : min (lcm_all multiple (drop i bs)) cap ≡ min (lcm_all 1 bs) cap
  pub some : 0 < multiple
  pub small : multiple ≤ cap

pub multiple_goes : (bs : List ℕ) (cap i a next : ℕ) → 0 < cap → All (λ b. 0 < b) bs → i < length bs → Goes bs cap i a → next ≡ min (lcm a (get_or bs i 0)) cap → Goes bs cap (i + 1) next
multiple_goes bs cap i a next k p h g e =
    let b : ℕ = get_or bs i 0 in
    let some : 0 < lcm a b = lcm_positive a b g.some (p i 0 h) in
    record {
      value = ap (λ (c : ℕ). min (lcm_all c (drop (i + 1) bs)) cap) e
          ∙ multiple_stops (lcm a b) cap (drop (i + 1) bs) some k (All-drop (λ b. 0 < b) (i + 1) bs p)
          ∙ sym (ap (λ (cs : List ℕ). min (lcm_all a cs) cap) (drop_more bs i 0 h))
          ∙ g.value;
      some = omega (arith, e, some, k);
      small = omega (arith, e);
    }

pub multiple_done : (bs : List ℕ) (cap i a : ℕ) → length bs ≤ i → Goes bs cap i a → a ≡ min (lcm_all 1 bs) cap
multiple_done bs cap i a h g =
    let end : min (lcm_all a (drop i bs)) cap ≡ min a cap = ap (λ (cs : List ℕ). min (lcm_all a cs) cap) (drop_all i bs h) in
    omega (arith, g.small, g.value, end)
