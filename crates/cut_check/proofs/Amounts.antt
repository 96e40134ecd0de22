-- Sums of amounts over a list or by a count: one element more, and the whole where a front is out of range already.
use Rattle.std.proofs.Common.{◌≡◌, ℕ, zero, suc, ◌+◌, ◌^◌, ◌<◌, ◌≤◌, List, length, take, get_or, arith, ap, ap₂, sym, subst, ◌∙◌, add-one, ⊎_elim, min, zip, take_all}
use Rattle.std.proofs.lemmas.Slice.Zip.{get_or-zip, length-zip}
use Rattle.std.specs.List.{sum_by}
use Rattle.std.proofs.lemmas.Bool.{cases_lt}
use Rattle.std.proofs.lemmas.List.{take_more}
use Rattle.std.proofs.lemmas.List.Sums.{sum_by_push, sum_by-take-le}
use Rattle.cut_make.specs.SizeByTerms.{count_by}

sum_by-more : {X : Type 0} (f : X → ℕ) (xs : List X) (i : ℕ) (d : X) → i < length xs → sum_by f (take (i + 1) xs) ≡ sum_by f (take i xs) + f (get_or xs i d)
sum_by-more f xs i d h = ap (sum_by f) (take_more xs i d h) ∙ sum_by_push f (take i xs) (get_or xs i d)

module _ {X : Type 0} (f : X → ℕ) (xs : List X) (i b s : ℕ) (d : X) (h : i < length xs) (e : s ≡ b + sum_by f (take i xs)) where
  step : s + f (get_or xs i d) ≡ b + sum_by f (take (i + 1) xs)
  step = let m = sum_by-more f xs i d h in omega (arith, e, m)

  -- with the element i the sum of the front is that of the next
  pub adds_more : (t : ℕ) → t ≡ s + f (get_or xs i d) → t ≡ b + sum_by f (take (i + 1) xs)
  adds_more t k = k ∙ step

  -- where that is out of range, so is the whole
  pub adds_past : 2 ^ 127 ≤ s + f (get_or xs i d) → 2 ^ 127 ≤ b + sum_by f xs
  adds_past k = let l = sum_by-take-le f xs (i + 1) in omega (arith, k, l, step)

-- the order of sums by a count
count_by-le : (i n : ℕ) (f : ℕ → ℕ) → i ≤ n → count_by i f ≤ count_by n f
count_by-le i zero f h = let e : i ≡ 0 = omega arith in rw e (omega arith)
count_by-le i (suc n) f h = ⊎_elim (λ (l : n < i). let e : i ≡ suc n = omega arith in rw e (omega arith)) (λ (l : i ≤ n). let m = count_by-le i n f l in omega (arith, m)) (cases_lt n i)

module _ (f : ℕ → ℕ) (i b s : ℕ) (e : s ≡ b + count_by i f) where
  pub counts_more : (t : ℕ) → t ≡ s + f i → t ≡ b + count_by (i + 1) f
  counts_more t k = rw (add-one i) (omega (arith, e, k))

  pub counts_past : (n : ℕ) → i < n → 2 ^ 127 ≤ s + f i → 2 ^ 127 ≤ b + count_by n f
  counts_past n h k = let l : count_by (suc i) f ≤ count_by n f = count_by-le (suc i) n f (omega arith) in omega (arith, e, k, l)

-- the sum over two lists that go side by side
module _ {A B : Type 0} (f : A × B → ℕ) (ks : List A) (vs : List B) (i b s n : ℕ) (x c : A) (y d : B) (m : n ≡ min (length ks) (length vs)) (h : i < n) (p : x ≡ get_or ks i c) (q : y ≡ get_or vs i d) (e : s ≡ b + sum_by f (take i (zip ks vs))) where
  pub within : i < length (zip ks vs)
  within = let l = length-zip ks vs in omega (arith, l, h, m)

  same : f (x, y) ≡ f (get_or (zip ks vs) i (c, d))
  same = ap₂ (λ (u : A) (v : B). f (u, v)) p q ∙ ap f (sym (get_or-zip ks vs i (c, d) (omega (arith, h, m)) (omega (arith, h, m))))

  pub pairs_more : (t : ℕ) → t ≡ s + f (x, y) → t ≡ b + sum_by f (take (i + 1) (zip ks vs))
  pairs_more t k = adds_more f (zip ks vs) i b s (c, d) within e t (k ∙ ap (λ (z : ℕ). s + z) same)

  pub pairs_past : 2 ^ 127 ≤ s + f (x, y) → 2 ^ 127 ≤ b + sum_by f (zip ks vs)
  pairs_past k = adds_past f (zip ks vs) i b s (c, d) within e (subst (λ (z : ℕ). 2 ^ 127 ≤ s + z) same k)

pub take_pairs : {A B : Type 0} (ks : List A) (vs : List B) (i n : ℕ) → n ≡ min (length ks) (length vs) → n ≤ i → take i (zip ks vs) ≡ zip ks vs
take_pairs ks vs i n m h = let l = length-zip ks vs in take_all i (zip ks vs) (omega (arith, l, h, m))
