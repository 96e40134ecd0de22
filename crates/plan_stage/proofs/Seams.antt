-- Lists whose front was made anew, one element after another.
use Rattle.std.proofs.Common.{◌≡◌, ℕ, zero, suc, ◌<◌, List, [], ◌∷◌, ◌++◌, length, map, take, drop, get_or, set, refl, ap, sym, arith}

module _ {A B : Type 0} (f g : A → B) where
  -- the next element, made anew
  pub set_next : (xs : List A) (i : ℕ) (d : A) (tail : List B) → i < length xs → set (map f (take i xs) ++ (map g (drop i xs) ++ tail)) i (f (get_or xs i d)) ≡ map f (take (suc i) xs) ++ (map g (drop (suc i) xs) ++ tail)
  set_next [] i d tail h = absurd (omega arith)
  set_next (x ∷ xs) zero d tail h = refl
  set_next (x ∷ xs) (suc i) d tail h = ap (λ (ys : List B). f x ∷ ys) (set_next xs i d tail (omega arith))

  -- as it stood
  pub next_is : (xs : List A) (i : ℕ) (d : A) (e : B) (tail : List B) → i < length xs → get_or (map f (take i xs) ++ (map g (drop i xs) ++ tail)) i e ≡ g (get_or xs i d)
  next_is [] i d e tail h = absurd (omega arith)
  next_is (x ∷ xs) zero d e tail h = refl
  next_is (x ∷ xs) (suc i) d e tail h = next_is xs i d e tail (omega arith)

  -- the next element, which comes out the same either way
  pub next_stays : (xs : List A) (i : ℕ) (d : A) (tail : List B) → i < length xs → f (get_or xs i d) ≡ g (get_or xs i d) → map f (take i xs) ++ (map g (drop i xs) ++ tail) ≡ map f (take (suc i) xs) ++ (map g (drop (suc i) xs) ++ tail)
  next_stays [] i d tail h e = absurd (omega arith)
  next_stays (x ∷ xs) zero d tail h e = ap (λ (y : B). y ∷ (map g xs ++ tail)) (sym e)
  next_stays (x ∷ xs) (suc i) d tail h e = ap (λ (ys : List B). f x ∷ ys) (next_stays xs i d tail (omega arith) e)
