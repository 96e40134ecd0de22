-- Rows that stand one after the other in one list.
use Rattle.std.proofs.Common.{◌≡◌, ℕ, zero, suc, ◌+◌, ◌-◌, ◌*◌, ◌<◌, ◌≤◌, List, [], ◌∷◌, ◌++◌, length, get_or, take, drop, slice_set, replicate, Option, Some, None, take-add, arith, refl, ap, ap₂, sym, ◌∙◌, subst}
use Rattle.std.specs.Option.{option_map}
use Rattle.std.proofs.lemmas.List.{length-append, take-replicate, drop-replicate, append_assoc, take-append-drop, drop-drop, take_at, drop_at, length-drop, length-take-le}
use Rattle.base_num.specs.Each.{each_from}
use Rattle.base_num.specs.Rows.{rows_in_list, put}
use Rattle.base_num.proofs.Each.{behind, each_step, each_absent, each_done, map_none, map_some}

times_more : (k n : ℕ) → suc k * n ≡ n + k * n
times_more k n = omega arith

pub row_is : {A : Type 0} (m n k : ℕ) (xs : List A) → k < m → get_or (rows_in_list m n xs) k [] ≡ take n (drop (k * n) xs)
row_is zero n k xs h = absurd (omega arith)
row_is (suc m) n zero xs h = let e : 0 ≡ 0 * n = omega arith in ap (λ (j : ℕ). take n (drop j xs)) e
row_is (suc m) n (suc k) xs h = row_is m n k (drop n xs) (omega arith) ∙ ap (take n) (drop-drop (k * n) n xs ∙ ap (λ (j : ℕ). drop j xs) (sym (times_more k n)))

-- the first row
pub front_row : {A : Type 0} (m n : ℕ) (p q : List A) → length p ≡ n → rows_in_list (suc m) n (p ++ q) ≡ p ∷ rows_in_list m n q
front_row {A} m n p q h = ap₂ (λ (r : List A) (rs : List (List A)). r ∷ rs) (take_at p q n h) (ap (rows_in_list m n) (drop_at p q n h))

put_later : {A : Type 0} (n j : ℕ) (xs r : List A) → put n (n + j) xs r ≡ take n xs ++ put n j (drop n xs) r
put_later {A} n j xs r =
    ap₂ (λ (a b : List A). a ++ (r ++ drop n b)) (take-add n j xs) (sym (drop-drop j n xs))
    ∙ append_assoc (take n xs) (take j (drop n xs)) (r ++ drop n (drop j (drop n xs)))

-- row k in place of the one that was there
pub rows_set : {A : Type 0} (m n k : ℕ) (xs r : List A) → k < m → length r ≡ n → m * n ≤ length xs → rows_in_list m n (put n (k * n) xs r) ≡ slice_set (rows_in_list m n xs) k r
rows_set zero n k xs r h e l = absurd (omega arith)
rows_set (suc m) n zero xs r h e l =
    let z : 0 * n ≡ 0 = omega arith in
    ap (λ (j : ℕ). rows_in_list (suc m) n (put n j xs r)) z ∙ front_row m n r (drop n xs) e
rows_set {A} (suc m) n (suc k) xs r h e l =
    let long : n + m * n ≤ length xs = subst (λ (j : ℕ). j ≤ length xs) (times_more m n) l in
    ap (λ (j : ℕ). rows_in_list (suc m) n (put n j xs r)) (times_more k n)
    ∙ ap (rows_in_list (suc m) n) (put_later n (k * n) xs r)
    ∙ front_row m n (take n xs) (put n (k * n) (drop n xs) r) (length-take-le n xs (omega arith))
    ∙ ap (λ (rs : List (List A)). take n xs ∷ rs) (rows_set m n k (drop n xs) r (omega arith) e (subst (λ (j : ℕ). m * n ≤ j) (sym (length-drop n xs)) (omega arith)))

-- some rows, one row, and some more
pub rows_split : {A : Type 0} (m i b n : ℕ) (fs p bs : List A) → m ≡ i + (b + 1) → length fs ≡ i * n → length p ≡ n → rows_in_list m n (fs ++ (p ++ bs)) ≡ rows_in_list i n fs ++ p ∷ rows_in_list b n bs
rows_split zero i b n fs p bs c h e = absurd (omega arith)
rows_split (suc m) zero b n [] p bs c h e =
    let same : m ≡ b = omega arith in
    front_row m n p bs e ∙ ap (λ (j : ℕ). p ∷ rows_in_list j n bs) same
rows_split (suc m) zero b n (x ∷ fs) p bs c h e = let z : 0 * n ≡ 0 = omega arith in absurd (omega arith)
rows_split {A} (suc m) (suc i) b n fs p bs c h e =
    let long : length fs ≡ n + i * n = h ∙ times_more i n in
    ap (λ (xs : List A). rows_in_list (suc m) n (xs ++ (p ++ bs))) (sym (take-append-drop n fs))
    ∙ ap (rows_in_list (suc m) n) (append_assoc (take n fs) (drop n fs) (p ++ bs))
    ∙ front_row m n (take n fs) (drop n fs ++ (p ++ bs)) (length-take-le n fs (omega arith))
    ∙ ap (λ (rs : List (List A)). take n fs ∷ rs) (rows_split m i b n (drop n fs) p bs (omega arith) (length-drop n fs ∙ omega arith) e)

pub rows_count : {A : Type 0} (m n : ℕ) (xs : List A) → length (rows_in_list m n xs) ≡ m
rows_count zero n xs = refl
rows_count (suc m) n xs = ap suc (rows_count m n (drop n xs))

-- so many numbers before a row, in it and after it
pub inside_is : (count i n : ℕ) → i < count → count * n ≡ i * n + n + (count - i - 1) * n
inside_is count i n h =
    let k : ℕ = count - i - 1 in
    let e : count ≡ i + 1 + k = omega arith in
    ap (λ (m : ℕ). m * n) e ∙ multiplied i k n
  where
    multiplied : (i k n : ℕ) → (i + 1 + k) * n ≡ i * n + n + k * n
    multiplied i k n = omega arith

-- as many entries as before
pub put_length : {A : Type 0} (n j : ℕ) (xs r : List A) → length r ≡ n → j + n ≤ length xs → length (put n j xs r) ≡ length xs
put_length n j xs r e h =
    length-append (take j xs) (r ++ drop n (drop j xs))
    ∙ ap₂ (λ (a b : ℕ). a + b) (length-take-le j xs (omega arith)) (length-append r (drop n (drop j xs)) ∙ ap₂ (λ (a b : ℕ). a + b) e (length-drop n (drop j xs) ∙ ap (λ (a : ℕ). a - n) (length-drop j xs)))
    ∙ tail
  where
    tail : j + (n + (length xs - j - n)) ≡ length xs
    tail = omega (arith, h)

-- rows of one and the same entry
pub same_rows : {A : Type 0} (m n : ℕ) (x : A) → rows_in_list m n (replicate (m * n) x) ≡ replicate m (replicate n x)
same_rows zero n x = refl
same_rows {A} (suc m) n x =
    let e : suc m * n ≡ n + m * n = times_more m n in
    ap₂ (λ (r : List A) (rs : List (List A)). r ∷ rs) (take-replicate n (suc m * n) x (omega (arith, e))) (ap (rows_in_list m n) (drop-replicate n (suc m * n) x ∙ ap (λ (k : ℕ). replicate k x) (omega (arith, e))) ∙ same_rows m n x)

-- one row more, where each is changed to one of the same length
module _ {A : Type 0} (f : ℕ → List A → Option (List A)) (same_length : (k : ℕ) (row ys : List A) → f k row ≡ Some ys → length ys ≡ length row) (whole : Option (List (List A))) (count k n : ℕ) (xs : List A) where
  abbrev pub table : List (List A)
  table = rows_in_list count n xs

  there : k < count → k < length table
  there h = subst (λ (m : ℕ). k < m) (sym (rows_count count n xs)) h

  row_there : k < count → f k (take n (drop (k * n) xs)) ≡ f k (get_or table k [])
  row_there h = ap (f k) (sym (row_is count n k xs h))

  pub rows_absent : k < count → option_map (put n (k * n) xs) (f k (take n (drop (k * n) xs))) ≡ None → whole ≡ behind (take k table) (each_from f k (drop k table)) → whole ≡ None
  rows_absent h a w = each_absent f whole table k [] (there h) (sym (row_there h) ∙ map_none (put n (k * n) xs) (f k (take n (drop (k * n) xs))) a) w

  pub rows_step : (ys : List A) → k < count → count * n ≤ length xs → option_map (put n (k * n) xs) (f k (take n (drop (k * n) xs))) ≡ Some ys → whole ≡ behind (take k table) (each_from f k (drop k table)) → whole ≡ behind (take (k + 1) (rows_in_list count n ys)) (each_from f (k + 1) (drop (k + 1) (rows_in_list count n ys)))
  rows_step ys h l s w =
      let found = map_some (put n (k * n) xs) (f k (take n (drop (k * n) xs))) ys s in
      let room : k * n + n ≤ length xs = omega (arith, l, inside_is count k n h) in
      let long : length found.0 ≡ n = same_length k (take n (drop (k * n) xs)) found.0 found.1 ∙ length-take-le n (drop (k * n) xs) (subst (λ (m : ℕ). n ≤ m) (sym (length-drop (k * n) xs)) (omega arith)) in
      let same : slice_set table k found.0 ≡ rows_in_list count n ys = sym (rows_set count n k xs found.0 h long l) ∙ ap (rows_in_list count n) found.2 in
      each_step f whole table k [] found.0 (there h) (sym (row_there h) ∙ found.1) w
      ∙ ap (λ (t : List (List A)). behind (take (k + 1) t) (each_from f (k + 1) (drop (k + 1) t))) same

  pub rows_done : count ≤ k → whole ≡ behind (take k table) (each_from f k (drop k table)) → whole ≡ Some table
  rows_done h w = each_done f whole table k (subst (λ (m : ℕ). m ≤ k) (sym (rows_count count n xs)) h) w
