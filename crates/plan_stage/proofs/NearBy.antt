-- Orders of realizations: the steps of the loops that make them, and that each number stands in them once.
use Rattle.std.proofs.Common.{◌≡◌, ℕ, zero, suc, ◌+◌, ◌<◌, ◌≤◌, Bool, true, false, ◌&&◌, ℤ, ◌-ℤ◌, unsigned_abs, nat_lt, nat_le, List, [], ◌∷◌, ◌++◌, ◌-◌, length, map, take, drop, get_or, if◌then◌else◌, All, Contains, refl, ap, ap₂, sym, subst, ◌∙◌, arith}
use Rattle.std.specs.List.{list_all, remove}
use Rattle.std.specs.List.Sorted.{IsPermutation}
use Rattle.std.proofs.lemmas.Bool.Decides.{nat_tests}
use Rattle.std.proofs.lemmas.List.{append-nil, length-append, length-map, length-take-le, get_or-take, take_more, get_or_append_left, get_or-append_right, get_or_default}
use Rattle.std.proofs.lemmas.List.Edits.{length-remove}
use Rattle.std.proofs.lemmas.List.Folds.{list_all-append}
use Rattle.std.proofs.lemmas.List.Sorted.{IsPermutation-refl, IsPermutation-cons, IsPermutation-trans, IsPermutation-remove, All-permutation, Contains-permutation, length_permutation}
use Rattle.std.proofs.lemmas.List.Elements.{All-tail}
use Rattle.base_num.proofs.Tests.{all_at}
use Rattle.problem.specs.declared.parts.Node as nodes
use Rattle.plan_stage.specs.Orders.{distance, distances, near_by, nearest_order, numbers, place_of_least, solving_order}

-- a value more on both sides
distance_in_more : (xs ys : List ℤ) (k : ℕ) (x y : ℤ) → k < length xs → k < length ys → x ≡ get_or xs k x → y ≡ get_or ys k y → distance (drop k xs) (drop k ys) ≡ unsigned_abs (x -ℤ y) + distance (drop (suc k) xs) (drop (suc k) ys)
distance_in_more [] ys k x y h i e f = absurd (omega (arith, h))
distance_in_more (a ∷ xs) [] k x y h i e f = absurd (omega (arith, i))
distance_in_more (a ∷ xs) (b ∷ ys) zero x y h i e f = ap₂ (λ u v. unsigned_abs (u -ℤ v) + distance xs ys) (sym e) (sym f)
distance_in_more (a ∷ xs) (b ∷ ys) (suc k) x y h i e f = distance_in_more xs ys k x y (omega (arith, h)) (omega (arith, i)) e f

next : (k : ℕ) → suc k ≡ k + 1
next k = omega arith

pub distance_more : (xs ys : List ℤ) (k : ℕ) (x y : ℤ) → k < length xs → k < length ys → x ≡ get_or xs k x → y ≡ get_or ys k y → distance (drop k xs) (drop k ys) ≡ unsigned_abs (x -ℤ y) + distance (drop (k + 1) xs) (drop (k + 1) ys)
distance_more xs ys k x y h i e f = distance_in_more xs ys k x y h i e f ∙ ap (λ n. unsigned_abs (x -ℤ y) + distance (drop n xs) (drop n ys)) (next k)

-- one side has no more
distance_nothing : (xs : List ℤ) → distance xs [] ≡ 0
distance_nothing [] = refl
distance_nothing (x ∷ xs) = refl

pub distance_end : (xs ys : List ℤ) (k : ℕ) → (k < length xs → k < length ys → ⊥) → distance (drop k xs) (drop k ys) ≡ 0
distance_end [] ys zero e = refl
distance_end [] ys (suc k) e = refl
distance_end (x ∷ xs) [] zero e = refl
distance_end (x ∷ xs) [] (suc k) e = distance_nothing (drop k xs)
distance_end (x ∷ xs) (y ∷ ys) zero e = absurd (e (omega arith) (omega arith))
distance_end (x ∷ xs) (y ∷ ys) (suc k) e = distance_end xs ys k (λ h i. e (omega (arith, h)) (omega (arith, i)))

-- the least number stands at a place of the list
place_either : (all : Bool) (p n : ℕ) → p < n → (if all then 0 else suc p) < suc n
place_either true p n h = omega arith
place_either false p n h = omega (arith, h)

pub place_there : (ds : List ℕ) → 0 < length ds → place_of_least ds < length ds
place_there [] h = absurd (omega (arith, h))
place_there (d ∷ []) h = omega arith
place_there (d ∷ e ∷ ds) h = place_either (list_all (λ f. nat_le d f) (e ∷ ds)) (place_of_least (e ∷ ds)) (length (e ∷ ds)) (place_there (e ∷ ds) (omega arith))

-- a number more is the least where it is below the least so far
two_cases : (d m n p : ℕ) → suc (if nat_lt d m then n else p) ≡ (if nat_lt d m then suc n else suc p)
two_cases d m n p = by (nat_lt d m)
  where
    by : (b : Bool) → suc (if b then n else p) ≡ (if b then suc n else suc p)
    by true = refl
    by false = refl

first_is_least : (e d m n p : ℕ) → e ≤ m → (if nat_le e d && true then 0 else suc (if nat_lt d m then n else p)) ≡ (if nat_lt d e then suc n else 0)
first_is_least e d m n p h = grind (arith, nat_tests, h)

least_either : (e : ℕ) (r : List ℕ) (d n p : ℕ) (all : Bool) → (all ≡ true → e ≤ get_or r p 0)
    → (if all && (nat_le e d && true) then 0 else suc (if nat_lt d (get_or r p 0) then n else p)) ≡ (if nat_lt d (get_or (e ∷ r) (if all then 0 else suc p) 0) then suc n else (if all then 0 else suc p))
least_either e r d n p true w = first_is_least e d (get_or r p 0) n p (w refl)
least_either e r d n p false w = two_cases d (get_or r p 0) n p

below : (a b : ℕ) → nat_le a b ≡ true → a ≤ b
below a b e = grind (arith, nat_tests)

only_one : (e d : ℕ) → ◌≡◌ {A = ℕ} (if nat_le e d && true then 0 else 1) (if nat_lt d e then 1 else 0)
only_one e d = grind (arith, nat_tests)

pub least_more : (ds : List ℕ) (d : ℕ) → 0 < length ds → place_of_least (ds ++ d ∷ []) ≡ (if nat_lt d (get_or ds (place_of_least ds) 0) then length ds else place_of_least ds)
least_more [] d h = absurd (omega (arith, h))
least_more (e ∷ []) d h = only_one e d
least_more (e ∷ f ∷ ds) d h =
    let r : List ℕ = f ∷ ds in
    let test : ℕ → Bool = λ n. nat_le e n in
    let there : place_of_least r < length r = place_there r (omega arith) in
    ap₂ (λ (b : Bool) (p : ℕ). if b then 0 else suc p) (list_all-append test r (d ∷ [])) (least_more (f ∷ ds) d (omega arith))
    ∙ least_either e r d (length r) (place_of_least r) (list_all test r) (λ all. below e (get_or r (place_of_least r) 0) (all_at test r (place_of_least r) 0 all there))

-- the numbers below n, each at its own place
pub length-numbers : (n : ℕ) → length (numbers n) ≡ n
length-numbers zero = refl
length-numbers (suc n) = omega (arith, length-append (numbers n) (n ∷ []), length-numbers n)

at_end : (n d : ℕ) → get_or (numbers n ++ n ∷ []) n d ≡ n
at_end n d = get_or-append_right (numbers n) (n ∷ []) n n d (length-numbers n) (omega arith) ∙ ap (λ k. get_or (n ∷ []) k d) (self n)
  where
    self : (k : ℕ) → k - k ≡ 0
    self k = omega arith

number_at : (n i d : ℕ) → i < n → get_or (numbers n) i d ≡ i
number_at zero i d h = absurd (omega (arith, h))
number_at (suc n) i d h = by (λ below. get_or_append_left (numbers n) (n ∷ []) d i (omega (arith, length-numbers n, below)) ∙ number_at n i d below) (nat_lt i n) refl
  where
    by : (i < n → get_or (numbers n ++ n ∷ []) i d ≡ i) → (b : Bool) → nat_lt i n ≡ b → get_or (numbers n ++ n ∷ []) i d ≡ i
    by inside true e = inside (grind (arith, nat_tests, e))
    by inside false e = subst (λ k. get_or (numbers n ++ n ∷ []) k d ≡ k) (same e) (at_end n d)
      where
        same : nat_lt i n ≡ false → n ≡ i
        same f = grind (arith, nat_tests, f, h)

pub numbers_below : (n : ℕ) → All (λ i. i < n) (numbers n)
numbers_below n i d h =
    let inside : i < n = omega (arith, h, length-numbers n) in
    subst (λ k. k < n) (sym (number_at n i d inside)) inside

pub numbers_all : (n i : ℕ) → i < n → Contains (numbers n) i
numbers_all n i h = (i, omega (arith, h, length-numbers n), number_at n i i h)

-- each realization comes once
pub near_by-permutation : (values : List (List ℤ)) (k place : ℕ) (left : List ℕ) → length left ≡ k → (0 < k → place < k) → IsPermutation left (near_by values k place left)
near_by-permutation values zero place [] e h = IsPermutation-refl []
near_by-permutation values zero place (x ∷ left) e h = absurd (omega (arith, e))
near_by-permutation values (suc k) place left e h =
    let i : ℕ = get_or left place 0 in
    let others : List ℕ = remove left place in
    let inside : place < length left = omega (arith, e, h (omega arith)) in
    let count : length others ≡ k = omega (arith, e, length-remove left place inside) in
    let ds : List ℕ = distances values (get_or values i []) others in
    let p : ℕ = place_of_least ds in
    let counted : length ds ≡ k = length-map others (λ j. distance (get_or values i []) (get_or values j [])) ∙ count in
    IsPermutation-trans left (i ∷ others) (i ∷ near_by values k p others) (IsPermutation-remove left place i inside (get_or_default left place 0 i inside))
    (IsPermutation-cons i others (near_by values k p others) (near_by-permutation values k p others count (λ some. omega (arith, counted, place_there ds (omega (arith, counted, some))))))

module _ (values : List (List ℤ)) where
  nearest_ordered : IsPermutation (numbers (length values)) (nearest_order values)
  unfolding nearest_order
  nearest_ordered = near_by-permutation values (length values) 0 (numbers (length values)) (length-numbers (length values)) (λ some. some)

  either : (few : Bool) → IsPermutation (numbers (length values)) (if few then numbers (length values) else nearest_order values)
  either true = IsPermutation-refl (numbers (length values))
  either false = nearest_ordered

  ordered : IsPermutation (numbers (length values)) (solving_order values)
  unfolding solving_order
  ordered = either (nat_lt (length values) 6)

  pub length-solving_order : length (solving_order values) ≡ length values
  length-solving_order = length_permutation (numbers (length values)) (solving_order values) ordered ∙ length-numbers (length values)

  pub solving_order_below : All (λ i. i < length values) (solving_order values)
  solving_order_below = All-permutation (λ i. i < length values) (numbers (length values)) (solving_order values) ordered (numbers_below (length values))

  pub solving_order_all : (i : ℕ) → i < length values → Contains (solving_order values) i
  solving_order_all i h = Contains-permutation (numbers (length values)) (solving_order values) i ordered (numbers_all (length values) i h)

-- the first number comes off, and the next is the nearest that is left
pub near_by_more : (values : List (List ℤ)) (place next : ℕ) (left others : List ℕ) → place < length left → next ≡ get_or left place next → others ≡ remove left place
    → near_by values (length left) place left ≡ next ∷ near_by values (length others) (place_of_least (distances values (get_or values next []) others)) others
near_by_more values place next left others h is rest = by (length left) (length-remove left place h)
  where
    by : (n : ℕ) → length (remove left place) + 1 ≡ n → near_by values n place left ≡ next ∷ near_by values (length others) (place_of_least (distances values (get_or values next []) others)) others
    by zero e = absurd (omega (arith, e))
    by (suc k) e =
        let first : get_or left place 0 ≡ next = get_or_default left place 0 next h ∙ sym is in
        let count : k ≡ length others = omega (arith, e, ap (λ (l : List ℕ). length l) rest) in
        ap₂ (λ (i : ℕ) (l : List ℕ). i ∷ near_by values k (place_of_least (distances values (get_or values i []) l)) l) first (sym rest)
        ∙ ap (λ (n : ℕ). next ∷ near_by values n (place_of_least (distances values (get_or values next []) others)) others) count

-- none is left
pub near_by_end : (values : List (List ℤ)) (place : ℕ) (order left : List ℕ) → length left ≡ 0 → order ++ near_by values (length left) place left ≡ order
near_by_end values place order left e = ap (λ (k : ℕ). order ++ near_by values k place left) e ∙ append-nil order

-- what is left comes from what was
pub known_less : (n place next : ℕ) (left others : List ℕ) → place < length left → next ≡ get_or left place next → others ≡ remove left place → All (λ i. i < n) left → All (λ i. i < n) others
known_less n place next left others h is rest all = subst (All (λ i. i < n)) (sym rest) (All-tail (λ i. i < n) next (remove left place) (All-permutation (λ i. i < n) left (next ∷ remove left place) (IsPermutation-remove left place next h is) all))

-- one number more is looked at: it is the nearest, or the one so far stays
nearest_more : (ds : List ℕ) (k far place least : ℕ) (nearer : Bool) → k < length ds → far ≡ get_or ds k 0 → place ≡ place_of_least (take k ds) → (0 < k → least ≡ get_or (take k ds) place 0)
    → (k ≡ 0 → nearer ≡ true) → (0 < k → nearer ≡ nat_lt far least) → (if nearer then k else place) ≡ place_of_least (take (k + 1) ds)
nearest_more [] k far place least nearer h here value low first later = absurd (omega (arith, h))
nearest_more (d ∷ ds) zero far place least nearer h here value low first later = ap (λ (b : Bool). if b then 0 else place) (first refl)
nearest_more (d ∷ ds) (suc k) far place least nearer h here value low first later =
    let seen : List ℕ = take (suc k) (d ∷ ds) in
    let count : length seen ≡ suc k = length-take-le (suc k) (d ∷ ds) (omega (arith, h)) in
    let least_is : least ≡ get_or seen (place_of_least seen) 0 = low (omega arith) ∙ ap (λ p. get_or seen p 0) value in
    ap (λ (b : Bool). if b then suc k else place) (later (omega arith) ∙ ap (λ m. nat_lt far m) least_is)
    ∙ ap₂ (λ n p. if nat_lt far (get_or seen (place_of_least seen) 0) then n else p) (sym count) value
    ∙ sym (least_more seen far (omega (arith, count)))
    ∙ ap (λ e. place_of_least (seen ++ e ∷ [])) here
    ∙ ap place_of_least (sym (take_more (d ∷ ds) (suc k) 0 h))

-- the place and the least number after so many
pub record Looked (ds : List ℕ) (k place least : ℕ) : Type 0 where
  pub value : place ≡ place_of_least (take (k + 1) ds)
  pub least_is : least ≡ get_or (take (k + 1) ds) place 0
  pub there : place < k + 1

pub looked : (ds : List ℕ) (k far place least : ℕ) (nearer : Bool) → k < length ds → far ≡ get_or ds k 0 → place ≡ place_of_least (take k ds) → (0 < k → least ≡ get_or (take k ds) place 0) → (0 < k → place < k)
    → (k ≡ 0 → nearer ≡ true) → (0 < k → nearer ≡ nat_lt far least) → Looked ds k (if nearer then k else place) (if nearer then far else least)
looked ds k far place least true h here value low there first later = record {
  value = nearest_more ds k far place least true h here value low first later;
  least_is = here ∙ sym (get_or-take (k + 1) ds k 0 (omega arith));
  there = omega arith;
}
looked ds k far place least false h here value low there first later =
    let some : 0 < k = positive k first in
    record {
      value = nearest_more ds k far place least false h here value low first later;
      least_is = low some ∙ get_or-take k ds place 0 (there some) ∙ sym (get_or-take (k + 1) ds place 0 (omega (arith, there some)));
      there = omega (arith, there some);
    }
  where
    positive : (n : ℕ) → (n ≡ 0 → ◌≡◌ {A = Bool} false true) → 0 < n
    positive zero e = absurd (differ (e refl))
      where
        differ : ◌≡◌ {A = Bool} false true → ⊥
        differ d = cc
    positive (suc n) e = omega arith

-- the order of a node, of all orders
pub order_at : (ns : List nodes.Node) (m : ℕ) → m < length ns → get_or (map (λ (n : nodes.Node). solving_order n.values) ns) m [] ≡ solving_order (get_or (map (λ (n : nodes.Node). n.values) ns) m [])
order_at [] m h = absurd (omega (arith, h))
order_at (n ∷ ns) zero h = refl
order_at (n ∷ ns) (suc m) h = order_at ns m (omega (arith, h))
