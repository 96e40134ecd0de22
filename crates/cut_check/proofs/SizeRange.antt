-- Where the size of a list of certificates passes its range, by the amounts of its realizations and of the remainders.
use Rattle.std.proofs.Common.{◌≡◌, ℕ, zero, suc, ◌+◌, ◌-◌, ◌*◌, ◌/◌, ◌%◌, ◌^◌, ◌<◌, ◌≤◌, ℤ, pos, negsuc, ◌+ℤ◌, ◌-ℤ◌, ◌*ℤ◌, ◌≤ℤ◌, ◌<ℤ◌, List, [], ◌∷◌, ◌++◌, length, map, take, zip, sum, max, All, nat_abs, Option, Some, None, is_some, true, false, arith, refl, ap, ap₂, sym, ◌∙◌, subst, mul-pos, mul-le-mul_left, add-one}
use Rattle.std.specs.List.{sum_by}
use Rattle.std.specs.Int.{int_rem_euclid}
use Rattle.std.proofs.lemmas.Int.{ints}
use Rattle.std.proofs.lemmas.List.Sums.{sum_by-cons}
use Rattle.std.proofs.lemmas.Slice.Zip.{length-zip}
use Rattle.base_num.specs.Sums.{sum_to, total, entry, floor_over}
use Rattle.base_num.specs.declared.size.Size.{Size}
use Rattle.base_num.proofs.Order.{le_trans, le_scale, floor_at_most}
use Rattle.base_num.proofs.Sums.{sum_ext, total_le, All_head}
use Rattle.base_num.proofs.Fronts.{sum_some}
use Rattle.problem.specs.declared.parts.Node as nodes
use Rattle.problem.specs.declared.parts.Subproblem.{Subproblem}
use Rattle.theory.specs.declared.cut.Cut.{Cut}
use Rattle.theory.specs.declared.cut.Certificate.{Certificate}
use Rattle.theory.specs.Problem.{S, Node, Realization, reweighted, with_weights, weight_of_realizations}
use Rattle.theory.specs.View.{realizations_of, node_of}
use Rattle.theory.specs.CutOf.{divisor, remainder, slope, beta_sum}
use Rattle.theory.specs.Size.{magnitude, reach, alpha_size, beta_size, realization_size, remainder_size}
use Rattle.theory.specs.Range.{range_from, range_of}
use Rattle.theory.proofs.Ranges.{int_le-true, int_le-false, some_alpha, some_beta, some_mul}
use Rattle.cut_make.specs.Parts.{slope_size}
use Rattle.cut_make.specs.Sized.{Sized, Passes, unboxed, remainders_amount}
use Rattle.cut_make.specs.SizeByTerms.{AddsSize, total_successor_weight, weighted_amount}
use Rattle.cut_make.proofs.SizeParts.{pos-sum_by, pos-count_by}
use Rattle.cut_check.proofs.SizeWhole.{stage_is}

-- the remainder of a quotient that is rounded down
remainder_is : (b : ℤ) (d : ℕ) → 0 < d → int_rem_euclid b (pos d) ≡ b -ℤ pos d *ℤ floor_over b d
remainder_is (pos a) d h = omega (arith, ints)
remainder_is (negsuc a) d h = below (a % d) (omega arith) (omega arith)
  where
    below : (r : ℕ) → r < d → d * (a / d) + r ≡ a → pos (d - 1 - r) ≡ negsuc a -ℤ pos d *ℤ negsuc (a / d)
    below r l e = omega (arith, ints)

pub rest_is : (b d : ℤ) → pos 1 ≤ℤ d → int_rem_euclid b d ≡ b -ℤ pos (nat_abs d) *ℤ floor_over b (nat_abs d)
rest_is b (pos d) h = remainder_is b d (omega (arith, ints))
rest_is b (negsuc d) h = absurd (omega (arith, ints))

-- parts that stay in range
pub ranges_on : {A : Type 0} (f : A → ℕ) (xs : List A) (tail : List ℤ) (s r : ℕ) → s + sum_by f xs < 2 ^ 127 → range_from (pos s) r (map (λ x. pos (f x)) xs ++ tail) ≡ range_from (pos (s + sum_by f xs)) (r + length xs) tail
ranges_on f [] tail s r h = ap₂ (λ (k l : ℕ). range_from (pos k) l tail) (omega arith) (omega arith)
ranges_on f (x ∷ xs) tail s r h =
    let c = sum_by-cons f x xs in
    let here : (pos s +ℤ pos (f x)) ≤ℤ pos (2 ^ 127 - 1) = omega (arith, ints, h, c) in
    rw (int_le-true (pos s +ℤ pos (f x)) (pos (2 ^ 127 - 1)) here)
    (ranges_on f xs tail (s + f x) (suc r) (omega (arith, h, c)) ∙ ap₂ (λ (k l : ℕ). range_from (pos k) l tail) (omega (arith, c)) (omega arith))

-- a part that passes it
pub ranges_stop : {A : Type 0} (f : A → ℕ) (xs : List A) (tail : List ℤ) (s r k : ℕ) → k < length xs → s + sum_by f (take k xs) < 2 ^ 127 → 2 ^ 127 ≤ s + sum_by f (take (suc k) xs) → range_from (pos s) r (map (λ x. pos (f x)) xs ++ tail) ≡ Some (r + k)
ranges_stop f [] tail s r k h i p = absurd (omega arith)
ranges_stop f (x ∷ xs) tail s r zero h i p =
    let c = sum_by-cons f x [] in
    let here : pos (2 ^ 127 - 1) <ℤ (pos s +ℤ pos (f x)) = omega (arith, ints, p, c) in
    rw (int_le-false (pos s +ℤ pos (f x)) (pos (2 ^ 127 - 1)) here) (ap Some (omega arith))
ranges_stop f (x ∷ xs) tail s r (suc k) h i p =
    let c = sum_by-cons f x (take k xs) in
    let d = sum_by-cons f x (take (suc k) xs) in
    let here : (pos s +ℤ pos (f x)) ≤ℤ pos (2 ^ 127 - 1) = omega (arith, ints, i, c) in
    rw (int_le-true (pos s +ℤ pos (f x)) (pos (2 ^ 127 - 1)) here)
    (ranges_stop f xs tail (s + f x) (suc r) k (omega arith) (omega (arith, i, c)) (omega (arith, p, d)) ∙ ap Some (omega arith))

-- the last part
pub range_last-in : (s r m : ℕ) → s + m < 2 ^ 127 → range_from (pos s) r (pos m ∷ []) ≡ None
range_last-in s r m h = let here : (pos s +ℤ pos m) ≤ℤ pos (2 ^ 127 - 1) = omega (arith, ints, h) in rw (int_le-true (pos s +ℤ pos m) (pos (2 ^ 127 - 1)) here) refl

pub range_last-out : (s r m : ℕ) → 2 ^ 127 ≤ s + m → range_from (pos s) r (pos m ∷ []) ≡ Some r
range_last-out s r m h = let here : pos (2 ^ 127 - 1) <ℤ (pos s +ℤ pos m) = omega (arith, ints, h) in rw (int_le-false (pos s +ℤ pos m) (pos (2 ^ 127 - 1)) here) refl

-- a sum over a list of amounts
total_map : {A : Type 0} (g : A → ℤ) (xs : List A) → total (λ (z : ℤ). z) (map g xs) ≡ total g xs
total_map g [] = refl
total_map g (x ∷ xs) = ap (λ (k : ℤ). g x +ℤ k) (total_map g xs)

abbrev pub ended : ℕ → Option Size → Option ℕ
ended count None = Some count
ended count (Some z) = None

-- the realizations with given weights, beside their certificates
given : (f : Realization × Certificate → ℤ) (g : ℕ × (List ℤ × Certificate) → ℤ) → ((w : ℕ) (v : List ℤ) (c : Certificate) → f (record { weight = w; values = v }, c) ≡ g (w, (v, c)))
    → (ws us : List ℕ) (vs : List (List ℤ)) (list : List Certificate) → length ws ≡ length us → length vs ≡ length us → map f (zip (reweighted ws (realizations_of us vs)) list) ≡ map g (zip ws (zip vs list))
given f g h [] us vs list e i = refl
given f g h (w ∷ ws) [] vs list e i = absurd (omega arith)
given f g h (w ∷ ws) (u ∷ us) [] list e i = absurd (omega arith)
given f g h (w ∷ ws) (u ∷ us) (v ∷ vs) [] e i = refl
given f g h (w ∷ ws) (u ∷ us) (v ∷ vs) (c ∷ cs) e i = ap₂ ◌∷◌ (h w v c) (given f g h ws us vs cs (omega arith) (omega arith))

given_weight : (ws us : List ℕ) (vs : List (List ℤ)) → length ws ≡ length us → length vs ≡ length us → weight_of_realizations (reweighted ws (realizations_of us vs)) ≡ sum ws
given_weight [] us vs e i = refl
given_weight (w ∷ ws) [] vs e i = absurd (omega arith)
given_weight (w ∷ ws) (u ∷ us) [] e i = absurd (omega arith)
given_weight (w ∷ ws) (u ∷ us) (v ∷ vs) e i = ap (λ (k : ℕ). w + k) (given_weight ws us vs (omega arith) (omega arith)) ∙ sym (sum_by-cons (λ (k : ℕ). k) w ws)

some_weight : (ws : List ℕ) → 0 < length ws → All (λ w. 1 ≤ w) ws → 0 < sum ws
some_weight [] h p = absurd (omega arith)
some_weight (w ∷ ws) h p = let one = All_head (λ (k : ℕ). 1 ≤ k) w ws p in let c = sum_by-cons (λ (k : ℕ). k) w ws in omega (arith, one, c)

module _ (pools : List (List Cut)) (n : nodes.Node) (s : Subproblem) (low high : List ℤ) (ws : List ℕ) (sized : Sized pools n s low ws) where
  pub divisor_is : divisor (unboxed ws n s) ≡ S * total_successor_weight n * sum ws
  unfolding node_of
  divisor_is = ap (λ (k : ℕ). S * total_successor_weight n * k) (given_weight ws n.weights n.values sized.count sized.values)

  pub divisor_some : 0 < S * total_successor_weight n * sum ws
  unfolding S
  divisor_some = mul-pos (mul-pos (omega arith) sized.scale) (some_weight ws (omega (arith, sized.count, sized.some)) sized.positive)

  -- a remainder is not negative
  own_remainder : (list : List Certificate) (k : ℕ) → pos (nat_abs (remainder (unboxed ws n s) list k)) ≡ remainder (unboxed ws n s) list k
  own_remainder list k = own (beta_sum (unboxed ws n s) list k) (pos (divisor (unboxed ws n s)) *ℤ slope (unboxed ws n s) list k) (floor_at_most (beta_sum (unboxed ws n s) list k) (divisor (unboxed ws n s)) (subst (λ (d : ℕ). 0 < d) (sym divisor_is) divisor_some))
    where
      own : (b f : ℤ) → f ≤ℤ b → pos (nat_abs (b -ℤ f)) ≡ b -ℤ f
      own b f h = omega (arith, ints)

  remainders_are : (list : List Certificate) → remainder_size (with_weights ws (node_of n s low high)) list ≡ pos (remainders_amount ws n s low list)
  unfolding node_of
  remainders_are list =
      sum_ext (length low) (λ k. remainder (unboxed ws n s) list k *ℤ magnitude (entry low k)) (λ k. pos (nat_abs (remainder (unboxed ws n s) list k) * nat_abs (entry low k))) (λ k h. ap (λ (z : ℤ). z *ℤ magnitude (entry low k)) (sym (own_remainder list k)))
      ∙ sym (pos-count_by (length low) (λ k. nat_abs (remainder (unboxed ws n s) list k) * nat_abs (entry low k)))

  realizations_are : (list : List Certificate) → map (realization_size pools (with_weights ws (node_of n s low high))) (zip (with_weights ws (node_of n s low high)).realizations list) ≡ map (λ q. pos (weighted_amount n s low high pools q)) (zip ws (zip n.values list))
  unfolding node_of
  realizations_are list =
      given (realization_size pools (with_weights ws (node_of n s low high))) (λ q. pos (weighted_amount n s low high pools q)) (λ w v c. ap (λ (z : ℤ). pos w *ℤ z) (stage_is pools n s low high v c sized.subproblem sized.successor_weights)) ws n.weights n.values list sized.count sized.values

  -- the parts of the size
  pub range_is : (list : List Certificate) → range_of pools (with_weights ws (node_of n s low high)) list ≡ range_from (pos 0) 0 (map (λ q. pos (weighted_amount n s low high pools q)) (zip ws (zip n.values list)) ++ pos (remainders_amount ws n s low list) ∷ [])
  range_is list = ap₂ (λ (zs : List ℤ) (z : ℤ). range_from (pos 0) 0 (zs ++ z ∷ [])) (realizations_are list) (remainders_are list)

  -- the terms of one state are within those of all realizations
  beta_within : (k : ℕ) → k < length low → (q : Realization × Certificate) → (pos q.0.weight *ℤ beta_size (with_weights ws (node_of n s low high)) q.1 k) ≤ℤ realization_size pools (with_weights ws (node_of n s low high)) q
  unfolding node_of
  beta_within k h q =
      let m : Node = with_weights ws (node_of n s low high) in
      let b : ℕ → ℤ = beta_size m q.1 in
      let f : ℕ → ℤ = λ j. reach low high j *ℤ b j in
      le_scale q.0.weight (b k) (alpha_size pools m q.0.values q.1 +ℤ sum_to (length low) f)
      (over (b k) (f k) (sum_to (length low) f) (alpha_size pools m q.0.values q.1)
      (scaled (max 1 (max (nat_abs (entry low k)) (nat_abs (entry high k)))) (b k) (omega arith) (some_beta m q.1 k))
      (one_of (length low) f k h (λ j. some_mul (reach low high j) (b j) (omega (arith, ints)) (some_beta m q.1 j)))
      (some_alpha pools m q.0.values q.1))
    where
      scaled : (m : ℕ) (a : ℤ) → 1 ≤ m → pos 0 ≤ℤ a → a ≤ℤ (pos m *ℤ a)
      scaled m (pos a) h p = let l : a * 1 ≤ a * m = mul-le-mul_left a h in omega (arith, ints, l)
      scaled m (negsuc a) h p = absurd (omega (arith, ints))

      one_of : (n : ℕ) (f : ℕ → ℤ) (k : ℕ) → k < n → ((j : ℕ) → pos 0 ≤ℤ f j) → f k ≤ℤ sum_to n f
      one_of zero f k h p = absurd (omega arith)
      one_of (suc n) f zero h p = omega (arith, ints, sum_some n (λ j. f (suc j)) (λ j. p (suc j)))
      one_of (suc n) f (suc k) h p = omega (arith, ints, one_of n (λ j. f (suc j)) k (omega arith) (λ j. p (suc j)), p 0)

      over : (a b c d : ℤ) → a ≤ℤ b → b ≤ℤ c → pos 0 ≤ℤ d → a ≤ℤ (d +ℤ c)
      over a b c d p q r = omega (arith, ints)

  amounts_are : (list : List Certificate) → total (realization_size pools (with_weights ws (node_of n s low high))) (zip (with_weights ws (node_of n s low high)).realizations list) ≡ pos (sum_by (weighted_amount n s low high pools) (zip ws (zip n.values list)))
  amounts_are list =
      sym (total_map (realization_size pools (with_weights ws (node_of n s low high))) (zip (with_weights ws (node_of n s low high)).realizations list)) ∙ ap (total (λ (z : ℤ). z)) (realizations_are list)
      ∙ total_map (λ q. pos (weighted_amount n s low high pools q)) (zip ws (zip n.values list)) ∙ sym (pos-sum_by (weighted_amount n s low high pools) (zip ws (zip n.values list)))

  pub slopes_within : (list : List Certificate) → sum_by (weighted_amount n s low high pools) (zip ws (zip n.values list)) < 2 ^ 127 → (k : ℕ) → k < length low → slope_size (unboxed ws n s) list k ≤ℤ pos (2 ^ 127 - 1)
  unfolding node_of
  slopes_within list h k inside =
      let m : Node = with_weights ws (node_of n s low high) in
      let qs : List (Realization × Certificate) = zip m.realizations list in
      le_trans (slope_size (unboxed ws n s) list k) (total (realization_size pools m) qs) (pos (2 ^ 127 - 1))
      (total_le (λ q. Unit {0}) (λ (q : Realization × Certificate). pos q.0.weight *ℤ beta_size m q.1 k) (realization_size pools m) qs (λ i d p. tt) (λ q u. beta_within k inside q))
      (subst (λ (z : ℤ). z ≤ℤ pos (2 ^ 127 - 1)) (sym (amounts_are list)) (below (sum_by (weighted_amount n s low high pools) (zip ws (zip n.values list))) h))
    where
      below : (t : ℕ) → t < 2 ^ 127 → pos t ≤ℤ pos (2 ^ 127 - 1)
      below t h = omega (arith, ints)

  module _ (list : List Certificate) (e : length list ≡ length ws) where
    tail : List ℤ
    tail = pos (remainders_amount ws n s low list) ∷ []

    counted : length (zip ws (zip n.values list)) ≡ length list
    counted = let a = length-zip n.values list in let b = length-zip ws (zip n.values list) in omega (arith, a, b, e, sized.count, sized.values)

    -- a realization passes the range
    pub range_stops : (r : ℕ) → Passes (weighted_amount n s low high pools) (zip ws (zip n.values list)) r → range_of pools (with_weights ws (node_of n s low high)) list ≡ Some r
    unfolding tail
    range_stops r p =
        range_is list ∙ ranges_stop (weighted_amount n s low high pools) (zip ws (zip n.values list)) tail 0 0 r p.within (omega (arith, p.before)) (subst (λ (k : ℕ). 2 ^ 127 ≤ 0 + sum_by (weighted_amount n s low high pools) (take k (zip ws (zip n.values list)))) (add-one r) (omega (arith, p.beyond))) ∙ ap Some (omega arith)

    onward : (t : ℕ) → t ≡ sum_by (weighted_amount n s low high pools) (zip ws (zip n.values list)) → t < 2 ^ 127 → range_of pools (with_weights ws (node_of n s low high)) list ≡ range_from (pos t) (length list) tail
    unfolding tail
    onward t is h = range_is list ∙ ranges_on (weighted_amount n s low high pools) (zip ws (zip n.values list)) tail 0 0 (omega (arith, is, h)) ∙ ap₂ (λ (k l : ℕ). range_from (pos k) l tail) (omega (arith, is)) (omega (arith, counted))

    -- only the remainders do, or nothing
    pub range_ends : (t : ℕ) (r : Option Size) → t ≡ sum_by (weighted_amount n s low high pools) (zip ws (zip n.values list)) → t < 2 ^ 127 → AddsSize t r (remainders_amount ws n s low list) → range_of pools (with_weights ws (node_of n s low high)) list ≡ ended (length list) r
    unfolding tail
    range_ends t (Some z) is h a = onward t is h ∙ range_last-in t (length list) (remainders_amount ws n s low list) (omega (arith, a, z.in_range))
    range_ends t None is h a = onward t is h ∙ range_last-out t (length list) (remainders_amount ws n s low list) a

    -- nothing does where a bound of the sizes does not
    pub range_within : (t : ℕ) → sum_by (weighted_amount n s low high pools) (zip ws (zip n.values list)) ≤ t → t + remainders_amount ws n s low list < 2 ^ 127 → range_of pools (with_weights ws (node_of n s low high)) list ≡ None
    unfolding tail
    range_within t within h =
        let whole : ℕ = sum_by (weighted_amount n s low high pools) (zip ws (zip n.values list)) in
        onward whole refl (omega (arith, within, h)) ∙ range_last-in whole (length list) (remainders_amount ws n s low list) (omega (arith, within, h))

pub added : (r : Option Size) (t m : ℕ) → is_some r ≡ true → AddsSize t r m → t + m < 2 ^ 127
added None t m e a = absurd (no e)
  where
    no : false ≡ true → ⊥
    no h = cc
added (Some z) t m e a = omega (arith, a, z.in_range)
