-- Each sum that makes a cut is at most the size of its certificates.
use Rattle.std.proofs.Common.{◌≡◌, ℕ, zero, suc, ◌-◌, ◌*◌, ◌^◌, ◌<◌, ◌≤◌, nat_abs, max, ℤ, pos, negsuc, ◌+ℤ◌, ◌*ℤ◌, ◌≤ℤ◌, List, [], ◌∷◌, length, get_or, zip, All, arith, subst}
use Rattle.std.proofs.lemmas.Int.{ints}
use Rattle.std.proofs.lemmas.Slice.Zip.{get_or-zip, length-zip}
use Rattle.base_num.specs.Sums.{sum_to, total, entry, dot}
use Rattle.base_num.proofs.Fronts.{total_some, sum_some, sum_more, sum_front}
use Rattle.base_num.proofs.Order.{le_refl, le_trans, le_add, le_scale}
use Rattle.base_num.proofs.Sums.{total_le}
use Rattle.theory.specs.declared.cut.Cut.{Cut}
use Rattle.theory.specs.declared.cut.Certificate.{Certificate}
use Rattle.theory.specs.Problem.{S, Realization, Node, successor_weight}
use Rattle.theory.specs.CutOf.{scale, side, over_pairs, reduced_cost, alpha_sum, divisor, remainder}
use Rattle.theory.specs.Size.{magnitude, magnitudes, terms_size, rows_size, reach, reduced_size, alpha_size, beta_size, realization_size, remainder_size, size_of}
use Rattle.theory.proofs.Ranges.{some_reduced, some_alpha, some_beta, some_realization, some_remainder, some_mul, some_add, some_pos, some_magnitude, some_dot, some_rows, some_pairs, some_terms}
use Rattle.theory.proofs.SizeToFit.{size_add, size_reduced, alpha_sum_size, rest_sum_size}
use Rattle.cut_make.specs.Parts.{slope_size}

-- a part is at most the whole
one_of_total : {A : Type 0} (g : A → ℤ) (xs : List A) (i : ℕ) (d : A) → i < length xs → ((x : A) → pos 0 ≤ℤ g x) → g (get_or xs i d) ≤ℤ total g xs
one_of_total g [] i d h some = absurd (omega arith)
one_of_total g (x ∷ xs) zero d h some = first (g x) (total g xs) (total_some g xs some)
  where
    first : (a b : ℤ) → pos 0 ≤ℤ b → a ≤ℤ (a +ℤ b)
    first a b h = omega (arith, ints)
one_of_total g (x ∷ xs) (suc i) d h some = later (g x) (g (get_or xs i d)) (total g xs) (some x) (one_of_total g xs i d (omega arith) some)
  where
    later : (a b c : ℤ) → pos 0 ≤ℤ a → b ≤ℤ c → b ≤ℤ (a +ℤ c)
    later a b c h k = omega (arith, ints)

one_of_sum : (n : ℕ) (f : ℕ → ℤ) (k : ℕ) → k < n → ((j : ℕ) → pos 0 ≤ℤ f j) → f k ≤ℤ sum_to n f
one_of_sum n f k h some = below (f k) (sum_to k f) (sum_to (suc k) f) (sum_to n f) (sum_more k f) (sum_some k f some) (sum_front (suc k) n f (omega arith) some)
  where
    below : (a b c d : ℤ) → c ≡ b +ℤ a → pos 0 ≤ℤ b → c ≤ℤ d → a ≤ℤ d
    below a b c d e h i = omega (arith, ints)

once : (w : ℕ) (x : ℤ) → 1 ≤ w → pos 0 ≤ℤ x → x ≤ℤ (pos w *ℤ x)
once w (negsuc x) h k = absurd (omega (arith, ints))
once zero (pos x) h k = absurd (omega arith)
once (suc w) (pos x) h k = omega (arith, ints)

reach_some : (low high : List ℤ) (k : ℕ) → 1 ≤ max 1 (max (nat_abs (entry low k)) (nat_abs (entry high k)))
reach_some low high k = omega arith

first_part : (a b : ℤ) → pos 0 ≤ℤ b → a ≤ℤ (a +ℤ b)
first_part a b h = omega (arith, ints)

last_part : (a b : ℤ) → pos 0 ≤ℤ a → b ≤ℤ (a +ℤ b)
last_part a b h = omega (arith, ints)

no_realization : Realization
no_realization = record { weight = 0; values = [] }

module _ (pools : List (List Cut)) (n : Node) where
  some_states : (c : Certificate) (k : ℕ) → pos 0 ≤ℤ (reach n.low n.high k *ℤ beta_size n c k)
  some_states c k = some_mul (reach n.low n.high k) (beta_size n c k) (omega (arith, ints)) (some_beta n c k)

  slope_of_one : (k : ℕ) → k < length n.low → (q : Realization × Certificate) → (pos q.0.weight *ℤ beta_size n q.1 k) ≤ℤ realization_size pools n q
  slope_of_one k h q =
      le_scale q.0.weight (beta_size n q.1 k) (alpha_size pools n q.0.values q.1 +ℤ sum_to (length n.low) (λ k. reach n.low n.high k *ℤ beta_size n q.1 k))
      (le_trans (beta_size n q.1 k) (sum_to (length n.low) (λ k. reach n.low n.high k *ℤ beta_size n q.1 k)) (alpha_size pools n q.0.values q.1 +ℤ sum_to (length n.low) (λ k. reach n.low n.high k *ℤ beta_size n q.1 k))
      (le_trans (beta_size n q.1 k) (reach n.low n.high k *ℤ beta_size n q.1 k) (sum_to (length n.low) (λ k. reach n.low n.high k *ℤ beta_size n q.1 k))
      (once (max 1 (max (nat_abs (entry n.low k)) (nat_abs (entry n.high k)))) (beta_size n q.1 k) (reach_some n.low n.high k) (some_beta n q.1 k))
      (one_of_sum (length n.low) (λ k. reach n.low n.high k *ℤ beta_size n q.1 k) k h (some_states q.1)))
      (last_part (alpha_size pools n q.0.values q.1) (sum_to (length n.low) (λ k. reach n.low n.high k *ℤ beta_size n q.1 k)) (some_alpha pools n q.0.values q.1)))

  constant_of_one : (q : Realization × Certificate) → (pos q.0.weight *ℤ alpha_size pools n q.0.values q.1) ≤ℤ realization_size pools n q
  constant_of_one q =
      le_scale q.0.weight (alpha_size pools n q.0.values q.1) (alpha_size pools n q.0.values q.1 +ℤ sum_to (length n.low) (λ k. reach n.low n.high k *ℤ beta_size n q.1 k))
      (first_part (alpha_size pools n q.0.values q.1) (sum_to (length n.low) (λ k. reach n.low n.high k *ℤ beta_size n q.1 k)) (sum_some (length n.low) (λ k. reach n.low n.high k *ℤ beta_size n q.1 k) (some_states q.1)))

  some_decisions : (c : Certificate) (j : ℕ) → pos 0 ≤ℤ (reach n.decision_low n.decision_high j *ℤ reduced_size pools n c j)
  some_decisions c j = some_mul (reach n.decision_low n.decision_high j) (reduced_size pools n c j) (omega (arith, ints)) (some_reduced pools n c j)

  -- the terms of one decision are among those of its realization
  reduced_of_one : (values : List ℤ) (c : Certificate) (j : ℕ) → j < length n.costs → (reach n.decision_low n.decision_high j *ℤ magnitude (reduced_cost pools n c j)) ≤ℤ alpha_size pools n values c
  reduced_of_one values c j h =
      let m : ℕ = max 1 (max (nat_abs (entry n.decision_low j)) (nat_abs (entry n.decision_high j))) in
      let part : ℕ → ℤ = λ (i : ℕ). reach n.decision_low n.decision_high i *ℤ reduced_size pools n c i in
      let a : ℤ = scale n *ℤ (magnitude n.constant +ℤ dot (magnitudes n.random_costs) (magnitudes values)) in
      let b : ℤ = pos S *ℤ rows_size n c (λ row y. magnitude (side row y) +ℤ terms_size row.randoms (entry values)) in
      let d : ℤ = over_pairs pools n c (λ cut. magnitude cut.alpha) in
      le_trans (pos m *ℤ magnitude (reduced_cost pools n c j)) (part j) (alpha_size pools n values c) (le_scale m (magnitude (reduced_cost pools n c j)) (reduced_size pools n c j) (size_reduced pools n c j))
      (le_trans (part j) (sum_to (length n.costs) part) (alpha_size pools n values c) (one_of_sum (length n.costs) part j h (some_decisions c))
      (last_part (a +ℤ b +ℤ d) (sum_to (length n.costs) part)
      (some_add (a +ℤ b) d
      (some_add a b
      (some_mul (scale n) (magnitude n.constant +ℤ dot (magnitudes n.random_costs) (magnitudes values)) (some_pos (S * S * successor_weight n)) (some_add (magnitude n.constant) (dot (magnitudes n.random_costs) (magnitudes values)) (some_magnitude n.constant) (some_dot n.random_costs values)))
      (some_mul (pos S) (rows_size n c (λ row y. magnitude (side row y) +ℤ terms_size row.randoms (entry values))) (some_pos S)
      (some_rows n c (λ row y. magnitude (side row y) +ℤ terms_size row.randoms (entry values)) (λ row y. some_add (magnitude (side row y)) (terms_size row.randoms (entry values)) (some_magnitude (side row y)) (some_terms row.randoms (entry values))))))
      (some_pairs pools n c (λ cut. magnitude cut.alpha) (λ cut. some_magnitude cut.alpha)))))

  -- d_j times the ends of its box, where the terms of its realization are in range
  pub reduced_of_terms : (values : List ℤ) (c : Certificate) → (alpha_size pools n values c +ℤ sum_to (length n.low) (λ k. reach n.low n.high k *ℤ beta_size n c k)) ≤ℤ pos (2 ^ 127 - 1)
      → (j : ℕ) → j < length n.costs → (reach n.decision_low n.decision_high j *ℤ magnitude (reduced_cost pools n c j)) ≤ℤ pos (2 ^ 127 - 1)
  reduced_of_terms values c small j h =
      let states : ℤ = sum_to (length n.low) (λ k. reach n.low n.high k *ℤ beta_size n c k) in
      le_trans (reach n.decision_low n.decision_high j *ℤ magnitude (reduced_cost pools n c j)) (alpha_size pools n values c) (pos (2 ^ 127 - 1)) (reduced_of_one values c j h)
      (le_trans (alpha_size pools n values c) (alpha_size pools n values c +ℤ states) (pos (2 ^ 127 - 1)) (first_part (alpha_size pools n values c) states (sum_some (length n.low) (λ k. reach n.low n.high k *ℤ beta_size n c k) (some_states c))) small)

  module _ (list : List Certificate) (z : 0 < divisor n) (small : size_of pools n list ≤ℤ pos (2 ^ 127 - 1)) where
    realizations_in : total (realization_size pools n) (zip n.realizations list) ≤ℤ pos (2 ^ 127 - 1)
    realizations_in = le_trans (total (realization_size pools n) (zip n.realizations list)) (size_of pools n list) (pos (2 ^ 127 - 1)) (first_part (total (realization_size pools n) (zip n.realizations list)) (remainder_size n list) (some_remainder n list z)) small

    -- B_k
    pub slope_in : (k : ℕ) → k < length n.low → slope_size n list k ≤ℤ pos (2 ^ 127 - 1)
    slope_in k h =
        le_trans (slope_size n list k) (total (realization_size pools n) (zip n.realizations list)) (pos (2 ^ 127 - 1))
        (total_le (λ q. Unit {0}) (λ (q : Realization × Certificate). pos q.0.weight *ℤ beta_size n q.1 k) (realization_size pools n) (zip n.realizations list) (λ i d p. tt) (λ q u. slope_of_one k h q)) realizations_in

    -- A with the remainders
    pub constant_in : magnitude (alpha_sum pools n list +ℤ sum_to (length n.low) (λ k. remainder n list k *ℤ entry n.low k)) ≤ℤ pos (2 ^ 127 - 1)
    constant_in =
        let a : ℤ = total (λ (q : Realization × Certificate). pos q.0.weight *ℤ alpha_size pools n q.0.values q.1) (zip n.realizations list) in
        let b : ℤ = sum_to (length n.low) (λ k. remainder n list k *ℤ entry n.low k) in
        le_trans (magnitude (alpha_sum pools n list +ℤ b)) (a +ℤ remainder_size n list) (pos (2 ^ 127 - 1))
        (size_add (alpha_sum pools n list) b a (remainder_size n list) (alpha_sum_size pools n list) (rest_sum_size n list z))
        (le_trans (a +ℤ remainder_size n list) (size_of pools n list) (pos (2 ^ 127 - 1))
        (le_add a (total (realization_size pools n) (zip n.realizations list)) (remainder_size n list) (remainder_size n list)
        (total_le (λ q. Unit {0}) (λ (q : Realization × Certificate). pos q.0.weight *ℤ alpha_size pools n q.0.values q.1) (realization_size pools n) (zip n.realizations list) (λ i d p. tt) (λ q u. constant_of_one q)) (le_refl (remainder_size n list)))
        small)

    -- d_j times the ends of its box
    pub reduced_in : length list ≡ length n.realizations → All (λ (r : Realization). 1 ≤ r.weight) n.realizations
        → All (λ (c : Certificate). (j : ℕ) → j < length n.costs → (reach n.decision_low n.decision_high j *ℤ magnitude (reduced_cost pools n c j)) ≤ℤ pos (2 ^ 127 - 1)) list
    reduced_in e w = λ i c h j k.
        let r : Realization = get_or n.realizations i no_realization in
        let own : Certificate = get_or list i c in
        let inside : i < length n.realizations = omega arith in
        let terms : ℤ = alpha_size pools n r.values own +ℤ sum_to (length n.low) (λ k. reach n.low n.high k *ℤ beta_size n own k) in
        let some_sum : pos 0 ≤ℤ sum_to (length n.low) (λ k. reach n.low n.high k *ℤ beta_size n own k) = sum_some (length n.low) (λ k. reach n.low n.high k *ℤ beta_size n own k) (some_states own) in
        let here : get_or (zip n.realizations list) i (no_realization, c) ≡ (r, own) = get_or-zip n.realizations list i (no_realization, c) inside h in
        let one : realization_size pools n (r, own) ≤ℤ total (realization_size pools n) (zip n.realizations list) =
        subst (λ (q : Realization × Certificate). realization_size pools n q ≤ℤ total (realization_size pools n) (zip n.realizations list)) here
        (one_of_total (realization_size pools n) (zip n.realizations list) i (no_realization, c) (omega (arith, length-zip n.realizations list)) (some_realization pools n)) in
        le_trans (reach n.decision_low n.decision_high j *ℤ magnitude (reduced_cost pools n own j)) (realization_size pools n (r, own)) (pos (2 ^ 127 - 1))
        (le_trans (reach n.decision_low n.decision_high j *ℤ magnitude (reduced_cost pools n own j)) terms (realization_size pools n (r, own))
        (le_trans (reach n.decision_low n.decision_high j *ℤ magnitude (reduced_cost pools n own j)) (alpha_size pools n r.values own) terms (reduced_of_one r.values own j k) (first_part (alpha_size pools n r.values own) (sum_to (length n.low) (λ k. reach n.low n.high k *ℤ beta_size n own k)) some_sum))
        (once r.weight terms (w i no_realization inside) (some_add (alpha_size pools n r.values own) (sum_to (length n.low) (λ k. reach n.low n.high k *ℤ beta_size n own k)) (some_alpha pools n r.values own) some_sum)))
        (le_trans (realization_size pools n (r, own)) (total (realization_size pools n) (zip n.realizations list)) (pos (2 ^ 127 - 1)) one realizations_in)
