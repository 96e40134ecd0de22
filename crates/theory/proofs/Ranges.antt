-- Where a sum of parts that are not negative passes its range.
use Rattle.std.proofs.Common.{◌≡◌, if◌then◌else◌, ℕ, zero, suc, ◌+◌, ◌<◌, ◌-◌, ◌*◌, max, ◌^◌, ℤ, pos, negsuc, ◌+ℤ◌, ◌*ℤ◌, ◌-ℤ◌, ◌≤ℤ◌, ◌<ℤ◌, Bool, true, false, List, [], ◌∷◌, ◌++◌, length, take, map, zip, All, nat_abs, Some, None, refl, sym, ap, ◌∙◌, subst, add-one, arith}
use Rattle.std.specs.Prelude.{int_le}
use Rattle.std.proofs.lemmas.Int.{ints}
use Rattle.std.proofs.lemmas.List.Elements.{All-cons}
use lib.IntN.{+ℤ_assoc, +ℤ_idl, +ℤ_idr}
use Rattle.base_num.specs.Sums.{sum_to, total, entry, dot, Term, same_place, coefficient, placed}
use Rattle.base_num.proofs.Order.{floor_at_most}
use Rattle.problem.specs.declared.parts.Row.{Row}
use Rattle.theory.specs.declared.cut.Cut.{Cut}
use Rattle.theory.specs.declared.cut.Certificate.{Certificate}
use Rattle.theory.specs.Problem.{S, Successor, Node, Realization, successor_weight}
use Rattle.theory.specs.Certificates.{cut_at}
use Rattle.theory.specs.CutOf.{scale, over_pairs, side, beta_sum, divisor, slope, remainder}
use Rattle.theory.specs.Size.{magnitude, magnitudes, terms_size, coefficient_size, reach, rows_size, reduced_size, alpha_size, beta_size, realization_size, remainder_size, size_of, size_parts, RangeAt}
use Rattle.base_num.proofs.Fronts.{total_some, sum_some}
use Rattle.base_num.proofs.Sums.{All_head, All_tail}
use Rattle.theory.specs.Range.{range_from, range_of}

pub int_le-true : (a b : ℤ) → a ≤ℤ b → int_le a b ≡ true
int_le-true a b h = grind (arith, ints)

pub int_le-false : (a b : ℤ) → b <ℤ a → int_le a b ≡ false
int_le-false a b h = grind (arith, ints)

some_total : (zs : List ℤ) → All (λ z. pos 0 ≤ℤ z) zs → pos 0 ≤ℤ total (λ z. z) zs
some_total [] h = omega (arith, ints)
some_total (z ∷ zs) h = omega (arith, ints, All_head (λ (z : ℤ). pos 0 ≤ℤ z) z zs h, some_total zs (All_tail (λ (z : ℤ). pos 0 ≤ℤ z) z zs h))

-- the whole is in range
pub none-range_from : (zs : List ℤ) (s : ℤ) (r : ℕ) → All (λ z. pos 0 ≤ℤ z) zs → (s +ℤ total (λ z. z) zs) ≤ℤ pos (2 ^ 127 - 1) → range_from s r zs ≡ None
none-range_from [] s r h le = refl
none-range_from (z ∷ zs) s r h le =
    let tail = some_total zs (All_tail (λ (z : ℤ). pos 0 ≤ℤ z) z zs h) in
    let here : (s +ℤ z) ≤ℤ pos (2 ^ 127 - 1) = omega (arith, ints, tail, le) in
    let more : (s +ℤ z +ℤ total (λ z. z) zs) ≤ℤ pos (2 ^ 127 - 1) = omega (arith, ints, le) in
    rw (int_le-true (s +ℤ z) (pos (2 ^ 127 - 1)) here) (none-range_from zs (s +ℤ z) (suc r) (All_tail (λ (z : ℤ). pos 0 ≤ℤ z) z zs h) more)

-- the part k is the first that brings it past
pub some-range_from : (zs : List ℤ) (s : ℤ) (r k : ℕ) → All (λ z. pos 0 ≤ℤ z) zs → k < length zs → (s +ℤ total (λ z. z) (take k zs)) ≤ℤ pos (2 ^ 127 - 1) → pos (2 ^ 127) ≤ℤ (s +ℤ total (λ z. z) (take (suc k) zs)) → range_from s r zs ≡ Some (r + k)
some-range_from [] s r k h i le past = absurd (omega arith)
some-range_from (z ∷ zs) s r zero h i le past =
    let here : pos (2 ^ 127 - 1) <ℤ (s +ℤ z) = omega (arith, ints, past) in
    rw (int_le-false (s +ℤ z) (pos (2 ^ 127 - 1)) here) (ap Some (omega arith))
some-range_from (z ∷ zs) s r (suc k) h i le past =
    let tail = All_tail (λ (z : ℤ). pos 0 ≤ℤ z) z zs h in
    let front : pos 0 ≤ℤ total (λ z. z) (take k zs) = some_total (take k zs) (All-take-some k zs tail) in
    let here : (s +ℤ z) ≤ℤ pos (2 ^ 127 - 1) = omega (arith, ints, front, le) in
    let le' : (s +ℤ z +ℤ total (λ z. z) (take k zs)) ≤ℤ pos (2 ^ 127 - 1) = omega (arith, ints, le) in
    let past' : pos (2 ^ 127) ≤ℤ (s +ℤ z +ℤ total (λ z. z) (take (suc k) zs)) = omega (arith, ints, past) in
    rw (int_le-true (s +ℤ z) (pos (2 ^ 127 - 1)) here) (some-range_from zs (s +ℤ z) (suc r) k tail (omega arith) le' past' ∙ ap Some (omega arith))
  where
    All-take-some : (k : ℕ) (zs : List ℤ) → All (λ z. pos 0 ≤ℤ z) zs → All (λ z. pos 0 ≤ℤ z) (take k zs)
    All-take-some zero zs h = λ j d p. absurd (omega arith)
    All-take-some (suc k) [] h = λ j d p. absurd (omega arith)
    All-take-some (suc k) (z ∷ zs) h = All-cons (λ (z : ℤ). pos 0 ≤ℤ z) z (take k zs) (All_head (λ (z : ℤ). pos 0 ≤ℤ z) z zs h) (All-take-some k zs (All_tail (λ (z : ℤ). pos 0 ≤ℤ z) z zs h))

-- where no part brings it past, the whole is in range
within-range_from : (zs : List ℤ) (s : ℤ) (r : ℕ) → s ≤ℤ pos (2 ^ 127 - 1) → range_from s r zs ≡ None → (s +ℤ total (λ z. z) zs) ≤ℤ pos (2 ^ 127 - 1)
within-range_from [] s r h e = subst (λ (k : ℤ). k ≤ℤ pos (2 ^ 127 - 1)) (sym (+ℤ_idr s)) h
within-range_from (z ∷ zs) s r h e =
    subst (λ (k : ℤ). k ≤ℤ pos (2 ^ 127 - 1)) (+ℤ_assoc s z (total (λ z. z) zs)) (by (λ i f. within-range_from zs (s +ℤ z) (suc r) i f) (int_le (s +ℤ z) (pos (2 ^ 127 - 1))) refl e)
  where
    by : (((s +ℤ z) ≤ℤ pos (2 ^ 127 - 1)) → range_from (s +ℤ z) (suc r) zs ≡ None → (s +ℤ z +ℤ total (λ z. z) zs) ≤ℤ pos (2 ^ 127 - 1))
        → (b : Bool) → int_le (s +ℤ z) (pos (2 ^ 127 - 1)) ≡ b → (if b then range_from (s +ℤ z) (suc r) zs else Some r) ≡ None → (s +ℤ z +ℤ total (λ z. z) zs) ≤ℤ pos (2 ^ 127 - 1)
    by go true is f = go (grind (arith, ints)) f
    by go false is f = absurd (no f)
      where
        no : Some r ≡ None → ⊥
        no f = cc

-- products and sums of what is not negative
pub some_mul : (a b : ℤ) → pos 0 ≤ℤ a → pos 0 ≤ℤ b → pos 0 ≤ℤ (a *ℤ b)
some_mul (pos m) (pos n) h k = omega (arith, ints)
some_mul (pos m) (negsuc n) h k = absurd (omega (arith, ints))
some_mul (negsuc m) b h k = absurd (omega (arith, ints))

pub some_add : (a b : ℤ) → pos 0 ≤ℤ a → pos 0 ≤ℤ b → pos 0 ≤ℤ (a +ℤ b)
some_add a b h k = omega (arith, ints)

pub some_magnitude : (z : ℤ) → pos 0 ≤ℤ magnitude z
some_magnitude z = omega (arith, ints)

pub some_pos : (n : ℕ) → pos 0 ≤ℤ pos n
some_pos n = omega (arith, ints)

pub some_dot : (xs ys : List ℤ) → pos 0 ≤ℤ dot (magnitudes xs) (magnitudes ys)
some_dot [] ys = some_pos 0
some_dot (x ∷ xs) [] = some_pos 0
some_dot (x ∷ xs) (y ∷ ys) = some_add (magnitude x *ℤ magnitude y) (dot (magnitudes xs) (magnitudes ys)) (some_mul (magnitude x) (magnitude y) (some_magnitude x) (some_magnitude y)) (some_dot xs ys)

pub some_rows : (n : Node) (c : Certificate) (f : Row → ℤ → ℤ) → ((row : Row) (y : ℤ) → pos 0 ≤ℤ f row y) → pos 0 ≤ℤ rows_size n c f
some_rows n c f h = total_some (λ (q : Row × ℤ). magnitude q.1 *ℤ f q.0 q.1) (zip n.rows c.rows) (λ q. some_mul (magnitude q.1) (f q.0 q.1) (some_magnitude q.1) (h q.0 q.1))

pub some_pairs : (pools : List (List Cut)) (n : Node) (c : Certificate) (f : Cut → ℤ) → ((x : Cut) → pos 0 ≤ℤ f x) → pos 0 ≤ℤ over_pairs pools n c f
some_pairs pools n c f h = total_some (λ (q : Successor × List (ℕ × ℕ)). total (λ (s : ℕ × ℕ). pos s.1 *ℤ f (cut_at pools q.0 s)) q.1) (zip n.successors c.cuts)
    (λ q. total_some (λ (s : ℕ × ℕ). pos s.1 *ℤ f (cut_at pools q.0 s)) q.1 (λ s. some_mul (pos s.1) (f (cut_at pools q.0 s)) (some_pos s.1) (h (cut_at pools q.0 s))))

some_place : (i j : ℕ) → pos 0 ≤ℤ same_place i j
some_place zero zero = some_pos 1
some_place zero (suc j) = some_pos 0
some_place (suc i) zero = some_pos 0
some_place (suc i) (suc j) = some_place i j

some_coefficient : (ts : List Term) (j : ℕ) → pos 0 ≤ℤ coefficient_size ts j
some_coefficient ts j = total_some (λ (t : Term). magnitude t.1 *ℤ same_place t.0 j) ts (λ t. some_mul (magnitude t.1) (same_place t.0 j) (some_magnitude t.1) (some_place t.0 j))

pub some_terms : (ts : List Term) (x : ℕ → ℤ) → pos 0 ≤ℤ terms_size ts x
some_terms ts x = total_some (λ (t : Term). magnitude t.1 *ℤ magnitude (x t.0)) ts (λ t. some_mul (magnitude t.1) (magnitude (x t.0)) (some_magnitude t.1) (some_magnitude (x t.0)))

pub some_reduced : (pools : List (List Cut)) (n : Node) (c : Certificate) (j : ℕ) → pos 0 ≤ℤ reduced_size pools n c j
some_reduced pools n c j =
    some_add (scale n *ℤ magnitude (entry n.costs j) +ℤ pos S *ℤ rows_size n c (λ row y. magnitude (coefficient row.decisions j))) (over_pairs pools n c (λ cut. coefficient_size (placed n.outs cut.beta) j))
    (some_add (scale n *ℤ magnitude (entry n.costs j)) (pos S *ℤ rows_size n c (λ row y. magnitude (coefficient row.decisions j)))
    (some_mul (scale n) (magnitude (entry n.costs j)) (some_pos (S * S * successor_weight n)) (some_magnitude (entry n.costs j)))
    (some_mul (pos S) (rows_size n c (λ row y. magnitude (coefficient row.decisions j))) (some_pos S) (some_rows n c (λ row y. magnitude (coefficient row.decisions j)) (λ row y. some_magnitude (coefficient row.decisions j)))))
    (some_pairs pools n c (λ cut. coefficient_size (placed n.outs cut.beta) j) (λ cut. some_coefficient (placed n.outs cut.beta) j))

pub some_beta : (n : Node) (c : Certificate) (k : ℕ) → pos 0 ≤ℤ beta_size n c k
some_beta n c k =
    some_add (scale n *ℤ magnitude (entry n.state_costs k)) (pos S *ℤ rows_size n c (λ row y. magnitude (coefficient row.states k)))
    (some_mul (scale n) (magnitude (entry n.state_costs k)) (some_pos (S * S * successor_weight n)) (some_magnitude (entry n.state_costs k)))
    (some_mul (pos S) (rows_size n c (λ row y. magnitude (coefficient row.states k))) (some_pos S) (some_rows n c (λ row y. magnitude (coefficient row.states k)) (λ row y. some_magnitude (coefficient row.states k))))

pub some_alpha : (pools : List (List Cut)) (n : Node) (values : List ℤ) (c : Certificate) → pos 0 ≤ℤ alpha_size pools n values c
some_alpha pools n values c =
    let a : ℤ = scale n *ℤ (magnitude n.constant +ℤ dot (magnitudes n.random_costs) (magnitudes values)) in
    let b : ℤ = pos S *ℤ rows_size n c (λ row y. magnitude (side row y) +ℤ terms_size row.randoms (entry values)) in
    let d : ℤ = over_pairs pools n c (λ cut. magnitude cut.alpha) in
    let e : ℤ = sum_to (length n.costs) (λ j. reach n.decision_low n.decision_high j *ℤ reduced_size pools n c j) in
    some_add (a +ℤ b +ℤ d) e
    (some_add (a +ℤ b) d
    (some_add a b
    (some_mul (scale n) (magnitude n.constant +ℤ dot (magnitudes n.random_costs) (magnitudes values)) (some_pos (S * S * successor_weight n)) (some_add (magnitude n.constant) (dot (magnitudes n.random_costs) (magnitudes values)) (some_magnitude n.constant) (some_dot n.random_costs values)))
    (some_mul (pos S) (rows_size n c (λ row y. magnitude (side row y) +ℤ terms_size row.randoms (entry values))) (some_pos S) (some_rows n c (λ row y. magnitude (side row y) +ℤ terms_size row.randoms (entry values)) (λ row y. some_add (magnitude (side row y)) (terms_size row.randoms (entry values)) (some_magnitude (side row y)) (some_terms row.randoms (entry values))))))
    (some_pairs pools n c (λ cut. magnitude cut.alpha) (λ cut. some_magnitude cut.alpha)))
    (sum_some (length n.costs) (λ j. reach n.decision_low n.decision_high j *ℤ reduced_size pools n c j) (λ j. some_mul (reach n.decision_low n.decision_high j) (reduced_size pools n c j) (some_pos (max 1 (max (nat_abs (entry n.decision_low j)) (nat_abs (entry n.decision_high j))))) (some_reduced pools n c j)))

pub some_realization : (pools : List (List Cut)) (n : Node) (q : Realization × Certificate) → pos 0 ≤ℤ realization_size pools n q
some_realization pools n q =
    some_mul (pos q.0.weight) (alpha_size pools n q.0.values q.1 +ℤ sum_to (length n.low) (λ k. reach n.low n.high k *ℤ beta_size n q.1 k)) (some_pos q.0.weight)
    (some_add (alpha_size pools n q.0.values q.1) (sum_to (length n.low) (λ k. reach n.low n.high k *ℤ beta_size n q.1 k)) (some_alpha pools n q.0.values q.1)
    (sum_some (length n.low) (λ k. reach n.low n.high k *ℤ beta_size n q.1 k) (λ k. some_mul (reach n.low n.high k) (beta_size n q.1 k) (some_pos (max 1 (max (nat_abs (entry n.low k)) (nat_abs (entry n.high k))))) (some_beta n q.1 k))))

not_below : (a b : ℤ) → a ≤ℤ b → pos 0 ≤ℤ (b -ℤ a)
not_below a b h = omega (arith, ints)

pub some_remainder : (n : Node) (list : List Certificate) → 0 < divisor n → pos 0 ≤ℤ remainder_size n list
some_remainder n list z = sum_some (length n.low) (λ k. remainder n list k *ℤ magnitude (entry n.low k)) (λ k. some_mul (remainder n list k) (magnitude (entry n.low k)) (not_below (pos (divisor n) *ℤ slope n list k) (beta_sum n list k) (floor_at_most (beta_sum n list k) (divisor n) z)) (some_magnitude (entry n.low k)))

-- no part of a size is negative
pub some_parts : (pools : List (List Cut)) (n : Node) (list : List Certificate) → 0 < divisor n → All (λ z. pos 0 ≤ℤ z) (size_parts pools n list)
some_parts pools n list z = parts (zip n.realizations list)
  where
    parts : (qs : List (Realization × Certificate)) → All (λ z. pos 0 ≤ℤ z) (map (realization_size pools n) qs ++ remainder_size n list ∷ [])
    parts [] = All-cons (λ (z : ℤ). pos 0 ≤ℤ z) (remainder_size n list) [] (some_remainder n list z) (λ j d p. absurd (omega arith))
    parts (q ∷ qs) = All-cons (λ (z : ℤ). pos 0 ≤ℤ z) (realization_size pools n q) (map (realization_size pools n) qs ++ remainder_size n list ∷ []) (some_realization pools n q) (parts qs)

total-parts : (pools : List (List Cut)) (n : Node) (list : List Certificate) → total (λ z. z) (size_parts pools n list) ≡ size_of pools n list
total-parts pools n list = parts (zip n.realizations list)
  where
    parts : (qs : List (Realization × Certificate)) → total (λ z. z) (map (realization_size pools n) qs ++ remainder_size n list ∷ []) ≡ total (realization_size pools n) qs +ℤ remainder_size n list
    parts [] = omega (arith, ints)
    parts (q ∷ qs) = ap (λ (k : ℤ). realization_size pools n q +ℤ k) (parts qs) ∙ sym (+ℤ_assoc (realization_size pools n q) (total (realization_size pools n) qs) (remainder_size n list))

-- a size in range
pub none-range_of : (pools : List (List Cut)) (n : Node) (list : List Certificate) → 0 < divisor n → size_of pools n list ≤ℤ pos (2 ^ 127 - 1) → range_of pools n list ≡ None
none-range_of pools n list z h =
    none-range_from (size_parts pools n list) (pos 0) 0 (some_parts pools n list z)
    (subst (λ (k : ℤ). k ≤ℤ pos (2 ^ 127 - 1)) (sym (+ℤ_idl (total (λ z. z) (size_parts pools n list)) ∙ total-parts pools n list)) h)

pub within-range_of : (pools : List (List Cut)) (n : Node) (list : List Certificate) → range_of pools n list ≡ None → size_of pools n list ≤ℤ pos (2 ^ 127 - 1)
within-range_of pools n list e =
    subst (λ (k : ℤ). k ≤ℤ pos (2 ^ 127 - 1)) (+ℤ_idl (total (λ z. z) (size_parts pools n list)) ∙ total-parts pools n list)
    (within-range_from (size_parts pools n list) (pos 0) 0 (omega (arith, ints)) e)

-- the realization at which a size passes its range
pub some-range_of : (pools : List (List Cut)) (n : Node) (list : List Certificate) (r : ℕ) → 0 < divisor n → RangeAt pools n list r → range_of pools n list ≡ Some r
some-range_of pools n list r z h =
    some-range_from (size_parts pools n list) (pos 0) 0 r (some_parts pools n list z) h.within
    (subst (λ (k : ℤ). k ≤ℤ pos (2 ^ 127 - 1)) (sym (+ℤ_idl (total (λ z. z) (take r (size_parts pools n list))))) h.before)
    (subst (λ (k : ℤ). pos (2 ^ 127) ≤ℤ k) (sym (+ℤ_idl (total (λ z. z) (take (suc r) (size_parts pools n list))))) (subst (λ (k : ℕ). pos (2 ^ 127) ≤ℤ total (λ z. z) (take k (size_parts pools n list))) (add-one r) h.beyond))
    ∙ ap Some (omega arith)
