-- The bound of the size of a list of certificates: each of its steps, in natural numbers.
use Rattle.std.proofs.Common.{◌≡◌, ℕ, zero, suc, ◌+◌, ◌*◌, ◌^◌, ◌<◌, ◌≤◌, ℤ, pos, negsuc, List, [], ◌∷◌, length, get_or, zip, sum, max, All, nat_abs, Option, Some, None, MatchOption, IfSome, arith, refl, ◌∙◌, subst, ⊎_elim, mul-le-mul_left}
use Rattle.std.specs.List.{sum_by}
use Rattle.std.proofs.lemmas.Bool.{cases_lt}
use Rattle.std.proofs.lemmas.List.{get_or_default}
use Rattle.std.proofs.lemmas.List.Sums.{sum_by-cons}
use Rattle.base_num.specs.Sums.{Term, entry}
use Rattle.base_num.specs.declared.size.Size.{Size}
use Rattle.base_num.proofs.Sums.{All_head, All_tail}
use Rattle.problem.specs.declared.parts.Decision.{Decision}
use Rattle.problem.specs.declared.parts.Row.{Row}
use Rattle.problem.specs.declared.parts.Node as nodes
use Rattle.problem.specs.declared.parts.Subproblem.{Subproblem}
use Rattle.theory.specs.declared.cut.Cut.{Cut}
use Rattle.theory.specs.declared.cut.Certificate.{Certificate}
use Rattle.theory.specs.CutOf.{side, side_of}
use Rattle.theory.specs.Problem.{S}
use Rattle.cut_make.specs.SizeByTerms.{count_by, over_decisions, over_values, term_by, terms_by, scaled_row, rows_amount, row_amount, costs_amount, cut_amount, successors_amount, total_successor_weight, weighted_amount}
use Rattle.cut_check.specs.declared.size.tally.Tally.{Tally}
use Rattle.cut_check.specs.Bounds.{AreWithin, row_bound, costs_bound, cut_bound, Tallies, weighted_multipliers, weighted_pairs, weighted_rows, weighted_costs}

-- one element more of which something holds
pub each_more : (P : ℕ → Type 0) (i : ℕ) → ((t : ℕ) → t < i → P t) → P i → (t : ℕ) → t < i + 1 → P t
each_more P i all here t h = ⊎_elim (λ (l : t < i). all t l) (λ (l : i ≤ t). let e : i ≡ t = omega arith in subst P e here) (cases_lt t i)

pub all_more : {A : Type 0} (P : A → Type 0) (xs : List A) (i : ℕ) (x : A) → i < length xs → x ≡ get_or xs i x → ((k : ℕ) (d : A) → k < i → P (get_or xs k d)) → P x → (k : ℕ) (d : A) → k < i + 1 → P (get_or xs k d)
all_more {A} P xs i x inside is all here k d h = each_more (λ (t : ℕ). (e : A) → P (get_or xs t e)) i (λ t l e. all t e l) (λ e. subst P (is ∙ get_or_default xs i x e inside) here) k h d

-- a sum that is at least, or is, an amount
pub some_above : (o : Option Size) (k m : ℕ) → MatchOption o (2 ^ 127 ≤ k) (λ (size : Size). size.total ≡ k) → m ≤ k → IfSome o (λ (size : Size). m ≤ size.total)
some_above None k m h l = tt
some_above (Some x) k m h l = omega (arith, h, l)

pub some_equal : (o : Option Size) (k m : ℕ) → MatchOption o (2 ^ 127 ≤ k) (λ (size : Size). size.total ≡ k) → k ≡ m → IfSome o (λ (size : Size). size.total ≡ m)
some_equal None k m h l = tt
some_equal (Some x) k m h l = h ∙ l

-- what holds within a bound holds within a greater one
pub wider : (m n : ℕ) (xs : List ℤ) → m ≤ n → AreWithin m xs → AreWithin n xs
wider m n xs h all = λ t. let a = all t in omega (arith, a)

past : (xs : List ℤ) (t : ℕ) → length xs ≤ t → nat_abs (entry xs t) ≡ 0
past [] t h = refl
past (x ∷ xs) zero h = absurd (omega arith)
past (x ∷ xs) (suc t) h = past xs t (omega arith)

-- all numbers of a list
pub entries_within : (xs : List ℤ) (i m : ℕ) → length xs ≤ i → ((t : ℕ) → t < i → nat_abs (entry xs t) ≤ m) → (t : ℕ) → nat_abs (entry xs t) ≤ m
entries_within xs i m h all t = ⊎_elim (λ (l : t < i). all t l) (λ (l : i ≤ t). let e = past xs t (omega arith) in omega (arith, e)) (cases_lt t i)

pub entries_more : (xs : List ℤ) (i m n : ℕ) → m ≤ n → nat_abs (entry xs i) ≤ n → ((t : ℕ) → t < i → nat_abs (entry xs t) ≤ m) → (t : ℕ) → t < i + 1 → nat_abs (entry xs t) ≤ n
entries_more xs i m n h here all = each_more (λ (t : ℕ). nat_abs (entry xs t) ≤ n) i (λ t l. let a = all t l in omega (arith, a)) here

-- terms and numbers by a greater bound
terms_within : (f : ℕ → ℕ) (b : ℕ) (ts : List Term) → ((t : ℕ) → f t ≤ b) → terms_by f ts ≤ terms_by (λ t. b) ts
terms_within f b [] h = omega arith
terms_within f b (t ∷ ts) h =
    let c = sum_by-cons (term_by f) t ts in
    let d = sum_by-cons (term_by (λ (k : ℕ). b)) t ts in
    let here : nat_abs t.1 * f t.0 ≤ nat_abs t.1 * b = mul-le-mul_left (nat_abs t.1) (h t.0) in
    let rest = terms_within f b ts h in
    omega (arith, c, d, here, rest)

counts_within : (n : ℕ) (g f : ℕ → ℕ) (b : ℕ) → ((t : ℕ) → f t ≤ b) → count_by n (λ k. g k * f k) ≤ count_by n (λ k. g k * b)
counts_within zero g f b h = omega arith
counts_within (suc n) g f b h =
    let here : g n * f n ≤ g n * b = mul-le-mul_left (g n) (h n) in
    let rest = counts_within n g f b h in
    omega (arith, here, rest)

side_within : (row : Row) (y : ℤ) → nat_abs (side row y) ≤ max (nat_abs (side_of row.low)) (nat_abs (side_of row.high))
side_within row (pos zero) = omega arith
side_within row (pos (suc y)) = omega arith
side_within row (negsuc y) = omega arith

row_within : (v : ℕ) (ds : List Decision) (low high values : List ℤ) (row : Row) (y : ℤ) → AreWithin v values → row_amount ds low high values (row, y) ≤ row_bound v ds low high row
row_within v ds low high values row y h =
    let a = side_within row y in
    let b = terms_within (over_values values) v row.randoms h in
    omega (arith, a, b)

rows_within : (v most : ℕ) (ds : List Decision) (low high values : List ℤ) (rows : List Row) (ys : List ℤ) → AreWithin v values → All (λ row. row_bound v ds low high row ≤ most) rows → rows_amount ds low high values rows ys ≤ sum_by nat_abs ys * most
rows_within v most ds low high values [] ys h all = omega arith
rows_within v most ds low high values (row ∷ rows) [] h all = omega arith
rows_within v most ds low high values (row ∷ rows) (y ∷ ys) h all =
    let c = sum_by-cons (scaled_row ds low high values) (row, y) (zip rows ys) in
    let d = sum_by-cons nat_abs y ys in
    let here = row_within v ds low high values row y h in
    let most_here = All_head (λ (r : Row). row_bound v ds low high r ≤ most) row rows all in
    let rest = rows_within v most ds low high values rows ys h (All_tail (λ (r : Row). row_bound v ds low high r ≤ most) row rows all) in
    step (nat_abs y) (row_amount ds low high values (row, y)) most (rows_amount ds low high values rows ys) (sum_by nat_abs ys) _ _ c d (omega (arith, here, most_here)) rest
  where
    step : (y a m r s t u : ℕ) → t ≡ y * a + r → u ≡ y + s → a ≤ m → r ≤ s * m → t ≤ u * m
    step y a m r s t u e f h k = let l : y * a ≤ y * m = mul-le-mul_left y h in rw (e, f) (omega (arith, l, k))

-- the rows of all realizations
pub all_rows_within : (v most : ℕ) (s : Subproblem) (low high : List ℤ) (ws : List ℕ) (vs : List (List ℤ)) (list : List Certificate) → All (AreWithin v) vs → All (λ row. row_bound v s.decisions low high row ≤ most) s.rows
    → weighted_rows s low high ws vs list ≤ weighted_multipliers ws list * most
all_rows_within v most s low high [] vs list h all = omega arith
all_rows_within v most s low high (w ∷ ws) [] list h all = omega arith
all_rows_within v most s low high (w ∷ ws) (x ∷ vs) [] h all = omega arith
all_rows_within v most s low high (w ∷ ws) (x ∷ vs) (c ∷ cs) h all =
    let f : ℕ × (List ℤ × Certificate) → ℕ = λ q. q.0 * rows_amount s.decisions low high q.1.0 s.rows q.1.1.rows in
    let g : ℕ × Certificate → ℕ = λ q. q.0 * sum_by nat_abs q.1.rows in
    let d = sum_by-cons f (w, (x, c)) (zip ws (zip vs cs)) in
    let e = sum_by-cons g (w, c) (zip ws cs) in
    let here = rows_within v most s.decisions low high x s.rows c.rows (All_head (AreWithin v) x vs h) all in
    let rest = all_rows_within v most s low high ws vs cs (All_tail (AreWithin v) x vs h) all in
    step w (rows_amount s.decisions low high x s.rows c.rows) (sum_by nat_abs c.rows) most (weighted_rows s low high ws vs cs) (weighted_multipliers ws cs) _ _ d e here rest
  where
    step : (w a y m r s t u : ℕ) → t ≡ w * a + r → u ≡ w * y + s → a ≤ y * m → r ≤ s * m → t ≤ u * m
    step w a y m r s t u e f h k = let l : w * a ≤ w * (y * m) = mul-le-mul_left w h in rw (e, f) (omega (arith, l, k))

-- the costs of all realizations
costs_within : (v : ℕ) (s : Subproblem) (low high values : List ℤ) → AreWithin v values → costs_amount s low high values ≤ costs_bound v s low high
costs_within v s low high values h = let c = counts_within (length s.random_costs) (λ k. nat_abs (entry s.random_costs k)) (over_values values) v h in omega (arith, c)

weights_within : (v : ℕ) (s : Subproblem) (low high : List ℤ) (ws : List ℕ) (vs : List (List ℤ)) → All (AreWithin v) vs → weighted_costs s low high ws vs ≤ sum ws * costs_bound v s low high
weights_within v s low high [] vs h = omega arith
weights_within v s low high (w ∷ ws) [] h = omega arith
weights_within v s low high (w ∷ ws) (x ∷ vs) h =
    let f : ℕ × List ℤ → ℕ = λ q. q.0 * costs_amount s low high q.1 in
    let d = sum_by-cons f (w, x) (zip ws vs) in
    let e = sum_by-cons (λ (k : ℕ). k) w ws in
    let here = costs_within v s low high x (All_head (AreWithin v) x vs h) in
    let rest = weights_within v s low high ws vs (All_tail (AreWithin v) x vs h) in
    step w (costs_amount s low high x) (costs_bound v s low high) (weighted_costs s low high ws vs) (sum ws) _ _ d e here rest
  where
    step : (w a m r s t u : ℕ) → t ≡ w * a + r → u ≡ w + s → a ≤ m → r ≤ s * m → t ≤ u * m
    step w a m r s t u e f h k = let l : w * a ≤ w * m = mul-le-mul_left w h in rw (e, f) (omega (arith, l, k))

pub all_costs_within : (v u : ℕ) (s : Subproblem) (low high : List ℤ) (ws : List ℕ) (vs : List (List ℤ)) → All (AreWithin v) vs → u * weighted_costs s low high ws vs ≤ u * sum ws * costs_bound v s low high
all_costs_within v u s low high ws vs h =
    let l : u * weighted_costs s low high ws vs ≤ u * (sum ws * costs_bound v s low high) = mul-le-mul_left u (weights_within v s low high ws vs h) in
    omega (arith, l)

-- all of the realizations by their pairs, their rows and their costs
pub parts_within : (n : nodes.Node) (s : Subproblem) (low high : List ℤ) (pools : List (List Cut)) (ws : List ℕ) (vs : List (List ℤ)) (list : List Certificate)
    → sum_by (weighted_amount n s low high pools) (zip ws (zip vs list)) ≤ weighted_pairs n s pools ws list + S * (weighted_rows s low high ws vs list + S * total_successor_weight n * weighted_costs s low high ws vs)
parts_within n s low high pools [] vs list = omega arith
parts_within n s low high pools (w ∷ ws) [] list = omega arith
parts_within n s low high pools (w ∷ ws) (v ∷ vs) [] = omega arith
parts_within n s low high pools (w ∷ ws) (v ∷ vs) (c ∷ cs) =
    let f : ℕ × Certificate → ℕ = λ q. q.0 * successors_amount s.decisions s.outs pools n.successors q.1.cuts in
    let g : ℕ × (List ℤ × Certificate) → ℕ = λ q. q.0 * rows_amount s.decisions low high q.1.0 s.rows q.1.1.rows in
    let h : ℕ × List ℤ → ℕ = λ q. q.0 * costs_amount s low high q.1 in
    step w S (S * total_successor_weight n) (successors_amount s.decisions s.outs pools n.successors c.cuts) (rows_amount s.decisions low high v s.rows c.rows) (costs_amount s low high v) _ (weighted_pairs n s pools ws cs) (weighted_rows s low high ws vs cs) (weighted_costs s low high ws vs) _ _ _ _
    (sum_by-cons (weighted_amount n s low high pools) (w, (v, c)) (zip ws (zip vs cs))) (sum_by-cons f (w, c) (zip ws cs)) (sum_by-cons g (w, (v, c)) (zip ws (zip vs cs))) (sum_by-cons h (w, v) (zip ws vs)) (parts_within n s low high pools ws vs cs)
  where
    step : (w a u p r e X P R E X' P' R' E' : ℕ) → X' ≡ w * (p + a * (r + u * e)) + X → P' ≡ w * p + P → R' ≡ w * r + R → E' ≡ w * e + E → X ≤ P + a * (R + u * E) → X' ≤ P' + a * (R' + u * E')
    step w a u p r e X P R E X' P' R' E' i j k l h = rw (i, j, k, l) (omega (arith, h))

-- a cut at the ends of the boxes
slopes_within : (f : ℕ → ℕ) (b : ℕ) (outs : List ℕ) (beta : List ℤ) → ((k : ℕ) → nat_abs (entry beta k) ≤ b) → terms_by f (zip outs beta) ≤ b * sum_by f outs
slopes_within f b [] beta h = omega arith
slopes_within f b (o ∷ outs) [] h = omega arith
slopes_within f b (o ∷ outs) (z ∷ beta) h =
    let c = sum_by-cons (term_by f) (o, z) (zip outs beta) in
    let d = sum_by-cons f o outs in
    step (nat_abs z) (f o) b (terms_by f (zip outs beta)) (sum_by f outs) _ _ c d (h 0) (slopes_within f b outs beta (λ k. h (suc k)))
  where
    step : (z o b r s t u : ℕ) → t ≡ z * o + r → u ≡ o + s → z ≤ b → r ≤ b * s → t ≤ b * u
    step z o b r s t u e f h k = let l : o * z ≤ o * b = mul-le-mul_left o h in rw (e, f) (omega (arith, l, k))

pub cut_within : (ds : List Decision) (outs : List ℕ) (c : Cut) (t : Tally) → nat_abs c.alpha ≤ t.alpha → ((k : ℕ) → nat_abs (entry c.beta k) ≤ t.slope) → cut_amount ds outs c ≤ cut_bound ds outs t
cut_within ds outs c t a b = let l = slopes_within (over_decisions ds) t.slope outs c.beta b in omega (arith, a, l)

pub cut_grown : (ds : List Decision) (outs : List ℕ) (t u : Tally) → t.alpha ≤ u.alpha → t.slope ≤ u.slope → cut_bound ds outs t ≤ cut_bound ds outs u
cut_grown ds outs t u a b = let spans = sum_by (over_decisions ds) outs in let l : spans * t.slope ≤ spans * u.slope = mul-le-mul_left spans b in omega (arith, a, l)

-- one pair, nothing, and one part more
pub tallies_pair : (ds : List Decision) (outs : List ℕ) (t u : Tally) (w m c : ℕ) → u.multipliers ≡ t.multipliers + w * m → cut_bound ds outs t ≤ cut_bound ds outs u → c ≤ cut_bound ds outs u → Tallies ds outs t u (w * (m * c))
tallies_pair ds outs t u w m c e grown h = record {
  grown = grown;
  within = λ k l. rw e (pair_within t.multipliers w m c k (omega (arith, h, l)));
}
  where
    pair_within : (b w m c k : ℕ) → c ≤ k → w * (m * c) + b * k ≤ (b + w * m) * k
    pair_within b w m c k h = let l : w * m * c ≤ w * m * k = mul-le-mul_left (w * m) h in omega (arith, l)

pub tallies_none : (ds : List Decision) (outs : List ℕ) (t : Tally) (x : ℕ) → x ≡ 0 → Tallies ds outs t t x
tallies_none ds outs t x e = record { grown = omega arith; within = λ k l. omega (arith, e) }

pub tallies_more : (ds : List Decision) (outs : List ℕ) (t u v : Tally) (x y z : ℕ) → z ≡ x + y → Tallies ds outs t u x → Tallies ds outs u v y → Tallies ds outs t v z
tallies_more ds outs t u v x y z e a b = record {
  grown = let g = a.grown in let h = b.grown in omega (arith, g, h);
  within = λ k l. let h = b.grown in let p = a.within k (omega (arith, h, l)) in let q = b.within k l in omega (arith, p, q, e);
}

pub scaled : (w s t u : ℕ) → s ≡ t + u → w * s ≡ w * t + w * u
scaled w s t u e = rw e (omega arith)
