-- The slopes of a cut at the decisions that leave as states, read by state.
use Rattle.std.proofs.Common.{◌≡◌, ◌≢◌, ℕ, zero, suc, ◌+◌, ◌-◌, ◌<◌, ◌≤◌, ℤ, pos, ◌+ℤ◌, ◌*ℤ◌, Bool, true, false, ◌==◌, if◌then◌else◌, List, [], ◌∷◌, ◌++◌, length, map, All, Option, Some, None, refl, ap, ap₂, sym, subst, ◌∙◌, append-nil, arith}
use Rattle.std.specs.List.{flat_map, range_with_len, list_any}
use Rattle.std.specs.Prelude.{unwrap_or}
use Rattle.std.proofs.lemmas.Bool.Decides.{nat_tests}
use Rattle.std.proofs.lemmas.Grind.{common_steps, flat_map-append}
use Rattle.std.proofs.lemmas.List.Elements.{All-append, All-cons, All-nil}
use Rattle.std.proofs.lemmas.Int.{ints}
use Rattle.base_num.specs.Sums.{same_place, coefficient, placed, entry}
use Rattle.base_num.proofs.Tests.{and_second}
use Rattle.problem.specs.Distinct.{are_distinct}
use Rattle.problem.specs.declared.parts.Subproblem.{Subproblem}
use Rattle.problem.specs.Limits.{outs_differ}
use Rattle.theory.specs.declared.cut.Cut.{Cut}
use Rattle.theory.specs.Pools.{pool}
use Rattle.lp_program.specs.declared.fixed.Fx.{Fx}
use Rattle.lp_program.specs.declared.programs.LpRow.{LpRow}
use Rattle.lp_program.specs.declared.packed.Out.{Out}
use Rattle.plan_stage.specs.Stage.{whole_fixed, scaled, negated_term, cut_row, cut_rows}
use Rattle.plan_stage.specs.Outs.{state_from, outs_at, outs_in_order, row_over, rows_over}
use Rattle.lp_program.specs.Packed.{slope_term}
use Rattle.plan_stage.specs.Spans.{Spans, IsSlopeWithin}

-- places
place_same : (i : ℕ) → same_place i i ≡ pos 1
place_same zero = refl
place_same (suc i) = place_same i

place_apart : (i j : ℕ) → i ≢ j → same_place i j ≡ pos 0
place_apart zero zero h = absurd (h refl)
place_apart zero (suc j) h = refl
place_apart (suc i) zero h = refl
place_apart (suc i) (suc j) h = place_apart i j (λ e. h (ap suc e))

pub same_is : (i j : ℕ) → (i == j) ≡ true → i ≡ j
same_is i j e = grind (arith, nat_tests)

pub apart_is : (i j : ℕ) → (i == j) ≡ false → i ≢ j
apart_is i j e h = grind (arith, nat_tests)

-- which state a decision leaves as
state_within : (k : ℕ) (os : List ℕ) (j n : ℕ) → state_from k os j ≡ Some n → (k ≤ n) × (n < k + length os)
state_within k [] j n e = absurd (no e)
  where
    no : None ≡ Some n → ⊥
    no h = cc
state_within k (o ∷ os) j n e = pick (o == j) (λ h. state_within (suc k) os j n h) e
  where
    pick : (b : Bool) → (state_from (suc k) os j ≡ Some n → (suc k ≤ n) × (n < suc k + length os)) → (if b then Some k else state_from (suc k) os j) ≡ Some n → (k ≤ n) × (n < k + length (o ∷ os))
    pick true later h = let is = ap (λ (o : Option ℕ). unwrap_or o k) h in (omega (arith, is), omega (arith, is))
    pick false later h = let tail = later h in (omega (arith, tail.0), omega (arith, tail.1))

-- the slope of a state, and 0 of none
abbrev slope_from : ℕ → List ℤ → Option ℕ → ℤ
slope_from k bs None = pos 0
slope_from k bs (Some n) = entry bs (n - k)

no_slopes : (k : ℕ) (o : Option ℕ) → pos 0 ≡ slope_from k [] o
no_slopes k None = refl
no_slopes k (Some n) = refl

next_slope : (k : ℕ) (b : ℤ) (bs : List ℤ) (o : Option ℕ) → ((n : ℕ) → o ≡ Some n → suc k ≤ n) → slope_from (suc k) bs o ≡ slope_from k (b ∷ bs) o
next_slope k b bs None h = refl
next_slope k b bs (Some n) h = let more = h n refl in let e : n - k ≡ suc (n - suc k) = omega (arith, more) in ap (λ (i : ℕ). entry (b ∷ bs) i) (sym e)

-- nothing stands at a decision that is none of these
absent : (o : ℕ) (os : List ℕ) (bs : List ℤ) → list_any (λ (p : ℕ). o == p) os ≡ false → coefficient (placed os bs) o ≡ pos 0
absent o [] bs e = refl
absent o (p ∷ os) [] e = refl
absent o (p ∷ os) (b ∷ bs) e =
    let apart : (o == p) ≡ false = grind (arith, common_steps, e) in
    let others : list_any (λ (q : ℕ). o == q) os ≡ false = grind (arith, common_steps, e) in
    let place : same_place p o ≡ pos 0 = place_apart p o (λ h. apart_is o p apart (sym h)) in
    ap₂ (λ (x y : ℤ). b *ℤ x +ℤ y) place (absent o os bs others) ∙ nothing b
  where
    nothing : (b : ℤ) → b *ℤ pos 0 +ℤ pos 0 ≡ pos 0
    nothing b = omega (arith, ints)

-- the coefficient of a decision is the slope of its state
slope_at : (k : ℕ) (os : List ℕ) (bs : List ℤ) (j : ℕ) → are_distinct (λ (a b : ℕ). a == b) os ≡ true → coefficient (placed os bs) j ≡ slope_from k bs (state_from k os j)
unfolding are_distinct
slope_at k [] bs j e = refl
slope_at k (o ∷ os) [] j e = no_slopes k (state_from k (o ∷ os) j)
slope_at k (o ∷ os) (b ∷ bs) j e = pick (o == j) (slope_at (suc k) os bs j (and_second _ (are_distinct (λ (a b : ℕ). a == b) os) e)) refl
  where
    once : list_any (λ (p : ℕ). o == p) os ≡ false
    once = grind (arith, common_steps, e)

    one : (b x : ℤ) → x ≡ pos 0 → b *ℤ pos 1 +ℤ x ≡ b
    one b x h = omega (arith, ints, h)

    none : (b x : ℤ) → b *ℤ pos 0 +ℤ x ≡ x
    none b x = omega (arith, ints)

    pick : (t : Bool) → coefficient (placed os bs) j ≡ slope_from (suc k) bs (state_from (suc k) os j) → (o == j) ≡ t → coefficient (placed (o ∷ os) (b ∷ bs)) j ≡ slope_from k (b ∷ bs) (if t then Some k else state_from (suc k) os j)
    pick true later h =
        let is : o ≡ j = same_is o j h in
        let here : k - k ≡ 0 = omega arith in
        subst (λ (i : ℕ). coefficient (placed (o ∷ os) (b ∷ bs)) i ≡ b) is (ap (λ (x : ℤ). b *ℤ x +ℤ coefficient (placed os bs) o) (place_same o) ∙ one b (coefficient (placed os bs) o) (absent o os bs once))
        ∙ ap (λ (i : ℕ). entry (b ∷ bs) i) (sym here)
    pick false later h =
        ap (λ (x : ℤ). b *ℤ x +ℤ coefficient (placed os bs) j) (place_apart o j (apart_is o j h)) ∙ none b (coefficient (placed os bs) j)
        ∙ later ∙ next_slope k b bs (state_from (suc k) os j) (λ n f. (state_within (suc k) os j n f).0)

-- terms
term_once : (c : Cut) (j : ℕ) (o : Option ℕ) → flat_map (slope_term c.beta) (outs_at j o) ≡ negated_term j (slope_from 0 c.beta o)
term_once c j None = refl
term_once c j (Some k) = let e : k ≡ k - 0 = omega arith in append-nil (negated_term j (entry c.beta k)) ∙ ap (λ (i : ℕ). negated_term j (entry c.beta i)) e

terms_from : (s : Subproblem) (c : Cut) (a n : ℕ) → outs_differ s ≡ true → flat_map (slope_term c.beta) (flat_map (λ j. outs_at j (state_from 0 s.outs j)) (range_with_len a n)) ≡ flat_map (λ j. negated_term j (coefficient (placed s.outs c.beta) j)) (range_with_len a n)
unfolding outs_differ
terms_from s c a zero e = refl
terms_from s c a (suc n) e =
    flat_map-append (slope_term c.beta) (outs_at a (state_from 0 s.outs a)) (flat_map (λ j. outs_at j (state_from 0 s.outs j)) (range_with_len (a + 1) n))
    ∙ ap₂ (λ (x y : List (ℕ × Fx)). x ++ y) (term_once c a (state_from 0 s.outs a) ∙ ap (negated_term a) (sym (slope_at 0 s.outs c.beta a e))) (terms_from s c (a + 1) n e)

row-cut_row : (s : Subproblem) (column : ℕ) (c : Cut) → outs_differ s ≡ true → row_over (outs_in_order s) column c ≡ cut_row s column c
row-cut_row s column c e = ap (λ (ts : List (ℕ × Fx)). record { low = Some (scaled c.alpha); high = None; terms = ts ++ (column, whole_fixed (pos 1)) ∷ [] }) (terms_from s c 0 (length s.decisions) e)

pool-cut_row : (s : Subproblem) (column : ℕ) (cs : List Cut) → outs_differ s ≡ true → map (row_over (outs_in_order s) column) cs ≡ map (cut_row s column) cs
pool-cut_row s column [] e = refl
pool-cut_row s column (c ∷ cs) e = ap₂ (λ (x : LpRow) (xs : List LpRow). x ∷ xs) (row-cut_row s column c e) (pool-cut_row s column cs e)

-- the rows over the decisions that leave as states are the rows of the cuts
pub rows-cut_rows : (s : Subproblem) (pools : List (List Cut)) (column : ℕ) (ms : List ℕ) → outs_differ s ≡ true → rows_over (outs_in_order s) pools column ms ≡ cut_rows s pools column ms
rows-cut_rows s pools column [] e = refl
rows-cut_rows s pools column (m ∷ ms) e = ap₂ (λ (xs ys : List LpRow). xs ++ ys) (pool-cut_row s column (pool pools m) e) (rows-cut_rows s pools (suc column) ms e)

-- each state is within a cut with one slope per state
outs_all : (P : Out → Type 0) (j : ℕ) (o : Option ℕ) → ((k : ℕ) → o ≡ Some k → P (record { decision = j; state = k })) → All P (outs_at j o)
outs_all P j None h = All-nil P
outs_all P j (Some k) h = All-cons P (record { decision = j; state = k }) [] (h k refl) (All-nil P)

within_from : (s : Subproblem) (c : Cut) (a n : ℕ) → Spans s c → All (IsSlopeWithin c.beta) (flat_map (λ j. outs_at j (state_from 0 s.outs j)) (range_with_len a n))
within_from s c a zero f = All-nil (IsSlopeWithin c.beta)
within_from s c a (suc n) f =
    All-append (IsSlopeWithin c.beta) (outs_at a (state_from 0 s.outs a)) (flat_map (λ j. outs_at j (state_from 0 s.outs j)) (range_with_len (a + 1) n))
    (outs_all (IsSlopeWithin c.beta) a (state_from 0 s.outs a) (λ k e. let w = state_within 0 s.outs a k e in record { there = omega (arith, w.1, f.slopes); small = f.each k (omega (arith, w.1)) })) (within_from s c (a + 1) n f)

pub within-spans : (s : Subproblem) (c : Cut) → Spans s c → All (IsSlopeWithin c.beta) (outs_in_order s)
within-spans s c f = within_from s c 0 (length s.decisions) f
