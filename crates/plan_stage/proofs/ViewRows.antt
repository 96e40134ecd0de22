-- Cuts of successors that stand side by side.
use Rattle.std.proofs.Common.{◌≡◌, ◌∙◌, ℕ, zero, suc, ◌+◌, ◌<◌, ◌≤◌, Bool, true, false, ◌==◌, if◌then◌else◌, List, [], ◌∷◌, ◌++◌, length, map, Option, Some, IfSome, refl, ap, ap₂, subst, arith}
use Rattle.std.specs.List.{flat_map, range_with_len}
use Rattle.std.proofs.lemmas.Bool.Decides.{nat_tests}
use Rattle.std.proofs.lemmas.List.{length-append}
use Rattle.problem.specs.declared.parts.Subproblem.{Subproblem}
use Rattle.problem.specs.Limits.{outs_differ}
use Rattle.theory.specs.declared.cut.Cut.{Cut}
use Rattle.theory.specs.Pools.{pool}
use Rattle.cut_pool.specs.FlatCuts.{packed_cut}
use Rattle.lp_program.specs.declared.programs.LpRow.{LpRow}
use Rattle.lp_program.specs.declared.packed.Out.{Out}
use Rattle.lp_program.specs.PackedCut.{PackedCut}
use Rattle.lp_program.specs.Packed.{packed_row, packed_rows}
use Rattle.plan_stage.specs.Stage.{cut_rows}
use Rattle.plan_stage.specs.Outs.{state_from, outs_at, outs_in_order, row_over, rows_over}
use Rattle.plan_stage.proofs.OutSlopes.{rows-cut_rows}

-- the rows of one successor
pool-packed : (outs : List Out) (column : ℕ) (cs : List Cut) → map (packed_row outs column) (map packed_cut cs) ≡ map (row_over outs column) cs
pool-packed outs column [] = refl
pool-packed outs column (c ∷ cs) = ap (λ (rows : List LpRow). row_over outs column c ∷ rows) (pool-packed outs column cs)

-- the rows of all successors
packed-over : (outs : List Out) (pools : List (List Cut)) (column : ℕ) (ms : List ℕ) → packed_rows outs column (map (λ (m : ℕ). map packed_cut (pool pools m)) ms) ≡ rows_over outs pools column ms
packed-over outs pools column [] = refl
packed-over outs pools column (m ∷ ms) = ap₂ (λ (xs ys : List LpRow). xs ++ ys) (pool-packed outs column (pool pools m)) (packed-over outs pools (suc column) ms)

pub packed-cut_rows : (s : Subproblem) (pools : List (List Cut)) (ms : List ℕ) (outs : List Out) (first : ℕ) (cuts : List (List PackedCut)) → outs_differ s ≡ true → outs ≡ outs_in_order s → first ≡ length s.decisions → cuts ≡ map (λ (m : ℕ). map packed_cut (pool pools m)) ms → packed_rows outs first cuts ≡ cut_rows s pools (length s.decisions) ms
packed-cut_rows s pools ms outs first cuts differ is here e =
    ap (λ (os : List Out). packed_rows os first cuts) is
    ∙ ap₂ (λ (k : ℕ) (css : List (List PackedCut)). packed_rows (outs_in_order s) k css) here e
    ∙ packed-over (outs_in_order s) pools (length s.decisions) ms
    ∙ rows-cut_rows s pools (length s.decisions) ms differ

-- a fact about the cuts that were found
pub found-cuts : (pools : List (List Cut)) (lent ms : List ℕ) (found : Option (List (List PackedCut))) (cuts : List (List PackedCut)) → lent ≡ ms → found ≡ Some cuts → IfSome found (λ (css : List (List PackedCut)). css ≡ map (λ (m : ℕ). map packed_cut (pool pools m)) lent) → cuts ≡ map (λ (m : ℕ). map packed_cut (pool pools m)) ms
found-cuts pools lent ms found cuts e is h =
    subst (λ (o : Option (List (List PackedCut))). IfSome o (λ (css : List (List PackedCut)). css ≡ map (λ (m : ℕ). map packed_cut (pool pools m)) lent)) is h
    ∙ ap (map (λ (m : ℕ). map packed_cut (pool pools m))) e

-- how often a decision comes among some numbers in order: once at most
abbrev hits : ℕ → ℕ → ℕ → ℕ
hits o a zero = 0
hits o a (suc n) = (if o == a then 1 else 0) + hits o (a + 1) n

none_here : (b : Bool) (n : ℕ) → b ≡ false → n ≡ 0 → (if b then 1 else 0) + n ≡ 0
none_here true n e h = absurd (grind (arith, nat_tests, e))
none_here false n e h = omega (arith, h)

past : (o a n : ℕ) → o < a → hits o a n ≡ 0
past o a zero h = refl
past o a (suc n) h =
    let apart : (o == a) ≡ false = grind (arith, nat_tests, h) in
    none_here (o == a) (hits o (a + 1) n) apart (past o (a + 1) n (omega (arith, h)))

first_or_later : (o a n : ℕ) (b : Bool) → (o == a) ≡ b → hits o (a + 1) n ≤ 1 → (if b then 1 else 0) + hits o (a + 1) n ≤ 1
first_or_later o a n true e h = let later : o < a + 1 = grind (arith, nat_tests, e) in omega (arith, past o (a + 1) n later)
first_or_later o a n false e h = omega (arith, h)

once : (o a n : ℕ) → hits o a n ≤ 1
once o a zero = omega arith
once o a (suc n) = first_or_later o a n (o == a) refl (once o (a + 1) n)

-- the decisions among some numbers in order that leave as states
abbrev leaving : ℕ → List ℕ → ℕ → ℕ → List Out
leaving k os a n = flat_map (λ j. outs_at j (state_from k os j)) (range_with_len a n)

one_state : (k o j : ℕ) (os : List ℕ) → length (outs_at j (state_from k (o ∷ os) j)) ≤ (if o == j then 1 else 0) + length (outs_at j (state_from (suc k) os j))
one_state k o j os = pick (o == j)
  where
    pick : (b : Bool) → length (outs_at j (if b then Some k else state_from (suc k) os j)) ≤ (if b then 1 else 0) + length (outs_at j (state_from (suc k) os j))
    pick true = omega arith
    pick false = omega arith

one_more : (k o a n : ℕ) (os : List ℕ) → length (leaving k (o ∷ os) a n) ≤ hits o a n + length (leaving (suc k) os a n)
one_more k o a zero os = omega arith
one_more k o a (suc n) os =
    omega (
      arith,
      one_state k o a os,
      one_more k o (a + 1) n os,
      length-append (outs_at a (state_from k (o ∷ os) a)) (leaving k (o ∷ os) (a + 1) n),
      length-append (outs_at a (state_from (suc k) os a)) (leaving (suc k) os (a + 1) n),
    )

none_leave : (k a n : ℕ) → length (leaving k [] a n) ≡ 0
none_leave k a zero = refl
none_leave k a (suc n) = none_leave k (a + 1) n

few_leave : (k a n : ℕ) (os : List ℕ) → length (leaving k os a n) ≤ length os
few_leave k a n [] = omega (arith, none_leave k a n)
few_leave k a n (o ∷ os) = omega (arith, one_more k o a n os, once o a n, few_leave (suc k) a n os)

-- no more decisions leave than there are states
pub few-outs : (s : Subproblem) → length (outs_in_order s) ≤ length s.outs
few-outs s = few_leave 0 0 (length s.decisions) s.outs
