-- The values of the root's successors, as one cut more raises them.
use Rattle.std.proofs.Common.{◌≡◌, ◌≢◌, ℕ, zero, suc, ◌+◌, ◌<◌, ◌^◌, ℤ, pos, ◌+ℤ◌, ◌*ℤ◌, ◌≤ℤ◌, Bool, true, false, nat_eq, if◌then◌else◌, List, [], ◌∷◌, ◌++◌, length, get_or, map, set, take, drop, SFits, to_z, of_z, Result, Ok, Err, OnOk, is_ok, refl, sym, ap, subst, ◌∙◌, arith}
use Rattle.std.specs.Int.{int_max}
use Rattle.std.specs.List.{AllByRecursion}
use Rattle.std.proofs.lemmas.Bool.Decides.{nat_tests}
use mir.Syntax.{w128}
use Rattle.std.proofs.lemmas.Int.{ints, clamps, to_z-of_z}
use Rattle.std.proofs.lemmas.List.Elements.{recursion_from_All}
use Rattle.std.proofs.lemmas.List.{get_or-set_same, get_or-set_other, get_or-map, length-map}
use Rattle.base_num.specs.declared.memory.Memory.{Memory}
use Rattle.base_num.specs.Sums.{total}
use Rattle.problem.specs.Validated.{Validated, is_validated, initial_values}
use Rattle.theory.specs.declared.cut.Cut.{Cut}
use Rattle.theory.specs.Problem.{node_at}
use Rattle.theory.specs.Size.{magnitude}
use Rattle.theory.specs.Pools.{pool, push}
use Rattle.theory.specs.Bound.{value_of_cut, greatest_cut_value, value}
use Rattle.theory.specs.Fit.{CutFits}
use Rattle.theory.specs.View.{problem_of, successors_of}
use Rattle.theory.proofs.OneMore.{Added}
use Rattle.theory.proofs.SizeToFit.{size_dot}
use Rattle.cut_pool.specs.AtNodes.{PoolsFit}
use Rattle.cut_pool.specs.Reaches.{CutReaches}
use Rattle.cut_pool.proofs.Reach.{reaches, all_reach}
use Rattle.cut_pool.proofs.Weighted.{part, most, known, starts, next}
use Rattle.journal_load.specs.RootValues.{raised_one, raised_values, root_values}

-- the greatest value of some cuts and one more
greatest_more : (cs : List Cut) (c : Cut) (x : List ℤ) → 0 < length cs → greatest_cut_value (cs ++ c ∷ []) x ≡ int_max (greatest_cut_value cs x) (value_of_cut c x)
greatest_more [] c x some = absurd (omega arith)
greatest_more (d ∷ []) c x some = refl
greatest_more (d ∷ (e ∷ es)) c x some = omega (arith, ints, clamps, greatest_more (e ∷ es) c x (omega arith))

one_more : (pools : List (List Cut)) (k m : ℕ) (c : Cut) (x : List ℤ) → k < length pools → 0 < length (pool pools k) → value (push pools k c) m x ≡ raised_one k (value_of_cut c x) m (value pools m x)
one_more pools k m c x there some = by (nat_eq m k) refl
  where
    by : (b : Bool) → nat_eq m k ≡ b → value (push pools k c) m x ≡ (if b then int_max (value pools m x) (value_of_cut c x) else value pools m x)
    by true e =
        let same : m ≡ k = grind (arith, nat_tests, e) in
        ap (λ (j : ℕ). value (push pools k c) j x) same
        ∙ ap (λ (cs : List Cut). greatest_cut_value cs x) (get_or-set_same pools k (pool pools k ++ c ∷ []) [] there)
        ∙ greatest_more (pool pools k) c x some
        ∙ ap (λ (j : ℕ). int_max (value pools j x) (value_of_cut c x)) (sym same)
    by false e =
        let other : m ≢ k = grind (arith, nat_tests, e) in
        ap (λ (cs : List Cut). greatest_cut_value cs x) (get_or-set_other pools k m (pool pools k ++ c ∷ []) [] other)

all_more : (pools : List (List Cut)) (k : ℕ) (c : Cut) (x : List ℤ) (ms : List ℕ) → k < length pools → 0 < length (pool pools k)
    → raised_values k (value_of_cut c x) ms (map (λ (m : ℕ). value pools m x) ms) ≡ map (λ (m : ℕ). value (push pools k c) m x) ms
all_more pools k c x [] there some = refl
all_more pools k c x (m ∷ ms) there some =
    ap (λ (v : ℤ). v ∷ raised_values k (value_of_cut c x) ms (map (λ (j : ℕ). value pools j x) ms)) (sym (one_more pools k m c x there some))
    ∙ ap (λ (vs : List ℤ). value (push pools k c) m x ∷ vs) (all_more pools k c x ms there some)

pub values_more : (p : Validated) (pools : List (List Cut)) (k : ℕ) (c : Cut) → k < length pools → 0 < length (pool pools k)
    → raised_values k (value_of_cut c (initial_values p.parts)) p.parts.root (root_values p pools) ≡ root_values p (push pools k c)
unfolding root_values
values_more p pools k c there some = all_more pools k c (initial_values p.parts) p.parts.root there some

-- the loop over the successors: those before number i are raised

pub raised_length : (k : ℕ) (v : ℤ) (ms : List ℕ) (xs : List ℤ) → length (raised_values k v ms xs) ≡ length xs
raised_length k v [] xs = refl
raised_length k v (m ∷ ms) [] = refl
raised_length k v (m ∷ ms) (x ∷ xs) = omega (arith, raised_length k v ms xs)

-- the value at number i is as it was
not_yet : (k : ℕ) (v : ℤ) (ms : List ℕ) (xs : List ℤ) (i : ℕ) → get_or (raised_values k v (take i ms) xs) i (pos 0) ≡ get_or xs i (pos 0)
not_yet k v [] xs zero = refl
not_yet k v [] xs (suc i) = refl
not_yet k v (m ∷ ms) xs zero = refl
not_yet k v (m ∷ ms) [] (suc i) = refl
not_yet k v (m ∷ ms) (x ∷ xs) (suc i) = not_yet k v ms xs i

raise_here : (k : ℕ) (v : ℤ) (ms : List ℕ) (xs : List ℤ) (i : ℕ) → i < length ms → get_or ms i 0 ≡ k → set (raised_values k v (take i ms) xs) i (int_max (get_or xs i (pos 0)) v) ≡ raised_values k v (take (suc i) ms) xs
raise_here k v [] xs i below is = absurd (omega arith)
raise_here k v (m ∷ ms) [] zero below is = refl
raise_here k v (m ∷ ms) (x ∷ xs) zero below is = let same : nat_eq m k ≡ true = grind (arith, nat_tests, is) in rw same refl
raise_here k v (m ∷ ms) [] (suc i) below is = refl
raise_here k v (m ∷ ms) (x ∷ xs) (suc i) below is = ap (λ (ys : List ℤ). raised_one k v m x ∷ ys) (raise_here k v ms xs i (omega arith) is)

leave_here : (k : ℕ) (v : ℤ) (ms : List ℕ) (xs : List ℤ) (i : ℕ) → i < length ms → get_or ms i 0 ≢ k → raised_values k v (take i ms) xs ≡ raised_values k v (take (suc i) ms) xs
leave_here k v [] xs i below other = absurd (omega arith)
leave_here k v (m ∷ ms) [] zero below other = refl
leave_here k v (m ∷ ms) (x ∷ xs) zero below other = let not_same : nat_eq m k ≡ false = grind (arith, nat_tests, other) in rw not_same refl
leave_here k v (m ∷ ms) [] (suc i) below other = refl
leave_here k v (m ∷ ms) (x ∷ xs) (suc i) below other = ap (λ (ys : List ℤ). raised_one k v m x ∷ ys) (leave_here k v ms xs i (omega arith) other)

-- a turn of the loop
pub raised_there : (k : ℕ) (v : ℤ) (ms : List ℕ) (xs : List ℤ) (i : ℕ) (before after : List ℤ) → i < length ms → get_or ms i 0 ≡ k → before ≡ raised_values k v (take i ms) xs → after ≡ set before i (int_max (get_or before i (pos 0)) v) → after ≡ raised_values k v (take (i + 1) ms) xs
raised_there k v ms xs i before after below is so_far turn =
    let next : suc i ≡ i + 1 = omega arith in
    turn ∙ ap (λ (ys : List ℤ). set ys i (int_max (get_or ys i (pos 0)) v)) so_far
    ∙ ap (λ (x : ℤ). set (raised_values k v (take i ms) xs) i (int_max x v)) (not_yet k v ms xs i)
    ∙ raise_here k v ms xs i below is
    ∙ ap (λ (n : ℕ). raised_values k v (take n ms) xs) next

pub left_there : (k : ℕ) (v : ℤ) (ms : List ℕ) (xs : List ℤ) (i : ℕ) (before after : List ℤ) → i < length ms → get_or ms i 0 ≢ k → before ≡ raised_values k v (take i ms) xs → after ≡ before → after ≡ raised_values k v (take (i + 1) ms) xs
left_there k v ms xs i before after below other so_far turn =
    let next : suc i ≡ i + 1 = omega arith in
    turn ∙ so_far ∙ leave_here k v ms xs i below other ∙ ap (λ (n : ℕ). raised_values k v (take n ms) xs) next

-- the values that are read

value_reach : (x : List ℤ) (c : Cut) → CutReaches x c → magnitude (value_of_cut c x) ≤ℤ pos (2 ^ 104)
value_reach x c r = omega (arith, ints, r.small, size_dot c.beta x)

reach_small : (x : List ℤ) (cs : List Cut) → AllByRecursion (CutReaches x) cs → magnitude (greatest_cut_value cs x) ≤ℤ pos (2 ^ 104)
reach_small x [] all = omega (arith, ints)
reach_small x (c ∷ []) all = value_reach x c all.0
reach_small x (c ∷ (d ∷ cs)) all = omega (arith, ints, clamps, value_reach x c all.0, reach_small x (d ∷ cs) all.1)

module _ (p : Validated) (validated : is_validated p ≡ true) (i : ℕ) (below : i < length p.parts.root) where
  -- a cut that fits stays small at the initial state
  pub reaches_start : (k : ℕ) (c : Cut) → get_or p.parts.root i 0 ≡ k → CutFits (node_at (problem_of p) k) c → CutReaches (initial_values p.parts) c
  reaches_start k c is fits =
      let fits_here = subst (λ (m : ℕ). CutFits (node_at (problem_of p) m) c) (sym is) fits in
      reaches (node_at (problem_of p) (get_or p.parts.root i 0)) (initial_values p.parts) c (starts p i validated below) fits_here

  pub value_read : (pools : List (List Cut)) (d : ℤ) → get_or (root_values p pools) i d ≡ value pools (get_or p.parts.root i 0) (initial_values p.parts)
  unfolding root_values
  value_read pools d = get_or-map (λ (m : ℕ). value pools m (initial_values p.parts)) p.parts.root i 0 d below

  pub value_small : (pools : List (List Cut)) → PoolsFit p pools → magnitude (value pools (get_or p.parts.root i 0) (initial_values p.parts)) ≤ℤ pos (2 ^ 104)
  value_small pools fit =
      let m = get_or p.parts.root i 0 in
      reach_small (initial_values p.parts) (pool pools m) (recursion_from_All (CutReaches (initial_values p.parts)) (pool pools m)
      (all_reach (node_at (problem_of p) m) (initial_values p.parts) (pool pools m) (starts p i validated below) (fit.cuts m (known p i 0 validated below))))

pub values_count : (p : Validated) (pools : List (List Cut)) → length (root_values p pools) ≡ length p.parts.root
unfolding root_values
values_count p pools = length-map p.parts.root (λ (m : ℕ). value pools m (initial_values p.parts))

-- one successor more, of what is read on the way
pub next_value : (p : Validated) (pools : List (List Cut)) (vs : List ℤ) (ws : List ℕ) (i : ℕ) (s w : ℤ) → is_validated p ≡ true → PoolsFit p pools → vs ≡ root_values p pools → ws ≡ p.parts.root_weights → i < length vs
    → SFits w128 w → SFits w128 (get_or vs i (pos 0)) → w ≡ pos (get_or ws i 0)
    → total (part pools (initial_values p.parts)) (successors_of p.parts.root p.parts.root_weights) ≡ s +ℤ total (part pools (initial_values p.parts)) (drop i (successors_of p.parts.root p.parts.root_weights))
    → (magnitude s +ℤ total most (drop i (successors_of p.parts.root p.parts.root_weights))) ≤ℤ total most (successors_of p.parts.root p.parts.root_weights)
    → Added (total (part pools (initial_values p.parts)) (successors_of p.parts.root p.parts.root_weights)) s (to_z w128 (of_z w128 w) *ℤ to_z w128 (of_z w128 (get_or vs i (pos 0)))) (total (part pools (initial_values p.parts)) (drop (i + 1) (successors_of p.parts.root p.parts.root_weights))) (total most (drop (i + 1) (successors_of p.parts.root p.parts.root_weights))) (total most (successors_of p.parts.root p.parts.root_weights))
next_value p pools vs ws i s w validated fit values weights inside fw fv we value room =
    let below : i < length p.parts.root = subst (λ (n : ℕ). i < n) (ap (λ (xs : List ℤ). length xs) values ∙ values_count p pools) inside in
    let is = ap (λ (xs : List ℤ). get_or xs i (pos 0)) values ∙ value_read p validated i below pools (pos 0) in
    let weight : to_z w128 (of_z w128 w) ≡ pos (get_or p.parts.root_weights i 0) = to_z-of_z w128 w fw ∙ we ∙ ap (λ (ks : List ℕ). pos (get_or ks i 0)) weights in
    let small = subst (λ (v : ℤ). magnitude v ≤ℤ pos (2 ^ 104)) (sym is) (value_small p validated i below pools fit) in
    rw (weight, to_z-of_z w128 (get_or vs i (pos 0)) fv) (next p pools i s (get_or vs i (pos 0)) validated below is small value room)

-- the cut is appended, or memory was refused
pub values_pushed : (p : Validated) (pools new : List (List Cut)) (k : ℕ) (c : Cut) (old vs : List ℤ) (result : Result (Unit {0}) Memory) → k < length p.parts.nodes → PoolsFit p pools → old ≡ root_values p pools
    → vs ≡ raised_values k (value_of_cut c (initial_values p.parts)) p.parts.root old → new ≡ (if is_ok result then push pools k c else pools) → OnOk result (vs ≡ root_values p new)
values_pushed p pools new k c old vs (Ok done) there fit is raise pushed =
    raise ∙ ap (λ (xs : List ℤ). raised_values k (value_of_cut c (initial_values p.parts)) p.parts.root xs) is
    ∙ values_more p pools k c (omega (arith, fit.lists, there)) (fit.some k there) ∙ ap (λ (q : List (List Cut)). root_values p q) (sym pushed)
values_pushed p pools new k c old vs (Err refused) there fit is raise pushed = tt
