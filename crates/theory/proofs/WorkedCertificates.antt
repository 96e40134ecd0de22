-- Certificates that were worked out by hand: which lists are right.
use Rattle.std.proofs.Common.{◌≡◌, ℕ, ◌*◌, ◌<◌, ℤ, pos, negsuc, List, [], ◌∷◌, length, None, IsSome, refl, arith}
use Rattle.std.proofs.lemmas.List.Elements.{All-nil, All-cons}
use Rattle.theory.specs.Certificates.{SignRight, PairsRight, RightAt, Right}
use Rattle.theory.specs.Examples.{water, with_row, fork, with_pairs, edge}
use Rattle.theory.specs.Pools.{pool, no_cut}
use Rattle.theory.specs.Problem.{S, Successor}
use Rattle.problem.specs.declared.parts.Row.{Row}
use Rattle.theory.specs.declared.cut.Cut.{Cut}

-- one cut at each node
abbrev pub pools : List (List Cut)
pools = (no_cut ∷ []) ∷ (no_cut ∷ []) ∷ (no_cut ∷ []) ∷ []

pair : (l : Successor) (m : ℕ) → 0 < length (pool pools l.node) → 0 < m → m ≡ S * l.weight → PairsRight pools (l, (0, m) ∷ [])
pair l m there some e = record {
  rising = tt;
  there = All-cons (λ (s : ℕ × ℕ). s.0 < length (pool pools l.node)) (0, m) [] there (All-nil (λ (s : ℕ × ℕ). s.0 < length (pool pools l.node)));
  positive = All-cons (λ (s : ℕ × ℕ). 0 < s.1) (0, m) [] some (All-nil (λ (s : ℕ × ℕ). 0 < s.1));
  sum = omega arith;
}

-- 2^24 for the successor of weight 1 and 3 * 2^24 for that of weight 3
pub right_pairs : Right pools (fork 0) (with_pairs 16777216 50331648 ∷ [])
unfolding S
right_pairs =
    let first : Successor = record { node = 0; weight = 1 } in
    let second : Successor = record { node = 1; weight = 3 } in
    record {
      count = refl;
      each = All-cons (RightAt pools (fork 0)) (with_pairs 16777216 50331648) []
          (record {
            rows = refl;
            successors = refl;
            signs = All-nil (λ (q : Row × ℤ). SignRight q.0 q.1);
            pairs = All-cons (PairsRight pools) (first, (0, 16777216) ∷ []) ((second, (0, 50331648) ∷ []) ∷ []) (pair first 16777216 (omega arith) (omega arith) refl)
                (All-cons (PairsRight pools) (second, (0, 50331648) ∷ []) [] (pair second 50331648 (omega arith) (omega arith) refl) (All-nil (PairsRight pools)));
          })
          (All-nil (RightAt pools (fork 0)));
    }

-- one less is no longer all of the weight
pub short_pairs : Right pools (fork 0) (with_pairs 16777216 50331647 ∷ []) → ⊥
unfolding S
short_pairs r =
    let c : RightAt pools (fork 0) (with_pairs 16777216 50331647) = r.each 0 (with_pairs 0 0) (omega arith) in
    let q : PairsRight pools (record { node = 1; weight = 3 }, (0, 50331647) ∷ []) = c.pairs 1 (record { node = 0; weight = 0 }, []) (omega arith) in
    apart 50331647 50331648 q.sum (omega arith)
  where
    apart : (a b : ℕ) → a ≡ b → a < b → ⊥
    apart a b e h = absurd (omega arith)

-- a negative multiplier needs an upper side
pub wrong_sign : Right [] (edge (pos 0)) (with_row (negsuc 0) ∷ []) → ⊥
wrong_sign r = let there : IsSome {T = ℤ} None = (r.each 0 (with_row (pos 0)) (omega arith)).signs 0 (water, pos 0) (omega arith) in cc

-- no such cut, a cut twice, and a multiplier 0
pub no_such_cut : PairsRight pools (record { node = 1; weight = 3 }, (1, 50331648) ∷ []) → ⊥
no_such_cut q = let there : 1 < 1 = q.there 0 (0, 0) (omega arith) in absurd (omega arith)

pub same_cut_twice : PairsRight pools (record { node = 1; weight = 3 }, (0, 16777216) ∷ (0, 33554432) ∷ []) → ⊥
same_cut_twice q = let rising : 0 < 0 = q.rising.0 in absurd (omega arith)

pub no_multiplier : PairsRight pools (record { node = 1; weight = 0 }, (0, 0) ∷ []) → ⊥
no_multiplier q = let positive : 0 < 0 = q.positive 0 (0, 0) (omega arith) in absurd (omega arith)
