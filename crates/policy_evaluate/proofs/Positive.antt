-- Denominators are positive.
use Rattle.std.proofs.Common.{◌≡◌, ℕ, zero, suc, ◌<◌, true, List, [], ◌∷◌, length, map, All, arith, mul-pos}
use Rattle.std.proofs.lemmas.List.Elements.{All-cons, All-nil}
use Rattle.base_num.proofs.Sums.{All_head, All_tail}
use Rattle.problem.specs.Validated.{Validated, is_validated}
use Rattle.theory.specs.Problem.{Successor, node_at}
use Rattle.theory.specs.View.{problem_of}
use Rattle.theory.proofs.ValidatedPremises.{known-validated}
use Rattle.policy_evaluate.specs.TooBig.{denominator}
use Rattle.policy_evaluate.proofs.Divisors.{lcm_all_least}

-- the denominators of successors
abbrev pub dens : Validated → ℕ → List Successor → List ℕ
dens p n ls = map (λ (l : Successor). denominator (problem_of p) n l.node) ls

module _ (p : Validated) (e : is_validated p ≡ true) where
  dens_by : (n : ℕ) → ((m : ℕ) → m < length p.parts.nodes → 0 < denominator (problem_of p) n m) → (ls : List Successor) → All (λ (l : Successor). l.node < length p.parts.nodes) ls → All (λ b. 0 < b) (dens p n ls)
  dens_by n f [] h = All-nil (λ b. 0 < b)
  dens_by n f (l ∷ ls) h =
      All-cons (λ b. 0 < b) (denominator (problem_of p) n l.node) (dens p n ls) (f l.node (All_head (λ (l : Successor). l.node < length p.parts.nodes) l ls h)) (dens_by n f ls (All_tail (λ (l : Successor). l.node < length p.parts.nodes) l ls h))

  pub denominator_some : (n m : ℕ) → m < length p.parts.nodes → 0 < denominator (problem_of p) n m
  denominator_some zero m h = omega arith
  denominator_some (suc n) m h =
      let known = known-validated p e in
      let least = lcm_all_least 1 (dens p n (node_at (problem_of p) m).successors) (omega arith) (dens_by n (λ m h. denominator_some n m h) (node_at (problem_of p) m).successors (known.successors m h)) in
      mul-pos (known.realizations m h) (mul-pos (known.weighted m h) (omega (arith, least)))

  pub dens_some : (n : ℕ) (ls : List Successor) → All (λ (l : Successor). l.node < length p.parts.nodes) ls → All (λ b. 0 < b) (dens p n ls)
  dens_some n ls h = dens_by n (denominator_some n) ls h
