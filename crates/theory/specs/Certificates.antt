-- When a list of certificates, one per realization, is right.
-- Source: the safe bounds of Neumaier and Shcherbina 2004, for multipliers of any origin.
use Rattle.std.specs.Prelude.{◌≡◌, ℕ, zero, suc, ◌+◌, ◌*◌, ◌<◌, ℤ, pos, negsuc, List, [], ◌∷◌, length, get_or, zip, All, IsSome}
use Rattle.problem.specs.declared.parts.Row.{Row}
use Rattle.theory.specs.declared.cut.Cut.{Cut}
use Rattle.theory.specs.declared.cut.Certificate.{Certificate}
use Rattle.theory.specs.Fraction.{Fraction, ◌≤ᶠ◌}
use Rattle.theory.specs.Problem.{S, Successor, Node}
use Rattle.theory.specs.Pools.{pool, no_cut, cut_value}

-- no positive multiplier without a lower side, no negative one without an upper
abbrev pub SignRight : Row → ℤ → Type 0
SignRight row (pos zero) = Unit {0}
SignRight row (pos (suc y)) = IsSome row.low
SignRight row (negsuc y) = IsSome row.high

-- a pair is a place in the successor's pool and a multiplier
abbrev pub cut_at : List (List Cut) → Successor → ℕ × ℕ → Cut
cut_at pools l s = get_or (pool pools l.node) s.0 no_cut

abbrev pub Rising : List (ℕ × ℕ) → Type 0
Rising [] = Unit {0}
Rising (s ∷ []) = Unit {0}
Rising (s ∷ (n ∷ ss)) = (s.0 < n.0) × Rising (n ∷ ss)

abbrev pub multipliers : List (ℕ × ℕ) → ℕ
multipliers [] = 0
multipliers (s ∷ ss) = s.1 + multipliers ss

-- a successor's pairs: their places rise and are in its pool, their multipliers are positive and sum to S times its weight
pub record PairsRight (pools : List (List Cut)) (q : Successor × List (ℕ × ℕ)) : Type 0 where
  pub rising : Rising q.1
  pub there : All (λ (s : ℕ × ℕ). s.0 < length (pool pools q.0.node)) q.1
  pub positive : All (λ (s : ℕ × ℕ). 0 < s.1) q.1
  pub sum : multipliers q.1 ≡ S * q.0.weight

-- one multiplier per row and one list of pairs per successor
pub record RightAt (pools : List (List Cut)) (n : Node) (c : Certificate) : Type 0 where
  pub rows : length c.rows ≡ length n.rows
  pub successors : length c.cuts ≡ length n.successors
  pub signs : All (λ (q : Row × ℤ). SignRight q.0 q.1) (zip n.rows c.rows)
  pub pairs : All (PairsRight pools) (zip n.successors c.cuts)

-- one certificate per realization
pub record Right (pools : List (List Cut)) (n : Node) (list : List Certificate) : Type 0 where
  pub count : length list ≡ length n.realizations
  pub each : All (RightAt pools n) list

-- one fraction per successor, at least the value of each cut of its pool at the state x
abbrev pub AboveCuts : List (List Cut) → ℕ → List ℤ → List Successor → List Fraction → Type 0
AboveCuts pools units x [] [] = Unit {0}
AboveCuts pools units x [] (f ∷ fs) = ⊥
AboveCuts pools units x (l ∷ ls) [] = ⊥
AboveCuts pools units x (l ∷ ls) (f ∷ fs) = All (λ c. cut_value units x c ≤ᶠ f) (pool pools l.node) × AboveCuts pools units x ls fs
