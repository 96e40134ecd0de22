-- The cut of a list of certificates with other weights than the realizations' own.
use Rattle.std.specs.Prelude.{◌≡◌, ℕ, ◌≤◌, List, length, is_none, All, sum, Option, Some, None, if◌then◌else◌}
use Rattle.theory.specs.declared.cut.Cut.{Cut}
use Rattle.theory.specs.declared.cut.Certificate.{Certificate}
use Rattle.theory.specs.Problem.{Node, with_weights}
use Rattle.theory.specs.CutOf.{cut_of}
use Rattle.cut_make.specs.Acceptance.{fault_of}

-- one weight for each realization of the node, each at least 1, at most 65535 together
pub record Weighs (n : Node) (ws : List ℕ) : Type 0 where
  pub count : length ws ≡ length n.realizations
  pub positive : All (λ w. 1 ≤ w) ws
  pub total : sum ws ≤ 65535

-- the cut with these weights, where the certificates are accepted with them
unfoldable pub cut_with : List (List Cut) → Node → List Certificate → List ℕ → Option Cut
cut_with pools n list ws = if is_none (fault_of pools (with_weights ws n) list) then Some (cut_of pools (with_weights ws n) list) else None
