-- Cuts and pools of cuts, and when they are sound.
-- Source: Pereira and Pinto 1991.
use Rattle.std.specs.Prelude.{ℕ, ◌*◌, ◌<◌, ℤ, pos, ◌+ℤ◌, ◌*ℤ◌, List, [], ◌∷◌, ◌++◌, get_or, set, All}
use Rattle.base_num.specs.Sums.{dot}
use Rattle.theory.specs.declared.cut.Cut.{Cut}
use Rattle.theory.specs.Fraction.{Fraction, ◌≤ᶠ◌}
use Rattle.theory.specs.Problem.{S, Problem, node_at}
use Rattle.theory.specs.Tree.{Tree, InBox, Feasible}
use Rattle.theory.specs.Cost.{cost}

-- alpha*N + beta·xi
abbrev pub scaled_value : ℕ → List ℤ → Cut → ℤ
scaled_value units xi c = c.alpha *ℤ pos units +ℤ dot c.beta xi

-- (alpha*N + beta·xi) / (S*N)
abbrev pub cut_value : ℕ → List ℤ → Cut → Fraction
cut_value units xi c = record { up = scaled_value units xi c; under = S * units }

-- at every state of the node's box, in any units, the cut is at most the cost of each feasible tree
abbrev pub Holds : Problem → ℕ → Cut → Type 0
Holds p m c = (units : ℕ) (xi : List ℤ) (t : Tree) → 0 < units → InBox units (node_at p m).low (node_at p m).high xi → Feasible p units m xi t → cut_value units xi c ≤ᶠ cost p units m xi t

-- the cuts of the node m
abbrev pub pool : List (List Cut) → ℕ → List Cut
pool pools m = get_or pools m []

-- each cut of each node holds there
abbrev pub Sound : Problem → List (List Cut) → Type 0
Sound p pools = (m : ℕ) → All (Holds p m) (pool pools m)

-- the pools with one cut more at the node m
abbrev pub push : List (List Cut) → ℕ → Cut → List (List Cut)
push pools m c = set pools m (pool pools m ++ c ∷ [])

abbrev pub no_cut : Cut
no_cut = record { alpha = pos 0; beta = [] }
