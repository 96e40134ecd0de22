-- The part of A_r that is the same at all values, of the certificates of a list.
use Rattle.std.specs.Prelude.{ℕ, ◌<◌, ℤ, ◌+ℤ◌, List, length, get_or}
use Rattle.base_num.specs.Sums.{entry}
use Rattle.problem.specs.declared.parts.Node as nodes
use Rattle.problem.specs.declared.parts.Subproblem.{Subproblem}
use Rattle.theory.specs.declared.cut.Cut.{Cut}
use Rattle.theory.specs.declared.cut.Certificate.{Certificate}
use Rattle.cut_make.specs.Congruent.{Congruent}
use Rattle.cut_make.specs.Parts.{over_successors, least_at}

-- of one certificate, at the scale k
abbrev pub fixed_at : ℤ → List (List Cut) → nodes.Node → Subproblem → Certificate → ℤ
fixed_at k pools n s c = over_successors pools n.successors c.cuts (λ cut. cut.alpha) +ℤ least_at k pools n s c

-- z is that of the certificate at r
abbrev pub IsFixedAt : ℤ → List (List Cut) → nodes.Node → Subproblem → List Certificate → ℕ → ℤ → Type 0
IsFixedAt k pools n s list r z = (d : Certificate) → Congruent z (fixed_at k pools n s (get_or list r d))

-- these are those of the certificates before r, as many as there are
abbrev pub AreFixedBefore : ℤ → List (List Cut) → nodes.Node → Subproblem → List Certificate → ℕ → List ℤ → Type 0
AreFixedBefore k pools n s list r parts = (q : ℕ) → q < r → q < length parts → IsFixedAt k pools n s list q (entry parts q)
