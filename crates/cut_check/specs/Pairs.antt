-- The sizes of the pairs of the certificates of a list.
use Rattle.std.specs.Prelude.{◌≡◌, ℕ, ◌+◌, List, Option, get_or}
use Rattle.base_num.specs.declared.size.Size.{Size}
use Rattle.problem.specs.declared.parts.Node as nodes
use Rattle.problem.specs.declared.parts.Subproblem.{Subproblem}
use Rattle.theory.specs.declared.cut.Cut.{Cut}
use Rattle.theory.specs.declared.cut.Certificate.{Certificate}
use Rattle.cut_make.specs.SizeByTerms.{AddsSize, successors_amount}

-- the size is that of the certificate at r
abbrev pub IsPairsAt : nodes.Node → Subproblem → List (List Cut) → List Certificate → ℕ → Option Size → Type 0
IsPairsAt n s pools list r size = (d : Certificate) → AddsSize 0 size (successors_amount s.decisions s.outs pools n.successors (get_or list r d).cuts)

-- the size is that of the certificate before r, where there is one
abbrev pub IsPairsBefore : nodes.Node → Subproblem → List (List Cut) → List Certificate → ℕ → Option Size → Type 0
IsPairsBefore n s pools list r size = (q : ℕ) → r ≡ q + 1 → IsPairsAt n s pools list q size
