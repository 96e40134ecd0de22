-- Where the size of a list of certificates passes its range, and the base cuts or the first node where that happens.
use Rattle.std.specs.Prelude.{ℕ, suc, ◌-◌, ◌^◌, ℤ, pos, ◌+ℤ◌, List, [], ◌∷◌, length, replicate, Option, Some, None, Result, Ok, Err, int_le, if◌then◌else◌}
use Rattle.problem.specs.Validated.{Validated}
use Rattle.theory.specs.declared.cut.Cut.{Cut}
use Rattle.theory.specs.declared.cut.Certificate.{Certificate}
use Rattle.theory.specs.Problem.{Node, Problem, node_at}
use Rattle.theory.specs.Pools.{push}
use Rattle.theory.specs.CutOf.{cut_of}
use Rattle.theory.specs.Size.{size_parts}
use Rattle.theory.specs.Base.{base_list}
use Rattle.theory.specs.View.{problem_of}

-- the first part, numbered from r, that brings the sum above 2^127 - 1
abbrev pub range_from : ℤ → ℕ → List ℤ → Option ℕ
range_from sum r [] = None
range_from sum r (z ∷ zs) = if int_le (sum +ℤ z) (pos (2 ^ 127 - 1)) then range_from (sum +ℤ z) (suc r) zs else Some r

-- the realization at which the size passes its range, none where it stays inside
abbrev pub range_of : List (List Cut) → Node → List Certificate → Option ℕ
range_of pools n list = range_from (pos 0) 0 (size_parts pools n list)

-- the answer, unless the node m passes the range at a realization
abbrev pub unless : Option ℕ → ℕ → Result (List (List Cut)) (ℕ × ℕ) → Result (List (List Cut)) (ℕ × ℕ)
unless None m answer = answer
unless (Some r) m answer = Err (m, r)

-- the base cuts in order, or the first node with the realization at which its size passes its range
abbrev pub base_from : Problem → List ℕ → List (List Cut) → Result (List (List Cut)) (ℕ × ℕ)
base_from p [] pools = Ok pools
base_from p (m ∷ ms) pools =
    unless (range_of pools (node_at p m) (base_list (node_at p m))) m
    (base_from p ms (push pools m (cut_of pools (node_at p m) (base_list (node_at p m)))))

-- the base cuts of a problem, or the first node in order whose base certificates are too large
unfoldable pub based : Validated → Result (List (List Cut)) (ℕ × ℕ)
based p = base_from (problem_of p) p.order (replicate (length p.parts.nodes) [])
