-- The base cuts as they are made: the certificates, one node more, and the answer.
use Rattle.std.specs.Prelude.{◌≡◌, ℕ, ◌*◌, pos, List, [], ◌∷◌, map, Some, None, Result, Ok, Err}
use Rattle.problem.specs.declared.parts.Row.{Row}
use Rattle.problem.specs.declared.parts.Node as nodes
use Rattle.problem.specs.declared.parts.Subproblem.{Subproblem}
use Rattle.theory.specs.declared.cut.Cut.{Cut}
use Rattle.theory.specs.declared.cut.Certificate.{Certificate}
use Rattle.theory.specs.Problem.{S, Node}
use Rattle.theory.specs.Pools.{push}
use Rattle.theory.specs.CutOf.{cut_of}
use Rattle.theory.specs.Range.{range_of}
use Rattle.theory.specs.Base.{base_list}
use Rattle.cut_pool.specs.Pooled.{Pooled}
use Rattle.cut_check.specs.declared.base_pools.BaseFault.{BaseFault}
use Rattle.cut_check.specs.declared.base_pools.BaseFault.TheVariants.{Range, Memory}

-- all rows 0, and for each successor its first cut with all of its weight
abbrev pub certificate_of : nodes.Node → Subproblem → Certificate
certificate_of n s = record { rows = map (λ (row : Row). pos 0) s.rows; cuts = map (λ (w : ℕ). (0, S * w) ∷ []) n.successor_weights }

-- the base cut of the node m, or the realization at which its size passes the range; want of memory is free
abbrev pub GivesCut : ℕ → List (List Cut) → Node → Result Cut BaseFault → Type 0
GivesCut m pools n (Ok cut) = (range_of pools n (base_list n) ≡ None) × (cut ≡ cut_of pools n (base_list n))
GivesCut m pools n (Err (Range k r)) = (k ≡ m) × (range_of pools n (base_list n) ≡ Some r)
GivesCut m pools n (Err Memory) = Unit {0}

-- the pools with the base cut of the node m, or the realization at which its size passes the range
abbrev pub AddsCut : ℕ → List (List Cut) → Node → List (List Cut) → Result (Unit {0}) BaseFault → Type 0
AddsCut m pools n new (Ok u) = (range_of pools n (base_list n) ≡ None) × (new ≡ push pools m (cut_of pools n (base_list n)))
AddsCut m pools n new (Err (Range k r)) = (k ≡ m) × (range_of pools n (base_list n) ≡ Some r)
AddsCut m pools n new (Err Memory) = Unit {0}

-- the base cuts, or the node and the realization; want of memory is free
abbrev pub Bases : Result Pooled BaseFault → Result (List (List Cut)) (ℕ × ℕ) → Type 0
Bases (Ok pools) answer = answer ≡ Ok pools.lists
Bases (Err (Range m r)) answer = answer ≡ Err (m, r)
Bases (Err Memory) answer = Unit {0}
