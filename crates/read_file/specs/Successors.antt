-- Successors with their weights.
use Rattle.std.specs.Prelude.{ℕ, List, [], ◌∷◌, ◌++◌, Result, Ok, position, unsigned_abs}
use Rattle.std.specs.Str.{bytes_eq}
use Rattle.serde_json.specs.Data.{Data, Members}
use Rattle.problem.specs.declared.refusal.Refusal.{Refusal}
use Rattle.problem.specs.declared.refusal.Part.{Part}
use Rattle.problem.specs.declared.refusal.Place.{Place}
use Rattle.read_json.specs.Steps.{◌>>=◌, walk_members}
use Rattle.read_json.specs.Fields.{place, weight_at}
use Rattle.read_json.specs.Limits.{known_at}
use Rattle.read_file.specs.declared.successors.Successors.{Successors}

abbrev pub no_successors : Successors
no_successors = record { nodes = []; weights = [] }

-- a successor at a place: its weight, then its node
unfoldable pub successor_at : Place → List (List ℕ) → Successors → List ℕ → Data → Result Successors Refusal
successor_at p names found k d = do
  weight ← weight_at p d
  node ← known_at p (position (bytes_eq k) names)
  Ok (record { nodes = found.nodes ++ node ∷ []; weights = found.weights ++ unsigned_abs weight ∷ [] })

-- each successor i at the part's place a, i, 0
unfoldable pub read_successors_at : Part → ℕ → List (List ℕ) → Members → Result Successors Refusal
read_successors_at part a names ms = walk_members (λ found i k d. successor_at (place part a i 0) names found k d) no_successors 0 ms
