-- The realizations of a node.
use Rattle.std.specs.Prelude.{ℕ, List, [], ◌∷◌, ◌++◌, Result, Ok, length, nat_le, ◌==◌, codes, unsigned_abs, if◌then◌else◌}
use Rattle.serde_json.specs.Data.{Data, Items}
use Rattle.serde_json.specs.Events.{items_len}
use Rattle.serde_json.specs.Find.{get}
use Rattle.problem.specs.declared.refusal.Refusal.{Refusal}
use Rattle.problem.specs.declared.refusal.RefusalKind.TheVariants as kinds
use Rattle.problem.specs.declared.refusal.Part.TheVariants as part_kinds
use Rattle.problem.specs.declared.refusal.Place.{Place}
use Rattle.read_json.specs.Steps.{◌>>=◌, walk_items}
use Rattle.read_json.specs.Fields.{place, refuse, weight_at, present_at, object_at}
use Rattle.read_json.specs.Limits.{members_at}
use Rattle.read_file.specs.Values.{values_at}
use Rattle.read_file.specs.declared.realizations.Realizations.{Realizations}

abbrev pub no_realizations : Realizations
no_realizations = record { weights = []; values = [] }

abbrev pub at_node : ℕ → Place
at_node n = place part_kinds.Node n 0 0

abbrev pub at_realization : ℕ → ℕ → Place
at_realization n r = place part_kinds.Realization n r 0

-- a realization with its weight and its values
unfoldable pub realization_at : ℕ → List (List ℕ) → Realizations → ℕ → Data → Result Realizations Refusal
realization_at n randoms found r d = do
  all ← object_at (at_realization n r) d
  support ← members_at (at_realization n r) (get (codes "support") d)
  inner ← present_at (at_realization n r) (get (codes "probability") d)
  weight ← weight_at (at_realization n r) inner
  values ← values_at part_kinds.Support n r randoms support
  Ok (record { weights = found.weights ++ unsigned_abs weight ∷ []; values = found.values ++ values ∷ [] })

-- the one realization without random values
unfoldable pub certain_at : Place → List (List ℕ) → Result Realizations Refusal
certain_at p randoms = if length randoms == 0 then Ok (record { weights = 1 ∷ []; values = [] ∷ [] }) else refuse kinds.Shape p

abbrev pub listed_at : ℕ → List (List ℕ) → Items → Result Realizations Refusal
listed_at n randoms ds = walk_items (realization_at n randoms) no_realizations 0 ds

-- at most 100; an empty list is one realization of weight 1
unfoldable pub realizations_at : ℕ → List (List ℕ) → Items → Result Realizations Refusal
realizations_at n randoms ds = if nat_le (items_len ds) 100 then (if items_len ds == 0 then certain_at (at_node n) randoms else listed_at n randoms ds) else refuse kinds.TooLarge (at_node n)
