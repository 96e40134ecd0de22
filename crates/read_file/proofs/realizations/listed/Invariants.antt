use Rattle.std.proofs.Common.{◌≡◌, drop}
use Rattle.serde_json.specs.View.{items_view}
use Rattle.read_json.specs.Steps.{walk_items}
use Rattle.read_file.specs.Realizations.{realization_at, listed_at}
use Rattle.read_file.proofs.realizations.listed.Given as goal

abbrev pub invariant-loop-r : goal.invariant-loop-r
invariant-loop-r l = walk_items (realization_at l.n l.randoms) l.found l.r (items_view (drop l.r l.items)) ≡ listed_at l.n l.randoms (items_view l.items)
