use Rattle.std.proofs.Common.{◌≡◌, drop}
use Rattle.serde_json.specs.View.{items_view}
use Rattle.read_json.specs.Steps.{walk_items}
use Rattle.read_stage.specs.Randoms.{random_at, each_random_at}
use Rattle.read_stage.proofs.randoms.each_random.Given as goal

abbrev pub invariant-loop-i : goal.invariant-loop-i
invariant-loop-i l = walk_items (random_at l.names l.p) l.found l.i (items_view (drop l.i l.items)) ≡ each_random_at l.names l.p l.initial.found (items_view l.items)
