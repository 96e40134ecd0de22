use Rattle.std.proofs.Common.{◌≡◌, drop}
use Rattle.serde_json.specs.View.{items_view}
use Rattle.read_json.specs.Steps.{walk_items}
use Rattle.policy_robust.specs.Alternatives.{one_weight_at, all_weights_at}
use Rattle.policy_robust.proofs.alternatives.all_weights.Given as goal

abbrev pub invariant-loop-r : goal.invariant-loop-r
invariant-loop-r l = walk_items (one_weight_at l.n l.a) l.found l.r (items_view (drop l.r l.items)) ≡ all_weights_at l.n l.a (items_view l.items)
