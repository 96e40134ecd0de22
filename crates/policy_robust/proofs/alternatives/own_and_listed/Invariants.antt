use Rattle.std.proofs.Common.{◌≡◌, drop, length}
use Rattle.serde_json.specs.View.{items_view}
use Rattle.read_json.specs.Steps.{walk_items}
use Rattle.policy_robust.specs.Alternatives.{next_alternative_at, alternatives_at}
use Rattle.policy_robust.proofs.alternatives.own_and_listed.Given as goal

abbrev pub invariant-loop-i : goal.invariant-loop-i
invariant-loop-i l = walk_items (next_alternative_at l.n (length l.own)) l.found l.i (items_view (drop l.i l.items)) ≡ alternatives_at l.n l.own (items_view l.items)
