use Rattle.std.proofs.Common.{◌≡◌, ◌*◌, ◌^◌, drop}
use Rattle.serde_json.specs.View.{items_view}
use Rattle.read_json.specs.Steps.{walk_items}
use Rattle.read_stage.specs.Function.{term_at, terms_at}
use Rattle.read_stage.proofs.Sums.{AllBelow}
use Rattle.read_stage.proofs.function.terms.Given as goal

abbrev pub invariant-loop-t : goal.invariant-loop-t
invariant-loop-t l = record {
  small : AllBelow (l.t * 2 ^ 40) l.sums;
  walked : walk_items (term_at l.names l.site) l.sums l.t (items_view (drop l.t l.items)) ≡ terms_at l.names l.site (items_view l.items);
}
