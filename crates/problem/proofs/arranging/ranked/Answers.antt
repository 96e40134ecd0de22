use Rattle.std.proofs.Common.{◌≡◌, ◌∙◌, ◌≤◌, true, length, nat_lt, ap, sym, subst}
use Rattle.std.specs.List.{list_all}
use Rattle.std.proofs.lemmas.List.FromFn.{length-map-range_with_len}
use Rattle.base_graph.specs.Ranks.{rank}
use Rattle.problem.proofs.arranging.ranked.Goals as goal

pub returns-in-Ok-clause-below : goal.returns-in-Ok-clause-below
returns-in-Ok-clause-below c =
    subst (λ n. list_all (λ r. nat_lt r n) c.in-Ok.ranks ≡ true) (sym (ap length c.in-Ok.ensures.value.0 ∙ length-map-range_with_len (rank c.args.graph.now) 0 (length c.args.graph.now))) c.in-Ok.ensures.below

pub returns-in-Ok-clause-count : goal.returns-in-Ok-clause-count
returns-in-Ok-clause-count c =
    subst (λ n. n ≤ 1000) (sym (ap length c.in-Ok.ensures.value.0 ∙ length-map-range_with_len (rank c.args.graph.now) 0 (length c.args.graph.now))) c.requires.count
