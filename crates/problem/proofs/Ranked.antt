-- The ranks of a graph: one per node, each below the number of nodes.
use Rattle.std.proofs.Common.{◌≡◌, ℕ, List, true, length, subst, sym, ◌∙◌, ap}
use Rattle.std.proofs.lemmas.List.FromFn.{length-map-range_with_len}
use Rattle.base_graph.specs.Paths.{are_known}
use Rattle.base_graph.specs.Ranks.{ranks, rank}

pub length-ranks : (g : List (List ℕ)) → length (ranks g) ≡ length g
length-ranks g = length-map-range_with_len (rank g) 0 (length g)

-- each of the ranks is below their number
pub below_their_number : (g : List (List ℕ)) (rs : List ℕ) → rs ≡ ranks g → are_known (length g) rs ≡ true → are_known (length rs) rs ≡ true
below_their_number g rs is below = subst (λ (n : ℕ). are_known n rs ≡ true) (sym (ap length is ∙ length-ranks g)) below
