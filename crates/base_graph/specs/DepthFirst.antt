-- The marks of the nodes in a depth-first search for the ranks.
use Rattle.std.specs.Prelude.{◌≡◌, ℕ, suc, ◌<◌, ◌⊎◌, Bool, true, false, List, length, map, None, get_or, Contains}
use Rattle.std.specs.List.{sum_by}
use Rattle.base_graph.specs.Paths.{arcs_from, first_in_cycle, Reaches}
use Rattle.base_graph.specs.Ranks.{greatest}
use Rattle.base_graph.specs.declared.depth_first.Mark.{Mark}
use Rattle.base_graph.specs.declared.depth_first.Mark.TheVariants.{Unseen, Open, Ranked}

-- the mark of the node m; what is no node is not seen
abbrev pub mark_at : List Mark → ℕ → Mark
mark_at ms m = get_or ms m Unseen

abbrev pub is_ranked : Mark → Bool
is_ranked Unseen = false
is_ranked Open = false
is_ranked (Ranked r) = true

-- 0 where no rank is known
abbrev pub rank_of : Mark → ℕ
rank_of Unseen = 0
rank_of Open = 0
rank_of (Ranked r) = r

-- 1 for a node that was not seen
abbrev pub weight : Mark → ℕ
weight Unseen = 1
weight Open = 0
weight (Ranked r) = 0

-- the number of nodes not seen
abbrev pub unseen : List Mark → ℕ
unseen ms = sum_by weight ms

-- one more than the greatest rank of these nodes, 0 without nodes; each of them has its rank
pub record RankAbove (ms : List Mark) (ks : List ℕ) (r : ℕ) : Type 0 where
  pub ranked : (k : ℕ) → Contains ks k → is_ranked (mark_at ms k) ≡ true
  pub value : r ≡ greatest (map (λ k. suc (rank_of (mark_at ms k))) ks)

-- each rank that is known is right, by those of the nodes one step on
pub record AreRanks (g : List (List ℕ)) (ms : List Mark) : Type 0 where
  pub above : (m : ℕ) → is_ranked (mark_at ms m) ≡ true → RankAbove ms (arcs_from g m) (rank_of (mark_at ms m))

-- each node that the search is below leads to each of these
pub record LeadTo (g : List (List ℕ)) (ms : List Mark) (ks : List ℕ) : Type 0 where
  pub path : (j k : ℕ) → mark_at ms j ≡ Open → Contains ks k → Reaches g (arcs_from g j) k

-- a mark is as before, or the rank of a node that was not seen
abbrev pub Goes : Mark → Mark → Type 0
Goes before now = (now ≡ before) ⊎ ((before ≡ Unseen) × (is_ranked now ≡ true))

-- nodes that were not seen may have got their ranks; the other marks are as before
pub record Later (old new : List Mark) : Type 0 where
  pub each : (m : ℕ) → Goes (mark_at old m) (mark_at new m)

-- a search went on from these marks to those
pub record GoesOn (g : List (List ℕ)) (old new : List Mark) : Type 0 where
  pub right : AreRanks g new
  pub later : Later old new

-- each node has its rank
pub record AllRanked (g : List (List ℕ)) (ms : List Mark) : Type 0 where
  pub whole : length ms ≡ length g
  pub right : AreRanks g ms
  pub each : (m : ℕ) → m < length g → is_ranked (mark_at ms m) ≡ true

-- a node reaches itself
abbrev pub HasCycle : List (List ℕ) → Type 0
HasCycle g = first_in_cycle g ≡ None → ⊥
