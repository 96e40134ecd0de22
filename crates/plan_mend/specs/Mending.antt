-- Mending: decisions of a node at values and a state that meet its rows exactly, where moves of single decisions lead there.
use Rattle.std.specs.Prelude.{ℤ, pos, Bool, false, List, length, replicate, if◌then◌else◌}
use Rattle.std.specs.List.{list_all}
use Rattle.std.specs.Ordering.{int_eq}
use Rattle.theory.specs.Problem.{Node}
use Rattle.plan_forward.specs.Costing.{misses_of}
use Rattle.plan_mend.specs.declared.search.Search.{Search}
use Rattle.plan_mend.specs.Moves.{frame_of}
use Rattle.plan_mend.specs.Fixing.{all_fixed}

-- nothing is held, and there are 256 tries
abbrev pub fresh_search : List ℤ → Search
fresh_search u = record { numbers = u; held = replicate (length u) false; tries = 256 }

-- the decisions that the search finds
abbrev pub searched : Node → List ℤ → List ℤ → List ℤ → List ℤ
searched n values x u = (all_fixed (frame_of n values x) 0 (length (frame_of n values x).rows) (fresh_search u)).1.numbers

abbrev pub all_met : Node → List ℤ → List ℤ → List ℤ → Bool
all_met n values x u = list_all (λ (d : ℤ). int_eq d (pos 0)) (misses_of n u x values)

-- Mended: where the search meets each row, the decisions that it finds, and else the decisions as they are
unfoldable pub mended_of : Node → List ℤ → List ℤ → List ℤ → List ℤ
mended_of n values x u = if all_met n values x (searched n values x u) then searched n values x u else u
