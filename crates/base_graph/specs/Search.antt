-- A search through a graph.
use Rattle.std.specs.Prelude.{ℕ, Bool, nat_eq, cond, List, [], ◌∷◌, ◌++◌, map, fold}
use Rattle.std.specs.Set.{is_member}
use Rattle.base_graph.specs.Paths.{numbers}

-- how far a search has come: the number of the graph's nodes, and the nodes that it found, in the order in which it came to them
pub record Progress : Type 0 where
  pub count : ℕ
  pub found : List ℕ

-- with the node m, unless it is there
abbrev pub come : List ℕ → ℕ → List ℕ
come found m = cond (is_member nat_eq found m) found (found ++ m ∷ [])

abbrev pub come_all : List ℕ → List ℕ → List ℕ
come_all found ms = fold come found ms

-- for each node whether the search has come to it
unfoldable pub marks_of : ℕ → List ℕ → List Bool
marks_of count found = map (is_member nat_eq found) (numbers count)
