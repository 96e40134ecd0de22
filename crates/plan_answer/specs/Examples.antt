-- A node whose load is beyond its plants.
use Rattle.std.specs.Prelude.{pos, [], ◌∷◌, Some}
use Rattle.theory.specs.Problem.{Node}
use Rattle.theory.specs.Examples.{reservoir, water, demand}

-- the node with one reservoir and one thermal plant, which give at most 28, where the demand is 40
abbrev pub overloaded : Node
overloaded = record (reservoir 1) { rows = water ∷ record demand { low = Some (pos 40); high = Some (pos 40) } ∷ [] }
