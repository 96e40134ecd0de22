-- A node's cuts once more, side by side.
use Rattle.std.specs.Prelude.{◌≡◌, List, true, map}
use Rattle.theory.specs.declared.cut.Cut.{Cut}
use Rattle.lp_program.specs.PackedCut.{PackedCut, cuts_of, ArePacked}
use Rattle.cut_pool.specs.declared.flat_cuts.FlatCuts.{FlatCuts}

abbrev pub packed_cut : Cut → PackedCut
packed_cut c = record { height = c.alpha; slopes = c.beta }

-- where they are kept, they are these, with few binary digits
pub record IsFlat (cuts : List Cut) (f : FlatCuts) : Type 0 where
  pub packed : f.kept ≡ true → ArePacked f.states f.heights.items f.slopes.items
  pub same : f.kept ≡ true → cuts_of f.states f.heights.items f.slopes.items ≡ map packed_cut cuts
