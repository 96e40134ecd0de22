-- The lists that are kept for a node's cuts.
use Rattle.std.specs.Prelude.{◌≤◌, ◌^◌, List, length, map, All, Option, IfSome}
use Rattle.theory.specs.declared.cut.Cut.{Cut}
use Rattle.cut_pool.specs.declared.flat_cuts.FlatCuts.{FlatCuts}
use Rattle.cut_pool.specs.declared.box_maxima.BoxMaximum.{BoxMaximum}
use Rattle.cut_pool.specs.declared.active_cuts.Active.{Active}
use Rattle.cut_pool.specs.FlatCuts.{packed_cut, IsFlat}
use Rattle.cut_pool.specs.Active.{IsActive}
use Rattle.cut_pool.specs.BoxMaxima.{IsBoxMaximum}
use Rattle.cut_pool.specs.SlopeRanges.{AreEndsOf}
use Rattle.cut_pool.specs.declared.slope_range.SlopeRange.{SlopeRange}

-- at most 2^24 cuts, the same side by side, their box maxima over some boxes, those that cover them over a box, and the ends of their
-- slopes
pub record AreCutsKept (cuts : List Cut) (beside : FlatCuts) (tops : List BoxMaximum) (chosen : Option Active) (known : Option SlopeRange) : Type 0 where
  pub few : length cuts ≤ 2 ^ 24
  pub flat : IsFlat cuts beside
  pub box_maxima : All (IsBoxMaximum cuts) tops
  pub active : IfSome chosen (IsActive (map packed_cut cuts))
  pub range : IfSome known (AreEndsOf (map packed_cut cuts))
