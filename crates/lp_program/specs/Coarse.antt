-- Cuts in fewer binary digits, whose values are never below those of the cuts.
use Rattle.std.specs.Prelude.{◌≡◌, ℕ, ◌<◌, ◌≤◌, ◌+◌, ◌*◌, ◌^◌, ℤ, pos, ◌+ℤ◌, ◌*ℤ◌, ◌≤ℤ◌, List, length, get_or, slice_get, All, Some}
use Rattle.std.specs.Global.{Vec}
use Rattle.base_num.specs.Sums.{entry}
use Rattle.lp_program.specs.PackedCut.{PackedCut, no_packed_cut}
use Rattle.lp_program.specs.declared.packed.CoarseCuts.{CoarseCuts}

-- the cut with a number
abbrev pub cut_at : List PackedCut → ℕ → PackedCut
cut_at cuts k = get_or cuts k no_packed_cut

-- for each cut a number that, counted from the base, is not below its height, with 2^shift at the scale 2^48
pub record AreHeights (shift : ℕ) (base : ℤ) (cuts : List PackedCut) (heights : List ℕ) : Type 0 where
  pub count : length heights ≡ length cuts
  pub above : (k : ℕ) → k < length cuts → ((cut_at cuts k).height *ℤ pos (2 ^ 24)) ≤ℤ ((base +ℤ pos (get_or heights k 0)) *ℤ pos (2 ^ shift))

-- for each cut a number that with 2^shift is no more than it falls with the state j
pub record AreSteeps (shift : ℕ) (cuts : List PackedCut) (j : ℕ) (steeps : List ℕ) : Type 0 where
  pub count : length steeps ≡ length cuts
  pub falls : (k : ℕ) → k < length cuts → (entry (cut_at cuts k).slopes j +ℤ pos (get_or steeps k 0 * 2 ^ shift)) ≤ℤ pos 0

-- heights that are not below those of the cuts, and for each state numbers by which they fall at least
pub record IsCoarse (cuts : List PackedCut) (c : CoarseCuts) : Type 0 where
  pub heights : AreHeights (c.slope_shift + c.state_shift) c.base cuts c.heights.now
  pub steeps : (j : ℕ) (v : Vec ℕ) → slice_get c.steeps.now j ≡ Some v → AreSteeps c.slope_shift cuts j v.items
  pub states : All (λ cut. length cut.slopes ≡ length c.steeps.now) cuts
  pub slope_shift : c.slope_shift ≤ 57
  pub state_shift : c.state_shift ≤ 63
