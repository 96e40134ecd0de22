-- Cuts in fewer binary digits, in lists that grow.
use Rattle.std.specs.Prelude.{◌≡◌, ℕ, ◌<◌, ◌≤◌, ◌+◌, List, length, take, get_or, All}
use Rattle.std.specs.Global.{Vec}
use Rattle.lp_program.specs.PackedCut.{PackedCut}
use Rattle.lp_program.specs.Coarse.{AreHeights, AreSteeps}
use Rattle.cut_pool.specs.declared.coarse.Coarse.{Coarse}

-- for each state numbers by which the cuts fall with it at least
abbrev pub AreColumns : ℕ → List PackedCut → List (Vec ℕ) → Type 0
AreColumns shift cuts columns = (j : ℕ) (d : Vec ℕ) → j < length columns → AreSteeps shift cuts j (get_or columns j d).items

-- for each state the first numbers are such numbers of the first cuts
abbrev pub AreFrontColumns : ℕ → ℕ → List PackedCut → List (Vec ℕ) → Type 0
AreFrontColumns shift kept cuts columns = (j : ℕ) (d : Vec ℕ) → j < length columns → AreSteeps shift (take kept cuts) j (take kept (get_or columns j d).items)

-- the first entries are those of the first cuts
pub record IsCoarseFront (kept : ℕ) (cuts : List PackedCut) (c : Coarse) : Type 0 where
  pub heights : AreHeights (c.slope_shift + c.state_shift) c.base (take kept cuts) (take kept c.heights.items)
  pub steeps : AreFrontColumns c.slope_shift kept cuts c.steeps.items

-- the entries are those of the cuts: heights that, counted from the base, are not below theirs, and for each state numbers by which they fall at least
pub record IsCoarseOf (cuts : List PackedCut) (c : Coarse) : Type 0 where
  pub heights : AreHeights (c.slope_shift + c.state_shift) c.base cuts c.heights.items
  pub steeps : AreColumns c.slope_shift cuts c.steeps.items
  pub states : All (λ cut. length cut.slopes ≡ length c.steeps.items) cuts
  pub slope_shift : c.slope_shift ≤ 57
  pub state_shift : c.state_shift ≤ 63
