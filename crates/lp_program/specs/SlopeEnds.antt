-- Between which ends the slopes of cuts have their binary digits.
use Rattle.std.specs.Prelude.{◌≡◌, ℕ, ◌<◌, ◌≤◌, ◌^◌, pos, List, length, get_or, nat_abs, All, Option, IfSome, ◌⊎◌}
use Rattle.base_num.specs.Sums.{entry}
use Rattle.lp_program.specs.PackedCut.{PackedCut}
use Rattle.lp_program.specs.Covering.{packed_cut_at, AreActive}
use Rattle.lp_program.specs.declared.packed.ActiveCuts.{ActiveCuts}
use Rattle.lp_program.specs.declared.packed.SlopeEnds.{SlopeEnds}

-- a cut all of whose slopes are 0
abbrev pub IsLevel : PackedCut → Type 0
IsLevel c = (j : ℕ) → entry c.slopes j ≡ pos 0

-- in each state the slope of the first cut has no more binary digits than that of the second
abbrev pub HasNoMoreDigits : PackedCut → PackedCut → Type 0
HasNoMoreDigits a b = (j n : ℕ) → nat_abs (entry b.slopes j) < 2 ^ n → nat_abs (entry a.slopes j) < 2 ^ n

-- one of the cuts at these places has no more binary digits than another cut
pub record IsUndercut (cuts : List PackedCut) (places : List ℕ) (c : PackedCut) : Type 0 where
  pub by : ℕ
  pub there : by < length places
  pub digits : HasNoMoreDigits (packed_cut_at cuts (get_or places by 0)) c

-- one of the cuts has a slope of this size in the state j
pub record IsReached (cuts : List PackedCut) (j most : ℕ) : Type 0 where
  pub by : ℕ
  pub there : by < length cuts
  pub size : nat_abs (entry (packed_cut_at cuts by).slopes j) ≡ most

-- no slope is greater in size than the greatest of its state, which is 0 or that of a cut, and each cut that is not level is undercut
pub record AreSlopeEnds (cuts : List PackedCut) (e : SlopeEnds) : Type 0 where
  pub states : All (λ c. length c.slopes ≡ length e.greatest.now) cuts
  pub small : All (λ s. nat_abs s < 2 ^ 57) e.greatest.now
  pub greatest : (k j : ℕ) → k < length cuts → nat_abs (entry (packed_cut_at cuts k).slopes j) ≤ nat_abs (entry e.greatest.now j)
  pub reached : (j : ℕ) → (entry e.greatest.now j ≡ pos 0) ⊎ IsReached cuts j (nat_abs (entry e.greatest.now j))
  pub there : All (λ p. p < length cuts) e.least.now
  pub least : (k : ℕ) → k < length cuts → IsLevel (packed_cut_at cuts k) ⊎ IsUndercut cuts e.least.now (packed_cut_at cuts k)

-- where they are there, these cover the cuts, and these are the ends of their slopes
pub record AreKnown (all : List PackedCut) (covering : Option ActiveCuts) (spread : Option SlopeEnds) : Type 0 where
  pub active : IfSome covering (AreActive all)
  pub ends : IfSome spread (AreSlopeEnds all)
