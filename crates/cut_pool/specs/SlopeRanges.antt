-- The ends of the slopes of the first cuts of a list.
use Rattle.std.specs.Prelude.{◌≡◌, ℕ, ◌<◌, ◌≤◌, ◌^◌, pos, List, length, nat_abs, All, ◌⊎◌}
use Rattle.base_num.specs.Sums.{entry}
use Rattle.lp_program.specs.PackedCut.{PackedCut}
use Rattle.lp_program.specs.Covering.{packed_cut_at}
use Rattle.lp_program.specs.SlopeEnds.{IsLevel, IsUndercut}
use Rattle.cut_pool.specs.declared.slope_range.SlopeRange.{SlopeRange}

-- in each state the slope of the first cut is not the greater, in size
abbrev pub HasNoGreater : PackedCut → PackedCut → Type 0
HasNoGreater a b = (j : ℕ) → nat_abs (entry a.slopes j) ≤ nat_abs (entry b.slopes j)

-- one of the first cuts has a slope of this size in the state j
pub record IsReachedFirst (all : List PackedCut) (count j most : ℕ) : Type 0 where
  pub by : ℕ
  pub there : by < count
  pub size : nat_abs (entry (packed_cut_at all by).slopes j) ≡ most

-- the ends of the slopes of the first cuts of a list
pub record AreEndsOfFirst (all : List PackedCut) (count : ℕ) (r : SlopeRange) : Type 0 where
  pub states : (k : ℕ) → k < count → length (packed_cut_at all k).slopes ≡ length r.greatest.items
  pub small : All (λ s. nat_abs s < 2 ^ 57) r.greatest.items
  pub greatest : (k j : ℕ) → k < count → nat_abs (entry (packed_cut_at all k).slopes j) ≤ nat_abs (entry r.greatest.items j)
  pub reached : (j : ℕ) → (entry r.greatest.items j ≡ pos 0) ⊎ IsReachedFirst all count j (nat_abs (entry r.greatest.items j))
  pub there : All (λ p. p < count) r.least.items
  pub least : (k : ℕ) → k < count → IsLevel (packed_cut_at all k) ⊎ IsUndercut all r.least.items (packed_cut_at all k)

-- the ends of all slopes of a list
abbrev pub AreEndsOf : List PackedCut → SlopeRange → Type 0
AreEndsOf all r = AreEndsOfFirst all (length all) r
