-- Bounds from above of the values of cuts, by the same cuts in fewer binary digits.
use Rattle.std.specs.Prelude.{◌≡◌, ℕ, ◌*◌, ◌^◌, ◌<◌, ◌≤◌, ℤ, pos, ◌+ℤ◌, ◌*ℤ◌, ◌≤ℤ◌, ◌<ℤ◌, List, length, drop, get_or, All}
use Rattle.base_num.specs.Sums.{entry, dot}
use Rattle.lp_program.specs.PackedCut.{PackedCut}
use Rattle.lp_program.specs.Covering.{value_of, packed_cut_at, IsBefore}
use Rattle.lp_scan.specs.Values.{Valued}
use Rattle.lp_scan.specs.declared.bounds.Falls.{Falls}
use Rattle.lp_scan.specs.declared.first.Bounded.{Bounded}

-- what the states from j on add to the value of a cut
abbrev pub rest_of : PackedCut → List ℤ → ℕ → ℤ
rest_of c xs j = dot (drop j c.slopes) (drop j xs)

-- bounds of the values of cuts, counted from a base, with 2^shift at the scale 2^48, without what the states from j on add
abbrev pub AreBounds : ℕ → ℤ → List PackedCut → List ℤ → ℕ → List ℕ → Type 0
AreBounds shift base cs xs j bounds = (k : ℕ) → k < length bounds → value_of (packed_cut_at cs k) xs ≤ℤ ((base +ℤ pos (get_or bounds k 0)) *ℤ pos (2 ^ shift) +ℤ rest_of (packed_cut_at cs k) xs j)

-- how far each cut falls with the state j is at least a number times a state of few digits, with 2^shift at the scale 2^48
pub record AreFalls (shift : ℕ) (cs : List PackedCut) (xs : List ℤ) (j : ℕ) (f : Falls) : Type 0 where
  pub count : length f.steeps.now ≡ length cs
  pub few : f.state ≤ 2 ^ 16
  pub falls : (k : ℕ) → k < length cs → (entry (packed_cut_at cs k).slopes j *ℤ entry xs j +ℤ pos (get_or f.steeps.now k 0 * f.state) *ℤ pos (2 ^ shift)) ≤ℤ pos 0

-- the bounds are of the values of the cuts, with all states
pub record IsBounded (b : Bounded) : Type 0 where
  pub same : length b.bounds.now ≡ length b.cuts.now
  pub counts : All (λ (c : PackedCut). length c.slopes ≡ length b.leaving.now) b.cuts.now
  pub bounds : AreBounds b.shift b.base b.cuts.now b.leaving.now (length b.leaving.now) b.bounds.now
  pub shift : b.shift ≤ 120

-- a cut's number with its value, which comes before each cut with a number below another: it is the greater, or not the lesser
-- and does not stand behind
pub record IsFirst (cs : List PackedCut) (xs : List ℤ) (to : ℕ) (best : Valued) : Type 0 where
  pub there : best.0 < length cs
  pub value : best.1 ≡ value_of (packed_cut_at cs best.0) xs
  pub first : (j : ℕ) → j < to → IsBefore best.0 best.1 j (value_of (packed_cut_at cs j) xs)

-- a limit below which bounds are of values below another
abbrev pub IsLimit : ℕ → ℤ → ℤ → ℕ → Type 0
IsLimit shift base value limit = (b : ℕ) → b < limit → ((base +ℤ pos b) *ℤ pos (2 ^ shift)) <ℤ value
