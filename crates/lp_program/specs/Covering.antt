-- Cuts that are covered by others at every state of a box.
use Rattle.std.specs.Prelude.{◌≡◌, ℕ, suc, ◌<◌, ◌≤◌, ◌^◌, ℤ, pos, ◌+ℤ◌, ◌*ℤ◌, ◌≤ℤ◌, ◌<ℤ◌, List, [], ◌∷◌, length, map, get_or, ⊤, ◌⊎◌, IfSome}
use Rattle.base_num.specs.Sums.{entry, dot}
use Rattle.lp_program.specs.PackedCut.{PackedCut, no_packed_cut}
use Rattle.lp_program.specs.Coarse.{IsCoarse}
use Rattle.lp_program.specs.declared.packed.ActiveCuts.{ActiveCuts}

-- the value of a cut at states of the scale 2^24, at the scale 2^48
abbrev pub value_of : PackedCut → List ℤ → ℤ
value_of c xs = c.height *ℤ pos (2 ^ 24) +ℤ dot c.slopes xs

abbrev pub packed_cut_at : List PackedCut → ℕ → PackedCut
packed_cut_at cuts i = get_or cuts i no_packed_cut

-- states of the scale 2^24 in a box of whole units
pub record AreInside (lows highs xs : List ℤ) : Type 0 where
  pub low_count : length lows ≡ length xs
  pub high_count : length highs ≡ length xs
  pub above : (k : ℕ) → k < length xs → (entry lows k *ℤ pos (2 ^ 24)) ≤ℤ entry xs k
  pub below : (k : ℕ) → k < length xs → entry xs k ≤ℤ (entry highs k *ℤ pos (2 ^ 24))

-- the cut at place i is the greater, or it is not the lesser and does not stand behind
abbrev pub IsBefore : ℕ → ℤ → ℕ → ℤ → Type 0
IsBefore i x j y = (y <ℤ x) ⊎ ((y ≤ℤ x) × (i ≤ j))

-- at every state of the box the cut at place i is before that at place j
abbrev pub Covers : List PackedCut → List ℤ → List ℤ → ℕ → ℕ → Type 0
Covers cuts lows highs i j = (xs : List ℤ) → AreInside lows highs xs → IsBefore i (value_of (packed_cut_at cuts i) xs) j (value_of (packed_cut_at cuts j) xs)

-- one of these covers the cut at place j
pub record IsCovered (cuts : List PackedCut) (lows highs : List ℤ) (active : List ℕ) (j : ℕ) : Type 0 where
  pub by : ℕ
  pub there : by < length active
  pub covers : Covers cuts lows highs (get_or active by 0) j

-- places that rise from `least` on and are below `count`
abbrev pub AreRisingPlaces : ℕ → ℕ → List ℕ → Type 0
AreRisingPlaces least count [] = ⊤
AreRisingPlaces least count (p ∷ ps) = (least ≤ p) × (p < count) × AreRisingPlaces (suc p) count ps

-- places of the list, by one of which each of its cuts is covered
pub record CoverAll (all : List PackedCut) (places : List ℕ) (lows highs : List ℤ) : Type 0 where
  pub rising : AreRisingPlaces 0 (length all) places
  pub covered : (j : ℕ) → j < length all → IsCovered all lows highs places j

-- some cuts cover all, stand side by side once more, and are in fewer binary digits what these are
pub record AreActive (all : List PackedCut) (a : ActiveCuts) : Type 0 where
  pub cover : CoverAll all a.places.now a.lows.now a.highs.now
  pub same : a.cuts ≡ map (packed_cut_at all) a.places.now
  pub coarse : IfSome a.coarse (IsCoarse a.cuts)
