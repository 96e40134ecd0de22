-- Cuts that cover the first cuts of a list.
use Rattle.std.specs.Prelude.{◌≡◌, ℕ, ◌<◌, ◌≤◌, ◌^◌, ℤ, pos, ◌+ℤ◌, ◌-ℤ◌, ◌*ℤ◌, ◌≤ℤ◌, List, length, map, ⊤, ◌⊎◌, IfSome}
use Rattle.std.specs.Int.{int_min}
use Rattle.base_num.specs.Sums.{entry}
use Rattle.lp_program.specs.PackedCut.{PackedCut}
use Rattle.lp_program.specs.Covering.{value_of, packed_cut_at, AreInside, Covers, IsCovered, AreRisingPlaces, CoverAll}
use Rattle.cut_pool.specs.CoarseLists.{IsCoarseOf}
use Rattle.cut_pool.specs.declared.active_cuts.Active.{Active}
use Rattle.cut_pool.specs.declared.active_cuts.Standing.{Standing}
use Rattle.cut_pool.specs.declared.active_cuts.Standing.TheVariants.{Covered, Above, Apart}

-- the lesser product of a difference of slopes with an end of the box of the state k
abbrev pub lesser_over : List ℤ → List ℤ → List ℤ → List ℤ → ℕ → ℤ
lesser_over lows highs xs ys k = int_min ((entry xs k -ℤ entry ys k) *ℤ entry lows k) ((entry xs k -ℤ entry ys k) *ℤ entry highs k)

-- at each state of a box the value of the first cut is greater by this at least, at the scale 2^24
abbrev pub IsLead : List ℤ → List ℤ → PackedCut → PackedCut → ℤ → Type 0
IsLead lows highs a b v = (xs : List ℤ) → AreInside lows highs xs → (v *ℤ pos (2 ^ 24) +ℤ value_of b xs) ≤ℤ value_of a xs

-- rising places below a number, by one of which each cut before it is covered
pub record CoverFirst (all : List PackedCut) (count : ℕ) (places : List ℕ) (lows highs : List ℤ) : Type 0 where
  pub rising : AreRisingPlaces 0 count places
  pub covered : (j : ℕ) → j < count → IsCovered all lows highs places j

-- the cut at the place q is covered by one of these or by the one at p
abbrev pub IsLeft : List PackedCut → List ℤ → List ℤ → ℕ → List ℕ → ℕ → Type 0
IsLeft all lows highs p places q = IsCovered all lows highs places q ⊎ Covers all lows highs p q

-- one of these covers the cut at the place p, or it is above one of them, or nothing is known
abbrev pub IsStanding : List PackedCut → List ℤ → List ℤ → List ℕ → ℕ → Standing → Type 0
IsStanding all lows highs places p Covered = IsCovered all lows highs places p
IsStanding all lows highs places p (Above k) = k < length places
IsStanding all lows highs places p Apart = ⊤

-- at the mark there were so many cuts at most, and the places of the mark cover the first of a list
pub record AreMarkedFirst (all : List PackedCut) (count : ℕ) (a : Active) : Type 0 where
  pub few : a.marked_count ≤ count
  pub cover : CoverFirst all a.marked_count a.marked.items a.lows.items a.highs.items

-- where there were as many cuts at the mark as a list has, the places of the mark cover the list
abbrev pub IsMarked : List PackedCut → Active → Type 0
IsMarked all a = a.marked_count ≡ length all → CoverFirst all a.marked_count a.marked.items a.lows.items a.highs.items

-- these cover the first cuts of a list, and stand side by side once more, in fewer digits too where these are known
pub record AreFirst (all : List PackedCut) (count : ℕ) (a : Active) : Type 0 where
  pub cover : CoverFirst all count a.places.items a.lows.items a.highs.items
  pub same : a.copies ≡ map (packed_cut_at all) a.places.items
  pub coarse : IfSome a.coarse (IsCoarseOf a.copies)
  pub mark : AreMarkedFirst all count a

-- these cover all cuts of a list, and stand side by side once more, in fewer digits too where these are known
pub record IsActive (all : List PackedCut) (a : Active) : Type 0 where
  pub cover : CoverAll all a.places.items a.lows.items a.highs.items
  pub same : a.copies ≡ map (packed_cut_at all) a.places.items
  pub coarse : IfSome a.coarse (IsCoarseOf a.copies)
  pub mark : AreMarkedFirst all (length all) a

-- these places stand for the former ones, the box and the mark are as they were
pub record AreTaken (all : List PackedCut) (taken : List ℕ) (old new : Active) : Type 0 where
  pub places : new.places.items ≡ taken
  pub same : new.copies ≡ map (packed_cut_at all) new.places.items
  pub coarse : IfSome new.coarse (IsCoarseOf new.copies)
  pub lows : new.lows.items ≡ old.lows.items
  pub highs : new.highs.items ≡ old.highs.items
  pub marked : new.marked.items ≡ old.marked.items
  pub marked_count : new.marked_count ≡ old.marked_count
