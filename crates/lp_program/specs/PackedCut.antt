-- Cuts side by side: the heights of all, and the slopes of one after those of the other.
use Rattle.std.specs.Prelude.{◌≡◌, ℕ, ◌<◌, ◌≤◌, ◌^◌, ◌*◌, ℤ, pos, List, [], ◌∷◌, length, take, drop, All, nat_abs}

-- the value where all states are 0, and a slope for each state, at the scale 2^24
pub record PackedCut : Type 0 where
  pub height : ℤ
  pub slopes : List ℤ

abbrev pub no_packed_cut : PackedCut
no_packed_cut = record { height = pos 0; slopes = [] }

-- the cuts with these heights, so many slopes for each
abbrev pub cuts_of : ℕ → List ℤ → List ℤ → List PackedCut
cuts_of states [] slopes = []
cuts_of states (h ∷ hs) slopes = record { height = h; slopes = take states slopes } ∷ cuts_of states hs (drop states slopes)

-- a height of at most 100 binary digits, and slopes of at most 57
pub record IsSmallCut (c : PackedCut) : Type 0 where
  pub height : nat_abs c.height < 2 ^ 100
  pub slopes : All (λ s. nat_abs s < 2 ^ 57) c.slopes

-- heights of at most 100 binary digits, and slopes of at most 57
pub record ArePacked (n : ℕ) (hs bs : List ℤ) : Type 0 where
  pub few : length hs ≤ 2 ^ 24
  pub states : n ≤ 50
  pub count : length bs ≡ length hs * n
  pub heights : All (λ h. nat_abs h < 2 ^ 100) hs
  pub slopes : All (λ s. nat_abs s < 2 ^ 57) bs
