-- The index that a word of 32 bits picks among weights.
use Rattle.std.specs.Prelude.{ℕ, zero, suc, ◌+◌, ◌*◌, ◌/◌, ◌^◌, List, [], ◌∷◌, sum, if◌then◌else◌, nat_lt}

-- the first index whose running sum exceeds the level; `before` is the sum of the weights before the index i, where these begin
abbrev pub first_above : ℕ → ℕ → ℕ → List ℕ → ℕ
first_above level before i [] = i
first_above level before i (w ∷ ws) = if nat_lt level (before + w) then i else first_above level (before + w) (suc i) ws

-- the word, of 2^32 words, at the scale of a total weight, rounded down
abbrev pub level_of : ℕ → ℕ → ℕ
level_of total word = word * total / 2 ^ 32

-- the first index whose running sum exceeds floor(word * Q / 2^32), where Q is the sum of the weights
unfoldable pub picked : List ℕ → ℕ → ℕ
picked weights word = first_above (level_of (sum weights) word) 0 0 weights

-- a stop weight counts where it is at least 1
abbrev pub stop_weight : ℕ → List ℕ
stop_weight zero = []
stop_weight (suc n) = suc n ∷ []
