-- The greatest values of cuts over a box of states.
use Rattle.std.specs.Prelude.{◌≡◌, ℕ, suc, ◌<◌, ℤ, pos, ◌+ℤ◌, ◌*ℤ◌, List, [], ◌∷◌, length, take, get_or}
use Rattle.std.specs.Int.{int_max}
use Rattle.base_num.specs.Sums.{sum_to, entry}
use Rattle.theory.specs.declared.cut.Cut.{Cut}
use Rattle.theory.specs.Pools.{no_cut}
use Rattle.cut_pool.specs.declared.box_maxima.OutBox.{OutBox}
use Rattle.cut_pool.specs.declared.box_maxima.BoxMaximum.{BoxMaximum}

-- no entry of a box
abbrev pub no_box : OutBox
no_box = record { least = pos 0; greatest = pos 0 }

-- the greater product of the slope at the state k with an end of its box
abbrev pub product_over : List OutBox → Cut → ℕ → ℤ
product_over boxes c k = int_max (entry c.beta k *ℤ (get_or boxes k no_box).least) (entry c.beta k *ℤ (get_or boxes k no_box).greatest)

-- the greatest value of a cut over a box
abbrev pub greatest_over : List OutBox → Cut → ℤ
greatest_over boxes c = c.alpha +ℤ sum_to (length boxes) (product_over boxes c)

-- the greatest of these over some cuts, and over best
abbrev pub most_over : List OutBox → ℤ → List Cut → ℤ
most_over boxes best [] = best
most_over boxes best (c ∷ cs) = most_over boxes (int_max best (greatest_over boxes c)) cs

-- the greatest value of some cuts over a box
abbrev pub box_maximum_over : List OutBox → List Cut → ℤ
box_maximum_over boxes cuts = most_over boxes (greatest_over boxes (get_or cuts 0 no_cut)) cuts

-- the values are the greatest ones of the first cut, of the first two, and so on, up to all
pub record IsBoxMaximum (cuts : List Cut) (p : BoxMaximum) : Type 0 where
  pub count : length p.values.items ≡ length cuts
  pub values : (k : ℕ) → k < length cuts → get_or p.values.items k (pos 0) ≡ box_maximum_over p.boxes (take (suc k) cuts)
