-- Products of a few factors.
use Rattle.std.specs.Prelude.{ℕ, ◌*◌, List, slice_index}

abbrev pub product_of : List ℕ → ℕ
product_of factors = slice_index factors 0 * slice_index factors 1 * slice_index factors 2 * slice_index factors 3
