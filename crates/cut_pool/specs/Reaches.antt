-- Cuts whose value at a state stays in 128 bits.
use Rattle.std.specs.Prelude.{◌≡◌, ◌^◌, ℤ, pos, ◌+ℤ◌, ◌≤ℤ◌, List, length}
use Rattle.base_num.specs.Sums.{dot}
use Rattle.theory.specs.declared.cut.Cut.{Cut}
use Rattle.theory.specs.Size.{magnitude, magnitudes}

-- |alpha| + sum of |beta_k| * |x_k|
abbrev pub value_size : Cut → List ℤ → ℤ
value_size c x = magnitude c.alpha +ℤ dot (magnitudes c.beta) (magnitudes x)

pub record CutReaches (x : List ℤ) (c : Cut) : Type 0 where
  pub slopes : length c.beta ≡ length x
  pub small : value_size c x ≤ℤ pos (2 ^ 104)
