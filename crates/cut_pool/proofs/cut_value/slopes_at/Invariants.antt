use Rattle.std.proofs.Common.{◌≡◌, ◌+ℤ◌, ◌≤ℤ◌, drop}
use Rattle.base_num.specs.Sums.{dot}
use Rattle.theory.specs.Size.{magnitude, magnitudes}
use Rattle.cut_pool.proofs.cut_value.slopes_at.Given as goal

abbrev pub invariant-loop-i : goal.invariant-loop-i
invariant-loop-i l = record {
  value : dot l.xs l.ys ≡ l.sum +ℤ dot (drop l.i l.xs) (drop l.i l.ys);
  room : (magnitude l.sum +ℤ dot (magnitudes (drop l.i l.xs)) (magnitudes (drop l.i l.ys))) ≤ℤ dot (magnitudes l.xs) (magnitudes l.ys);
}
