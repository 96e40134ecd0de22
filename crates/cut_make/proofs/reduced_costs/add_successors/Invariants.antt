use Rattle.std.proofs.Common.{◌≡◌, ℕ, ℤ, ◌+ℤ◌, List, zip, take, length}
use Rattle.base_num.specs.Sums.{total, coefficient, placed}
use Rattle.theory.specs.Pools.{pool}
use Rattle.cut_make.specs.Parts.{over_pool}
use Rattle.cut_make.specs.Tabled.{Tabled}
use Rattle.cut_make.proofs.reduced_costs.add_successors.Given as goal

abbrev pub invariant-loop-i : goal.invariant-loop-i
invariant-loop-i l = record {
  count : length l.sums ≡ length l.initial.sums;
  value : (f : ℕ → ℤ) → Tabled f l.initial.sums → Tabled (λ j. f j +ℤ total (λ (q : ℕ × List (ℕ × ℕ)). over_pool (pool l.pools.lists q.0) (λ cut. coefficient (placed l.outs cut.beta) j) q.1) (take l.i (zip l.successors l.cuts))) l.sums;
}
