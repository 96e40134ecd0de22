use Rattle.std.proofs.Common.{◌≡◌, ℕ, ℤ, ◌+ℤ◌, take, length}
use Rattle.base_num.specs.Sums.{coefficient, placed}
use Rattle.cut_make.specs.Parts.{over_pool}
use Rattle.cut_make.specs.Tabled.{Tabled}
use Rattle.cut_make.proofs.reduced_costs.add_pairs.Given as goal

abbrev pub invariant-loop-place : goal.invariant-loop-place
invariant-loop-place l = record {
  count : length l.sums ≡ length l.initial.sums;
  value : (f : ℕ → ℤ) → Tabled f l.initial.sums → Tabled (λ j. f j +ℤ over_pool l.pool (λ cut. coefficient (placed l.outs cut.beta) j) (take l.place-index l.pairs)) l.sums;
}
