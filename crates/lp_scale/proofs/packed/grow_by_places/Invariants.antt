use Rattle.std.proofs.Common.{◌≡◌, ℕ, ◌≤ℤ◌, pos, true, take, drop, All}
use Rattle.lp_program.specs.Covering.{packed_cut_at}
use Rattle.lp_scale.specs.Walks.{walk}
use Rattle.lp_scale.specs.Spans.{AreBetween}
use Rattle.lp_scale.specs.Packed.{most_digits, grown_above_zero}
use Rattle.lp_scale.proofs.packed.grow_by_places.Given as goal

abbrev pub invariant-loop-k : goal.invariant-loop-k
invariant-loop-k l = record {
  between : AreBetween (pos 0) (pos 640) l.span;
  above : l.are_above ≡ true → All (λ (p : ℕ). pos 1 ≤ℤ most_digits l.lifts (packed_cut_at l.cuts p).slopes) (take l.k l.places);
  value : walk (λ i s (p : ℕ). grown_above_zero s (most_digits l.lifts (packed_cut_at l.cuts p).slopes)) 0 l.fn.span l.places ≡ walk (λ i s (p : ℕ). grown_above_zero s (most_digits l.lifts (packed_cut_at l.cuts p).slopes)) l.k l.span (drop l.k l.places);
}
