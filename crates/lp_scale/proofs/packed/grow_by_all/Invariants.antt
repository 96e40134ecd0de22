use Rattle.std.proofs.Common.{◌≡◌, ◌<◌, ◌^◌, pos, nat_abs, length, take, drop, All}
use Rattle.lp_program.specs.PackedCut.{PackedCut}
use Rattle.lp_scale.specs.Walks.{walk}
use Rattle.lp_scale.specs.Spans.{AreBetween}
use Rattle.lp_scale.specs.Packed.{most_digits, grown_above_zero}
use Rattle.lp_scale.specs.Fences.{Keeps}
use Rattle.lp_scale.proofs.packed.grow_by_all.Given as goal

abbrev pub invariant-loop-place : goal.invariant-loop-place
invariant-loop-place l = record {
  count : length l.limits ≡ length l.fn.limits;
  keeps : Keeps l.lifts l.span l.limits l.lead.state l.lead.size;
  between : AreBetween (pos 0) (pos 640) l.span;
  small : All (λ (c : PackedCut). All (λ s. nat_abs s < 2 ^ 57) c.slopes) (take l.place l.cuts);
  value : walk (λ i s (c : PackedCut). grown_above_zero s (most_digits l.lifts c.slopes)) 0 l.fn.span l.cuts ≡ walk (λ i s (c : PackedCut). grown_above_zero s (most_digits l.lifts c.slopes)) l.place l.span (drop l.place l.cuts);
}
