use Rattle.std.proofs.Common.{◌≡◌, ◌+◌, ℤ, pos, List, length, map, drop}
use Rattle.lp_program.specs.Packed.{packed_rows, rows_of}
use Rattle.lp_scale.specs.Exponents.{SpansBetween}
use Rattle.lp_scale.specs.Packed.{lift_of}
use Rattle.lp_scale.proofs.Standing.{steps, top_step}
use Rattle.lp_scale.proofs.packed.write_lifted_spans.Given as goal

abbrev pub invariant-loop-k : goal.invariant-loop-k
invariant-loop-k l = record {
  limits : length l.limits ≡ length l.fn.limits;
  count : length l.spans ≡ length l.fn.spans;
  between : SpansBetween (pos 0) (pos 640) l.spans;
  value : (exponents : List ℤ) → l.lifts ≡ map (lift_of exponents) l.view.outs → steps (top_step l.decisions exponents) 0 l.fn.spans (rows_of l.view) ≡ steps (top_step l.decisions exponents) 0 l.spans (packed_rows l.view.outs (l.view.first + l.k) (drop l.k l.view.cuts));
}
