use Rattle.std.proofs.Common.{◌≡◌, pos, drop, length}
use Rattle.lp_program.specs.declared.programs.LpRow.{LpRow}
use Rattle.lp_scale.specs.Walks.{walk}
use Rattle.lp_scale.specs.Exponents.{SpansBetween}
use Rattle.lp_scale.specs.Waiting.{last_column}
use Rattle.lp_scale.specs.Widening.{cut_spans, with_top, top_of}
use Rattle.lp_scale.proofs.widening.write_cut_spans.Given as goal

abbrev pub invariant-loop-i : goal.invariant-loop-i
invariant-loop-i l = record {
  count : length l.spans ≡ length l.fn.spans;
  between : SpansBetween (pos 0) (pos 640) l.spans;
  value : cut_spans l.decisions (length l.fn.spans) l.exponents l.cuts ≡ walk (λ i ss (r : LpRow). with_top l.decisions ss (top_of l.exponents r.terms) (last_column r.terms)) l.i l.spans (drop l.i l.cuts);
}
