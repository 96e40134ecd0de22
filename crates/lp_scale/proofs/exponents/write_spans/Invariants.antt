use Rattle.std.proofs.Common.{◌≡◌, pos, negsuc, drop, length}
use Rattle.lp_program.specs.declared.programs.LpRow.{LpRow}
use Rattle.lp_scale.specs.Walks.{walk}
use Rattle.lp_scale.specs.Exponents.{with_row_terms, spans_of, SpansBetween}
use Rattle.lp_scale.proofs.exponents.write_spans.Given as goal

abbrev pub invariant-loop-i : goal.invariant-loop-i
invariant-loop-i l = record {
  count : length l.spans ≡ length l.fn.spans;
  between : SpansBetween (negsuc 478) (pos 161) l.spans;
  value : spans_of l.decisions l.reaches l.rows l.exponents ≡ walk (λ i ss (row : LpRow). with_row_terms l.decisions l.reaches l.exponents ss row.terms) l.i l.spans (drop l.i l.rows);
}
