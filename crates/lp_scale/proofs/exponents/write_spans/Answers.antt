use Rattle.std.proofs.Common.{ℕ, pos, negsuc, ap, subst, sym, ◌∙◌, List, Option, length, replicate, None}
use Rattle.std.proofs.lemmas.List.{length-replicate}
use Rattle.lp_program.specs.declared.programs.LpRow.{LpRow}
use Rattle.lp_scale.specs.declared.spans.Span.{Span}
use Rattle.lp_scale.specs.Walks.{walk}
use Rattle.lp_scale.specs.Exponents.{with_row_terms, spans_of, SpansBetween}
use Rattle.lp_scale.proofs.Passes.{nones_between}
use Rattle.lp_scale.proofs.exponents.write_spans.Goals as goal

pub loop-i-init : goal.loop-i-init
unfolding spans_of
loop-i-init c =
    let none : Option Span = None in
    let e = c.clear.ensures ∙ ap (λ (n : ℕ). replicate n none) c.requires.count in
    record {
      count = ap length c.clear.ensures ∙ length-replicate (length c.args.spans.now) None;
      between = subst (SpansBetween (negsuc 478) (pos 161)) (sym c.clear.ensures) (nones_between (negsuc 478) (pos 161) (length c.args.spans.now));
      value = ap (λ (ss : List (Option Span)). walk (λ (i : ℕ) ss (row : LpRow). with_row_terms c.args.decisions c.args.reaches.now c.args.exponents.now ss row.terms) 0 ss c.args.rows.now) (sym e);
    }
