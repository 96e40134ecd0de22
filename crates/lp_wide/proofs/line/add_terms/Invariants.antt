use Rattle.std.proofs.Common.{◌≡◌, length, drop}
use Rattle.lp_wide.specs.Line.{wide_added_terms}
use Rattle.lp_wide.proofs.line.add_terms.Given as goal

abbrev pub invariant-loop-k : goal.invariant-loop-k
invariant-loop-k l = record {
  width : length l.line ≡ length l.fn.line;
  added : wide_added_terms l.places l.lines l.fn.line l.terms ≡ wide_added_terms l.places l.lines l.line (drop l.k l.terms);
}
