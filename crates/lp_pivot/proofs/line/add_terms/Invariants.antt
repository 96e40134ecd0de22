use Rattle.std.proofs.Common.{◌≡◌, length, drop}
use Rattle.lp_pivot.specs.Line.{added_terms}
use Rattle.lp_pivot.proofs.line.add_terms.Given as goal

abbrev pub invariant-loop-k : goal.invariant-loop-k
invariant-loop-k l = record {
  width : length l.line ≡ length l.fn.line;
  added : added_terms l.places l.lines l.fn.line l.terms ≡ added_terms l.places l.lines l.line (drop l.k l.terms);
}
