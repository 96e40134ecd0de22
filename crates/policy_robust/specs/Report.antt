-- The report of risk cuts.
use Rattle.std.specs.Prelude.{ℕ, ℤ, pos, List, ◌++◌, codes}
use Rattle.problem.specs.Validated.{Validated}
use Rattle.theory.specs.declared.cut.Cut.{Cut}
use Rattle.theory.specs.Bound.{bound}
use Rattle.theory.specs.View.{problem_of}
use Rattle.policy_report.specs.Lines.{numbered}
use Rattle.policy_report.specs.Report.{head_text, word, cut_words}

-- a risk cut of the node m at its place
abbrev pub risk_cut_line : ℕ → ℕ → Cut → List ℕ
risk_cut_line m k c = codes "plane" ++ word (pos m) ++ word (pos k) ++ cut_words c ++ codes "\n"

abbrev pub node_risk_cuts : ℕ → List Cut → List ℕ
node_risk_cuts m risk_cuts = numbered (risk_cut_line m) 0 risk_cuts

abbrev pub risk_cut_lines : List (List Cut) → List ℕ
risk_cut_lines lists = numbered node_risk_cuts 0 lists

abbrev pub worst_line : ℤ → List ℕ
worst_line b = codes "worst" ++ word b ++ codes "\n"

-- the head, a line for each risk cut, and the bound over the risk cuts
unfoldable pub robust_text : Validated → List (List Cut) → List ℕ
robust_text p risk_cuts = head_text p.parts ++ risk_cut_lines risk_cuts ++ worst_line (bound (problem_of p) risk_cuts)
