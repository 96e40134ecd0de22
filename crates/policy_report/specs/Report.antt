-- The texts of reports. Each line ends with one newline, and words are separated by one space.
use Rattle.std.specs.Prelude.{ℕ, suc, ℤ, pos, List, ◌++◌, length, codes}
use Rattle.std.specs.Fmt.{signed_decimal}
use Rattle.std.specs.List.{flat_map}
use Rattle.problem.specs.declared.parts.State.{State}
use Rattle.problem.specs.declared.parts.Node.{Node}
use Rattle.problem.specs.declared.parts.ProblemParts.{ProblemParts}
use Rattle.problem.specs.Validated.{Validated}
use Rattle.base_num.specs.Texts.{json_string}
use Rattle.theory.specs.declared.cut.Cut.{Cut}
use Rattle.theory.specs.Bound.{bound}
use Rattle.theory.specs.View.{problem_of}
use Rattle.policy_report.specs.Lines.{numbered}

abbrev pub number_text : ℕ → List ℕ
number_text n = signed_decimal (pos n)

abbrev pub state_line : ℕ → State → List ℕ
state_line i s = codes "state " ++ number_text i ++ codes " " ++ json_string s.name ++ codes "\n"

abbrev pub node_line : ℕ → Node → List ℕ
node_line i n = codes "node " ++ number_text i ++ codes " " ++ json_string n.name ++ codes "\n"

-- the version of reports, and the scale of cuts and bounds
unfoldable pub title : List ℕ
title = codes "hydroplan 1\nscale 16777216\n"

-- the head of every report
unfoldable pub head_text : ProblemParts → List ℕ
head_text parts = title ++ numbered state_line 0 parts.states ++ numbered node_line 0 parts.nodes

-- a space and the number
abbrev pub word : ℤ → List ℕ
word z = codes " " ++ signed_decimal z

abbrev pub cut_words : Cut → List ℕ
cut_words c = word c.alpha ++ flat_map word c.beta

-- a cut of the node m at its place
abbrev pub cut_line : ℕ → ℕ → Cut → List ℕ
cut_line m k c = codes "cut" ++ word (pos m) ++ word (pos k) ++ cut_words c ++ codes "\n"

abbrev pub node_cuts : ℕ → List Cut → List ℕ
node_cuts m cuts = numbered (cut_line m) 0 cuts

abbrev pub cut_lines : List (List Cut) → List ℕ
cut_lines lists = numbered node_cuts 0 lists

abbrev pub bound_line : ℤ → List ℕ
bound_line b = codes "bound" ++ word b ++ codes "\n"

-- the bound after the iteration with this number
abbrev pub iteration_line : ℕ → ℤ → List ℕ
iteration_line k b = codes "iteration" ++ word (pos k) ++ codes " bound" ++ word b ++ codes "\n"

-- the line of the iteration that comes after so many others; iterations count from 1 on
abbrev pub iteration_after : ℕ → ℤ → List ℕ
iteration_after i b = iteration_line (suc i) b

abbrev pub iteration_lines : List ℤ → List ℕ
iteration_lines bounds = numbered iteration_after 0 bounds

-- how many iterations there are, and how many of their solves gave an answer that was of no use
abbrev pub total_line : ℕ → ℕ → List ℕ
total_line count unanswered = codes "total iterations" ++ word (pos count) ++ codes " unsettled" ++ word (pos unanswered) ++ codes "\n"

-- the bytes behind the journal's last commit byte
abbrev pub rest_line : ℕ → List ℕ
rest_line n = codes "rest" ++ word (pos n) ++ codes "\n"

-- the bound after each iteration, and their total
unfoldable pub iterations_text : List ℤ → ℕ → List ℕ
iterations_text bounds unanswered = iteration_lines bounds ++ total_line (length bounds) unanswered

-- the report of the base cuts
unfoldable pub base_text : Validated → List (List Cut) → List ℕ
base_text p pools = head_text p.parts ++ cut_lines pools ++ bound_line (bound (problem_of p) pools)

-- the report of a journal that was checked: its cuts over the base cuts, its bounds, and the bytes left behind its last commit byte
unfoldable pub check_text : Validated → List (List Cut) → List ℤ → ℕ → ℕ → List ℕ
check_text p pools bounds unanswered tail = head_text p.parts ++ cut_lines pools ++ iterations_text bounds unanswered ++ bound_line (bound (problem_of p) pools) ++ rest_line tail

-- the report of training: the bound after each iteration, and the bound of the cuts
unfoldable pub train_text : Validated → List (List Cut) → List ℤ → ℕ → List ℕ
train_text p pools bounds unanswered = head_text p.parts ++ iterations_text bounds unanswered ++ bound_line (bound (problem_of p) pools)
