-- The words that say which refusal of a problem came.
use Rattle.std.specs.Prelude.{ℕ, pos, List, ◌++◌, codes}
use Rattle.std.specs.Fmt.{signed_decimal}
use Rattle.problem.specs.declared.refusal.RefusalKind.{RefusalKind}
use Rattle.problem.specs.declared.refusal.RefusalKind.TheVariants as kinds
use Rattle.problem.specs.declared.refusal.Part.{Part}
use Rattle.problem.specs.declared.refusal.Part.TheVariants as part_kinds
use Rattle.problem.specs.declared.refusal.Place.{Place}
use Rattle.problem.specs.declared.refusal.Refusal.{Refusal}

unfoldable pub kind_text : RefusalKind → List ℕ
kind_text kinds.NotJson = codes "NotJson"
kind_text kinds.Version = codes "Version"
kind_text kinds.Shape = codes "Shape"
kind_text kinds.NotWhole = codes "NotWhole"
kind_text kinds.Unsupported = codes "Unsupported"
kind_text kinds.Duplicate = codes "Duplicate"
kind_text kinds.UnknownName = codes "UnknownName"
kind_text kinds.Weight = codes "Weight"
kind_text kinds.Unbounded = codes "Unbounded"
kind_text kinds.EmptyBox = codes "EmptyBox"
kind_text kinds.States = codes "States"
kind_text kinds.Scenario = codes "Scenario"
kind_text kinds.TooLarge = codes "TooLarge"
kind_text kinds.Cycle = codes "Cycle"
kind_text kinds.Unreachable = codes "Unreachable"
kind_text kinds.BoxGap = codes "BoxGap"
kind_text kinds.Range = codes "Range"

unfoldable pub part_text : Part → List ℕ
part_text part_kinds.Whole = codes "whole"
part_text part_kinds.Root = codes "root"
part_text part_kinds.Subproblem = codes "subproblem"
part_text part_kinds.Variable = codes "variable"
part_text part_kinds.State = codes "state"
part_text part_kinds.Random = codes "random"
part_text part_kinds.Objective = codes "objective"
part_text part_kinds.Constraint = codes "constraint"
part_text part_kinds.Node = codes "node"
part_text part_kinds.Realization = codes "realization"
part_text part_kinds.Support = codes "support"
part_text part_kinds.Successor = codes "successor"
part_text part_kinds.Scenario = codes "scenario"
part_text part_kinds.Step = codes "step"
part_text part_kinds.Alternative = codes "alternative"

abbrev pub refusal_word : ℕ → List ℕ
refusal_word n = codes " " ++ signed_decimal (pos n)

-- a place: its part and its three numbers
unfoldable pub place_text : Place → List ℕ
place_text p = part_text p.part ++ refusal_word p.a ++ refusal_word p.b ++ refusal_word p.c

unfoldable pub problem_refused : List ℕ
problem_refused = codes "problem refused: "

unfoldable pub refused_text : RefusalKind → List ℕ
refused_text kind = problem_refused ++ kind_text kind ++ codes " at "

unfoldable pub refusal_text : Refusal → List ℕ
refusal_text r = refused_text r.kind ++ place_text r.place
