-- The problem of the part_kinds that were read, or the first refusal of its graph.
use Rattle.std.specs.Prelude.{◌≡◌, ℕ, ℤ, List, length, Option, Some, None, Result, Ok, Err}
use Rattle.base_graph.specs.Paths.{numbers, first_in_cycle, first_unreached}
use Rattle.base_graph.specs.Ranks.{ranks, by_rank, longest_from}
use Rattle.problem.specs.declared.parts.ProblemParts.{ProblemParts}
use Rattle.problem.specs.declared.refusal.Refusal.{Refusal}
use Rattle.problem.specs.declared.refusal.RefusalKind.{RefusalKind}
use Rattle.problem.specs.declared.refusal.RefusalKind.TheVariants as kinds
use Rattle.problem.specs.declared.refusal.Part.TheVariants as part_kinds
use Rattle.problem.specs.Validated.{Validated, graph_of}
use Rattle.problem.specs.declared.arranging.ArrangeFault.{ArrangeFault}
use Rattle.problem.specs.declared.arranging.ArrangeFault.TheVariants as faults
use Rattle.problem.specs.declared.side.Side.TheVariants.{Low, High}
use Rattle.problem.specs.Hull.{first_gap, sides}

-- a refusal at the node m and its state s
abbrev pub refused : {A : Type 0} → RefusalKind → ℕ → ℕ → Result A Refusal
refused kind m s = Err (record { kind = kind; place = record { part = part_kinds.Node; a = m; b = s; c = 0 } })

abbrev pub unless_unreached : ProblemParts → Option ℕ → Result (List ℕ × ℕ) Refusal
unless_unreached parts (Some m) = refused kinds.Unreachable m 0
unless_unreached parts None = Ok (by_rank (ranks (graph_of parts)), longest_from (ranks (graph_of parts)) parts.root)

abbrev pub unless_cycle : ProblemParts → Option ℕ → Result (List ℕ × ℕ) Refusal
unless_cycle parts (Some m) = refused kinds.Cycle m 0
unless_cycle parts None = unless_unreached parts (first_unreached (graph_of parts) parts.root)

-- the nodes by rank and the length of the longest path: no node may reach itself, and the root has to reach each node
unfoldable pub ordered : ProblemParts → Result (List ℕ × ℕ) Refusal
ordered parts = unless_cycle parts (first_in_cycle (graph_of parts))

abbrev pub unless_gap : ProblemParts → Option (ℕ × ℕ) → Result (List (List ℤ) × List (List ℤ)) Refusal
unless_gap parts (Some at) = refused kinds.BoxGap at.0 at.1
unless_gap parts None = Ok (sides Low parts, sides High parts)

-- the boxes: each given bound has to enclose the states that come in
unfoldable pub boxed : ProblemParts → Result (List (List ℤ) × List (List ℤ)) Refusal
boxed parts = unless_gap parts (first_gap parts (numbers (length parts.nodes)))

abbrev pub with_boxes : ProblemParts → List ℕ × ℕ → Result (List (List ℤ) × List (List ℤ)) Refusal → Result Validated Refusal
with_boxes parts o (Err e) = Err e
with_boxes parts o (Ok b) = Ok (record { parts = parts; order = o.0; longest = o.1; lo = b.0; hi = b.1 })

abbrev pub with_order : ProblemParts → Result (List ℕ × ℕ) Refusal → Result Validated Refusal
with_order parts (Err e) = Err e
with_order parts (Ok o) = with_boxes parts o (boxed parts)

-- the problem of the part_kinds, or the first refusal of their graph
unfoldable pub arranged : ProblemParts → Result Validated Refusal
arranged parts = with_order parts (ordered parts)

-- a function answers as the definition does, unless memory ran out
abbrev pub Arranges : {X Y : Type 0} → (X → Y) → Result X ArrangeFault → Result Y Refusal → Type 0
Arranges view (Ok p) answer = answer ≡ Ok (view p)
Arranges view (Err (faults.Cycle m)) answer = answer ≡ refused kinds.Cycle m 0
Arranges view (Err (faults.Unreachable m)) answer = answer ≡ refused kinds.Unreachable m 0
Arranges view (Err (faults.BoxGap m s)) answer = answer ≡ refused kinds.BoxGap m s
Arranges view (Err faults.Memory) answer = Unit {0}

-- the ranks of a graph, or the least node of a cycle
abbrev pub RankedTo : List (List ℕ) → Result (List ℕ) ArrangeFault → Type 0
RankedTo g (Ok rs) = (rs ≡ ranks g) × (first_in_cycle g ≡ None)
RankedTo g (Err (faults.Cycle m)) = first_in_cycle g ≡ Some m
RankedTo g (Err (faults.Unreachable m)) = ⊥
RankedTo g (Err (faults.BoxGap m s)) = ⊥
RankedTo g (Err faults.Memory) = Unit {0}
