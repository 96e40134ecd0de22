-- Fixing a row by moves: each move is kept only where all rows that it harms can be fixed too.
use Rattle.std.specs.Prelude.{ℕ, zero, suc, ◌-◌, ℤ, Bool, true, false, ◌==◌, List, [], ◌∷◌, length, set, if◌then◌else◌}
use Rattle.plan_mend.specs.declared.search.Move.{Move}
use Rattle.plan_mend.specs.declared.search.Search.{Search}
use Rattle.plan_mend.specs.Moves.{Frame, is_met, moved_decision, may_move, is_harmed, moves_of}
use Rattle.plan_mend.specs.Ordered.{ordered_moves}

-- whether all went well, and the search afterwards
abbrev pub FixOutcome : Type 0
FixOutcome = Bool × Search

-- fixes the row of a number
abbrev pub Fixer : Type 0
Fixer = ℕ → Search → FixOutcome

abbrev pub no_fixer : Fixer
no_fixer q s = (false, s)

abbrev pub and_then : FixOutcome → (Search → FixOutcome) → FixOutcome
and_then (true, s) go = go s
and_then (false, s) go = (false, s)

abbrev pub or_else : FixOutcome → (Search → FixOutcome) → FixOutcome
or_else (true, s) go = (true, s)
or_else (false, s) go = go s

-- a try: the decision is moved and held until the rows that this harms are fixed; where one cannot be, all is as before
abbrev pub begun : Search → Move → Search
begun s m = record { numbers = moved_decision s.numbers m.decision m.amount; held = set s.held m.decision true; tries = s.tries - 1 }

abbrev pub begun_where_allowed : Frame → Search → Move → FixOutcome
begun_where_allowed f s m = if may_move f s m.decision m.amount then (true, begun s m) else (false, s)

abbrev pub ended : List ℤ → Move → FixOutcome → FixOutcome
ended before m (true, s) = (true, record { numbers = s.numbers; held = set s.held m.decision false; tries = s.tries })
ended before m (false, s) = (false, record { numbers = before; held = set s.held m.decision false; tries = s.tries })

-- so many rows from q on, each fixed where it is harmed when its turn comes
abbrev pub harmed_rows_fixed : Frame → Fixer → ℕ → List ℤ → ℕ → ℕ → Search → FixOutcome
harmed_rows_fixed f fix i before q zero s = (true, s)
harmed_rows_fixed f fix i before q (suc k) s = and_then (if is_harmed f i before s.numbers q then fix q s else (true, s)) (harmed_rows_fixed f fix i before (suc q) k)

abbrev pub attempt_move : Frame → Fixer → ℕ → Move → Search → FixOutcome
attempt_move f fix i m s = and_then (begun_where_allowed f s m) (λ t. ended s.numbers m (harmed_rows_fixed f fix i s.numbers 0 (length f.rows) t))

-- the first of these moves that is kept, while tries are left
abbrev pub tried_moves : Frame → Fixer → ℕ → List Move → Search → FixOutcome
tried_moves f fix i [] s = (false, s)
tried_moves f fix i (m ∷ ms) s = if s.tries == 0 then (false, s) else or_else (attempt_move f fix i m s) (tried_moves f fix i ms)

abbrev pub at_row : Frame → Bool → Fixer → Fixer
at_row f deep fix i s = if is_met f s.numbers i then (true, s) else tried_moves f fix i (ordered_moves [] (moves_of f deep s i)) s

-- Fix: rows that a move harms are fixed one level below, and on the last level moves harm none
abbrev pub fixed : Frame → ℕ → Fixer
fixed f zero i s = at_row f false no_fixer i s
fixed f (suc depth) i s = at_row f true (fixed f depth) i s

-- by what harmed rows are fixed on a level, and whether they can be
abbrev pub fixer_below : Frame → ℕ → Fixer
fixer_below f zero = no_fixer
fixer_below f (suc depth) = fixed f depth

abbrev pub is_deep : ℕ → Bool
is_deep zero = false
is_deep (suc depth) = true

-- so many rows from q on, each in turn
abbrev pub all_fixed : Frame → ℕ → ℕ → Search → FixOutcome
all_fixed f q zero s = (true, s)
all_fixed f q (suc k) s = and_then (fixed f 3 q s) (all_fixed f (suc q) k)
