use Rattle.std.proofs.Common.{◌≡◌, ◌+◌, ◌*◌, ◌-◌, length, drop}
use Rattle.plan_mend.specs.Fixing.{fixer_below, harmed_rows_fixed, tried_moves}
use Rattle.plan_mend.specs.Stages.{frame_at, AreDecisionsInside}
use Rattle.plan_mend.proofs.fixing.+fixing.Given as goal

abbrev pub decreases-fix : goal.decreases-fix
decreases-fix l = 5 * l.depth + 4

abbrev pub decreases-try_moves : goal.decreases-try_moves
decreases-try_moves l = 5 * l.depth + 3

abbrev pub decreases-try_move : goal.decreases-try_move
decreases-try_move l = 5 * l.depth + 2

abbrev pub decreases-keep_rows : goal.decreases-keep_rows
decreases-keep_rows l = 5 * l.depth + 1

abbrev pub decreases-fix_below : goal.decreases-fix_below
decreases-fix_below l = 5 * l.depth

abbrev pub invariant-keep_rows-loop-other : goal.invariant-keep_rows-loop-other
invariant-keep_rows-loop-other l =
    let f = frame_at l.stage in
    (harmed_rows_fixed f (fixer_below f l.depth) l.row l.before l.other (length f.rows - l.other) l.search ≡ harmed_rows_fixed f (fixer_below f l.depth) l.row l.before 0 (length f.rows) l.initial.search) × AreDecisionsInside l.stage l.search.numbers

abbrev pub invariant-try_moves-loop-own : goal.invariant-try_moves-loop-own
invariant-try_moves-loop-own l =
    let f = frame_at l.stage in
    (tried_moves f (fixer_below f l.depth) l.row (drop l.own-index l.moves) l.search ≡ tried_moves f (fixer_below f l.depth) l.row l.moves l.initial.search) × AreDecisionsInside l.stage l.search.numbers
