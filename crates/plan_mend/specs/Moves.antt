-- Moves of single decisions that bring a row nearer to its sides.
use Rattle.std.specs.Prelude.{ℕ, zero, suc, ◌+◌, ◌-◌, ◌/◌, ℤ, pos, neg_ℤ, ◌+ℤ◌, ◌*ℤ◌, nat_abs, int_lt, int_le, Bool, true, not, ◌&&◌, ◌||◌, ◌==◌, List, [], ◌∷◌, ◌++◌, length, get_or, map, set, if◌then◌else◌}
use Rattle.std.specs.Ordering.{int_eq}
use Rattle.base_num.specs.Sums.{Term, entry}
use Rattle.problem.specs.declared.parts.Row.{Row}
use Rattle.theory.specs.Problem.{S, Node}
use Rattle.plan_forward.specs.Costing.{misses_of}
use Rattle.plan_mend.specs.declared.search.Move.{Move}
use Rattle.plan_mend.specs.declared.search.Search.{Search}

-- the frame of moves: the boxes and costs of the decisions, their terms in each row, and the misses of rows by decisions at scale S
pub record Frame : Type 0 where
  pub lows : List ℤ
  pub highs : List ℤ
  pub costs : List ℤ
  pub rows : List (List Term)
  pub miss : List ℤ → ℕ → ℤ

abbrev pub frame_of : Node → List ℤ → List ℤ → Frame
frame_of n values x = record {
  lows = n.decision_low;
  highs = n.decision_high;
  costs = n.costs;
  rows = map (λ (row : Row). row.decisions) n.rows;
  miss = λ u i. entry (misses_of n u x values) i;
}

abbrev pub is_met : Frame → List ℤ → ℕ → Bool
is_met f u i = int_eq (f.miss u i) (pos 0)

-- so many units, up or down, as they bring a left side with the factor a the way of d
abbrev pub directed : ℤ → ℤ → ℕ → ℤ
directed d a size =
    if int_lt d (pos 0) then (if int_lt a (pos 0) then pos size else neg_ℤ (pos size)) else (if int_lt a (pos 0) then neg_ℤ (pos size) else pos size)

-- how many units are the least that reach the side, and the most that do not go beyond it
abbrev pub reaching : ℤ → ℤ → ℕ
reaching d a = (nat_abs d + (nat_abs a - 1)) / nat_abs a

abbrev pub short_of : ℤ → ℤ → ℕ
short_of d a = nat_abs d / nat_abs a

-- a decision may move by v: it is not held, and its value then is in S times its box, which is no point
abbrev pub may_move : Frame → Search → ℕ → ℤ → Bool
may_move f s j v =
    not (get_or s.held j true) && (int_lt (entry f.lows j) (entry f.highs j) && (int_le (pos S *ℤ entry f.lows j) (entry s.numbers j +ℤ v) && int_le (entry s.numbers j +ℤ v) (pos S *ℤ entry f.highs j)))

abbrev pub moved_decision : List ℤ → ℕ → ℤ → List ℤ
moved_decision u j v = set u j (entry u j +ℤ v)

-- a row has to be met for the sake of the row i, and is not met afterwards
abbrev pub is_harmed : Frame → ℕ → List ℤ → List ℤ → ℕ → Bool
is_harmed f i before after q = ((q == i) || is_met f before q) && not (is_met f after q)

-- how many of so many rows, from q on
abbrev pub harm_from : Frame → ℕ → List ℤ → List ℤ → ℕ → ℕ → ℕ
harm_from f i before after q zero = 0
harm_from f i before after q (suc k) = (if is_harmed f i before after q then 1 else 0) + harm_from f i before after (suc q) k

abbrev pub move_of : Frame → Search → ℕ → ℕ → ℤ → Move
move_of f s i j v = record {
  decision = j;
  amount = v;
  harm = harm_from f i s.numbers (moved_decision s.numbers j v) 0 (length f.rows);
  cost = entry f.costs j *ℤ v;
}

-- no move, or one that counts: where no row below may be fixed, it harms none
abbrev pub counting : Bool → Move → List Move
counting deep m = if deep || (m.harm == 0) then m ∷ [] else []

abbrev pub moves_by : Frame → Bool → Search → ℕ → ℕ → ℤ → List Move
moves_by f deep s i j v = if may_move f s j v then counting deep (move_of f s i j v) else []

-- falling short of it is another move
abbrev pub is_other : ℕ → ℕ → Bool
is_other least most = not ((least == 0) || (least == most))

-- the moves of a term, where the row misses d: beyond, and short of it where that is another move
abbrev pub both_moves : Frame → Bool → Search → ℕ → ℤ → Term → List Move
both_moves f deep s i d t =
    moves_by f deep s i t.0 (directed d t.1 (reaching d t.1))
    ++ (if is_other (short_of d t.1) (reaching d t.1) then moves_by f deep s i t.0 (directed d t.1 (short_of d t.1)) else [])

abbrev pub moves_at : Frame → Bool → Search → ℕ → ℤ → Term → List Move
moves_at f deep s i d t = if int_eq t.1 (pos 0) then [] else both_moves f deep s i d t

abbrev pub moves_in : Frame → Bool → Search → ℕ → ℤ → List Term → List Move
moves_in f deep s i d [] = []
moves_in f deep s i d (t ∷ ts) = moves_at f deep s i d t ++ moves_in f deep s i d ts

abbrev pub moves_of : Frame → Bool → Search → ℕ → List Move
moves_of f deep s i = moves_in f deep s i (f.miss s.numbers i) (get_or f.rows i [])
