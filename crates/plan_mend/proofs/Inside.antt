-- A search leaves decisions in their boxes.
use Rattle.std.proofs.Common.{◌≡◌, ◌==◌, ℕ, zero, suc, ◌≤◌, Bool, true, false, ℤ, ◌+ℤ◌, List, [], ◌∷◌, length, set, nat_lt, if◌then◌else◌, refl, sym, ap, subst, arith}
use Rattle.std.proofs.lemmas.Bool.Decides.{nat_tests}
use Rattle.base_num.specs.Sums.{entry}
use Rattle.theory.specs.Problem.{S, Node}
use Rattle.theory.specs.Tree.{InBox}
use Rattle.plan_mend.specs.declared.search.Move.{Move}
use Rattle.plan_mend.specs.declared.search.Search.{Search}
use Rattle.plan_mend.specs.Moves.{Frame, frame_of, is_harmed, is_met, may_move, moved_decision, moves_of}
use Rattle.plan_mend.specs.Ordered.{ordered_moves}
use Rattle.plan_mend.specs.Fixing.{FixOutcome, Fixer, no_fixer, and_then, or_else, begun, begun_where_allowed, ended, harmed_rows_fixed, attempt_move, tried_moves, at_row, fixed, all_fixed}
use Rattle.plan_mend.specs.Mending.{fresh_search, searched, all_met, mended_of}
use Rattle.plan_mend.proofs.Allowed.{allowed, moved_inside}

set_past : (u : List ℤ) (j : ℕ) (v : ℤ) → length u ≤ j → set u j v ≡ u
set_past [] j v h = refl
set_past (x ∷ xs) zero v h = absurd (omega arith)
set_past (x ∷ xs) (suc j) v h = ap (λ (ys : List ℤ). x ∷ ys) (set_past xs j v (omega arith))

module _ (f : Frame) where
  abbrev Inside : Search → Type 0
  Inside s = InBox S f.lows f.highs s.numbers

  abbrev Stays : FixOutcome → Type 0
  Stays o = Inside o.1

  stays_moved : (s : Search) (j : ℕ) (v : ℤ) → Inside s → may_move f s j v ≡ true → InBox S f.lows f.highs (moved_decision s.numbers j v)
  stays_moved s j v h e = by (nat_lt j (length f.lows)) refl
    where
      by : (b : Bool) → nat_lt j (length f.lows) ≡ b → InBox S f.lows f.highs (moved_decision s.numbers j v)
      by true l = moved_inside f.lows f.highs s.numbers j v h (grind (arith, nat_tests)) (allowed f s j v e)
      by false l = subst (InBox S f.lows f.highs) (sym (set_past s.numbers j (entry s.numbers j +ℤ v) (grind (arith, nat_tests, h.count)))) h

  stays_begun : (s : Search) (m : Move) → Inside s → Stays (begun_where_allowed f s m)
  stays_begun s m h = by (may_move f s m.decision m.amount) refl
    where
      by : (b : Bool) → may_move f s m.decision m.amount ≡ b → Stays (if b then (true, begun s m) else (false, s))
      by true e = stays_moved s m.decision m.amount h e
      by false e = h

  stays_then : (o : FixOutcome) (go : Search → FixOutcome) → Stays o → ((s : Search) → Inside s → Stays (go s)) → Stays (and_then o go)
  stays_then (true, s) go h k = k s h
  stays_then (false, s) go h k = h

  stays_else : (o : FixOutcome) (go : Search → FixOutcome) → Stays o → ((s : Search) → Inside s → Stays (go s)) → Stays (or_else o go)
  stays_else (true, s) go h k = h
  stays_else (false, s) go h k = k s h

  stays_ended : (before : List ℤ) (m : Move) (o : FixOutcome) → InBox S f.lows f.highs before → Stays o → Stays (ended before m o)
  stays_ended before m (true, s) b h = h
  stays_ended before m (false, s) b h = b

  stays_if : (b : Bool) (one other : FixOutcome) → Stays one → Stays other → Stays (if b then one else other)
  stays_if true one other h k = h
  stays_if false one other h k = k

  -- by a fixer that leaves decisions in their boxes
  module _ (fix : Fixer) (keeps : (q : ℕ) (s : Search) → Inside s → Stays (fix q s)) where
    stays_kept : (i : ℕ) (before : List ℤ) (q count : ℕ) (s : Search) → Inside s → Stays (harmed_rows_fixed f fix i before q count s)
    stays_kept i before q zero s h = h
    stays_kept i before q (suc count) s h =
        stays_then (if is_harmed f i before s.numbers q then fix q s else (true, s)) (harmed_rows_fixed f fix i before (suc q) count)
        (stays_if (is_harmed f i before s.numbers q) (fix q s) (true, s) (keeps q s h) h) (λ t k. stays_kept i before (suc q) count t k)

    stays_attempt : (i : ℕ) (m : Move) (s : Search) → Inside s → Stays (attempt_move f fix i m s)
    stays_attempt i m s h =
        stays_then (begun_where_allowed f s m) (λ (t : Search). ended s.numbers m (harmed_rows_fixed f fix i s.numbers 0 (length f.rows) t)) (stays_begun s m h)
        (λ t k. stays_ended s.numbers m (harmed_rows_fixed f fix i s.numbers 0 (length f.rows) t) h (stays_kept i s.numbers 0 (length f.rows) t k))

    stays_tried : (i : ℕ) (ms : List Move) (s : Search) → Inside s → Stays (tried_moves f fix i ms s)
    stays_tried i [] s h = h
    stays_tried i (m ∷ ms) s h =
        stays_if (s.tries == 0) (false, s) (or_else (attempt_move f fix i m s) (tried_moves f fix i ms)) h
        (stays_else (attempt_move f fix i m s) (tried_moves f fix i ms) (stays_attempt i m s h) (λ t k. stays_tried i ms t k))

    stays_row : (deep : Bool) (i : ℕ) (s : Search) → Inside s → Stays (at_row f deep fix i s)
    stays_row deep i s h = stays_if (is_met f s.numbers i) (true, s) (tried_moves f fix i (ordered_moves [] (moves_of f deep s i)) s) h (stays_tried i (ordered_moves [] (moves_of f deep s i)) s h)

  stays_fixed : (depth i : ℕ) (s : Search) → Inside s → Stays (fixed f depth i s)
  stays_fixed zero i s h = stays_row no_fixer (λ q t k. k) false i s h
  stays_fixed (suc depth) i s h = stays_row (fixed f depth) (λ q t k. stays_fixed depth q t k) true i s h

  stays_all : (q count : ℕ) (s : Search) → Inside s → Stays (all_fixed f q count s)
  stays_all q zero s h = h
  stays_all q (suc count) s h = stays_then (fixed f 3 q s) (all_fixed f (suc q) count) (stays_fixed 3 q s h) (λ t k. stays_all (suc q) count t k)

pub mended_inside : (n : Node) (values state u : List ℤ) → InBox S n.decision_low n.decision_high u → InBox S n.decision_low n.decision_high (mended_of n values state u)
unfolding mended_of
mended_inside n values state u h = by (all_met n values state (searched n values state u))
  where
    by : (b : Bool) → InBox S n.decision_low n.decision_high (if b then searched n values state u else u)
    by true = stays_all (frame_of n values state) 0 (length (frame_of n values state).rows) (fresh_search u) h
    by false = h
