-- Stage problems are proper.
use Rattle.std.proofs.Common.{◌≡◌, ℕ, zero, suc, ◌+◌, ◌<◌, ◌≤◌, ◌^◌, ℤ, pos, ◌-ℤ◌, ◌≤ℤ◌, neg_ℤ, Bool, true, false, ◌==◌, if◌then◌else◌, nat_abs, List, [], ◌∷◌, ◌++◌, length, map, zip, get_or, All, Option, Some, None, IfSome, refl, ap, sym, subst, arith}
use Rattle.std.specs.Int.{int_min, int_max}
use Rattle.std.specs.List.{flat_map, range_with_len, list_all}
use Rattle.std.specs.Option.{option_map}
use Rattle.std.proofs.lemmas.Bool.Decides.{nat_tests}
use Rattle.std.proofs.lemmas.Grind.{common_steps}
use Rattle.std.proofs.lemmas.Int.{ints, clamps}
use Rattle.std.proofs.lemmas.List.{length-map, length-append}
use Rattle.std.proofs.lemmas.List.Elements.{All-append, All-map, All-nil}
use Rattle.std.proofs.lemmas.Slice.Zip.{length-zip}
use Rattle.base_num.specs.Sums.{sum_to, coefficient, placed}
use Rattle.base_num.proofs.Order.{le_refl, le_trans, le_add, le_scale}
use Rattle.base_num.proofs.Sums.{sum_le}
use Rattle.base_num.proofs.Tests.{and_first, and_second, all_at}
use Rattle.problem.specs.declared.parts.Decision.{Decision}
use Rattle.problem.specs.declared.parts.Row.{Row}
use Rattle.problem.specs.declared.parts.Node.{Node}
use Rattle.problem.specs.declared.parts.Subproblem.{Subproblem}
use Rattle.problem.specs.Formulas.{successor_total}
use Rattle.problem.specs.Limits.{decision_fits, sides_fit, term_fits, terms_fit, row_fits}
use Rattle.theory.specs.declared.cut.Cut.{Cut}
use Rattle.theory.specs.Pools.{pool, no_cut}
use Rattle.lp_program.specs.declared.fixed.Fx.{Fx}
use Rattle.lp_program.specs.declared.programs.Column.{Column}
use Rattle.lp_program.specs.declared.programs.LpRow.{LpRow}
use Rattle.lp_program.specs.Proper.{AreRising, IsProper}
use Rattle.plan_stage.specs.Stage.{whole_fixed, scaled, decision_column, at_low, at_high, least_value, greatest_value, most_from, future_column, future_columns, side_at_state, own_row, negated_term, cut_row, cut_rows, stage_program}
use Rattle.plan_stage.proofs.Terms.{term_facts}

-- boxes
abbrev pub HasBox : Column → Type 0
HasBox c = c.low.0 ≤ℤ c.high.0

ordered : (d : Decision) → decision_fits d ≡ true → d.low ≤ℤ d.high
ordered d e = grind (arith, ints, nat_tests, common_steps, e)

pub box-decisions : (q : ℕ) (ds : List Decision) → list_all decision_fits ds ≡ true → All HasBox (map (decision_column q) ds)
box-decisions q ds e = All-map HasBox (decision_column q) ds (λ k d h. le_scale (2 ^ 32) (get_or ds k d).low (get_or ds k d).high (ordered (get_or ds k d) (all_at decision_fits ds k d e h)))

least_at_most : (x y : ℤ) → int_min x y ≤ℤ int_max x y
least_at_most x y = omega (arith, ints, clamps)

value_at_most : (s : Subproblem) (c : Cut) → least_value s c ≤ℤ greatest_value s c
value_at_most s c =
    le_add c.alpha c.alpha (sum_to (length s.outs) (λ k. int_min (at_low s c k) (at_high s c k))) (sum_to (length s.outs) (λ k. int_max (at_low s c k) (at_high s c k))) (le_refl c.alpha)
    (sum_le (length s.outs) (λ k. int_min (at_low s c k) (at_high s c k)) (λ k. int_max (at_low s c k) (at_high s c k)) (λ k h. least_at_most (at_low s c k) (at_high s c k)))

greater : (x y : ℤ) → x ≤ℤ int_max x y
greater x y = omega (arith, ints, clamps)

most_at_least : (s : Subproblem) (best : ℤ) (cs : List Cut) → best ≤ℤ most_from s best cs
most_at_least s best [] = le_refl best
most_at_least s best (c ∷ cs) = le_trans best (int_max best (greatest_value s c)) (most_from s (int_max best (greatest_value s c)) cs) (greater best (greatest_value s c)) (most_at_least s (int_max best (greatest_value s c)) cs)

box-future : (s : Subproblem) (w : ℕ) (cs : List Cut) → HasBox (future_column s w cs)
box-future s w cs =
    let c : Cut = get_or cs 0 no_cut in
    le_scale 256 (least_value s c) (most_from s (greatest_value s c) cs) (le_trans (least_value s c) (greatest_value s c) (most_from s (greatest_value s c) cs) (value_at_most s c) (most_at_least s (greatest_value s c) cs))

pub box-futures : (s : Subproblem) (pools : List (List Cut)) (ms ws : List ℕ) → All HasBox (future_columns s pools ms ws)
box-futures s pools ms ws = All-map HasBox (λ (q : ℕ × ℕ). future_column s q.1 (pool pools q.0)) (zip ms ws) (λ k d h. box-future s (get_or (zip ms ws) k d).1 (pool pools (get_or (zip ms ws) k d).0))

-- sides
abbrev pub HasSides : LpRow → Type 0
HasSides r = IfSome r.low (λ (low : Fx). IfSome r.high (λ (high : Fx). low.0 ≤ℤ high.0))

sides_of : (f : ℤ → Fx) (low high : Option ℤ) → ((a b : ℤ) → a ≤ℤ b → (f a).0 ≤ℤ (f b).0) → sides_fit low high ≡ true → IfSome (option_map f low) (λ (l : Fx). IfSome (option_map f high) (λ (h : Fx). l.0 ≤ℤ h.0))
sides_of f None high more e = tt
sides_of f (Some low) None more e = tt
sides_of f (Some low) (Some high) more e = more low high (grind (arith, ints, nat_tests, common_steps, e))

less_more : (x y b g : ℤ) → x ≤ℤ y → (x -ℤ b -ℤ g) ≤ℤ (y -ℤ b -ℤ g)
less_more x y b g h = omega (arith, ints, h)

pub sides-own : (states : ℕ) (s : Subproblem) (values state : List ℤ) (rows : List Row) → list_all (row_fits states s) rows ≡ true → All HasSides (map (own_row values state) rows)
sides-own states s values state rows e = All-map HasSides (own_row values state) rows
    (λ k d h. let row : Row = get_or rows k d in
    let fits : row_fits states s row ≡ true = all_at (row_fits states s) rows k d e h in
    sides_of (side_at_state values state row) row.low row.high (λ a b i. less_more _ _ _ _ (le_scale (2 ^ 32) a b i)) (grind (arith, common_steps, fits)))

pub sides-cuts : (s : Subproblem) (pools : List (List Cut)) (column : ℕ) (ms : List ℕ) → All HasSides (cut_rows s pools column ms)
sides-cuts s pools column [] = All-nil HasSides
sides-cuts s pools column (m ∷ ms) = All-append HasSides (map (cut_row s column) (pool pools m)) (cut_rows s pools (suc column) ms) (All-map HasSides (cut_row s column) (pool pools m) (λ k d h. tt)) (sides-cuts s pools (suc column) ms)

-- terms
rising_less : (l m count : ℕ) (ts : List (ℕ × Fx)) → l ≤ m → AreRising m count ts → AreRising l count ts
rising_less l m count [] h r = tt
rising_less l m count (t ∷ ts) h r = (omega (arith, r.0), r.1, r.2)

rising-own : (count least columns : ℕ) (ts : List (ℕ × ℤ)) → count ≤ columns → terms_fit count least ts ≡ true → AreRising least columns (map (λ (t : ℕ × ℤ). (t.0, whole_fixed t.1)) ts)
rising-own count least columns [] h e = tt
rising-own count least columns (t ∷ ts) h e =
    let first = term_facts count least t (and_first (term_fits count least t) (terms_fit count (t.0 + 1) ts) e) in
    let tail = rising-own count (t.0 + 1) columns ts h (and_second (term_fits count least t) (terms_fit count (t.0 + 1) ts) e) in
    (first.above, omega (arith, first.below), rising_less (suc t.0) (t.0 + 1) columns (map (λ (t : ℕ × ℤ). (t.0, whole_fixed t.1)) ts) (omega arith) tail)

rising_once : (b : Bool) (a count : ℕ) (x : Fx) (tail : List (ℕ × Fx)) → a < count → AreRising (a + 1) count tail → AreRising a count ((if b then [] else (a, x) ∷ []) ++ tail)
rising_once true a count x tail h r = rising_less a (a + 1) count tail (omega arith) r
rising_once false a count x tail h r = (omega arith, h, rising_less (suc a) (a + 1) count tail (omega arith) r)

append_three : {A : Type 0} (xs ys zs : List A) → (xs ++ ys) ++ zs ≡ xs ++ (ys ++ zs)
append_three [] ys zs = refl
append_three (x ∷ xs) ys zs = ap (λ l. x ∷ l) (append_three xs ys zs)

rising-slopes : (f : ℕ → ℤ) (a n column count : ℕ) (x : Fx) → a + n ≤ column → column < count → AreRising a count (flat_map (λ j. negated_term j (f j)) (range_with_len a n) ++ (column, x) ∷ [])
rising-slopes f a zero column count x h k = (omega arith, k, tt)
rising-slopes f a (suc n) column count x h k =
    subst (λ (ts : List (ℕ × Fx)). AreRising a count ts) (sym (append_three (negated_term a (f a)) (flat_map (λ j. negated_term j (f j)) (range_with_len (a + 1) n)) ((column, x) ∷ [])))
    (rising_once (nat_abs (f a) == 0) a count (scaled (neg_ℤ (f a))) (flat_map (λ j. negated_term j (f j)) (range_with_len (a + 1) n) ++ (column, x) ∷ []) (omega arith) (rising-slopes f (a + 1) n column count x (omega arith) k))

abbrev pub HasTerms : ℕ → LpRow → Type 0
HasTerms count r = AreRising 0 count r.terms

pub terms-own : (states columns : ℕ) (s : Subproblem) (values state : List ℤ) (rows : List Row) → length s.decisions ≤ columns → list_all (row_fits states s) rows ≡ true → All (HasTerms columns) (map (own_row values state) rows)
terms-own states columns s values state rows few e = All-map (HasTerms columns) (own_row values state) rows
    (λ k d h. let row : Row = get_or rows k d in
    let fits : row_fits states s row ≡ true = all_at (row_fits states s) rows k d e h in
    rising-own (length s.decisions) 0 columns row.decisions few (grind (arith, common_steps, fits)))

pub terms-cuts : (s : Subproblem) (pools : List (List Cut)) (column columns : ℕ) (ms : List ℕ) → length s.decisions ≤ column → column + length ms ≤ columns → All (HasTerms columns) (cut_rows s pools column ms)
terms-cuts s pools column columns [] h k = All-nil (HasTerms columns)
terms-cuts s pools column columns (m ∷ ms) h k =
    All-append (HasTerms columns) (map (cut_row s column) (pool pools m)) (cut_rows s pools (suc column) ms)
    (All-map (HasTerms columns) (cut_row s column) (pool pools m) (λ i d l. rising-slopes (coefficient (placed s.outs (get_or (pool pools m) i d).beta)) 0 (length s.decisions) column columns (whole_fixed (pos 1)) (omega arith) (omega arith)))
    (terms-cuts s pools (suc column) columns ms (omega arith) (omega arith))

-- all of a stage problem
module _ (states : ℕ) (n : Node) (s : Subproblem) (decisions : list_all decision_fits s.decisions ≡ true) (rows : list_all (row_fits states s) s.rows ≡ true) where
  count-columns : (pools : List (List Cut)) → length n.successor_weights ≡ length n.successors → length (map (decision_column (successor_total n.stop n.successor_weights)) s.decisions ++ future_columns s pools n.successors n.successor_weights) ≡ length s.decisions + length n.successors
  count-columns pools e =
      omega (arith, length-append (map (decision_column (successor_total n.stop n.successor_weights)) s.decisions) (future_columns s pools n.successors n.successor_weights), length-map s.decisions (decision_column (successor_total n.stop n.successor_weights)), length-map (zip n.successors n.successor_weights) (λ (q : ℕ × ℕ). future_column s q.1 (pool pools q.0)), length-zip n.successors n.successor_weights, e)

  pub proper-stage_program : (pools : List (List Cut)) (values state : List ℤ) → length n.successor_weights ≡ length n.successors → IsProper (stage_program pools n s values state)
  unfolding stage_program
  proper-stage_program pools values state e =
      let count = count-columns pools e in
      let columns : ℕ = length (map (decision_column (successor_total n.stop n.successor_weights)) s.decisions ++ future_columns s pools n.successors n.successor_weights) in
      record {
        boxes = All-append HasBox (map (decision_column (successor_total n.stop n.successor_weights)) s.decisions) (future_columns s pools n.successors n.successor_weights) (box-decisions (successor_total n.stop n.successor_weights) s.decisions decisions) (box-futures s pools n.successors n.successor_weights);
        sides = All-append HasSides (map (own_row values state) s.rows) (cut_rows s pools (length s.decisions) n.successors) (sides-own states s values state s.rows rows) (sides-cuts s pools (length s.decisions) n.successors);
        terms = All-append (HasTerms columns) (map (own_row values state) s.rows) (cut_rows s pools (length s.decisions) n.successors) (terms-own states columns s values state s.rows (omega (arith, count)) rows) (terms-cuts s pools (length s.decisions) columns n.successors (omega arith) (omega (arith, count)));
        decisions = omega (arith, count);
        own = omega (arith, length-append (map (own_row values state) s.rows) (cut_rows s pools (length s.decisions) n.successors), length-map s.rows (own_row values state));
      }
