-- The place that enters has a large cell.
use Rattle.std.proofs.Common.{◌≡◌, ℕ, zero, suc, ◌≤◌, ◌^◌, ℤ, pos, nat_abs, Bool, true, false, not, ◌&&◌, List, [], ◌∷◌, ◌++◌, length, get_or, Option, Some, None, IfSome, int_lt, nat_le, if◌then◌else◌, arith, refl, subst}
use Rattle.std.proofs.lemmas.Bool.Decides.{nat_tests}
use Rattle.base_num.specs.Sums.{entry}
use Rattle.lp_table.specs.declared.table.WarmTable.{WarmTable}
use Rattle.lp_price.specs.declared.entering.Rank.{Rank}
use Rattle.lp_price.specs.declared.entering.Turn.{Turn}
use Rattle.lp_price.specs.declared.entering.Turn.TheVariants as turns
use Rattle.lp_price.specs.Enter.{Entry, is_variable_fixed, variable_at_place, is_cell_towards, is_place_eligible, rank_at, is_behind, is_first, first_rank, first_step, first_from, next_of, left_after, turn_by, turn_with, turn_behind, walk_by, walk_of, enter_of}

abbrev IsLarge : List ℤ → ℕ → Type 0
IsLarge line j = 2 ^ 24 ≤ nat_abs (entry line j)

abbrev EntersLarge : List ℤ → Option (ℕ × ℤ) → Type 0
EntersLarge line o = IfSome o (λ (e : ℕ × ℤ). IsLarge line e.0)

abbrev IsLargeRank : List ℤ → Option Rank → Type 0
IsLargeRank line o = IfSome o (λ a. IsLarge line a.place)

abbrev IsLargeTurn : List ℤ → Turn → Type 0
IsLargeTurn line turns.Ends = Unit {0}
IsLargeTurn line (turns.Enters j) = IsLarge line j
IsLargeTurn line (turns.Passes a left) = Unit {0}

if_given : {A : Type 0} (P : A → Type 0) (b : Bool) (x y : A) → (b ≡ true → P x) → P y → P (if b then x else y)
if_given P true x y h g = h refl
if_given P false x y h g = g

first_of_and : (a b c : Bool) → (a && b && c) ≡ true → a ≡ true
first_of_and true b c h = refl
first_of_and false b c h = h

eligible_large : (t : WarmTable) (line : List ℤ) (above : Bool) (j : ℕ) → is_place_eligible t line above j ≡ true → IsLarge line j
unfolding is_place_eligible
eligible_large t line above j h = grind (arith, nat_tests, first_of_and (nat_le (2 ^ 24) (nat_abs (entry line j))) (is_cell_towards above (get_or t.basis.high j false) (entry line j)) (not (is_variable_fixed t (variable_at_place t j))) h)

step_large : (t : WarmTable) (line : List ℤ) (above : Bool) (last best : Option Rank) (j : ℕ) → IsLargeRank line best → IsLargeRank line (first_step t line above last best j)
unfolding first_step rank_at
step_large t line above last best j h =
    if_given (IsLargeRank line) (is_place_eligible t line above j) (first_rank last best (rank_at t line j)) best (λ e. if_given (IsLargeRank line) (is_behind last (rank_at t line j) && is_first best (rank_at t line j)) (Some (rank_at t line j)) best (λ f. eligible_large t line above j e) h) h

from_large : (t : WarmTable) (line : List ℤ) (above : Bool) (last : Option Rank) (j : ℕ) (best : Option Rank) (xs : List ℤ) → IsLargeRank line best → IsLargeRank line (first_from t line above last j best xs)
from_large t line above last j best [] h = h
from_large t line above last j best (x ∷ xs) h = from_large t line above last (suc j) (first_step t line above last best j) xs (step_large t line above last best j h)

turn_by_large : (line : List ℤ) (a : Rank) (left : Option ℤ) → IsLarge line a.place → IsLargeTurn line (turn_by a left)
turn_by_large line a None h = h
turn_by_large line a (Some left) h = if_given (IsLargeTurn line) (int_lt (pos (2 ^ 12)) left) (turns.Passes a left) (turns.Enters a.place) (λ e. tt) h

turn_with_large : (t : WarmTable) (line : List ℤ) (left : ℤ) (o : Option Rank) → IsLargeRank line o → IsLargeTurn line (turn_with t left o)
turn_with_large t line left None h = tt
turn_with_large t line left (Some a) h = turn_by_large line a (left_after t left a) h

turn_large : (t : WarmTable) (line : List ℤ) (above : Bool) (last : Option Rank) (left : ℤ) → IsLargeTurn line (turn_behind t line above last left)
unfolding turn_behind
turn_large t line above last left = turn_with_large t line left (next_of t line above last) (from_large t line above last 0 None line tt)

by_large : (line : List ℤ) (next : Rank → ℤ → List ℕ → Entry) (left : ℤ) (flips : List ℕ) (turn : Turn) → IsLargeTurn line turn → ((a : Rank) (tail : ℤ) (passed : List ℕ) → EntersLarge line (next a tail passed).0) → EntersLarge line (walk_by next left flips turn).0
by_large line next left flips turns.Ends h n = tt
by_large line next left flips (turns.Enters j) h n = h
by_large line next left flips (turns.Passes a tail) h n = n a tail (flips ++ a.place ∷ [])

walk_large : (t : WarmTable) (line : List ℤ) (above : Bool) (count : ℕ) (last : Option Rank) (left : ℤ) (flips : List ℕ) → EntersLarge line (walk_of t line above count last left flips).0
walk_large t line above zero last left flips = tt
walk_large t line above (suc count) last left flips = by_large line (λ a tail passed. walk_of t line above count (Some a) tail passed) left flips (turn_behind t line above last left) (turn_large t line above last left) (λ a tail passed. walk_large t line above count (Some a) tail passed)

-- the cell of the place that enters is at least 2^24
pub enters_large : (t : WarmTable) (line : List ℤ) (above : Bool) (violation : ℤ) (e : ℕ × ℤ) → (enter_of t line above violation).0 ≡ Some e → 2 ^ 24 ≤ nat_abs (entry line e.0)
enters_large t line above violation e h = subst (EntersLarge line) h (walk_large t line above (length line) None violation [])
