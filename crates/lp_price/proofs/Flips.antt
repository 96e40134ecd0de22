-- Fewer places flip than a line has.
use Rattle.std.proofs.Common.{◌≡◌, ℕ, zero, suc, ◌+◌, ◌<◌, ◌≤◌, ℤ, Bool, List, [], ◌∷◌, ◌++◌, length, length-append, Option, Some, None, IfSome, arith, subst}
use Rattle.lp_table.specs.declared.table.WarmTable.{WarmTable}
use Rattle.lp_price.specs.declared.entering.Rank.{Rank}
use Rattle.lp_price.specs.declared.entering.Turn.{Turn}
use Rattle.lp_price.specs.declared.entering.Turn.TheVariants as turns
use Rattle.lp_price.specs.Enter.{Entry, turn_behind, walk_by, walk_of, enter_of}

-- where a place enters, so many places flip at most
abbrev IsFew : ℕ → Entry → Type 0
IsFew most entry = IfSome entry.0 (λ e. length entry.1 ≤ most)

by_few : (most : ℕ) (next : Rank → ℤ → List ℕ → Entry) (left : ℤ) (flips : List ℕ) (turn : Turn) → length flips ≤ most → ((a : Rank) (tail : ℤ) (passed : List ℕ) → length passed ≤ length flips + 1 → IsFew most (next a tail passed)) → IsFew most (walk_by next left flips turn)
by_few most next left flips turns.Ends l h = tt
by_few most next left flips (turns.Enters j) l h = l
by_few most next left flips (turns.Passes a tail) l h = h a tail (flips ++ a.place ∷ []) (omega (arith, length-append flips (a.place ∷ [])))

walk_few : (t : WarmTable) (line : List ℤ) (above : Bool) (most count : ℕ) (last : Option Rank) (left : ℤ) (flips : List ℕ) → length flips + count ≤ most + 1 → IsFew most (walk_of t line above count last left flips)
walk_few t line above most zero last left flips l = tt
walk_few t line above most (suc count) last left flips l =
    by_few most (λ a tail passed. walk_of t line above count (Some a) tail passed) left flips (turn_behind t line above last left) (omega (arith, l)) (λ a tail passed h. walk_few t line above most count (Some a) tail passed (omega (arith, l, h)))

some_less : (entry : Entry) (count : ℕ) → IsFew count entry → IfSome entry.0 (λ e. length entry.1 < suc count)
some_less (None, flips) count h = tt
some_less (Some e, flips) count h = omega (arith, h)

few_within : (t : WarmTable) (line : List ℤ) (above : Bool) (violation : ℤ) (count : ℕ) → IfSome (walk_of t line above count None violation []).0 (λ e. length (walk_of t line above count None violation []).1 < count)
few_within t line above violation zero = tt
few_within t line above violation (suc count) = some_less (walk_of t line above (suc count) None violation []) count (walk_few t line above count (suc count) None violation [] (omega arith))

-- of the places of a line the one that enters does not flip
pub enter_few : (t : WarmTable) (line : List ℤ) (above : Bool) (violation : ℤ) (e : ℕ × ℤ) → (enter_of t line above violation).0 ≡ Some e → length (enter_of t line above violation).1 < length line
enter_few t line above violation e h = subst (λ (o : Option (ℕ × ℤ)). IfSome o (λ x. length (enter_of t line above violation).1 < length line)) h (few_within t line above violation (length line))
