-- Steps of loops.
use Rattle.std.proofs.Common.{◌≡◌, ℕ, ℤ, get_or, suc, ◌+◌, ◌-◌, ◌<◌, ◌≤◌, Bool, true, false, List, Option, Some, None, arith, refl, ap, sym, subst, ◌∙◌}
use Rattle.std.specs.Option.{option_map, option_and_then, is_some}
use Rattle.base_num.proofs.Each.{some_same}
use Rattle.lp_table.specs.declared.table.WarmTable.{WarmTable}
use Rattle.lp_table.specs.Shape.{variables}
use Rattle.lp_table.specs.Updates.{GivesNew}
use Rattle.lp_pivot.specs.declared.moves.Swap.{Swap}
use Rattle.lp_solve.specs.declared.violations.Violation.{Violation}
use Rattle.lp_program.specs.declared.programs.Program.{Program}
use Rattle.lp_program.specs.declared.programs.Answer.{Answer}
use Rattle.lp_solve.specs.Violations.{Rests, PassesOverVariables, violation_of, table_value_at, by_variable_place, joined_violations, violations_step, violations_from, next_violation}
use Rattle.lp_solve.specs.Turns.{Inspection, passes, mends, shows, stops, inspection_of, Survey, rests, takes, finds, fails, by_inspection, by_next, survey_from, WarmTurn, pivots, settles, ends, Went, went, after_turn, turn_on_table, turns_on_table}
use Rattle.lp_solve.specs.Steps.{Halts, EndsTurns}

pub violations_on : (t : WarmTable) (vs next : List Violation) (v count : ℕ) (whole : Bool) → v < count → whole ≡ true → GivesNew whole (violations_step t vs v) next → violations_from t vs v (count - v) ≡ violations_from t next (v + 1) (count - (v + 1))
violations_on t vs next v count whole h w e =
    let left : count - v ≡ suc (count - (v + 1)) = omega arith in
    let up : suc v ≡ v + 1 = omega arith in
    let is : violations_step t vs v ≡ Some next = subst (λ (b : Bool). GivesNew b (violations_step t vs v) next) w e in
    ap (violations_from t vs v) left
    ∙ ap (option_and_then (λ (n : List Violation). violations_from t n (suc v) (count - (v + 1)))) is
    ∙ ap (λ (k : ℕ). violations_from t next k (count - (v + 1))) up

-- one variable, and more behind it of which nothing is to be found
pub violations_past : (t : WarmTable) (vs next : List Violation) (v w : ℕ) (whole : Bool) → v < variables t → whole ≡ true → GivesNew whole (violations_step t vs v) next → PassesOverVariables t (v + 1) w → violations_from t vs v (variables t - v) ≡ violations_from t next w (variables t - w)
violations_past t vs next v w whole h e g p = violations_on t vs next v (variables t) whole h e g ∙ p next

-- a variable whose value is out of range
pub violations_lost : (t : WarmTable) (vs next : List Violation) (v : ℕ) (whole : Bool) → v < variables t → whole ≡ false → GivesNew whole (violations_step t vs v) next → violations_from t vs v (variables t - v) ≡ None
violations_lost t vs next v whole h w e =
    let left : variables t - v ≡ suc (variables t - (v + 1)) = omega arith in
    let is : violations_step t vs v ≡ None = subst (λ (b : Bool). GivesNew b (violations_step t vs v) next) w e in
    ap (violations_from t vs v) left ∙ ap (option_and_then (λ (n : List Violation). violations_from t n (suc v) (variables t - (v + 1)))) is

-- no variable is left
pub violations_end : (t : WarmTable) (vs : List Violation) (v : ℕ) → variables t ≤ v → violations_from t vs v (variables t - v) ≡ Some vs
violations_end t vs v h = let none : variables t - v ≡ 0 = omega arith in ap (violations_from t vs v) none

-- one variable more of which nothing is to be found
pub passes_on : (t : WarmTable) (from v : ℕ) → v < variables t → Rests t v → PassesOverVariables t from v → PassesOverVariables t from (v + 1)
passes_on t from v h r p vs = p vs ∙ violations_on t vs vs v (variables t) true h refl (r vs)

-- a variable with a place
pub placed_step : (t : WarmTable) (v j : ℕ) → get_or t.basis.places v None ≡ Some j → Rests t v
unfolding violations_step
placed_step t v j e vs = ap (by_variable_place t vs v) e

-- a value that keeps both bounds
joined_none : (t : WarmTable) (vs : List Violation) (v : ℕ) (x : Option ℤ) → option_map (violation_of t v) x ≡ Some None → option_map (λ (z : ℤ). joined_violations vs (violation_of t v z)) x ≡ Some vs
joined_none t vs v None k = absurd (cc)
joined_none t vs v (Some x) k = let none : violation_of t v x ≡ None = some_same k in ap (λ (o : Option Violation). Some (joined_violations vs o)) none

-- a basic variable whose value keeps both bounds
pub kept_step : (t : WarmTable) (v : ℕ) → get_or t.basis.places v None ≡ None → option_map (violation_of t v) (table_value_at t v) ≡ Some None → Rests t v
unfolding violations_step
kept_step t v e k vs = ap (by_variable_place t vs v) e ∙ joined_none t vs v (table_value_at t v) k

module _ (lp : Program) (t : WarmTable) (vs : List Violation) (whole : Survey) (limit i : ℕ) (last : Option Violation) where
  -- the violation that is looked at next, by what it comes to
  surveyed : (v : Violation) (g : Inspection) → i < limit → Some v ≡ next_violation last vs → inspection_of lp t v ≡ g → whole ≡ survey_from lp t vs (limit - i) last → whole ≡ by_inspection (survey_from lp t vs (limit - (i + 1)) (Some v)) g
  surveyed v g h e k w =
      let left : limit - i ≡ suc (limit - (i + 1)) = omega arith in
      w ∙ ap (λ (n : ℕ). survey_from lp t vs n last) left ∙ ap (by_next (λ (u : Violation). by_inspection (survey_from lp t vs (limit - (i + 1)) (Some u)) (inspection_of lp t u)) last) (sym e) ∙ ap (by_inspection (survey_from lp t vs (limit - (i + 1)) (Some v))) k

  pub survey_passes : (v : Violation) → i < limit → Some v ≡ next_violation last vs → inspection_of lp t v ≡ passes → whole ≡ survey_from lp t vs (limit - i) last → whole ≡ survey_from lp t vs (limit - (i + 1)) (Some v)
  survey_passes v h e k w = surveyed v passes h e k w

  pub survey_takes : (v : Violation) (swap : Swap) (line : List ℤ) (flips : List ℕ) → i < limit → Some v ≡ next_violation last vs → inspection_of lp t v ≡ mends swap line flips → whole ≡ survey_from lp t vs (limit - i) last → whole ≡ takes swap line flips
  survey_takes v swap line flips h n k w = surveyed v (mends swap line flips) h n k w

  pub survey_finds : (v : Violation) (a : Answer) → i < limit → Some v ≡ next_violation last vs → inspection_of lp t v ≡ shows a → whole ≡ survey_from lp t vs (limit - i) last → whole ≡ finds a
  survey_finds v a h e k w = surveyed v (shows a) h e k w

  pub survey_fails : (v : Violation) → i < limit → Some v ≡ next_violation last vs → inspection_of lp t v ≡ stops → whole ≡ survey_from lp t vs (limit - i) last → whole ≡ fails
  survey_fails v h e k w = surveyed v stops h e k w

  pub survey_rests : i < limit → None ≡ next_violation last vs → whole ≡ survey_from lp t vs (limit - i) last → whole ≡ rests (is_some last)
  survey_rests h e w =
      let left : limit - i ≡ suc (limit - (i + 1)) = omega arith in
      w ∙ ap (λ (n : ℕ). survey_from lp t vs n last) left ∙ ap (by_next (λ (u : Violation). by_inspection (survey_from lp t vs (limit - (i + 1)) (Some u)) (inspection_of lp t u)) last) (sym e)

  pub survey_over : limit ≤ i → whole ≡ survey_from lp t vs (limit - i) last → whole ≡ rests (is_some last)
  survey_over h w = let none : limit - i ≡ 0 = omega arith in w ∙ ap (λ (n : ℕ). survey_from lp t vs n last) none

-- one turn of several
pub turn_on : (lp : Program) (whole : Went) (limit i : ℕ) (fresh : Bool) (t : WarmTable) (turn : WarmTurn) → i < limit → turn_on_table lp fresh t ≡ turn → whole ≡ turns_on_table lp (limit - i) fresh t → whole ≡ after_turn (turns_on_table lp (limit - (i + 1))) turn
turn_on lp whole limit i fresh t turn h e w =
    let left : limit - i ≡ suc (limit - (i + 1)) = omega arith in
    w ∙ ap (λ (n : ℕ). turns_on_table lp n fresh t) left ∙ ap (after_turn (turns_on_table lp (limit - (i + 1)))) e

-- all turns are used up
pub turns_over : (lp : Program) (whole : Went) (limit i : ℕ) (fresh : Bool) (t : WarmTable) → limit ≤ i → whole ≡ turns_on_table lp (limit - i) fresh t → whole ≡ went None t
turns_over lp whole limit i fresh t h w = let none : limit - i ≡ 0 = omega arith in w ∙ ap (λ (n : ℕ). turns_on_table lp n fresh t) none

-- a turn that halts among several ends them
pub turn_halts : (next : Bool → WarmTable → Went) (turn : WarmTurn) (u : WarmTable) → Halts turn u → EndsTurns None (after_turn next turn) u
turn_halts next (pivots t) u h = absurd h
turn_halts next (settles t) u h = absurd h
turn_halts next (ends None t) u h = (refl, h)
turn_halts next (ends (Some a) t) u h = absurd h
