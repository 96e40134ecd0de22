-- Attempts go by what turns leave.
use Rattle.std.proofs.Common.{◌≡◌, Bool, true, false, Option, Some, None, IfSome, if◌then◌else◌, refl, ap, sym, ◌∙◌}
use Rattle.lp_program.specs.declared.programs.Program.{Program}
use Rattle.lp_program.specs.declared.programs.Answer.{Answer}
use Rattle.lp_table.specs.declared.table.WarmTable.{WarmTable}
use Rattle.lp_pivot.specs.Clean.{clean_of}
use Rattle.lp_pivot.specs.Standings.{rebuilt_of}
use Rattle.lp_scale.specs.Walks.{GivesWalked}
use Rattle.lp_scale.specs.Fitting.{Fits}
use Rattle.lp_solve.specs.Fitting.{IsHeld}
use Rattle.lp_solve.specs.Turns.{Went}
use Rattle.lp_solve.specs.Going.{restored_of}
use Rattle.lp_solve.specs.Steps.{EndsTurns}
use Rattle.lp_solve.specs.Chains.{replaced_by, replaced_attempt, tried, unless_good, warm_attempt, table_left, readied_by, readied}

-- the basis of a table in a clean one depends on its program and its basis alone
pub held_restored : (old new : WarmTable) → IsHeld old new → restored_of old ≡ restored_of new
unfolding restored_of rebuilt_of clean_of
held_restored old new h = sym (ap restored_of h)

pub replaced_on : (before : Option Answer) (w : Went) (a : Option Answer) (t : WarmTable) → EndsTurns a w t → replaced_attempt before w ≡ replaced_by before t a
replaced_on before w None t h = ap (replaced_by before w.table) h.0
replaced_on before w (Some a) t h = ap (replaced_attempt before) h

pub warm_on : (lp : Program) (w : Went) (a : Option Answer) (t : WarmTable) → EndsTurns a w t → warm_attempt lp w ≡ unless_good lp a t
warm_on lp w None t h = ap (λ (o : Option Answer). unless_good lp o w.table) h.0 ∙ ap (tried lp None) (held_restored w.table t h.1)
warm_on lp w (Some a) t h = ap (warm_attempt lp) h

pub readied_on : (t : WarmTable) (w : Went) (a : Option Answer) (u : WarmTable) → EndsTurns a w u → readied t w ≡ readied_by t a u
readied_on t w None u h = ap (λ (o : Option Answer). readied_by t o w.table) h.0
readied_on t w (Some a) u h = ap (readied t) h

pub left_fits : (lp : Program) (wide answer : Option Answer) (t : Option WarmTable) → IfSome t (λ u. Fits u lp) → IfSome (table_left wide answer t) (λ u. Fits u lp)
left_fits lp (Some b) answer t h = tt
left_fits lp None (Some a) t h = h
left_fits lp None None t h = tt

-- a table that is made, and else none
pub made_is : (made : Bool) (o : Option WarmTable) (t : WarmTable) → GivesWalked made o t → (if made then Some t else None) ≡ o
made_is true o t h = sym h
made_is false o t h = sym h

pub made_fits : (lp : Program) (made : Bool) (t : WarmTable) → (made ≡ true → Fits t lp) → IfSome (if made then Some t else None) (λ u. Fits u lp)
made_fits lp true t h = h refl
made_fits lp false t h = tt
