-- Turns on a table with the sides of a program.
use Rattle.std.proofs.Common.{◌≡◌, pos, true, false, length, replicate, take, Option, None, Result, IfOk, refl, ap, sym, subst, ◌∙◌}
use Rattle.std.proofs.lemmas.List.{length-replicate}
use Rattle.lp_program.specs.declared.programs.Program.{Program}
use Rattle.lp_program.specs.declared.programs.Answer.{Answer}
use Rattle.lp_table.specs.declared.table.WarmTable.{WarmTable}
use Rattle.lp_table.specs.Shape.{IsTable}
use Rattle.lp_table.specs.SameParts.{KeepsProgram}
use Rattle.lp_table.proofs.Shapes.{scales_of, bounds_of, basis_of, same_shape}
use Rattle.lp_scale.specs.Appending.{sided, with_bounds}
use Rattle.lp_scale.specs.Fitting.{Fits}
use Rattle.lp_solve.specs.Turns.{Went, went}
use Rattle.lp_solve.specs.Going.{trusted, gone_on, by_sides, go_of, cleared}
use Rattle.lp_solve.specs.Steps.{EndsTurns}
use Rattle.lp_solve.proofs.Ending.{ends_none}
use Rattle.lp_solve.proofs.Fitting.{same_fits}

pub trusted_table : (t : WarmTable) → IsTable t → IsTable (trusted t)
trusted_table t s = same_shape t (trusted t) s (scales_of t s) (bounds_of t s) (basis_of t s) s.reduced s.lines s.values

pub cleared_table : (t : WarmTable) → IsTable t → IsTable (cleared t)
cleared_table t s = same_shape t (cleared t) s (scales_of t s) (bounds_of t s) (basis_of t s) s.reduced (length-replicate (length t.costs) (replicate (length t.costs) (pos 0))) s.values

-- other bounds change neither the columns nor the rows
pub prepared_fits : (old new : WarmTable) (lp : Program) → Fits old lp → IsTable new → new ≡ with_bounds (sided (trusted old) (take lp.own lp.rows)).1 (trusted old) → Fits new lp
prepared_fits old new lp f s e = same_fits old new lp f s (ap (λ (t : WarmTable). t.scales) e) (ap (λ (t : WarmTable). length t.costs) e) (ap (λ (t : WarmTable). length t.rows) e) (ap (λ (t : WarmTable). t.cuts) e)

pub restored_fits : (old mid new : WarmTable) (lp : Program) → Fits old lp → mid ≡ cleared old → IsTable new → KeepsProgram mid new → Fits new lp
restored_fits old mid new lp f c s k =
    same_fits old new lp f s
    (ap (λ (t : WarmTable). t.scales) k ∙ ap (λ (t : WarmTable). t.scales) c)
    (ap (λ (t : WarmTable). length t.costs) k ∙ ap (λ (t : WarmTable). length t.costs) c)
    (ap (λ (t : WarmTable). length t.rows) k ∙ ap (λ (t : WarmTable). length t.rows) c)
    (ap (λ (t : WarmTable). t.cuts) k ∙ ap (λ (t : WarmTable). t.cuts) c)

-- where a side is out of range
pub go_fails : (lp : Program) (old new : WarmTable) → false ≡ (sided (trusted old) (take lp.own lp.rows)).0 → new ≡ with_bounds (sided (trusted old) (take lp.own lp.rows)).1 (trusted old) → EndsTurns None (go_of lp old) new
unfolding go_of
go_fails lp old new e p = ends_none (go_of lp old) new new (ap (by_sides lp (with_bounds (sided (trusted old) (take lp.own lp.rows)).1 (trusted old))) (sym e) ∙ ap (went None) (sym p)) refl

-- else turns
pub go_turns : (lp : Program) (old new : WarmTable) → true ≡ (sided (trusted old) (take lp.own lp.rows)).0 → new ≡ with_bounds (sided (trusted old) (take lp.own lp.rows)).1 (trusted old) → gone_on lp new ≡ go_of lp old
unfolding go_of
go_turns lp old new e p = ap (gone_on lp) p ∙ ap (by_sides lp (with_bounds (sided (trusted old) (take lp.own lp.rows)).1 (trusted old))) e

pub ends_on : {E : Type 0} (r : Result (Option Answer) E) (v w : Went) (t : WarmTable) → v ≡ w → IfOk r (λ a. EndsTurns a v t) → IfOk r (λ a. EndsTurns a w t)
ends_on r v w t e h = subst (λ (x : Went). IfOk r (λ a. EndsTurns a x t)) e h
