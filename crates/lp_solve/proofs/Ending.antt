-- How turns end, in place.
use Rattle.std.proofs.Common.{◌≡◌, Bool, true, false, None, Some, refl, ap, sym, subst, ◌∙◌}
use Rattle.lp_program.specs.declared.programs.Program.{Program}
use Rattle.lp_table.specs.declared.table.WarmTable.{WarmTable}
use Rattle.base_num.proofs.Each.{map_some}
use Rattle.lp_price.specs.Folds.{ReachesOrKeeps}
use Rattle.lp_price.specs.Finish.{reduced_costs_of, finished, finish_of}
use Rattle.lp_table.specs.Shape.{IsTable}
use Rattle.lp_table.specs.SameParts.{KeepsProgram, with_work}
use Rattle.lp_table.proofs.Shapes.{scales_of, bounds_of, basis_of, same_shape}
use Rattle.lp_scale.specs.Fitting.{Fits}
use Rattle.lp_solve.specs.Fitting.{IsHeld}
use Rattle.lp_solve.specs.Turns.{Went, went, WarmTurn, ends}
use Rattle.lp_solve.specs.Steps.{Halts, EndsTurns}
use Rattle.lp_solve.proofs.Fitting.{still_fits}

pub held_itself : (t : WarmTable) → IsHeld t t
held_itself t = refl

pub held_worked : (t u : WarmTable) → IsHeld t u → KeepsProgram t u
held_worked t u h = h ∙ sym (ap (λ (s : WarmTable). record { scales = t.scales; rows = t.rows; cuts = t.cuts; costs = t.costs; bounds = t.bounds; basis = s.basis; reduced = u.reduced; lines = u.lines; values = u.values; weak = u.weak }) h)

finish_held : (t u : WarmTable) → finish_of t ≡ Some u → IsHeld t u
unfolding finish_of
finish_held t u h = let p = map_some (finished t) (reduced_costs_of t) u h in subst (IsHeld t) p.2 refl

pub finished_held : (t u : WarmTable) (done : Bool) → ReachesOrKeeps done (finish_of t) t u → IsHeld t u
finished_held t u true h = finish_held t u h
finished_held t u false h = subst (IsHeld t) (sym h.1) refl

-- a turn that ends without an answer, on a table with the same program and the same basis
pub halts : (turn : WarmTurn) (t u : WarmTable) → turn ≡ ends None t → IsHeld t u → Halts turn u
halts turn t u e h = subst (λ (x : WarmTurn). Halts x u) (sym e) h

-- turns that come to nothing leave the basis
pub ends_none : (w : Went) (t u : WarmTable) → w ≡ went None t → IsHeld t u → EndsTurns None w u
ends_none w t u e h = (ap (λ (x : Went). x.answer) e, subst (λ (s : WarmTable). IsHeld s u) (sym (ap (λ (x : Went). x.table) e)) h)

pub ends_like : (w v : Went) (u : WarmTable) → w ≡ v → EndsTurns None v u → EndsTurns None w u
ends_like w v u e h = subst (λ (x : Went). EndsTurns None x u) (sym e) h

weak_table : (t : WarmTable) (weak : Bool) → IsTable t → IsTable (record t { weak = weak })
weak_table t weak s = same_shape t (record t { weak = weak }) s (scales_of t s) (bounds_of t s) (basis_of t s) s.reduced s.lines s.values

pub held_fits : (t u : WarmTable) (lp : Program) → Fits t lp → IsTable u → IsHeld t u → Fits u lp
held_fits t u lp f s h = still_fits t u lp f s (held_worked t u h)

-- whether an answer is to be trusted is no part of what is held
pub weak_held : (t u : WarmTable) (weak : Bool) → IsHeld t u → IsHeld t (record u { weak = weak })
weak_held t u weak h = ap (λ (s : WarmTable). with_work s s.basis s.reduced s.lines s.values weak) h

pub weak_fits : (t u : WarmTable) (lp : Program) (weak : Bool) → Fits t lp → IsTable u → IsHeld t u → Fits (record u { weak = weak }) lp
weak_fits t u lp weak f s h = held_fits t (record u { weak = weak }) lp f (weak_table u weak s) (weak_held t u weak h)
