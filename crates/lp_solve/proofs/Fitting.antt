-- A program that fits a table fits it on.
use Rattle.std.proofs.Common.{◌≡◌, ◌<◌, ◌≤◌, ◌+◌, ℕ, length, All, arith, ap, sym, subst, ◌∙◌}
use Rattle.std.proofs.lemmas.List.Elements.{All-weaker}
use Rattle.lp_program.specs.declared.programs.Program.{Program}
use Rattle.lp_table.specs.declared.table.CutRows.{CutRows}
use Rattle.lp_table.specs.declared.table.WarmTable.{WarmTable}
use Rattle.lp_table.specs.Shape.{IsTable}
use Rattle.lp_table.specs.SameParts.{KeepsProgram}
use Rattle.lp_scale.specs.Scaling.{AreSmall}
use Rattle.lp_scale.specs.Fitting.{AreNarrow, Fits}

-- a table of the same shape, with the same scales and the rows of the same cuts
pub same_fits : (old new : WarmTable) (lp : Program) → Fits old lp → IsTable new → new.scales ≡ old.scales → length new.costs ≡ length old.costs → length new.rows ≡ length old.rows → new.cuts ≡ old.cuts → Fits new lp
same_fits old new lp f s e c r k = record {
  table = s;
  small = subst (AreSmall 1000) (sym e) f.small;
  columns = f.columns ∙ sym c;
  rows = r ∙ f.rows ∙ ap (λ (x : CutRows). lp.own + length x.rows) (sym k);
  cuts = subst (λ (x : CutRows). All (λ (i : ℕ). (lp.own ≤ i) × (i < length lp.rows)) x.rows) (sym k) f.cuts;
  narrow = subst (λ (x : CutRows). AreNarrow lp x.waiting) (sym k) f.narrow;
}

pub still_fits : (old new : WarmTable) (lp : Program) → Fits old lp → IsTable new → KeepsProgram old new → Fits new lp
still_fits old new lp f s w = same_fits old new lp f s (ap (λ (t : WarmTable). t.scales) w) (ap (λ (t : WarmTable). length t.costs) w) (ap (λ (t : WarmTable). length t.rows) w) (ap (λ (t : WarmTable). t.cuts) w)

-- each cut in the table is a row of the program
pub cuts_inside : (t : WarmTable) (lp : Program) → Fits t lp → All (λ (i : ℕ). i < length lp.rows) t.cuts.rows
cuts_inside t lp f = All-weaker (λ (i : ℕ). (lp.own ≤ i) × (i < length lp.rows)) (λ (i : ℕ). i < length lp.rows) (λ i h. h.1) t.cuts.rows f.cuts

-- there is a row for each own row
pub own_inside : (t : WarmTable) (lp : Program) → Fits t lp → lp.own ≤ length t.rows
own_inside t lp f = omega (arith, f.rows)
