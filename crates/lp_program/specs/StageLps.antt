-- Programs of stages: the rows that are listed and the cuts that stand side by side, as one.
use Rattle.std.specs.Prelude.{◌≡◌, ℕ, ◌≤◌, List, ◌++◌, length, get_or, set, Option, None, [], IfSome}
use Rattle.lp_program.specs.declared.fixed.Fx.{Fx}
use Rattle.lp_program.specs.declared.packed.PackedView.{PackedView}
use Rattle.lp_program.specs.declared.programs.LpRow.{LpRow}
use Rattle.lp_program.specs.declared.programs.Program.{Program}
use Rattle.lp_program.specs.declared.stage_lp.Cuts.{Cuts}
use Rattle.lp_program.specs.declared.stage_lp.Cuts.TheVariants as cuts
use Rattle.lp_program.specs.Packed.{rows_of, unlisted, IsView}

-- with rows behind the others
abbrev pub with_rows : Program → List LpRow → Program
with_rows p rows = record p { rows = p.rows ++ rows }

abbrev pub whole_program : Program → Option PackedView → Program
whole_program listed packed = with_rows listed (unlisted packed)

-- own rows are counted, and so are all rows; where cuts stand side by side none is listed
pub record IsCounted (p : Program) (view : Option PackedView) (n : ℕ) : Type 0 where
  pub own : p.own ≤ length p.rows
  pub count : n ≡ length (p.rows ++ unlisted view)
  pub packed : IfSome view (λ v. (p.own ≡ length p.rows) × IsView v)

-- the cuts are these rows
abbrev pub AreCuts : Cuts → List LpRow → Type 0
AreCuts (cuts.Listed rows) all = rows.now ≡ all
AreCuts (cuts.Packed view) all = (rows_of view.now ≡ all) × IsView view.now

abbrev pub no_row : LpRow
no_row = record { low = None; high = None; terms = [] }

-- with other sides of row i
abbrev pub with_sides : ℕ → Option Fx → Option Fx → Program → Program
with_sides i low high p = record p { rows = set p.rows i (record (get_or p.rows i no_row) { low = low; high = high }) }
