-- Tables that a program fits.
use Rattle.std.specs.Prelude.{◌≡◌, ◌+◌, ◌≤◌, ◌<◌, Bool, true, List, [], map, drop, length, All}
use Rattle.lp_program.specs.declared.programs.LpRow.{LpRow}
use Rattle.lp_program.specs.declared.programs.Program.{Program}
use Rattle.lp_table.specs.declared.table.WarmTable.{WarmTable}
use Rattle.lp_table.specs.Shape.{IsTable}
use Rattle.lp_scale.specs.Exponents.{reach_of}
use Rattle.lp_scale.specs.Scaling.{AreSmall}
use Rattle.lp_scale.specs.Waiting.{is_narrow, waits}

-- a table of the own part of a program, and of its columns
pub record Suits (t : WarmTable) (lp : Program) : Type 0 where
  pub table : IsTable t
  pub small : AreSmall 512 t.scales
  pub columns : length lp.columns ≡ length t.costs
  pub rows : lp.own ≡ length t.rows
  pub cuts : t.cuts.rows ≡ []

-- the cuts in these columns can be compared
abbrev pub AreNarrow : Program → List Bool → Type 0
AreNarrow lp ws = All (λ (r : LpRow). waits ws r ≡ true → is_narrow (map reach_of lp.columns) r ≡ true) (drop lp.own lp.rows)

-- a table that has a column for each column of the program, a row for each own row, and rows of some of its cuts
pub record Fits (t : WarmTable) (lp : Program) : Type 0 where
  pub table : IsTable t
  pub small : AreSmall 1000 t.scales
  pub columns : length lp.columns ≡ length t.costs
  pub rows : length t.rows ≡ lp.own + length t.cuts.rows
  pub cuts : All (λ i. (lp.own ≤ i) × (i < length lp.rows)) t.cuts.rows
  pub narrow : AreNarrow lp t.cuts.waiting
