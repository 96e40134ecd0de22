-- Tables whose lists are as long as they have to be, and whose numbers of variables and places are there.
use Rattle.std.specs.Prelude.{◌≡◌, ℕ, ◌+◌, ◌<◌, ◌≤◌, length, All, IfSome}
use Rattle.lp_program.specs.declared.programs.Program.{Program}
use Rattle.lp_table.specs.Shape.{AreTermsRising}
use Rattle.lp_scale.specs.Scaling.{AreSmall}
use Rattle.lp_wide_table.specs.declared.table.WideTable.{WideTable}

-- the number of variables: columns and slacks
abbrev pub wide_variables : WideTable → ℕ
wide_variables t = length t.costs + length t.rows

pub record IsWideTable (t : WideTable) : Type 0 where
  pub few : length t.costs ≤ 1199
  pub small : AreSmall 1000 t.scales
  pub row_scales : length t.scales.rows ≡ length t.rows
  pub column_scales : length t.scales.columns ≡ length t.costs
  pub lows : length t.bounds.lows ≡ wide_variables t
  pub ups : length t.bounds.ups ≡ wide_variables t
  pub has_low : length t.bounds.has_low ≡ wide_variables t
  pub has_up : length t.bounds.has_up ≡ wide_variables t
  pub nonbasic : length t.basis.nonbasic ≡ length t.costs
  pub places : length t.basis.places ≡ wide_variables t
  pub high : length t.basis.high ≡ length t.costs
  pub reduced : length t.reduced ≡ length t.costs
  pub lines : length t.lines ≡ length t.costs
  pub values : length t.values ≡ length t.costs
  pub numbers : All (λ v. v < wide_variables t) t.basis.nonbasic
  pub inside : All (λ p. IfSome p (λ j. j < length t.costs)) t.basis.places
  pub terms : All (AreTermsRising 0 (length t.costs)) t.rows

-- a table that has a column for each column of the program, and a row for each row
pub record WideFits (t : WideTable) (lp : Program) : Type 0 where
  pub table : IsWideTable t
  pub columns : length lp.columns ≡ length t.costs
  pub rows : length lp.rows ≡ length t.rows
