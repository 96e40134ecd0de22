-- The parts of a table that stay where it changes.
use Rattle.std.specs.Prelude.{◌≡◌, ℤ, List}
use Rattle.lp_table.specs.declared.table.Basis.{Basis}
use Rattle.lp_wide_table.specs.declared.table.WideTable.{WideTable}

-- the table with other values of its columns
abbrev pub wide_with_values : WideTable → List ℤ → WideTable
wide_with_values t x = record t { values = x }

-- the table with another basis, its reduced costs and its lines
abbrev pub wide_with_basis : WideTable → Basis → List ℤ → List (List ℤ) → WideTable
wide_with_basis t basis reduced lines = record t { basis = basis; reduced = reduced; lines = lines }

-- the program of a table, with another basis and other numbers that follow from it
abbrev pub wide_with_work : WideTable → Basis → List ℤ → List (List ℤ) → List ℤ → WideTable
wide_with_work t basis reduced lines values = record t { basis = basis; reduced = reduced; lines = lines; values = values }

-- the program of the table is as it was
abbrev pub WideKeepsProgram : WideTable → WideTable → Type 0
WideKeepsProgram old new = new ≡ wide_with_work old new.basis new.reduced new.lines new.values
