-- The parts of a table that stay where it changes.
use Rattle.std.specs.Prelude.{◌≡◌, ℤ, Bool, List}
use Rattle.lp_table.specs.declared.table.Basis.{Basis}
use Rattle.lp_table.specs.declared.table.WarmTable.{WarmTable}

-- the table with other values of its columns
abbrev pub with_values : WarmTable → List ℤ → WarmTable
with_values t x = record t { values = x }

-- the table with another basis, its reduced costs and its lines
abbrev pub with_basis : WarmTable → Basis → List ℤ → List (List ℤ) → WarmTable
with_basis t basis reduced lines = record t { basis = basis; reduced = reduced; lines = lines }

-- the program of a table, with another basis and other numbers that follow from it
abbrev pub with_work : WarmTable → Basis → List ℤ → List (List ℤ) → List ℤ → Bool → WarmTable
with_work t basis reduced lines values weak = record t { basis = basis; reduced = reduced; lines = lines; values = values; weak = weak }

-- the program of the table is as it was
abbrev pub KeepsProgram : WarmTable → WarmTable → Type 0
KeepsProgram old new = new ≡ with_work old new.basis new.reduced new.lines new.values new.weak
