-- The amounts of rows that are the same at all realizations: one of them.
use Rattle.std.proofs.Common.{◌≡◌, ◌<◌, ◌^◌, ℕ, ℤ, List, length, get_or, min, ap, sym, ◌∙◌}
use Rattle.problem.specs.declared.parts.Decision.{Decision}
use Rattle.problem.specs.declared.parts.Row.{Row}
use Rattle.cut_make.specs.SizeByTerms.{fixed_row, FixedRows}

pub fixed_at : (ds : List Decision) (low high : List ℤ) (rows : List Row) (amounts : List ℕ) (i : ℕ) (row : Row) → FixedRows ds low high rows amounts → i < length rows → row ≡ get_or rows i row → get_or amounts i 0 ≡ min (fixed_row ds low high row) (2 ^ 127)
fixed_at ds low high rows amounts i row fixed h is = fixed i row 0 h ∙ ap (λ (r : Row). min (fixed_row ds low high r) (2 ^ 127)) (sym is)
