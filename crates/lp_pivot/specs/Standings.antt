-- Where the columns of a basis stand that is rebuilt.
use Rattle.std.specs.Prelude.{ℕ, suc, ℤ, pos, Bool, not, ◌&&◌, ◌||◌, List, [], ◌∷◌, length, get_or, nat_lt, int_lt, Option, if◌then◌else◌}
use Rattle.std.specs.Option.{option_map}
use Rattle.base_num.specs.Sums.{entry}
use Rattle.lp_table.specs.declared.table.Basis.{Basis}
use Rattle.lp_table.specs.declared.table.WarmTable.{WarmTable}
use Rattle.lp_table.specs.SameParts.{with_basis}
use Rattle.lp_pivot.specs.Clean.{clean_of}
use Rattle.lp_pivot.specs.Tighten.{was_high, tightened}

-- f j x, f (j + 1) y, .. of the list x, y, ..
abbrev pub map_from : {A B : Type 0} → (ℕ → A → B) → ℕ → List A → List B
map_from f j [] = []
map_from f j (x ∷ xs) = f j x ∷ map_from f (suc j) xs

-- whether a variable stands at its upper bound: a column by the sign of its reduced cost d, and as it was where that is 0; a slack as it does
unfoldable pub standing : Basis → ℕ → ℕ → ℤ → Bool → Bool
standing b columns v d high = if nat_lt v columns then int_lt d (pos 0) || (not (int_lt (pos 0) d) && was_high b v) else high

-- the standing at place j
unfoldable pub standing_at : Basis → List ℕ → List ℤ → ℕ → Bool → Bool
standing_at b vs reduced j high = standing b (length vs) (get_or vs j 0) (entry reduced j) high

-- the table where each nonbasic column stands by its reduced cost
unfoldable pub stood_up : Basis → WarmTable → WarmTable
stood_up b t = with_basis t (record { nonbasic = t.basis.nonbasic; places = t.basis.places; high = map_from (standing_at b t.basis.nonbasic t.reduced) 0 t.basis.high }) t.reduced t.lines

-- the basis of a table in a clean one; none where a number is out of range
unfoldable pub rebuilt_of : WarmTable → Option WarmTable
rebuilt_of t = option_map (stood_up t.basis) (tightened t.basis (clean_of t) (length t.costs) (length t.rows))
