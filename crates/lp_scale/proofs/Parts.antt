-- The first table is that of a program's own part.
use Rattle.std.proofs.Common.{◌≡◌, ℕ, ◌≤◌, List, ◌++◌, length, length-append, take, take_all, drop, map, Option, None, cond, nat_lt, arith, ap, ap₂, ◌∙◌}
use Rattle.std.specs.Option.{option_and_then}
use Rattle.std.proofs.lemmas.List.{take_at, length-take-le, length-drop, length-map}
use Rattle.lp_program.specs.declared.programs.Column.{Column}
use Rattle.lp_program.specs.declared.programs.LpRow.{LpRow}
use Rattle.lp_program.specs.declared.programs.Program.{Program}
use Rattle.lp_table.specs.declared.table.WarmTable.{WarmTable}
use Rattle.lp_scale.specs.Scaling.{columns_table}
use Rattle.lp_scale.specs.Appending.{appended}
use Rattle.lp_scale.specs.First.{first_of, own_part, idle}

abbrev by_parts : ℕ → List Column → List LpRow → Option WarmTable
by_parts n decisions rows = cond (nat_lt 1199 n) None (option_and_then (appended rows) (columns_table n decisions rows))

pub first_of_own_part : (lp : Program) → lp.decisions ≤ length lp.columns → lp.own ≤ length lp.rows → first_of (own_part lp) ≡ first_of lp
unfolding first_of
first_of_own_part lp d o =
    let front = take lp.decisions lp.columns in
    let back = map idle (drop lp.decisions lp.columns) in
    let wide : length front ≡ lp.decisions = length-take-le lp.decisions lp.columns d in
    let count : length (front ++ back) ≡ length lp.columns = omega (arith, length-append front back, wide, length-map (drop lp.decisions lp.columns) idle, length-drop lp.decisions lp.columns) in
    let rows : take lp.own (take lp.own lp.rows) ≡ take lp.own lp.rows = take_all lp.own (take lp.own lp.rows) (omega (arith, length-take-le lp.own lp.rows o)) in
    ap (λ (n : ℕ). by_parts n (take lp.decisions (front ++ back)) (take lp.own (take lp.own lp.rows))) count
    ∙ ap₂ (by_parts (length lp.columns)) (take_at front back lp.decisions wide) rows
