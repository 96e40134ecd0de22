use Rattle.std.proofs.Common.{◌∙◌, ◌<◌, ℕ, ℤ, List, length, take, All, Some, ap, sym, subst}
use Rattle.std.specs.Option.{option_map}
use Rattle.lp_table.specs.declared.table.WarmTable.{WarmTable}
use Rattle.lp_pivot.proofs.Shifts.{shifts_inside, refined_by}
use Rattle.lp_pivot.proofs.points.refine.Goals as goal

pub write_shifts-requires-clause-count : goal.write_shifts-requires-clause-count
write_shifts-requires-clause-count c = c.requires.shifts ∙ sym (ap (λ (t : WarmTable). length t.costs) c.stand_columns.ensures.kept)

pub move_columns-requires-clause-inside : goal.move_columns-requires-clause-inside
move_columns-requires-clause-inside c =
    let whole = c.write_shifts.ensures.shifts ∙ ap (option_map (λ (k : ℕ). take k c.write_shifts.new.shifts)) c.in-Some.is in
    let front = c.split_at.ensures.front ∙ ap (take c.in-Some.count) c.as_slice.ensures in
    subst (λ (ps : List (ℕ × ℤ)). All (λ (p : ℕ × ℤ). p.0 < length c.stand_columns.new.table.lines) ps) (sym front) (shifts_inside c.stand_columns.new.table (take c.in-Some.count c.write_shifts.new.shifts) c.stand_columns.ensures.sized whole)

pub returns-in-Some-clause-refined : goal.returns-in-Some-clause-refined
returns-in-Some-clause-refined c =
    let whole = c.write_shifts.ensures.shifts ∙ ap (option_map (λ (k : ℕ). take k c.write_shifts.new.shifts)) c.in-Some.is in
    let front = c.split_at.ensures.front ∙ ap (take c.in-Some.count) c.as_slice.ensures in
    refined_by c.args.table.now c.stand_columns.new.table c.split_at.result.0.now c.move_columns.result c.move_columns.new.table.values c.stand_columns.ensures.stood (whole ∙ ap Some (sym front)) c.move_columns.ensures.moved
