use Rattle.std.proofs.Common.{◌*◌, List, ℤ, length, arith, ap, ◌∙◌, subst, take, drop}
use Rattle.std.specs.Option.{option_map}
use Rattle.lp_table.proofs.Squares.{inside}
use Rattle.lp_wide_table.proofs.Moves.{moved_rows, written}
use Rattle.base_num.specs.Rows.{put}
use Rattle.lp_table.specs.Updates.{GivesNew}
use Rattle.lp_wide_table.specs.Updates.{wide_moved_table_row}
use Rattle.lp_wide_table.proofs.square.move_row_of.Goals as goal

pub move_row_at-requires-clause-inside : goal.move_row_at-requires-clause-inside
move_row_at-requires-clause-inside c = omega (arith, inside c.args.size c.args.v c.requires.there, c.requires.width, c.requires.square, ap length c.as_mut_slice.ensures.value)

pub returns-clause-square : goal.returns-clause-square
returns-clause-square c =
    ap length (written c.args.cells.now c.move_row_at.new.cells (c.move_row_at.ensures.lengths ∙ ap length c.as_mut_slice.ensures.value)) ∙ c.move_row_at.ensures.lengths ∙ ap length c.as_mut_slice.ensures.value ∙ c.requires.square

pub returns-clause-moved : goal.returns-clause-moved
returns-clause-moved c =
    moved_rows c.args.size c.args.v c.args.place c.args.addend.now c.args.cells.now c.move_row_at.new.cells c.move_row_at.result c.requires.there c.requires.width c.requires.square
    (c.move_row_at.ensures.lengths ∙ ap length c.as_mut_slice.ensures.value)
    (subst (λ (xs : List ℤ). GivesNew c.move_row_at.result (option_map (put (length c.args.addend.now) (c.args.v * c.args.size) xs) (wide_moved_table_row c.args.place c.args.addend.now (take (length c.args.addend.now) (drop (c.args.v * c.args.size) xs)))) c.move_row_at.new.cells) c.as_mut_slice.ensures.value c.move_row_at.ensures.moved)
