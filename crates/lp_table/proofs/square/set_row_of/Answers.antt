use Rattle.std.proofs.Common.{◌*◌, List, ℤ, length, arith, ap, ◌∙◌}
use Rattle.lp_table.proofs.Squares.{inside, over_long, over_rows}
use Rattle.base_num.specs.Rows.{put}
use Rattle.lp_table.proofs.square.set_row_of.Goals as goal

pub put_row-requires : goal.put_row-requires
put_row-requires c = omega (arith, inside c.args.size c.args.v c.requires.there, c.requires.width, c.requires.square, ap length c.as_mut_slice.ensures.value)

pub returns-clause-square : goal.returns-clause-square
returns-clause-square c =
    over_long c.args.size c.args.v c.args.cells.now c.put_row.new.cells c.args.row.now c.requires.there c.requires.width c.requires.square
    (c.put_row.ensures ∙ ap (λ (xs : List ℤ). put (length c.args.row.now) (c.args.v * c.args.size) xs c.args.row.now) c.as_mut_slice.ensures.value)

pub returns-clause-rows : goal.returns-clause-rows
returns-clause-rows c =
    over_rows c.args.size c.args.v c.args.cells.now c.put_row.new.cells c.args.row.now c.requires.there c.requires.width c.requires.square
    (c.put_row.ensures ∙ ap (λ (xs : List ℤ). put (length c.args.row.now) (c.args.v * c.args.size) xs c.args.row.now) c.as_mut_slice.ensures.value)
