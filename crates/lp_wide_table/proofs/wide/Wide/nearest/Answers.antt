use Rattle.std.proofs.Common.{sym, ◌∙◌}
use Rattle.lp_wide_table.proofs.Rounding.{nearest_some, nearest_none}
use Rattle.lp_wide_table.proofs.wide.Wide.nearest.Goals as goal

pub returns-in_err-more : goal.returns-in_err-more
returns-in_err-more c = c.from_residual.ensures ∙ nearest_none c.args.self c.shift_down.result c.from_i128.result c.args.k c.requires c.shift_down.ensures c.from_i128.ensures (sym c.in_err-more.was ∙ c.plus.ensures)

pub returns : goal.returns
returns c = nearest_some c.args.self c.shift_down.result c.from_i128.result c.in_ok-more.more c.shift_down-2.result c.narrowed.result c.args.k c.requires c.shift_down.ensures c.from_i128.ensures (sym c.in_ok-more.was ∙ c.plus.ensures) c.shift_down-2.ensures c.narrowed.ensures
