use Rattle.std.proofs.Common.{◌<◌, length, sym, subst}
use Rattle.lp_wide_table.specs.declared.table.WideTable.{WideTable}
use Rattle.lp_wide_table.specs.Shape.{IsWideTable, wide_variables}
use Rattle.lp_wide.proofs.Sized.{sized_replaced}
use Rattle.lp_wide.proofs.pivots.pivot.Goals as goal

pub returns-clause-sized : goal.returns-clause-sized
returns-clause-sized c =
    subst IsWideTable (sym c.replace.ensures.replaced)
    (sized_replaced c.eliminate.new.table c.as_slice-2.result.now c.args.leaving c.args.above c.args.place c.args.flips.now c.eliminate.ensures.sized
    (subst (λ (t : WideTable). c.args.leaving < wide_variables t) (sym c.eliminate.ensures.kept) c.requires.there)
    (subst (λ (t : WideTable). c.args.place < length t.costs) (sym c.eliminate.ensures.kept) c.requires.place))
