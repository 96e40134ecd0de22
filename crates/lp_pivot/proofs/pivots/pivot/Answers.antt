use Rattle.std.proofs.Common.{◌<◌, length, sym, subst}
use Rattle.lp_table.specs.declared.table.WarmTable.{WarmTable}
use Rattle.lp_table.specs.Shape.{IsTable, variables}
use Rattle.lp_pivot.proofs.Sized.{sized_replaced}
use Rattle.lp_pivot.proofs.pivots.pivot.Goals as goal

pub returns-clause-sized : goal.returns-clause-sized
returns-clause-sized c =
    subst IsTable (sym c.replace.ensures.replaced)
    (sized_replaced c.eliminate.new.table c.as_slice-2.result.now c.args.swap.leaving c.args.swap.above c.args.swap.place c.args.flips.now c.eliminate.ensures.sized
    (subst (λ (t : WarmTable). c.args.swap.leaving < variables t) (sym c.eliminate.ensures.kept) c.requires.there)
    (subst (λ (t : WarmTable). c.args.swap.place < length t.costs) (sym c.eliminate.ensures.kept) c.requires.place))
