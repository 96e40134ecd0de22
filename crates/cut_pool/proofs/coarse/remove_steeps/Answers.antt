use Rattle.std.proofs.Common.{◌<◌, length, get_or, arith}
use Rattle.cut_pool.proofs.Removed.{steeps_removed}
use Rattle.cut_pool.proofs.coarse.remove_steeps.Goals as goal

pub returns-clause-steeps : goal.returns-clause-steeps
returns-clause-steeps c = λ shift cuts there are j d h.
    let inside : j < length c.args.columns.now = omega (arith, h, c.loop-state.invariant.count) in
    steeps_removed shift c.args.number j cuts (get_or c.args.columns.now j d).items (get_or c.loop-state.columns j d).items there (are j d inside) (c.loop-state.invariant.removed j d (omega (arith, h, c.loop-state-test.false)))
