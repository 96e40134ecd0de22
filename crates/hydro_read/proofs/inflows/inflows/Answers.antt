use Rattle.std.proofs.Common.{arith}
use Rattle.std.proofs.lemmas.Result.{err_from_is_err_and}
use Rattle.std.proofs.lemmas.Grind.{common_steps}
use Rattle.read_json.proofs.Walks.{items-go, items-done}
use Rattle.hydro_read.proofs.Walks.{items-fail}
use Rattle.hydro_read.specs.Stages.{inflow_at, inflows_at}
use Rattle.hydro_read.proofs.inflows.inflows.Goals as goal

pub loop-k-init : goal.loop-k-init
unfolding inflows_at
loop-k-init c = grind (arith, common_steps)

pub returns-in_err-inflow : goal.returns-in_err-inflow
returns-in_err-inflow c =
    let l = c.loop-k in
    let p = err_from_is_err_and c.from_residual.result c.from_residual.ensures.1 in
    rw (p.1, p.2) (items-fail (inflow_at c.args.reservoirs.now c.args.t) l.found l.k c.index-items-k.result c.args.items.now _ c.in_err-inflow.field-0.0 (omega arith) c.index-items-k.is c.in_err-inflow.ensures l.invariant)

pub loop-k-preserved : goal.loop-k-preserved
loop-k-preserved c =
    let l = c.loop-k in
    items-go (inflow_at c.args.reservoirs.now c.args.t) l.found c.inflow.new.found l.k c.index-items-k.result c.args.items.now _ (omega arith) c.index-items-k.is c.in_ok-inflow.ensures l.invariant

pub returns : goal.returns
returns c = let l = c.loop-k in items-done (inflow_at c.args.reservoirs.now c.args.t) l.found l.k c.args.items.now _ (omega arith) l.invariant
