use Rattle.std.proofs.Common.{arith}
use Rattle.std.proofs.lemmas.Result.{err_from_is_err_and}
use Rattle.std.proofs.lemmas.Grind.{common_steps}
use Rattle.read_json.proofs.Walks.{items-go, items-done}
use Rattle.hydro_read.proofs.Walks.{items-fail}
use Rattle.hydro_read.specs.Stages.{hydro_stage_at, stages_at}
use Rattle.hydro_read.proofs.stages.stages.Goals as goal

pub loop-t-init : goal.loop-t-init
unfolding stages_at
loop-t-init c = grind (arith, common_steps)

pub returns-in_err-stage : goal.returns-in_err-stage
returns-in_err-stage c =
    let l = c.loop-t in
    let p = err_from_is_err_and c.from_residual-in_err-stage.result c.from_residual-in_err-stage.ensures.1 in
    rw (p.1, p.2) (items-fail (hydro_stage_at c.args.buses.now c.args.reservoirs.now) l.found l.t c.index-items-t.result c.args.items.now _ c.in_err-stage.field-0.0 (omega arith) c.index-items-t.is c.in_err-stage.ensures l.invariant)

pub loop-t-preserved : goal.loop-t-preserved
loop-t-preserved c =
    let l = c.loop-t in
    items-go (hydro_stage_at c.args.buses.now c.args.reservoirs.now) l.found c.stage.new.found l.t c.index-items-t.result c.args.items.now _ (omega arith) c.index-items-t.is c.in_ok-stage.ensures l.invariant

pub returns : goal.returns
returns c = let l = c.loop-t in items-done (hydro_stage_at c.args.buses.now c.args.reservoirs.now) l.found l.t c.args.items.now _ (omega arith) l.invariant
