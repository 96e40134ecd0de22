use Rattle.std.proofs.Common.{ap, arith}
use Rattle.std.proofs.lemmas.Result.{err_from_is_err_and}
use Rattle.serde_json.specs.View.{items_view}
use Rattle.read_json.specs.Steps.{walk_items}
use Rattle.read_json.proofs.Walks.{items-go, items-fail, items-done}
use Rattle.read_file.specs.Scenarios.{scenario_step_at, path_at}
use Rattle.read_file.proofs.scenarios.read_path.Goals as goal

pub loop-t-init : goal.loop-t-init
unfolding path_at
loop-t-init c = ap (λ f. walk_items (scenario_step_at c.args.names.now c.args.parts.now c.args.k) f 0 (items_view c.args.items.now)) c.new-path.ensures

pub returns-in_err-read_step : goal.returns-in_err-read_step
returns-in_err-read_step c =
    let l = c.loop-t in
    let p = err_from_is_err_and c.from_residual-in_err-read_step.result c.from_residual-in_err-read_step.ensures.1 in
    rw (p.1, p.2) (items-fail (scenario_step_at c.args.names.now c.args.parts.now c.args.k) l.path l.t c.index-items-t.result c.args.items.now _ c.in_err-read_step.field-0.0 (omega arith) c.index-items-t.is c.in_err-read_step.ensures l.invariant)

pub loop-t-preserved : goal.loop-t-preserved
loop-t-preserved c =
    let l = c.loop-t in
    items-go (scenario_step_at c.args.names.now c.args.parts.now c.args.k) l.path c.read_step.new.path l.t c.index-items-t.result c.args.items.now _ (omega arith) c.index-items-t.is c.in_ok-read_step.ensures l.invariant

pub returns : goal.returns
returns c = let l = c.loop-t in items-done (scenario_step_at c.args.names.now c.args.parts.now c.args.k) l.path l.t c.args.items.now _ (omega arith) l.invariant
