use Rattle.std.proofs.Common.{ap, arith}
use Rattle.std.proofs.lemmas.Result.{err_from_is_err_and}
use Rattle.serde_json.specs.View.{items_view}
use Rattle.read_json.specs.Steps.{walk_items}
use Rattle.read_json.proofs.Walks.{items-go, items-fail, items-done}
use Rattle.read_file.specs.Scenarios.{scenario_at, scenarios_at}
use Rattle.read_file.proofs.scenarios.scenarios.Goals as goal

pub loop-k-init : goal.loop-k-init
unfolding scenarios_at
loop-k-init c = ap (λ f. walk_items (scenario_at c.args.names.now c.args.parts.now) f 0 (items_view c.args.items.now)) c.new-found.ensures

pub returns-in_err-scenario : goal.returns-in_err-scenario
returns-in_err-scenario c =
    let l = c.loop-k in
    let p = err_from_is_err_and c.from_residual-in_err-scenario.result c.from_residual-in_err-scenario.ensures.1 in
    rw (p.1, p.2) (items-fail (scenario_at c.args.names.now c.args.parts.now) l.found l.k c.index-items-k.result c.args.items.now _ c.in_err-scenario.field-0.0 (omega arith) c.index-items-k.is c.in_err-scenario.ensures l.invariant)

pub loop-k-preserved : goal.loop-k-preserved
loop-k-preserved c =
    let l = c.loop-k in
    items-go (scenario_at c.args.names.now c.args.parts.now) l.found c.scenario.new.found l.k c.index-items-k.result c.args.items.now _ (omega arith) c.index-items-k.is c.in_ok-scenario.ensures l.invariant

pub returns : goal.returns
returns c = let l = c.loop-k in items-done (scenario_at c.args.names.now c.args.parts.now) l.found l.k c.args.items.now _ (omega arith) l.invariant
