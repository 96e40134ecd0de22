use Rattle.std.proofs.Common.{arith, ap}
use Rattle.std.proofs.lemmas.Result.{err_from_is_err_and}
use Rattle.serde_json.specs.View.{items_view}
use Rattle.read_json.specs.Steps.{walk_items}
use Rattle.read_json.proofs.Walks.{items-go, items-fail, items-done}
use Rattle.read_stage.specs.Variables.{variable_at, names_at}
use Rattle.read_stage.proofs.variables.variable_names.Goals as goal

pub loop-i-init : goal.loop-i-init
unfolding names_at
loop-i-init c = ap (λ f. walk_items (variable_at c.args.p) f 0 (items_view c.args.items.now)) c.new-found.ensures

pub returns-in_err-variable : goal.returns-in_err-variable
returns-in_err-variable c =
    let l = c.loop-i in
    let p = err_from_is_err_and c.from_residual-in_err-variable.result c.from_residual-in_err-variable.ensures.1 in
    rw (p.1, p.2) (items-fail (variable_at c.args.p) l.found l.i c.index-items-i.result c.args.items.now (names_at c.args.p (items_view c.args.items.now)) c.in_err-variable.field-0.0 (omega arith) c.index-items-i.is c.in_err-variable.ensures l.invariant)

pub loop-i-preserved : goal.loop-i-preserved
loop-i-preserved c =
    let l = c.loop-i in
    items-go (variable_at c.args.p) l.found c.variable.new.found l.i c.index-items-i.result c.args.items.now (names_at c.args.p (items_view c.args.items.now)) (omega arith) c.index-items-i.is c.in_ok-variable.ensures l.invariant

pub returns : goal.returns
returns c = items-done (variable_at c.args.p) c.loop-i.found c.loop-i.i c.args.items.now (names_at c.args.p (items_view c.args.items.now)) (omega arith) c.loop-i.invariant
