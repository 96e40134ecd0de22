use Rattle.std.proofs.Common.{[], get_or, arith, ap, refl}
use Rattle.std.proofs.lemmas.Result.{err_from_is_err_and}
use Rattle.read_json.specs.Steps.{walk_list}
use Rattle.read_json.proofs.Walks.{list-go, list-fail, list-done}
use Rattle.read_stage.specs.Boxes.{variable_box_at, boxes_at}
use Rattle.read_stage.proofs.boxes.boxes.Goals as goal

pub loop-i-init : goal.loop-i-init
unfolding boxes_at
loop-i-init c =
    let a = c.args in
    ap (λ f. walk_list (variable_box_at a.variables.now a.p a.bounds.now a.costs.now) f 0 a.variables.now.names) c.new-found.ensures

pub returns-in_err-variable : goal.returns-in_err-variable
returns-in_err-variable c =
    let a = c.args in
    let v = a.variables.now in
    let l = c.loop-i in
    let p = err_from_is_err_and c.from_residual-in_err-variable.result c.from_residual-in_err-variable.ensures.1 in
    rw (p.1, p.2) (list-fail (variable_box_at v a.p a.bounds.now a.costs.now) l.found l.i (get_or v.names l.i []) [] v.names (boxes_at v a.p a.bounds.now a.costs.now) c.in_err-variable.field-0.0 (omega arith) refl c.in_err-variable.ensures l.invariant)

pub loop-i-preserved : goal.loop-i-preserved
loop-i-preserved c =
    let a = c.args in
    let v = a.variables.now in
    let l = c.loop-i in
    list-go (variable_box_at v a.p a.bounds.now a.costs.now) l.found c.variable.new.found l.i (get_or v.names l.i []) [] v.names (boxes_at v a.p a.bounds.now a.costs.now) (omega arith) refl c.in_ok-variable.ensures l.invariant

pub returns : goal.returns
returns c =
    let a = c.args in
    let v = a.variables.now in
    list-done (variable_box_at v a.p a.bounds.now a.costs.now) c.loop-i.found c.loop-i.i v.names (boxes_at v a.p a.bounds.now a.costs.now) (omega arith) c.loop-i.invariant
