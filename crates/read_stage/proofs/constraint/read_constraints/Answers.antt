use Rattle.std.proofs.Common.{◌≡◌, length, arith, ap}
use Rattle.std.proofs.lemmas.Grind.{common_steps}
use Rattle.std.proofs.lemmas.Result.{err_from_is_err_and}
use Rattle.serde_json.specs.View.{items_view}
use Rattle.read_json.specs.Steps.{walk_items}
use Rattle.read_json.proofs.Walks.{items-go, items-fail, items-done}
use Rattle.read_stage.specs.Constraint.{constraint_at, no_constraints, constraints_at}
use Rattle.read_stage.proofs.constraint.read_constraints.Goals as goal

pub loop-i-init : goal.loop-i-init
unfolding constraints_at
loop-i-init c =
    let a = c.args in
    let none : c.in_ok-found.found ≡ no_constraints (length a.variables.now.names) = grind (arith, common_steps) in
    ap (λ f. walk_items (constraint_at a.variables.now a.p) f 0 (items_view a.items.now)) none

pub returns-in_err-constraint : goal.returns-in_err-constraint
returns-in_err-constraint c =
    let a = c.args in
    let l = c.loop-i in
    let p = err_from_is_err_and c.from_residual-in_err-constraint.result c.from_residual-in_err-constraint.ensures.1 in
    rw (p.1, p.2) (items-fail (constraint_at a.variables.now a.p) l.found l.i c.index-items-i.result a.items.now (constraints_at a.variables.now a.p (items_view a.items.now)) c.in_err-constraint.field-0.0 (omega arith) c.index-items-i.is c.in_err-constraint.ensures l.invariant)

pub loop-i-preserved : goal.loop-i-preserved
loop-i-preserved c =
    let a = c.args in
    let l = c.loop-i in
    items-go (constraint_at a.variables.now a.p) l.found c.constraint.new.found l.i c.index-items-i.result a.items.now (constraints_at a.variables.now a.p (items_view a.items.now)) (omega arith) c.index-items-i.is c.in_ok-constraint.ensures l.invariant

pub returns : goal.returns
returns c =
    let a = c.args in
    items-done (constraint_at a.variables.now a.p) c.loop-i.found c.loop-i.i a.items.now (constraints_at a.variables.now a.p (items_view a.items.now)) (omega arith) c.loop-i.invariant
