use Rattle.std.proofs.Common.{arith, refl}
use Rattle.std.proofs.lemmas.Result.{err_from_is_err_and}
use Rattle.serde_json.specs.View.{items_view}
use Rattle.read_json.proofs.Walks.{items-go, items-fail, items-done}
use Rattle.read_stage.specs.Randoms.{random_at, each_random_at}
use Rattle.read_stage.proofs.randoms.each_random.Goals as goal

pub loop-i-init : goal.loop-i-init
unfolding each_random_at
loop-i-init c = refl

pub returns-in_err-random : goal.returns-in_err-random
returns-in_err-random c =
    let a = c.args in
    let l = c.loop-i in
    let p = err_from_is_err_and c.from_residual.result c.from_residual.ensures.1 in
    rw (p.1, p.2) (items-fail (random_at a.names.now a.p) l.found l.i c.index-items-i.result a.items.now (each_random_at a.names.now a.p a.found.now (items_view a.items.now)) c.in_err-random.field-0.0 (omega arith) c.index-items-i.is c.in_err-random.ensures l.invariant)

pub loop-i-preserved : goal.loop-i-preserved
loop-i-preserved c =
    let a = c.args in
    let l = c.loop-i in
    items-go (random_at a.names.now a.p) l.found c.random.new.found l.i c.index-items-i.result a.items.now (each_random_at a.names.now a.p a.found.now (items_view a.items.now)) (omega arith) c.index-items-i.is c.in_ok-random.ensures l.invariant

pub returns : goal.returns
returns c =
    let a = c.args in
    items-done (random_at a.names.now a.p) c.loop-i.found c.loop-i.i a.items.now (each_random_at a.names.now a.p a.found.now (items_view a.items.now)) (omega arith) c.loop-i.invariant
