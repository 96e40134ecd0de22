use Rattle.std.proofs.Common.{arith}
use Rattle.std.proofs.lemmas.Result.{err_from_is_err_and}
use Rattle.read_json.proofs.Walks.{items-go, items-fail, items-done}
use Rattle.policy_robust.specs.Alternatives.{one_weight_at}
use Rattle.policy_robust.proofs.alternatives.all_weights.Goals as goal

pub returns-in_err-one_weight : goal.returns-in_err-one_weight
returns-in_err-one_weight c =
    let l = c.loop-r in
    let p = err_from_is_err_and c.from_residual-in_err-one_weight.result c.from_residual-in_err-one_weight.ensures.1 in
    rw (p.1, p.2) (items-fail (one_weight_at c.args.n c.args.a) l.found l.r c.index-items-r.result c.args.items.now _ c.in_err-one_weight.field-0.0 (omega arith) c.index-items-r.is c.in_err-one_weight.ensures l.invariant)

pub loop-r-preserved : goal.loop-r-preserved
loop-r-preserved c =
    let l = c.loop-r in
    items-go (one_weight_at c.args.n c.args.a) l.found c.one_weight.new.found l.r c.index-items-r.result c.args.items.now _ (omega arith) c.index-items-r.is c.in_ok-one_weight.ensures l.invariant

pub returns : goal.returns
returns c = let l = c.loop-r in items-done (one_weight_at c.args.n c.args.a) l.found l.r c.args.items.now _ (omega arith) l.invariant
