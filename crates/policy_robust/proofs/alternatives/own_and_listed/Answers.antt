use Rattle.std.proofs.Common.{arith, length}
use Rattle.std.proofs.lemmas.Result.{err_from_is_err_and}
use Rattle.read_json.proofs.Walks.{items-go, items-fail, items-done}
use Rattle.policy_robust.specs.Alternatives.{next_alternative_at}
use Rattle.policy_robust.proofs.alternatives.own_and_listed.Goals as goal

pub returns-in_err-next_alternative : goal.returns-in_err-next_alternative
returns-in_err-next_alternative c =
    let l = c.loop-i in
    let p = err_from_is_err_and c.from_residual-in_err-next_alternative.result c.from_residual-in_err-next_alternative.ensures.1 in
    rw (p.1, p.2) (items-fail (next_alternative_at c.args.n (length c.args.own.now)) l.found l.i c.index-items-i.result c.args.items.now _ c.in_err-next_alternative.field-0.0 (omega arith) c.index-items-i.is c.in_err-next_alternative.ensures l.invariant)

pub loop-i-preserved : goal.loop-i-preserved
loop-i-preserved c =
    let l = c.loop-i in
    items-go (next_alternative_at c.args.n (length c.args.own.now)) l.found c.next_alternative.new.found l.i c.index-items-i.result c.args.items.now _ (omega arith) c.index-items-i.is c.in_ok-next_alternative.ensures l.invariant

pub returns : goal.returns
returns c = let l = c.loop-i in items-done (next_alternative_at c.args.n (length c.args.own.now)) l.found l.i c.args.items.now _ (omega arith) l.invariant
