use Rattle.std.proofs.Common.{arith}
use Rattle.std.proofs.lemmas.Result.{err_from_is_err_and}
use Rattle.read_json.proofs.Walks.{items-go, items-fail, items-done}
use Rattle.read_file.specs.Realizations.{realization_at}
use Rattle.read_file.proofs.realizations.listed.Goals as goal

pub returns-in_err-realization : goal.returns-in_err-realization
returns-in_err-realization c =
    let l = c.loop-r in
    let p = err_from_is_err_and c.from_residual.result c.from_residual.ensures.1 in
    rw (p.1, p.2) (items-fail (realization_at c.args.n c.args.randoms.now) l.found l.r c.index-items-r.result c.args.items.now _ c.in_err-realization.field-0.0 (omega arith) c.index-items-r.is c.in_err-realization.ensures l.invariant)

pub loop-r-preserved : goal.loop-r-preserved
loop-r-preserved c =
    let l = c.loop-r in
    items-go (realization_at c.args.n c.args.randoms.now) l.found c.realization.new.found l.r c.index-items-r.result c.args.items.now _ (omega arith) c.index-items-r.is c.in_ok-realization.ensures l.invariant

pub returns : goal.returns
returns c = let l = c.loop-r in items-done (realization_at c.args.n c.args.randoms.now) l.found l.r c.args.items.now _ (omega arith) l.invariant
