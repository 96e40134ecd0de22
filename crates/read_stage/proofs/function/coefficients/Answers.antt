use Rattle.std.proofs.Common.{pos, get_or, to_z, of_z, SFits, arith, ap, rules}
use Rattle.std.specs.Int.{w128}
use Rattle.std.proofs.lemmas.Int.{to_z-of_z}
use Rattle.std.proofs.lemmas.Result.{err_from_is_err_and}
use Rattle.read_json.specs.Steps.{walk_list}
use Rattle.read_json.proofs.Walks.{list-go, list-fail, list-done}
use Rattle.read_stage.specs.Function.{coefficient_at, coefficients_at}
use Rattle.read_stage.proofs.function.coefficients.Goals as goal

pub loop-sum-init : goal.loop-sum-init
unfolding coefficients_at
loop-sum-init c = ap (λ f. walk_list (λ found i sum. coefficient_at c.args.place found sum) f 0 c.args.sums.now) c.new-found.ensures

pub returns-in_err-coefficient : goal.returns-in_err-coefficient
returns-in_err-coefficient c =
    let a = c.args in
    let l = c.loop-sum in
    let x = get_or a.sums.now l.sum-index (pos 0) in
    let fits : SFits w128 x = search rules in
    let p = err_from_is_err_and c.from_residual.result c.from_residual.ensures.1 in
    rw (p.1, p.2) (list-fail (λ found i sum. coefficient_at a.place found sum) l.found l.sum-index (to_z w128 (of_z w128 x)) (pos 0) a.sums.now (coefficients_at a.place a.sums.now) c.in_err-coefficient.field-0.0 (omega arith) (to_z-of_z w128 x fits) c.in_err-coefficient.ensures l.invariant)

pub loop-sum-preserved : goal.loop-sum-preserved
loop-sum-preserved c =
    let a = c.args in
    let l = c.loop-sum in
    let x = get_or a.sums.now l.sum-index (pos 0) in
    let fits : SFits w128 x = search rules in
    list-go (λ found i sum. coefficient_at a.place found sum) l.found c.coefficient.new.found l.sum-index (to_z w128 (of_z w128 x)) (pos 0) a.sums.now (coefficients_at a.place a.sums.now) (omega arith) (to_z-of_z w128 x fits) c.in_ok-coefficient.ensures l.invariant

pub returns : goal.returns
returns c =
    let a = c.args in
    list-done (λ found i sum. coefficient_at a.place found sum) c.loop-sum.found c.loop-sum.sum-index a.sums.now (coefficients_at a.place a.sums.now) (omega arith) c.loop-sum.invariant
