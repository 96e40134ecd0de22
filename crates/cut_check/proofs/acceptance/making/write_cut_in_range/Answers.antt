use Rattle.std.proofs.Common.{refl, ap, sym, ◌∙◌}
use Rattle.theory.specs.Problem.{node_at}
use Rattle.theory.specs.View.{problem_of}
use Rattle.cut_pool.specs.Pooled.{Pooled}
use Rattle.cut_check.proofs.AcceptedCuts.{given_right, right_in_range, made_range, made_value, made_fits, made_holds}
use Rattle.cut_check.proofs.acceptance.making.write_cut_in_range.Goals as goal

pub write_in_range-requires : goal.write_in_range-requires
write_in_range-requires c =
    let h = c.of-here.result in
    let o = c.of-here.ensures in
    let w = c.own_weights.ensures in
    let right = given_right c.args.problem.now c.args.node c.args.pools.now.lists h.pools.now.lists c.args.list.now c.own_weights.result.now h.weights.now h.node.now h.subproblem.now h.low.now h.high.now o.parts c.requires.known (record { weighs = w.weighs; own = w.own })
    o.weights (ap (λ (x : Pooled). x.lists) o.pools) c.requires.right in
    (refl, (o.parts.limits, (o.parts.sized, (o.parts.costs, (right, c.requires.slopes ∙ sym o.parts.states)))))

pub returns-clause-range : goal.returns-clause-range
returns-clause-range c =
    let h = c.of-here.result in
    let o = c.of-here.ensures in
    let w = c.own_weights.ensures in
    made_range c.args.problem.now c.args.node c.args.pools.now.lists h.pools.now.lists c.args.list.now c.own_weights.result.now h.weights.now h.node.now h.subproblem.now h.low.now h.high.now o.parts c.requires.known (record { weighs = w.weighs; own = w.own })
    o.weights (ap (λ (x : Pooled). x.lists) o.pools) c.write_in_range.result c.write_in_range.ensures.range

pub returns-clause-value : goal.returns-clause-value
returns-clause-value c =
    let h = c.of-here.result in
    let o = c.of-here.ensures in
    let w = c.own_weights.ensures in
    made_value c.args.problem.now c.args.node c.args.pools.now.lists h.pools.now.lists c.args.list.now c.own_weights.result.now h.weights.now h.node.now h.subproblem.now h.low.now h.high.now o.parts c.requires.known (record { weighs = w.weighs; own = w.own })
    o.weights (ap (λ (x : Pooled). x.lists) o.pools) c.write_in_range.result c.write_in_range.new.cut c.write_in_range.ensures.value

pub returns-clause-fits : goal.returns-clause-fits
returns-clause-fits c =
    let h = c.of-here.result in
    let o = c.of-here.ensures in
    let w = c.own_weights.ensures in
    made_fits c.args.problem.now c.args.node c.args.pools.now.lists h.pools.now.lists c.args.list.now c.own_weights.result.now h.weights.now h.node.now h.subproblem.now h.low.now h.high.now o.parts c.requires.known (record { weighs = w.weighs; own = w.own })
    o.weights (ap (λ (x : Pooled). x.lists) o.pools) c.write_in_range.result c.write_in_range.new.cut c.write_in_range.ensures.value
    (right_in_range c.args.pools.now.lists (node_at (problem_of c.args.problem.now) c.args.node) c.args.list.now c.write_in_range.result c.requires.right (returns-clause-range c))

pub returns-clause-holds : goal.returns-clause-holds
returns-clause-holds c =
    let h = c.of-here.result in
    let o = c.of-here.ensures in
    let w = c.own_weights.ensures in
    made_holds c.args.problem.now c.args.node c.args.pools.now.lists h.pools.now.lists c.args.list.now c.own_weights.result.now h.weights.now h.node.now h.subproblem.now h.low.now h.high.now o.parts c.requires.known (record { weighs = w.weighs; own = w.own })
    o.weights (ap (λ (x : Pooled). x.lists) o.pools) c.write_in_range.result c.write_in_range.new.cut c.write_in_range.ensures.value
    (right_in_range c.args.pools.now.lists (node_at (problem_of c.args.problem.now) c.args.node) c.args.list.now c.write_in_range.result c.requires.right (returns-clause-range c))
