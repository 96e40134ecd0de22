use Rattle.std.proofs.Common.{refl, ap, sym, ◌∙◌}
use Rattle.theory.specs.Problem.{node_at}
use Rattle.theory.specs.View.{problem_of}
use Rattle.cut_pool.specs.Pooled.{Pooled}
use Rattle.cut_check.proofs.AcceptedCuts.{accepted_in_range, made_accepted, made_value, made_fits, made_holds}
use Rattle.cut_check.proofs.acceptance.making.accept_into.Goals as goal

pub accept_at-requires : goal.accept_at-requires
accept_at-requires c =
    let o = c.of-here.ensures in
    (refl, (o.parts.limits, (o.parts.sized, (o.parts.costs, c.requires.slopes ∙ sym o.parts.states))))

pub returns-clause-accepted : goal.returns-clause-accepted
returns-clause-accepted c =
    let h = c.of-here.result in
    let o = c.of-here.ensures in
    let w = c.own_weights.ensures in
    made_accepted c.args.problem.now c.args.node c.args.pools.now.lists h.pools.now.lists c.args.list.now c.own_weights.result.now h.weights.now h.node.now h.subproblem.now h.low.now h.high.now o.parts c.requires.known (record { weighs = w.weighs; own = w.own })
    o.weights (ap (λ (x : Pooled). x.lists) o.pools) c.accept_at.result c.accept_at.ensures.accepted

pub returns-clause-value : goal.returns-clause-value
returns-clause-value c =
    let h = c.of-here.result in
    let o = c.of-here.ensures in
    let w = c.own_weights.ensures in
    made_value c.args.problem.now c.args.node c.args.pools.now.lists h.pools.now.lists c.args.list.now c.own_weights.result.now h.weights.now h.node.now h.subproblem.now h.low.now h.high.now o.parts c.requires.known (record { weighs = w.weighs; own = w.own })
    o.weights (ap (λ (x : Pooled). x.lists) o.pools) c.accept_at.result c.accept_at.new.cut c.accept_at.ensures.value

pub returns-clause-fits : goal.returns-clause-fits
returns-clause-fits c =
    let h = c.of-here.result in
    let o = c.of-here.ensures in
    let w = c.own_weights.ensures in
    made_fits c.args.problem.now c.args.node c.args.pools.now.lists h.pools.now.lists c.args.list.now c.own_weights.result.now h.weights.now h.node.now h.subproblem.now h.low.now h.high.now o.parts c.requires.known (record { weighs = w.weighs; own = w.own })
    o.weights (ap (λ (x : Pooled). x.lists) o.pools) c.accept_at.result c.accept_at.new.cut c.accept_at.ensures.value
    (accepted_in_range c.args.pools.now.lists (node_at (problem_of c.args.problem.now) c.args.node) c.args.list.now c.accept_at.result (returns-clause-accepted c))

pub returns-clause-holds : goal.returns-clause-holds
returns-clause-holds c =
    let h = c.of-here.result in
    let o = c.of-here.ensures in
    let w = c.own_weights.ensures in
    made_holds c.args.problem.now c.args.node c.args.pools.now.lists h.pools.now.lists c.args.list.now c.own_weights.result.now h.weights.now h.node.now h.subproblem.now h.low.now h.high.now o.parts c.requires.known (record { weighs = w.weighs; own = w.own })
    o.weights (ap (λ (x : Pooled). x.lists) o.pools) c.accept_at.result c.accept_at.new.cut c.accept_at.ensures.value
    (accepted_in_range c.args.pools.now.lists (node_at (problem_of c.args.problem.now) c.args.node) c.args.list.now c.accept_at.result (returns-clause-accepted c))
