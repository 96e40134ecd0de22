use Rattle.std.proofs.Common.{◌<◌, List, All, length, subst, sym}
use Rattle.theory.specs.declared.cut.Cut.{Cut}
use Rattle.theory.specs.Problem.{node_at}
use Rattle.theory.specs.View.{problem_of}
use Rattle.cut_pool.specs.Reaches.{CutReaches}
use Rattle.theory.specs.Pools.{pool}
use Rattle.cut_pool.proofs.Reach.{all_reach}
use Rattle.cut_pool.proofs.pools.Pools.value_at.Goals as goal

pub greatest-requires-clause-some : goal.greatest-requires-clause-some
greatest-requires-clause-some c = subst (λ (cs : List Cut). 0 < length cs) (sym c.cuts.ensures) (c.requires.fit.some c.args.node c.requires.known)

pub greatest-requires-clause-reach : goal.greatest-requires-clause-reach
greatest-requires-clause-reach c =
    subst (λ (cs : List Cut). All (CutReaches c.args.state.now) cs) (sym c.cuts.ensures)
    (all_reach (node_at (problem_of c.args.problem.now) c.args.node) c.args.state.now (pool c.args.self.now.lists c.args.node) c.requires.inside (c.requires.fit.cuts c.args.node c.requires.known))
