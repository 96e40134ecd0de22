use Rattle.std.proofs.Common.{List, length, take, get_or, ap, arith, ◌∙◌}
use Rattle.theory.specs.declared.cut.Cut.{Cut}
use Rattle.cut_pool.specs.Pooled.{Pooled, PooledCuts}
use Rattle.cut_pool.proofs.Replaced.{changed, seen, there, stood, elsewhere, within}
use Rattle.cut_pool.proofs.pools.Pools.truncate.Goals as goal

pub returns-clause-cuts : goal.returns-clause-cuts
returns-clause-cuts c = changed _ (λ (cs : List Cut). take c.args.count cs) c.self.inside.lists.items c.args.node c.truncate.new.self c.index_mut.result.now c.args.self.now.lists (ap (λ (p : Pooled). p.lists) c.self.view_is) c.index_mut.ensures.value c.requires c.truncate.ensures.cuts

pub returns-clause-freed : goal.returns-clause-freed
returns-clause-freed c =
    let inside = within (λ (v : PooledCuts). v.cuts) c.self.inside.lists.items c.args.node c.args.self.now.lists (ap (λ (p : Pooled). p.lists) c.self.view_is) c.requires in
    let before = stood (λ (v : PooledCuts). v.spare) c.self.inside.lists.items c.args.node c.index_mut.result.now c.index_mut.ensures.value inside in
    let spare = ap (λ (p : Pooled). get_or p.spare c.args.node 0) c.self.view_is in
    let all = ap length (seen (λ (v : PooledCuts). v.cuts) c.self.inside.lists.items c.args.node c.index_mut.result.now c.args.self.now.lists (ap (λ (p : Pooled). p.lists) c.self.view_is) c.index_mut.ensures.value c.requires) in
    let after = there (λ (v : PooledCuts). v.spare) c.self.inside.lists.items c.args.node c.truncate.new.self inside in
    omega (arith, before, spare, all, after, c.truncate.ensures.freed)

pub returns-clause-others : goal.returns-clause-others
returns-clause-others c = λ k h. elsewhere (λ (v : PooledCuts). v.spare) c.self.inside.lists.items c.args.node k c.truncate.new.self h ∙ ap (λ (p : Pooled). get_or p.spare k 0) c.self.view_is
