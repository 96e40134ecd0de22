use Rattle.std.proofs.Common.{List, [], ◌∷◌, ◌++◌, get_or, is_ok, ap, arith, ◌∙◌}
use Rattle.theory.specs.declared.cut.Cut.{Cut}
use Rattle.cut_pool.specs.Pooled.{Pooled, PooledCuts}
use Rattle.cut_pool.proofs.Replaced.{changed_if, there, stood, elsewhere, within}
use Rattle.cut_pool.proofs.pools.Pools.push.Goals as goal

pub returns-clause-cuts : goal.returns-clause-cuts
returns-clause-cuts c = changed_if _ (λ (cs : List Cut). cs ++ c.args.cut ∷ []) (is_ok c.push.result) c.self.inside.lists.items c.args.node c.push.new.self c.index_mut.result.now c.args.self.now.lists (ap (λ (p : Pooled). p.lists) c.self.view_is) c.index_mut.ensures.value c.requires.known c.push.ensures.cuts

pub returns-clause-taken : goal.returns-clause-taken
returns-clause-taken c =
    let inside = within (λ (v : PooledCuts). v.cuts) c.self.inside.lists.items c.args.node c.args.self.now.lists (ap (λ (p : Pooled). p.lists) c.self.view_is) c.requires.known in
    let before = stood (λ (v : PooledCuts). v.spare) c.self.inside.lists.items c.args.node c.index_mut.result.now c.index_mut.ensures.value inside in
    let spare = ap (λ (p : Pooled). get_or p.spare c.args.node 0) c.self.view_is in
    omega (arith, before, spare, there (λ (v : PooledCuts). v.spare) c.self.inside.lists.items c.args.node c.push.new.self inside, c.push.ensures.taken)

pub returns-clause-others : goal.returns-clause-others
returns-clause-others c = λ k h. elsewhere (λ (v : PooledCuts). v.spare) c.self.inside.lists.items c.args.node k c.push.new.self h ∙ ap (λ (p : Pooled). get_or p.spare k 0) c.self.view_is
