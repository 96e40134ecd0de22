use Rattle.std.proofs.Common.{ℕ, ◌≤◌, get_or, OnOk, ap, arith, sym, subst, ◌∙◌}
use Rattle.cut_pool.specs.Pooled.{Pooled, PooledCuts}
use Rattle.cut_pool.proofs.Replaced.{same, there, stood, elsewhere, within}
use Rattle.cut_pool.proofs.pools.Pools.reserve_many.Goals as goal

pub returns-clause-cuts : goal.returns-clause-cuts
returns-clause-cuts c = same _ c.self.inside.lists.items c.args.node c.reserve.new.self c.index_mut.result.now c.args.self.now.lists (ap (λ (p : Pooled). p.lists) c.self.view_is) c.index_mut.ensures.value c.reserve.ensures.cuts

pub returns-clause-room : goal.returns-clause-room
returns-clause-room c =
    let inside = within (λ (v : PooledCuts). v.cuts) c.self.inside.lists.items c.args.node c.args.self.now.lists (ap (λ (p : Pooled). p.lists) c.self.view_is) c.requires in
    subst (λ (n : ℕ). OnOk c.reserve.result (c.args.count ≤ n)) (sym (there (λ (v : PooledCuts). v.spare) c.self.inside.lists.items c.args.node c.reserve.new.self inside)) c.reserve.ensures.room

pub returns-clause-grown : goal.returns-clause-grown
returns-clause-grown c =
    let inside = within (λ (v : PooledCuts). v.cuts) c.self.inside.lists.items c.args.node c.args.self.now.lists (ap (λ (p : Pooled). p.lists) c.self.view_is) c.requires in
    let before = stood (λ (v : PooledCuts). v.spare) c.self.inside.lists.items c.args.node c.index_mut.result.now c.index_mut.ensures.value inside in
    let spare = ap (λ (p : Pooled). get_or p.spare c.args.node 0) c.self.view_is in
    omega (arith, before, spare, there (λ (v : PooledCuts). v.spare) c.self.inside.lists.items c.args.node c.reserve.new.self inside, c.reserve.ensures.grown)

pub returns-clause-others : goal.returns-clause-others
returns-clause-others c = λ k h. elsewhere (λ (v : PooledCuts). v.spare) c.self.inside.lists.items c.args.node k c.reserve.new.self h ∙ ap (λ (p : Pooled). get_or p.spare k 0) c.self.view_is
