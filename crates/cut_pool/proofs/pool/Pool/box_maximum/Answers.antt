use Rattle.std.proofs.Common.{List, All, subst, sym}
use Rattle.std.proofs.lemmas.Option.{IfSome_then}
use Rattle.cut_pool.specs.declared.box_maxima.BoxMaximum.{BoxMaximum}
use Rattle.cut_pool.specs.BoxMaxima.{IsBoxMaximum}
use Rattle.cut_pool.specs.Pooled.{PooledCuts}
use Rattle.cut_pool.proofs.pool.Pool.box_maximum.Goals as goal

pub returns : goal.returns
returns c = IfSome_then c.box_maximum_in.result c.box_maximum_in.ensures
    (λ _ is. is c.args.self.now.cuts (subst (λ (p : PooledCuts). All (IsBoxMaximum p.cuts) c.as_slice.result.now) c.self.view_is
    (subst (λ (ps : List BoxMaximum). All (IsBoxMaximum c.self.inside.cuts.items) ps) (sym c.as_slice.ensures.value) c.self.invariant.box_maxima)))
