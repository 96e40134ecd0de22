use Rattle.std.proofs.Common.{ℕ, ℤ, List, zip, to_z, arith, ap, ◌∙◌}
use mir.Syntax.{w128}
use Rattle.std.specs.Int.{int_wrap}
use Rattle.std.proofs.lemmas.Slice.Zip.{length-zip}
use Rattle.theory.specs.declared.cut.Cut.{Cut}
use Rattle.theory.specs.Pools.{pool}
use Rattle.cut_make.specs.Parts.{over_pool}
use Rattle.cut_make.proofs.Beside.{pairs_there, pairs_part}
use Rattle.cut_make.proofs.Congruence.{sum_step, sum_all, same_read}
use Rattle.cut_make.proofs.constants.successor_constants.Goals as goal

pub pool_constants-requires : goal.pool_constants-requires
pool_constants-requires c =
    pairs_there c.args.pools.now.lists c.args.successors.now c.args.cuts.now c.loop-i.i c.cuts-pool.result.now c.index-cuts-i.result c.as_slice.result.now (omega (arith, c.min-i-end.ensures)) (omega (arith, c.min-i-end.ensures)) c.index-cuts-i.is c.cuts-pool.ensures c.as_slice.ensures c.requires.there

pub loop-i-preserved : goal.loop-i-preserved
loop-i-preserved c =
    let first : Cut → ℤ = λ (cut : Cut). cut.alpha in
    let summand = pairs_part c.args.pools.now.lists c.args.successors.now c.args.cuts.now c.loop-i.i c.cuts-pool.result.now c.index-cuts-i.result c.as_slice.result.now (omega (arith, c.min-i-end.ensures)) (omega (arith, c.min-i-end.ensures)) c.index-cuts-i.is c.cuts-pool.ensures c.as_slice.ensures first in
    sum_step (λ (q : ℕ × List (ℕ × ℕ)). over_pool (pool c.args.pools.now.lists q.0) first q.1) (zip c.args.successors.now c.args.cuts.now) c.loop-i.i (0, c.index-cuts-i.result) (to_z w128 c.loop-i.sum-bits) _ _
    (omega (arith, length-zip c.args.successors.now c.args.cuts.now, c.min-i-end.ensures)) c.loop-i.invariant
    (same_read c.wrapping_add-sum.result (record { sfits = c.wrapping_add-sum.type_inv }) ∙ c.wrapping_add-sum.ensures)
    (same_read c.pool_constants.result (record { sfits = c.pool_constants.type_inv }) ∙ c.pool_constants.ensures ∙ ap (int_wrap w128) summand)

pub returns : goal.returns
returns c =
    let ms : List ℕ = c.args.successors.now in
    let cs : List (List (ℕ × ℕ)) = c.args.cuts.now in
    sum_all (λ (q : ℕ × List (ℕ × ℕ)). over_pool (pool c.args.pools.now.lists q.0) (λ (cut : Cut). cut.alpha) q.1) (zip ms cs) c.loop-i.i (to_z w128 c.loop-i.sum-bits) (omega (arith, length-zip ms cs, c.min-i-end.ensures, c.loop-i-test.false)) c.loop-i.invariant
