use Rattle.std.proofs.Common.{ℕ, ℤ, ◌+ℤ◌, List, zip, arith, ap, take_all}
use mir.Syntax.{w128}
use Rattle.std.specs.Int.{int_wrap}
use Rattle.std.proofs.lemmas.Slice.Zip.{length-zip}
use Rattle.base_num.specs.Sums.{total, coefficient, placed}
use Rattle.theory.specs.declared.cut.Cut.{Cut}
use Rattle.theory.specs.Pools.{pool}
use Rattle.cut_make.specs.Parts.{over_pool}
use Rattle.cut_make.proofs.Beside.{pairs_there, pairs_part}
use Rattle.cut_make.proofs.Tables.{tabled_as, more_plus}
use Rattle.cut_make.proofs.reduced_costs.add_successors.Goals as goal

pub add_pairs-requires-clause-there : goal.add_pairs-requires-clause-there
add_pairs-requires-clause-there c =
    pairs_there c.args.pools.now.lists c.args.successors.now c.args.cuts.now c.loop-i.i c.cuts.result.now c.index-cuts-i.result c.as_slice.result.now (omega (arith, c.min-i-end.ensures)) (omega (arith, c.min-i-end.ensures)) c.index-cuts-i.is c.cuts.ensures c.as_slice.ensures c.requires.there

pub loop-i-preserved : goal.loop-i-preserved
loop-i-preserved c =
    let lists : List (List Cut) = c.args.pools.now.lists in
    let slope : ℕ → Cut → ℤ = λ (j : ℕ) (cut : Cut). coefficient (placed c.args.outs.now cut.beta) j in
    let summand = pairs_part lists c.args.successors.now c.args.cuts.now c.loop-i.i c.cuts.result.now c.index-cuts-i.result c.as_slice.result.now (omega (arith, c.min-i-end.ensures)) (omega (arith, c.min-i-end.ensures)) c.index-cuts-i.is c.cuts.ensures c.as_slice.ensures in
    record {
      count = omega (arith, c.add_pairs.ensures.count, c.loop-i.invariant.count);
      value = λ f t. tabled_as _ _ c.add_pairs.new.sums
          (λ j. ap (int_wrap w128) (more_plus (λ (q : ℕ × List (ℕ × ℕ)). over_pool (pool lists q.0) (slope j) q.1) (zip c.args.successors.now c.args.cuts.now) c.loop-i.i (0, c.index-cuts-i.result) (f j) _ (omega (arith, length-zip c.args.successors.now c.args.cuts.now, c.min-i-end.ensures)) (summand (slope j))))
          (c.add_pairs.ensures.value _ (c.loop-i.invariant.value f t));
    }

pub returns-clause-value : goal.returns-clause-value
returns-clause-value c =
    let ms : List ℕ = c.args.successors.now in
    let cs : List (List (ℕ × ℕ)) = c.args.cuts.now in
    λ f t. tabled_as _ _ c.loop-i.sums
    (λ j. ap (λ (qs : List (ℕ × List (ℕ × ℕ))). int_wrap w128 (f j +ℤ total (λ (q : ℕ × List (ℕ × ℕ)). over_pool (pool c.args.pools.now.lists q.0) (λ (cut : Cut). coefficient (placed c.args.outs.now cut.beta) j) q.1) qs))
    (take_all c.loop-i.i (zip ms cs) (omega (arith, length-zip ms cs, c.min-i-end.ensures, c.loop-i-test.false))))
    (c.loop-i.invariant.value f t)
