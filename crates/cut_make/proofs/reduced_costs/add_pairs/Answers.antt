use Rattle.std.proofs.Common.{◌≡◌, ℕ, ◌<◌, ℤ, pos, ◌+ℤ◌, ◌*ℤ◌, List, length, get_or, to_z, of_z, arith, ap, ap₂, ◌∙◌, take_all}
use mir.Syntax.{w128}
use Rattle.std.specs.Int.{int_wrap}
use Rattle.std.proofs.lemmas.Int.{to_z-of_z}
use Rattle.std.proofs.lemmas.List.{get_or_default}
use Rattle.base_num.specs.Sums.{coefficient, placed}
use Rattle.theory.specs.declared.cut.Cut.{Cut}
use Rattle.theory.specs.Pools.{no_cut}
use Rattle.cut_make.specs.Parts.{over_pool}
use Rattle.cut_make.proofs.Tables.{tabled_as, more_plus}
use Rattle.cut_make.proofs.reduced_costs.add_pairs.Goals as goal

pub loop-place-preserved : goal.loop-place-preserved
loop-place-preserved c =
    let i : ℕ = c.loop-place.place-index in
    let pairs : List (ℕ × ℕ) = c.args.pairs.now in
    let s : ℕ × ℕ = get_or pairs i (0, 0) in
    let multiplier : to_z w128 (of_z w128 c.from.result) ≡ pos s.1 = to_z-of_z w128 c.from.result (record { sfits = c.from.type_inv }) ∙ c.from.ensures in
    let inside : s.0 < length c.args.pool.now = c.requires.there i (0, 0) c.loop-place-test.true in
    let cut : get_or c.args.pool.now s.0 c.index-pool-place.result ≡ get_or c.args.pool.now s.0 no_cut = get_or_default c.args.pool.now s.0 c.index-pool-place.result no_cut inside in
    record {
      count = omega (arith, c.add_slopes.ensures.count, c.loop-place.invariant.count);
      value = λ f t. tabled_as _ _ c.add_slopes.new.sums
          (λ j. let f' : Cut → ℤ = λ (cut : Cut). coefficient (placed c.args.outs.now cut.beta) j in
          ap (int_wrap w128) (more_plus (λ (s : ℕ × ℕ). pos s.1 *ℤ f' (get_or c.args.pool.now s.0 no_cut)) pairs i (0, 0) (f j) _ c.loop-place-test.true
          (ap₂ (λ (a : ℤ) (xs : List ℤ). a *ℤ coefficient (placed c.args.outs.now xs) j) multiplier (c.as_slice.ensures ∙ ap (λ (k : Cut). k.beta) cut))))
          (c.add_slopes.ensures.value _ (c.loop-place.invariant.value f t));
    }

pub returns-clause-value : goal.returns-clause-value
returns-clause-value c = λ f t. tabled_as _ _ c.loop-place.sums
    (λ j. ap (λ (ss : List (ℕ × ℕ)). int_wrap w128 (f j +ℤ over_pool c.args.pool.now (λ (cut : Cut). coefficient (placed c.args.outs.now cut.beta) j) ss)) (take_all c.loop-place.place-index c.args.pairs.now c.loop-place-test.false))
    (c.loop-place.invariant.value f t)
