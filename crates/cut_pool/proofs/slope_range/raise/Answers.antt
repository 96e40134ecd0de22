use Rattle.std.proofs.Common.{◌∙◌, ℤ, ◌<◌, ◌^◌, SFits, nat_abs, arith, rules, ap₂, sym, subst}
use Rattle.std.proofs.lemmas.Int.{to_z-of_z}
use Rattle.std.proofs.lemmas.List.{length-set}
use mir.Syntax.{w64}
use Rattle.base_num.specs.Sums.{entry}
use Rattle.cut_pool.proofs.SlopeRanges.{raised, one_raised, others_stay}
use Rattle.cut_pool.proofs.slope_range.raise.Goals as goal

pub greater-requires-clause-first : goal.greater-requires-clause-first
greater-requires-clause-first c =
    let k = c.loop-j.j in
    let fits : SFits w64 (entry c.args.greatest.now k) = search rules in
    let same = c.loop-j.invariant.rest k (omega arith) in
    subst (λ (z : ℤ). nat_abs z < 2 ^ 57) (sym (to_z-of_z w64 (entry c.loop-j.greatest k) (subst (SFits w64) (sym same) fits) ∙ same)) (c.requires.greatest k _ c.loop-j-test.true)

pub loop-j-preserved : goal.loop-j-preserved
loop-j-preserved c =
    let k = c.loop-j.j in
    let fits : SFits w64 (entry c.args.greatest.now k) = search rules in
    let slope : SFits w64 (entry c.args.slopes.now k) = search rules in
    let same = c.loop-j.invariant.rest k (omega arith) in
    let was = to_z-of_z w64 (entry c.loop-j.greatest k) (subst (SFits w64) (sym same) fits) ∙ same in
    let next = to_z-of_z w64 c.greater.result (record { sfits = c.greater.type_inv }) ∙ c.greater.ensures ∙ ap₂ raised was (to_z-of_z w64 (entry c.args.slopes.now k) slope) in
    record {
      count = length-set c.loop-j.greatest k _ ∙ c.loop-j.invariant.count;
      done = one_raised c.args.greatest.now c.loop-j.greatest c.args.slopes.now k _ (omega (arith, c.loop-j-test.true, c.loop-j.invariant.count)) c.loop-j.invariant.done next;
      rest = others_stay c.args.greatest.now c.loop-j.greatest k _ c.loop-j.invariant.rest;
    }
