use Rattle.std.proofs.Common.{◌≡◌, ℕ, ℤ, List, ◌+◌, ◌^◌, length, get_or, drop, arith, ap, sym, ◌∙◌}
use Rattle.std.proofs.lemmas.List.{drop_more}
use Rattle.base_num.specs.Sums.{Term}
use Rattle.lp_price.specs.Finish.{less_term, less_terms}
use Rattle.lp_price.specs.Within.{AreWithin}
use Rattle.lp_price.proofs.Small.{wider, rising_inside, rising_few}
use Rattle.lp_price.proofs.finishing.less_terms.Goals as goal

pub less_term-requires-clause-inside : goal.less_term-requires-clause-inside
less_term-requires-clause-inside c =
    let inside = rising_inside 0 (length c.args.rests.now) c.args.terms.now c.loop-k.k c.index-terms-k.result c.requires.inside c.loop-k-test.true in
    let e : c.index-terms-k.result.0 ≡ (get_or c.args.terms.now c.loop-k.k c.index-terms-k.result).0 = ap (λ (t : Term). t.0) c.index-terms-k.is in
    omega (arith, inside, e, c.loop-k.invariant.lengths)

pub less_term-requires-clause-small : goal.less_term-requires-clause-small
less_term-requires-clause-small c =
    wider (2 ^ 23 + c.loop-k.k) (2 ^ 24) c.loop-k.rests (omega (arith, rising_few 0 (length c.args.rests.now) c.args.terms.now c.requires.inside, c.requires.few, c.loop-k-test.true)) (c.loop-k.invariant.within (2 ^ 23) c.requires.small)

pub loop-k-preserved : goal.loop-k-preserved
loop-k-preserved c = record {
  rests = c.loop-k.invariant.rests
      ∙ ap (less_terms c.args.dual c.loop-k.rests) (drop_more c.args.terms.now c.loop-k.k c.index-terms-k.result c.loop-k-test.true)
      ∙ ap (λ (t : Term). less_terms c.args.dual (less_term c.args.dual c.loop-k.rests t) (drop (c.loop-k.k + 1) c.args.terms.now)) (sym c.index-terms-k.is)
      ∙ ap (λ (rs : List ℤ). less_terms c.args.dual rs (drop (c.loop-k.k + 1) c.args.terms.now)) (sym c.less_term.ensures.rests);
  lengths = c.less_term.ensures.lengths ∙ c.loop-k.invariant.lengths;
  within = λ (most : ℕ) (h : AreWithin most c.args.rests.now). wider (most + c.loop-k.k + 1) (most + (c.loop-k.k + 1)) c.less_term.new.rests (omega arith) (c.less_term.ensures.within (most + c.loop-k.k) (c.loop-k.invariant.within most h));
}

pub returns-clause-within : goal.returns-clause-within
returns-clause-within c =
    λ (most : ℕ) (h : AreWithin most c.args.rests.now). wider (most + c.loop-k.k) (most + 1199) c.loop-k.rests (omega (arith, rising_few 0 (length c.args.rests.now) c.args.terms.now c.requires.inside, c.requires.few, c.loop-k.auto.k-end)) (c.loop-k.invariant.within most h)
