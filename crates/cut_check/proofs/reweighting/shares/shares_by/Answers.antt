use Rattle.std.proofs.Common.{◌≡◌, ◌+◌, ℕ, ℤ, List, [], ◌∷◌, ◌++◌, length, get_or, ap, sym, subst, ◌∙◌, arith}
use Rattle.std.proofs.lemmas.List.{get_or_default, length-append}
use Rattle.theory.specs.declared.cut.Certificate.{Certificate}
use Rattle.cut_check.specs.declared.reweighting.shares.Share.{Share}
use Rattle.cut_check.specs.Shares.{IsShare}
use Rattle.cut_check.proofs.Sharing.{Each, each_more}
use Rattle.cut_check.proofs.reweighting.shares.shares_by.Goals as goal

pub loop-r-init : goal.loop-r-init
loop-r-init c =
    let none : length c.new-found.result ≡ 0 = ap length c.new-found.ensures in
    record { count = none; each = λ r x v d h. absurd (omega (arith, h, none)) }

pub loop-r-preserved : goal.loop-r-preserved
loop-r-preserved c =
    let a = c.args.here.now in
    let r : ℕ = c.loop-r.r in
    let found : List Share = c.loop-r.found in
    let own : List ℤ = c.as_slice.result.now in
    let list : List Certificate = c.args.list.now in
    let here : IsShare a.pools.now.lists a.node.now a.subproblem.now a.low.now a.high.now own c.index-list-r.result c.share_of.result = record { size = c.share_of.ensures.size; constant = c.share_of.ensures.constant } in
    let values : own ≡ get_or a.node.now.values r own =
    c.as_slice.ensures ∙ c.index-values-r.is ∙ ap (λ (xs : List (List ℤ)). get_or xs r c.index-values-r.result) c.as_slice-values.ensures
    ∙ get_or_default a.node.now.values r c.index-values-r.result own (omega (arith, c.loop-r-test.true, c.requires.list)) in
    let is : c.push.new.self ≡ found ++ c.share_of.result ∷ [] = c.in_ok-push.ensures in
    let count : length c.push.new.self ≡ length found + 1 = ap length is ∙ length-append found (c.share_of.result ∷ []) in
    record {
      count = omega (arith, count, c.loop-r.invariant.count);
      each = subst (Each a.pools.now.lists a.node.now a.subproblem.now a.low.now a.high.now list) (sym is)
          (each_more a.pools.now.lists a.node.now a.subproblem.now a.low.now a.high.now list found r c.share_of.result c.loop-r.invariant.count
          (λ v d.
          subst (λ (xs : List ℤ). IsShare a.pools.now.lists a.node.now a.subproblem.now a.low.now a.high.now xs (get_or list r d) c.share_of.result)
          (values ∙ get_or_default a.node.now.values r own v (omega (arith, c.loop-r-test.true, c.requires.list)))
          (subst (λ (k : Certificate). IsShare a.pools.now.lists a.node.now a.subproblem.now a.low.now a.high.now own k c.share_of.result)
          (c.index-list-r.is ∙ get_or_default list r c.index-list-r.result d c.loop-r-test.true) here))
          c.loop-r.invariant.each);
    }

pub returns : goal.returns
returns c = record { count = omega (arith, c.loop-r.invariant.count, c.loop-r.auto.r-end, c.loop-r-test.false); each = c.loop-r.invariant.each }
