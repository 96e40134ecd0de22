use Rattle.std.proofs.Common.{◌∙◌, ◌-◌, ℕ, List, length, take, set, get_or, ap, sym, arith}
use Rattle.std.proofs.lemmas.List.{length-set}
use Rattle.theory.specs.declared.cut.Cut.{Cut}
use Rattle.theory.specs.Pools.{pool}
use Rattle.cut_pool.specs.declared.entry.EntryStep.{EntryStep}
use Rattle.plan_backward.specs.Sweeping.{taken_back}
use Rattle.plan_backward.proofs.StepsBack.{taken_less}
use Rattle.plan_backward.proofs.passes.take_back.Goals as goal

pub loop-left-preserved : goal.loop-left-preserved
loop-left-preserved c =
    let l = c.loop-left in
    let i = l.left - 1 in
    let s : EntryStep = get_or c.args.steps.now i c.index-steps-left.result in
    let fewer = c.truncate.ensures.cuts ∙ ap (λ (n : ℕ). set l.pools.lists s.node (take n (pool l.pools.lists s.node))) (c.saturating_sub.ensures ∙ ap (λ (n : ℕ). n - 1) c.count-count.ensures.value) in
    record {
      value =
          ap (λ (lists : List (List Cut)). taken_back lists (take i c.args.steps.now)) fewer
          ∙ sym (taken_less l.pools.lists c.args.steps.now i l.left c.index-steps-left.result (omega arith) (omega (arith, l.invariant.within))) ∙ l.invariant.value;
      count = ap (λ (lists : List (List Cut)). length lists) fewer ∙ length-set l.pools.lists s.node (take (length (pool l.pools.lists s.node) - 1) (pool l.pools.lists s.node)) ∙ l.invariant.count;
      within = omega (arith, l.invariant.within);
    }
