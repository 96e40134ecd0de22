use Rattle.std.proofs.Common.{◌≡◌, ◌<◌, ◌-◌, ◌+◌, ◌++◌, ◌∷◌, [], ℕ, List, length, take, get_or, ap, sym, ◌∙◌, arith, rules}
use Rattle.std.proofs.lemmas.List.{length-append, length-set, length-take-le, take_more}
use Rattle.theory.specs.declared.cut.Certificate.{Certificate}
use Rattle.plan_backward.specs.Certifying.{placed}
use Rattle.plan_backward.proofs.Placed.{placed-push}
use Rattle.plan_backward.proofs.places.place.Goals as goal

pub loop-left-preserved-in-Some : goal.loop-left-preserved-in-Some
loop-left-preserved-in-Some c =
    let order : List ℕ = c.args.order.now in
    let k : ℕ = c.loop-left.left - 1 in
    let i : ℕ = get_or order k 0 in
    let before : List Certificate = c.pop.new.self.items in
    let some : 0 < c.loop-left.left = search rules in
    let suc_k : c.loop-left.left ≡ k + 1 = omega (arith, some) in
    let inside : k < length order = omega (arith, some, c.loop-left.invariant.within) in
    let items = c.in-Some.ensures.items in
    let count : length before ≡ k = omega (arith, ap (λ (l : List Certificate). length l) items, length-append before (c.in-Some.certificate ∷ []), c.loop-left.invariant.count, some) in
    let taken : length (take k order) ≡ k = length-take-le k order (omega (arith, inside)) in
    record {
      value = ap (λ (l : List Certificate). placed (take k order) before l) c.set.ensures
          ∙ sym (placed-push (take k order) i before c.in-Some.certificate c.loop-left.list (count ∙ sym taken))
          ∙ ap (λ (o : List ℕ). placed o (before ++ c.in-Some.certificate ∷ []) c.loop-left.list) (sym (take_more order k 0 inside))
          ∙ ap (λ (n : ℕ). placed (take n order) (before ++ c.in-Some.certificate ∷ []) c.loop-left.list) (sym suc_k)
          ∙ ap (λ (cs : List Certificate). placed (take c.loop-left.left order) cs c.loop-left.list) (sym items)
          ∙ c.loop-left.invariant.value;
      count = count;
      size = ap (λ (l : List Certificate). length l) c.set.ensures ∙ length-set c.loop-left.list i c.in-Some.certificate ∙ c.loop-left.invariant.size;
      within = omega (arith, inside);
    }
