use Rattle.std.proofs.Common.{◌≡◌, ◌<◌, ◌++◌, [], ◌∷◌, List, ℕ, length, get_or, All, sym, ap, ap₂, subst, ◌∙◌, append_assoc, arith, rules}
use Rattle.std.proofs.lemmas.List.{get_or_default}
use Rattle.std.proofs.lemmas.List.Edits.{length-remove}
use Rattle.plan_stage.specs.Orders.{distances, near_by, numbers, place_of_least, nearest_order}
use Rattle.plan_stage.proofs.NearBy.{known_less, length-numbers, near_by_end, near_by_more, numbers_below}
use Rattle.plan_stage.proofs.orders.nearest_order.Goals as goal

pub loop-init : goal.loop-init
loop-init c =
    let n : ℕ = length c.args.values.now in
    let all : c.in_ok-left.left.items ≡ numbers n = search rules in
    let nothing : c.from_vec-order.result ≡ [] = search rules in
    let count : length c.in_ok-left.left.items ≡ n = ap (λ (l : List ℕ). length l) all ∙ length-numbers n in
    record {
      value = ap₂ (λ (o l : List ℕ). o ++ near_by c.args.values.now (length l) 0 l) nothing all ∙ ap (λ (k : ℕ). near_by c.args.values.now k 0 (numbers n)) (length-numbers n);
      count = omega (arith, count);
      known = subst (All (λ i. i < n)) (sym all) (numbers_below n);
      there = λ some. some;
    }

pub loop-preserved : goal.loop-preserved
loop-preserved c =
    let values = c.args.values.now in
    let left = c.loop.left.items in
    let others = c.remove-next.new.self.items in
    let next = c.remove-next.result in
    let inside : c.loop.place < length left = search rules in
    let more = near_by_more values c.loop.place next left others inside c.remove-next.ensures.value c.remove-next.ensures.items in
    let known : next < length values = search rules in
    let at : c.as_slice.result.now ≡ get_or values next [] = c.as_slice.ensures ∙ c.index-values-next.is ∙ get_or_default values next c.index-values-next.result [] known in
    let place = c.nearest-place.ensures.value ∙ ap₂ (λ from l. place_of_least (distances values from l)) at c.as_slice-in-loop.ensures.value in
    record {
      value = ap₂ (λ o p. o ++ near_by values (length others) p others) c.in_ok-push.ensures place
          ∙ append_assoc c.loop.order (next ∷ []) (near_by values (length others) (place_of_least (distances values (get_or values next []) others)) others)
          ∙ ap (λ l. c.loop.order ++ l) (sym more) ∙ c.loop.invariant.value;
      count = omega (arith, c.loop.invariant.count, length-remove left c.loop.place inside, ap (λ (l : List ℕ). length l) c.remove-next.ensures.items);
      known = known_less (length values) c.loop.place next left others inside c.remove-next.ensures.value c.remove-next.ensures.items c.loop.invariant.known;
      there = subst (λ (l : List ℕ). 0 < length l → c.nearest-place.result < length l) c.as_slice-in-loop.ensures.value c.nearest-place.ensures.there;
    }

pub returns : goal.returns
unfolding nearest_order
returns c =
    let over : length c.loop.left.items ≡ 0 = omega (arith, c.loop.invariant.count, c.loop-test.false) in
    sym (near_by_end c.args.values.now c.loop.place c.loop.order c.loop.left.items over) ∙ c.loop.invariant.value
