use Rattle.std.proofs.Common.{◌≡◌, ℕ, ◌+◌, ◌-◌, ◌^◌, ◌<◌, ◌≤◌, ℤ, pos, ◌-ℤ◌, ◌*ℤ◌, ◌≤ℤ◌, nat_abs, List, SFits, w64, length, get_or, slice_set, to_z, of_z, rules, arith, ap, ap₂, sym, subst, ◌∙◌, add-one, ext_get_or}
use Rattle.std.proofs.Math.Logic.{⊎_elim}
use mir.Syntax.{w128}
use Rattle.std.specs.Int.{int_wrap}
use Rattle.std.proofs.lemmas.Bool.{cases_eq}
use Rattle.std.proofs.lemmas.Int.{to_z-of_z}
use Rattle.std.proofs.lemmas.List.{length-set, get_or-set_same, get_or-set_other}
use Rattle.base_num.specs.Sums.{sum_to, entry, floor_over, table}
use Rattle.base_num.proofs.Fronts.{sum_more}
use Rattle.theory.specs.declared.cut.Certificate.{Certificate}
use Rattle.theory.specs.Problem.{Node}
use Rattle.theory.specs.CutOf.{beta_sum, divisor, slope, remainder}
use Rattle.theory.proofs.SizeToFit.{entry_table, length_table}
use Rattle.cut_make.specs.Congruent.{Congruent}
use Rattle.cut_make.specs.Parts.{slope_size}
use Rattle.cut_make.specs.Sized.{unboxed}
use Rattle.cut_make.specs.Tabled.{Tabled}
use Rattle.cut_make.proofs.Congruence.{same_add, same_times, same_read, same_wide}
use Rattle.cut_make.proofs.CutSlopes.{read_slope}
use Rattle.cut_make.proofs.divided.write_slopes.Goals as goal

pub loop-k-preserved : goal.loop-k-preserved
loop-k-preserved c =
    let h = c.args.here.now in
    let n : Node = unboxed h.weights.now h.node.now h.subproblem.now in
    let k : ℕ = c.loop-k.k in
    let xs : List ℤ = c.loop-k.slopes in
    let inside : k < length xs = omega (arith, c.loop-k.invariant.count, c.loop-k-test.true) in
    let low : ℤ = entry h.low.now k in
    let fits : SFits w64 low = search rules in
    let s : ℤ = to_z w128 c.loop-k.sum-bits in
    let b : ℤ = entry c.args.sums.now k in
    let read : SFits w128 b = search rules in
    let under : to_z w128 (of_z w128 c.args.under) ≡ pos (divisor n) = to_z-of_z w128 c.args.under c.ranges.under ∙ c.requires.under in
    let Small : List Certificate → Type 0 = λ (list : List Certificate). (k : ℕ) → k < length h.low.now → slope_size n list k ≤ℤ pos (2 ^ 127 - 1) in
    let own : (list : List Certificate) → Tabled (beta_sum n list) c.args.sums.now → Small list → to_z w128 (of_z w128 b) ≡ beta_sum n list k =
    λ list tabled small. to_z-of_z w128 b read ∙ read_slope n list c.args.sums.now k (omega (arith, c.requires.states, c.loop-k-test.true)) read tabled (small k c.loop-k-test.true) in
    let made : (list : List Certificate) → Tabled (beta_sum n list) c.args.sums.now → Small list → c.write_slope-tail.new.slopes ≡ slice_set xs k (slope n list k) =
    λ list tabled small. c.write_slope-tail.ensures.slope ∙ ap (slice_set xs k) (ap₂ (λ (x y : ℤ). floor_over x (nat_abs y)) (own list tabled small) under) in
    let left : (list : List Certificate) → Tabled (beta_sum n list) c.args.sums.now → Small list → Congruent (to_z w128 (of_z w128 c.write_slope-tail.result)) (remainder n list k) =
    λ list tabled small. same_read c.write_slope-tail.result (record { sfits = c.write_slope-tail.type_inv }) ∙ ap (int_wrap w128) (c.write_slope-tail.ensures.tail ∙ ap₂ (λ (x y : ℤ). x -ℤ y *ℤ floor_over x (nat_abs y)) (own list tabled small) under) in
    let end : Congruent (to_z w128 (of_z w128 c.from.result)) low = same_wide c.from.result low (record { sfits = c.from.type_inv }) fits c.from.ensures in
    record {
      count = ap length c.write_slope-tail.ensures.slope ∙ length-set xs k _ ∙ c.loop-k.invariant.count;
      slopes = λ list tabled small j h. let beta : ℤ = slope n list k in
          ap (λ (ys : List ℤ). entry ys j) (made list tabled small)
          ∙ ⊎_elim (λ (e : j ≡ k). subst (λ (i : ℕ). get_or (slice_set xs k beta) i (pos 0) ≡ slope n list i) (sym e) (get_or-set_same xs k beta (pos 0) inside))
          (λ (e : j ≡ k → ⊥). get_or-set_other xs k j beta (pos 0) e ∙ c.loop-k.invariant.slopes list tabled small j (below j k h e)) (cases_eq j k);
      tail = λ list tabled small. let part : ℕ → ℤ = λ (j : ℕ). remainder n list j *ℤ entry h.low.now j in
          same_read c.wrapping_add_product-sum.result (record { sfits = c.wrapping_add_product-sum.type_inv }) ∙ c.wrapping_add_product-sum.ensures
          ∙ same_add s _ (sum_to k part) (part k) (c.loop-k.invariant.tail list tabled small) (same_times _ _ (remainder n list k) low (left list tabled small) end) ∙ ap (int_wrap w128) (sym (sum_more k part) ∙ ap (λ (m : ℕ). sum_to m part) (sym (add-one k)));
    }
  where
    below : (j k : ℕ) → j < k + 1 → (j ≡ k → ⊥) → j < k
    below j k h e = omega arith

pub returns-clause-slopes : goal.returns-clause-slopes
returns-clause-slopes c = λ list tabled small.
    let f : ℕ → ℤ = slope (unboxed c.args.here.now.weights.now c.args.here.now.node.now c.args.here.now.subproblem.now) list in
    let n : ℕ = length c.args.here.now.low.now in
    ext_get_or (pos 0) c.loop-k.slopes (table n f) (c.loop-k.invariant.count ∙ sym (length_table n f))
    (λ i h. let p : i < n = omega (arith, c.loop-k.invariant.count) in c.loop-k.invariant.slopes list tabled small i (omega (arith, c.loop-k-test.false)) ∙ sym (entry_table n f i p))

pub returns-clause-tail : goal.returns-clause-tail
returns-clause-tail c = λ list tabled small.
    let n : Node = unboxed c.args.here.now.weights.now c.args.here.now.node.now c.args.here.now.subproblem.now in
    c.loop-k.invariant.tail list tabled small ∙ ap (λ (m : ℕ). int_wrap w128 (sum_to m (λ k. remainder n list k *ℤ entry c.args.here.now.low.now k))) (ended c.loop-k.auto.k-end c.loop-k-test.false)
  where
    ended : {m n : ℕ} → m ≤ n → n ≤ m → m ≡ n
    ended h k = omega arith
