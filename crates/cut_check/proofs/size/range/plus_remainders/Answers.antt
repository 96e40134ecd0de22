use Rattle.std.proofs.Common.{ℕ, ℤ, ◌≡◌, ◌≤◌, ◌<◌, ◌^◌, ◌+◌, ◌*◌, ◌-ℤ◌, ◌*ℤ◌, ◌≤ℤ◌, nat_abs, pos, [], get_or, SFits, w64, to_z, of_z, rules, arith, ap, ap₂, sym, ◌∙◌, subst, length}
use Rattle.std.proofs.lemmas.Int.{ints, to_z-of_z}
use mir.Syntax.{w128}
use Rattle.base_num.specs.Sums.{entry, floor_over}
use Rattle.theory.specs.Problem.{Node}
use Rattle.theory.specs.CutOf.{beta_sum, divisor, remainder}
use Rattle.cut_make.specs.SizeByTerms.{count_by}
use Rattle.cut_make.specs.Sized.{unboxed}
use Rattle.cut_check.proofs.Amounts.{counts_more, counts_past}
use Rattle.cut_check.proofs.SizeRange.{divisor_is, divisor_some}
use Rattle.cut_make.proofs.CutSlopes.{read_slope}
use Rattle.cut_check.proofs.size.range.plus_remainders.Goals as goal

pub tail-remainder-requires : goal.tail-remainder-requires
tail-remainder-requires c =
    let h = c.args.here.now in
    subst (λ (z : ℤ). pos 1 ≤ℤ z) (sym (to_z-of_z w128 c.divisor-under.result (record { sfits = c.divisor-under.type_inv }) ∙ c.divisor-under.ensures)) (one (divisor_some h.pools.now.lists h.node.now h.subproblem.now h.low.now [] h.weights.now c.requires.sized))
  where
    one : {n : ℕ} → 0 < n → pos 1 ≤ℤ pos n
    one h = omega (arith, ints)

pub returns-in_err-sum : goal.returns-in_err-sum
returns-in_err-sum c = λ list table small.
    let h = c.args.here.now in
    let n : Node = unboxed h.weights.now h.node.now h.subproblem.now in
    let k : ℕ = c.loop-k.k in
    let f : ℕ → ℕ = λ k. nat_abs (remainder n list k) * nat_abs (entry h.low.now k) in
    let fits : SFits w64 (get_or h.low.now k (pos 0)) = search rules in
    let b : ℤ = entry c.args.sums.now k in
    let read : SFits w128 b = search rules in
    let own : to_z w128 (of_z w128 b) ≡ beta_sum n list k =
    to_z-of_z w128 b read ∙ read_slope n list c.args.sums.now k (omega (arith, c.requires.table, c.requires.sized.states, c.loop-k-test.true)) read table (small k c.loop-k-test.true) in
    let under : nat_abs (to_z w128 (of_z w128 c.divisor-under.result)) ≡ divisor n = ap nat_abs (to_z-of_z w128 c.divisor-under.result (record { sfits = c.divisor-under.type_inv }) ∙ c.divisor-under.ensures) ∙ sym (divisor_is h.pools.now.lists h.node.now h.subproblem.now h.low.now [] h.weights.now c.requires.sized) in
    let left : c.tail-remainder.result ≡ nat_abs (remainder n list k) = c.tail-remainder.ensures ∙ ap₂ (λ (z : ℤ) (d : ℕ). nat_abs (z -ℤ pos d *ℤ floor_over z d)) own under in
    let is : c.tail-remainder.result * c.absolute.result ≡ f k = ap₂ ◌*◌ left (c.absolute.ensures ∙ ap nat_abs (to_z-of_z w64 _ fits)) in
    rw c.from_residual.ensures
    (counts_past f k c.args.size.total c.loop-k.sum.total (c.loop-k.invariant list table small) (length h.low.now) c.loop-k-test.true (subst (λ (z : ℕ). 2 ^ 127 ≤ c.loop-k.sum.total + z) is c.in_err-sum.ensures))

pub loop-k-preserved : goal.loop-k-preserved
loop-k-preserved c = λ list table small.
    let h = c.args.here.now in
    let n : Node = unboxed h.weights.now h.node.now h.subproblem.now in
    let k : ℕ = c.loop-k.k in
    let f : ℕ → ℕ = λ k. nat_abs (remainder n list k) * nat_abs (entry h.low.now k) in
    let fits : SFits w64 (get_or h.low.now k (pos 0)) = search rules in
    let b : ℤ = entry c.args.sums.now k in
    let read : SFits w128 b = search rules in
    let own : to_z w128 (of_z w128 b) ≡ beta_sum n list k =
    to_z-of_z w128 b read ∙ read_slope n list c.args.sums.now k (omega (arith, c.requires.table, c.requires.sized.states, c.loop-k-test.true)) read table (small k c.loop-k-test.true) in
    let under : nat_abs (to_z w128 (of_z w128 c.divisor-under.result)) ≡ divisor n = ap nat_abs (to_z-of_z w128 c.divisor-under.result (record { sfits = c.divisor-under.type_inv }) ∙ c.divisor-under.ensures) ∙ sym (divisor_is h.pools.now.lists h.node.now h.subproblem.now h.low.now [] h.weights.now c.requires.sized) in
    let left : c.tail-remainder.result ≡ nat_abs (remainder n list k) = c.tail-remainder.ensures ∙ ap₂ (λ (z : ℤ) (d : ℕ). nat_abs (z -ℤ pos d *ℤ floor_over z d)) own under in
    let is : c.tail-remainder.result * c.absolute.result ≡ f k = ap₂ ◌*◌ left (c.absolute.ensures ∙ ap nat_abs (to_z-of_z w64 _ fits)) in
    counts_more f k c.args.size.total c.loop-k.sum.total (c.loop-k.invariant list table small) c.in_ok-sum.sum.total (c.in_ok-sum.ensures ∙ ap (λ (z : ℕ). c.loop-k.sum.total + z) is)

pub returns : goal.returns
returns c = λ list table small.
    let n : Node = unboxed c.args.here.now.weights.now c.args.here.now.node.now c.args.here.now.subproblem.now in
    c.loop-k.invariant list table small ∙ ap (λ (m : ℕ). c.args.size.total + count_by m (λ k. nat_abs (remainder n list k) * nat_abs (entry c.args.here.now.low.now k))) (ended c.loop-k.auto.k-end c.loop-k-test.false)
  where
    ended : {m n : ℕ} → m ≤ n → n ≤ m → m ≡ n
    ended h k = omega arith
