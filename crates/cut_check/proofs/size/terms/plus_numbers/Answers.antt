use Rattle.std.proofs.Common.{ℕ, ◌≡◌, ◌≤◌, ◌^◌, ◌+◌, ◌*◌, nat_abs, pos, get_or, SFits, w64, rules, ap, ap₂, ◌∙◌, subst, length}
use Rattle.std.proofs.lemmas.Int.{to_z-of_z}
use Rattle.base_num.specs.Sums.{entry}
use Rattle.cut_check.proofs.Amounts.{counts_more, counts_past}
use Rattle.cut_check.proofs.size.terms.plus_numbers.Goals as goal

pub returns-in_err-sum : goal.returns-in_err-sum
returns-in_err-sum g c =
    let f : ℕ → ℕ = λ k. nat_abs (entry c.args.numbers.now k) * g.M.Multiples.at c.args.multiples.now k in
    let fits : SFits w64 (get_or c.args.numbers.now c.loop-k.k (pos 0)) = search rules in
    let is : c.absolute.result * c.at.result ≡ f c.loop-k.k = ap₂ ◌*◌ (c.absolute.ensures ∙ ap nat_abs (to_z-of_z w64 _ fits)) c.at.ensures in
    rw c.from_residual.ensures
    (counts_past f c.loop-k.k c.args.size.total c.loop-k.sum.total c.loop-k.invariant (length c.args.numbers.now) c.loop-k-test.true (subst (λ (z : ℕ). 2 ^ 127 ≤ c.loop-k.sum.total + z) is c.in_err-sum.ensures))

pub loop-k-preserved : goal.loop-k-preserved
loop-k-preserved g c =
    let f : ℕ → ℕ = λ k. nat_abs (entry c.args.numbers.now k) * g.M.Multiples.at c.args.multiples.now k in
    let fits : SFits w64 (get_or c.args.numbers.now c.loop-k.k (pos 0)) = search rules in
    let is : c.absolute.result * c.at.result ≡ f c.loop-k.k = ap₂ ◌*◌ (c.absolute.ensures ∙ ap nat_abs (to_z-of_z w64 _ fits)) c.at.ensures in
    counts_more f c.loop-k.k c.args.size.total c.loop-k.sum.total c.loop-k.invariant c.in_ok-sum.sum.total (c.in_ok-sum.ensures ∙ ap (λ (z : ℕ). c.loop-k.sum.total + z) is)
