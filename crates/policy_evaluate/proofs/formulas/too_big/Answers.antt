use Rattle.std.proofs.Common.{◌≡◌, ◌∙◌, ℕ, ◌*◌, ◌^◌, min, true, false, is_some, Option, Some, None, refl, sym, ap, ap₂}
use Rattle.problem.specs.declared.formulas.TooMuch.{TooMuch}
use Rattle.problem.specs.Formulas.{above, or_then}
use Rattle.policy_evaluate.specs.TooBig.{most_size, root_denominator, too_big_of}
use Rattle.policy_evaluate.proofs.formulas.too_big.Goals as goal

first_there : (t u : Option TooMuch) → is_some t ≡ true → t ≡ or_then t u
first_there None u e = absurd (no e)
  where
    no : false ≡ true → ⊥
    no h = cc
first_there (Some t) u e = refl

first_absent : (t u : Option TooMuch) → is_some t ≡ false → u ≡ or_then t u
first_absent None u e = refl
first_absent (Some t) u e = absurd (no e)
  where
    no : true ≡ false → ⊥
    no h = cc

pub returns-then-is_some : goal.returns-then-is_some
unfolding too_big_of
returns-then-is_some c =
    let p = c.args.problem.now in
    let t = c.above-branches.result in
    let is = c.above-branches.ensures ∙ ap (λ (k : ℕ). above 5 (2 ^ 16) k) c.in_ok-branch_count.ensures in
    let tail : Option TooMuch = or_then (above 6 (2 ^ 40) (min (root_denominator p) (2 ^ 41))) (above 7 (2 ^ 60) (min (p.longest * most_size p) (2 ^ 61))) in
    first_there t tail (sym c.is_some.ensures ∙ c.if-is_some.true) ∙ ap (λ (o : Option TooMuch). or_then o tail) is

pub returns-then-is_some-2 : goal.returns-then-is_some-2
unfolding too_big_of
returns-then-is_some-2 c =
    let p = c.args.problem.now in
    let t = c.above-branches.result in
    let u = c.above-denominator.result in
    let first = c.above-branches.ensures ∙ ap (λ (k : ℕ). above 5 (2 ^ 16) k) c.in_ok-branch_count.ensures in
    let second = c.above-denominator.ensures ∙ ap (λ (k : ℕ). above 6 (2 ^ 40) k) c.in_ok-denominator.ensures in
    let tail : Option TooMuch = above 7 (2 ^ 60) (min (p.longest * most_size p) (2 ^ 61)) in
    first_there u tail (sym c.is_some-2.ensures ∙ c.if-is_some-2.true) ∙ first_absent t (or_then u tail) (sym c.is_some.ensures ∙ c.if-is_some.false)
    ∙ ap₂ (λ (a b : Option TooMuch). or_then a (or_then b tail)) first second

pub returns : goal.returns
unfolding too_big_of
returns c =
    let t = c.above-branches.result in
    let u = c.above-denominator.result in
    let v = c.above.result in
    let first = c.above-branches.ensures ∙ ap (λ (k : ℕ). above 5 (2 ^ 16) k) c.in_ok-branch_count.ensures in
    let second = c.above-denominator.ensures ∙ ap (λ (k : ℕ). above 6 (2 ^ 40) k) c.in_ok-denominator.ensures in
    let third = c.above.ensures ∙ ap (λ (k : ℕ). above 7 (2 ^ 60) k) c.path_size.ensures in
    first_absent u v (sym c.is_some-2.ensures ∙ c.if-is_some-2.false) ∙ first_absent t (or_then u v) (sym c.is_some.ensures ∙ c.if-is_some.false)
    ∙ ap₂ (λ (a b : Option TooMuch). or_then a b) first (ap₂ (λ (a b : Option TooMuch). or_then a b) second third)
