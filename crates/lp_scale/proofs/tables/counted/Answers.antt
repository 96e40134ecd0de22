use Rattle.std.proofs.Common.{◌+◌, ◌-◌, ◌++◌, ◌∷◌, [], List, ℕ, ap, sym, ◌∙◌, append_assoc}
use Rattle.lp_scale.specs.Walks.{count_from}
use Rattle.lp_scale.proofs.Weights.{count_more}
use Rattle.lp_scale.proofs.tables.counted.Goals as goal

pub loop-j-preserved : goal.loop-j-preserved
loop-j-preserved c =
    let j : ℕ = c.loop-j.j in
    let tail : List ℕ = count_from (j + 1) (c.args.count - (j + 1)) in
    c.loop-j.invariant ∙ ap (λ (xs : List ℕ). c.loop-j.found ++ xs) (count_more c.args.count j c.loop-j-test.true) ∙ sym (append_assoc c.loop-j.found (j ∷ []) tail) ∙ ap (λ (xs : List ℕ). xs ++ tail) (sym c.in_ok-push.ensures)
