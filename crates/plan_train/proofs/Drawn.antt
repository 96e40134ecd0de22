-- Paths that are drawn one after another.
use Rattle.std.proofs.Common.{◌≡◌, ℕ, suc, ◌+◌, ◌-◌, ◌<◌, List, [], ◌∷◌, ◌++◌, ap, ap₂, sym, ◌∙◌, append_assoc, arith}
use Rattle.problem.specs.Validated.{Validated}
use Rattle.plan_draw.specs.declared.steps.PathStep.{PathStep}
use Rattle.plan_draw.specs.Drawn.{path}
use Rattle.plan_train.specs.Drawing.{paths_from}

-- one path more was drawn
pub paths-go : (p : Validated) (seed first count place : ℕ) (found new whole : List (List PathStep)) (next : List PathStep) → place < count → next ≡ path p seed (first + place) → new ≡ found ++ next ∷ []
    → found ++ paths_from p seed (first + place) (count - place) ≡ whole → new ++ paths_from p seed (first + (place + 1)) (count - (place + 1)) ≡ whole
paths-go p seed first count place found new whole next lt drawn is h =
    let tail : List (List PathStep) = paths_from p seed (first + (place + 1)) (count - (place + 1)) in
    let split : paths_from p seed (first + place) (count - place) ≡ next ∷ tail =
    ap (λ n. paths_from p seed (first + place) n) (left count place lt)
    ∙ ap₂ (λ (x : List PathStep) (stream : ℕ). x ∷ paths_from p seed stream (count - (place + 1))) (sym drawn) (later first place) in
    ap (λ (ps : List (List PathStep)). ps ++ tail) is ∙ append_assoc found (next ∷ []) tail ∙ ap (λ (ps : List (List PathStep)). found ++ ps) (sym split) ∙ h
  where
    left : (count place : ℕ) → place < count → count - place ≡ suc (count - (place + 1))
    left count place lt = omega arith

    later : (first place : ℕ) → suc (first + place) ≡ first + (place + 1)
    later first place = omega arith
