use Rattle.std.proofs.Common.{List, ℕ, ◌∙◌, ◌++◌, ◌∷◌, [], ap}
use Rattle.serde_json.specs.Written.{has_float, compact_text}
use Rattle.hydro_make.specs.Text.{hydro_text}
use Rattle.hydro_make.proofs.Plain.{hydro_plain}
use Rattle.hydro_make.proofs.making.text.Goals as goal

pub returns : goal.returns
unfolding hydro_text
returns c =
    c.in_ok-push.ensures.items
    ∙ ap (λ (t : List ℕ). t ++ 10 ∷ []) (c.in_ok-text.ensures.text (ap has_float c.in_ok-value.ensures ∙ (hydro_plain c.args.plants.now).whole) ∙ ap compact_text c.in_ok-value.ensures)
