use Rattle.std.proofs.Common.{◌≡◌, [], ap, ◌∙◌, sym}
use Rattle.serde_json.specs.View.{members_view}
use Rattle.read_stage.specs.States.{are_keys}
use Rattle.read_stage.proofs.Names.{are_keys-none}
use Rattle.read_stage.proofs.states.are_states.Goals as goal

pub returns : goal.returns
returns c =
    let l = c.loop-name in
    let none : l.name-iterator ≡ [] = c.in-None.ensures.steps.0 in
    c.is_empty.ensures ∙ are_keys-none l.left.now ∙ sym (ap (λ es. are_keys l.left.now (members_view es)) none) ∙ l.invariant.same
