-- Keys beside the names of states.
use Rattle.std.proofs.Common.{◌≡◌, ◌==◌, List, [], ◌∷◌, length, refl, arith}
use Rattle.std.proofs.lemmas.Bool.{ne_eqb}
use Rattle.serde_json.specs.Data.{no_members}
use Rattle.problem.specs.declared.parts.State.{State}
use Rattle.read_stage.specs.States.{are_keys}

pub are_keys-none : (ss : List State) → (length ss == 0) ≡ are_keys ss no_members
are_keys-none [] = refl
are_keys-none (s ∷ ss) = ne_eqb (length (s ∷ ss)) 0 (λ e. absurd (omega arith))
