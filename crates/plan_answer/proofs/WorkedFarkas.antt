-- The infeasibility that was worked out by hand, by computing.
use Rattle.std.proofs.Common.{◌≡◌, ◌*◌, true, false, pos, negsuc, [], ◌∷◌, refl}
use Rattle.theory.specs.Problem.{S}
use Rattle.theory.specs.Examples.{reservoir}
use Rattle.plan_answer.specs.Farkas.{farkas_value, refutes_of}
use Rattle.plan_answer.specs.Examples.{overloaded}

pub refuting_value : farkas_value overloaded (pos 1 ∷ []) (pos 67108864 ∷ []) (negsuc 16777215 ∷ pos 16777216 ∷ []) ≡ pos (15 * S * S)
unfolding S
refuting_value = refl

pub refuted_load : refutes_of overloaded (pos 1 ∷ []) (pos 67108864 ∷ []) (negsuc 16777215 ∷ pos 16777216 ∷ []) ≡ true
unfolding S refutes_of
refuted_load = refl

pub met_load : refutes_of (reservoir 1) (pos 1 ∷ []) (pos 67108864 ∷ []) (negsuc 16777215 ∷ pos 16777216 ∷ []) ≡ false
unfolding S refutes_of
met_load = refl
