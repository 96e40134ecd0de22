-- Steps along a list, each of which may stop.
use Rattle.std.specs.Prelude.{ℕ, suc, Bool, true, false, ◌≡◌, List, [], ◌∷◌, Option, Some, None}
use Rattle.std.specs.Option.{option_and_then}

-- from s on, by the items of a list, of which the first is number k; none where a step stops
abbrev pub fold_from : {A S : Type 0} → (ℕ → S → A → Option S) → ℕ → S → List A → Option S
fold_from step k s [] = Some s
fold_from step k s (x ∷ xs) = option_and_then (λ t. fold_from step (suc k) t xs) (step k s x)

-- true where there is a new value, false where a step stops
abbrev pub ReachesNew : {A : Type 0} → Bool → Option A → A → Type 0
ReachesNew true made new = made ≡ Some new
ReachesNew false made new = made ≡ None

-- a step that stops leaves the old value
abbrev pub ReachesOrKeeps : {A : Type 0} → Bool → Option A → A → A → Type 0
ReachesOrKeeps true made old new = made ≡ Some new
ReachesOrKeeps false made old new = (made ≡ None) × (new ≡ old)
