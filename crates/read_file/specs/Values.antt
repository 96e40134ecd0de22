-- Values of random variables.
use Rattle.std.specs.Prelude.{ℕ, ℤ, List, [], ◌∷◌, ◌++◌, Option, Some, None, Result, Ok, slice_get}
use Rattle.serde_json.specs.Data.{Members}
use Rattle.serde_json.specs.Find.{get_member}
use Rattle.problem.specs.declared.parts.Subproblem.{Subproblem}
use Rattle.problem.specs.declared.refusal.Refusal.{Refusal}
use Rattle.problem.specs.declared.refusal.Part.{Part}
use Rattle.problem.specs.declared.refusal.Place.{Place}
use Rattle.read_json.specs.Steps.{◌>>=◌, walk_list}
use Rattle.read_json.specs.Fields.{place, whole_at, present_at}

-- the random variables of a subproblem, none where it is absent
abbrev pub randoms_in : Option Subproblem → List (List ℕ)
randoms_in None = []
randoms_in (Some sub) = sub.randoms

abbrev pub randoms_of : List Subproblem → ℕ → List (List ℕ)
randoms_of subs p = randoms_in (slice_get subs p)

-- a whole number under the random variable's name
unfoldable pub random_value_at : Place → Members → List ℤ → List ℕ → Result (List ℤ) Refusal
random_value_at p support found name = do
  inner ← present_at p (get_member name support)
  value ← whole_at p inner
  Ok (found ++ value ∷ [])

-- each random variable i at the part's place a, b, i
unfoldable pub values_at : Part → ℕ → ℕ → List (List ℕ) → Members → Result (List ℤ) Refusal
values_at part a b randoms support = walk_list (λ found i name. random_value_at (place part a b i) support found name) [] 0 randoms
