-- Affine functions of the variables.
use Rattle.std.specs.Prelude.{ℕ, suc, ℤ, pos, ◌+ℤ◌, List, [], ◌∷◌, ◌++◌, length, replicate, slice_get, slice_set, Option, Some, None, Result, Ok, position, codes, if◌then◌else◌}
use Rattle.std.specs.Option.{option_or}
use Rattle.std.specs.Str.{bytes_eq}
use Rattle.serde_json.specs.Data.{Data, Items}
use Rattle.serde_json.specs.Find.{get}
use Rattle.problem.specs.declared.refusal.Refusal.{Refusal}
use Rattle.problem.specs.declared.refusal.RefusalKind.TheVariants as kinds
use Rattle.problem.specs.declared.refusal.Part.TheVariants as part_kinds
use Rattle.problem.specs.declared.refusal.Place.{Place}
use Rattle.read_json.specs.Steps.{◌>>=◌, walk_items, walk_list}
use Rattle.read_json.specs.Fields.{place, refuse, present_at, string_at, array_at, whole_at}
use Rattle.read_json.specs.Limits.{known_at, limited_at}
use Rattle.read_stage.specs.declared.function.Site.{Site}
use Rattle.read_stage.specs.declared.function.Site.TheVariants.{Objective, Constraint}
use Rattle.read_stage.specs.declared.function.Function.{Function}

-- the place of a function as a whole, with the number 0, and of its term t, with the number t + 1
abbrev pub site_place : Site → ℕ → Place
site_place (Objective p) n = place part_kinds.Objective p n 0
site_place (Constraint p i) n = place part_kinds.Constraint p i n

-- 0 for each of n variables
abbrev pub zeros : ℕ → List ℤ
zeros n = replicate n (pos 0)

abbrev pub zero_function : ℕ → Function
zero_function n = record { single = None; coefficients = zeros n; constant = pos 0 }

-- 1 times the variable v of n variables
abbrev pub single_function : ℕ → ℕ → Function
single_function n v = record { single = Some v; coefficients = slice_set (zeros n) v (pos 1); constant = pos 0 }

-- the name stands under `name`, or under `variable` where `name` is absent
unfoldable pub variable_function_at : List (List ℕ) → Place → Data → Result Function Refusal
variable_function_at names at d = do
  inner ← present_at at (option_or (get (codes "name") d) (get (codes "variable") d))
  name ← string_at at inner
  v ← known_at at (position (bytes_eq name) names)
  Ok (single_function (length names) v)

-- the sums with more added to that of the variable v
abbrev pub raised_by : Option ℤ → List ℤ → ℕ → ℤ → List ℤ
raised_by None sums v more = sums
raised_by (Some sum) sums v more = slice_set sums v (sum +ℤ more)

unfoldable pub raised : List ℤ → ℕ → ℤ → List ℤ
raised sums v more = raised_by (slice_get sums v) sums v more

-- term t adds its coefficient to the sum of its variable
unfoldable pub term_at : List (List ℕ) → Site → List ℤ → ℕ → Data → Result (List ℤ) Refusal
term_at names site sums t d = do
  number ← present_at (site_place site (suc t)) (get (codes "coefficient") d)
  coefficient ← whole_at (site_place site (suc t)) number
  inner ← present_at (site_place site (suc t)) (get (codes "variable") d)
  name ← string_at (site_place site (suc t)) inner
  v ← known_at (site_place site (suc t)) (position (bytes_eq name) names)
  Ok (raised sums v coefficient)

-- one sum per variable
unfoldable pub terms_at : List (List ℕ) → Site → Items → Result (List ℤ) Refusal
terms_at names site ds = walk_items (term_at names site) (zeros (length names)) 0 ds

-- 0 where it is absent
unfoldable pub constant_at : Place → Option Data → Result ℤ Refusal
constant_at at None = Ok (pos 0)
constant_at at (Some d) = whole_at at d

-- one more sum, within the limit
unfoldable pub coefficient_at : Place → List ℤ → ℤ → Result (List ℤ) Refusal
coefficient_at at found sum = do
  coefficient ← limited_at at sum
  Ok (found ++ coefficient ∷ [])

unfoldable pub coefficients_at : Place → List ℤ → Result (List ℤ) Refusal
coefficients_at at sums = walk_list (λ found i sum. coefficient_at at found sum) [] 0 sums

-- all terms, then the constant, then the sums of the coefficients
unfoldable pub affine_function_at : List (List ℕ) → Site → Data → Result Function Refusal
affine_function_at names site d = do
  inner ← present_at (site_place site 0) (get (codes "terms") d)
  terms ← array_at (site_place site 0) inner
  sums ← terms_at names site terms
  constant ← constant_at (site_place site 0) (get (codes "constant") d)
  coefficients ← coefficients_at (site_place site 0) sums
  Ok (record { single = None; coefficients = coefficients; constant = constant })

unfoldable pub function_at : List (List ℕ) → Site → Data → Result Function Refusal
function_at names site d = do
  inner ← present_at (site_place site 0) (get (codes "type") d)
  kind ← string_at (site_place site 0) inner
  if bytes_eq kind (codes "Variable") then variable_function_at names (site_place site 0) d
      else (if bytes_eq kind (codes "ScalarAffineFunction") then affine_function_at names site d
      else refuse kinds.Unsupported (site_place site 0))
