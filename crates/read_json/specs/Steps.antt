-- Steps that may refuse, and the contracts of code that takes them.
use Rattle.std.specs.Prelude.{◌≡◌, ℕ, suc, List, [], ◌∷◌, Result, Ok, Err}
use Rattle.serde_json.specs.Data.{Data, Items, no_items, item, Members, no_members, member}
pub use Rattle.base_num.specs.Steps.{◌>>=◌}
use Rattle.base_num.specs.Steps.{GivesOr}
use Rattle.problem.specs.declared.refusal.Refusal.{Refusal}
use Rattle.read_json.specs.declared.refusal.ReadRefusal.{ReadRefusal}
use Rattle.read_json.specs.declared.refusal.ReadRefusal.TheVariants as refusals

-- The meaning of a function's error: the refusal that the definition gives, or that memory ran out.
abbrev pub Fails : {Y : Type 0} → ReadRefusal → Result Y Refusal → Type 0
Fails (refusals.Refused r) read = read ≡ Err r
Fails refusals.Memory read = Unit {0}

-- A function gives what the definition reads: its answer, seen by view, is equal to it, unless memory ran out.
abbrev pub Gives : {X Y : Type 0} → (X → Y) → Result X ReadRefusal → Result Y Refusal → Type 0
Gives view result read = GivesOr Fails view result read

-- the members one after another, with their numbers; what was found so far is handed on
unfoldable pub walk_members : {A E : Type 0} → (A → ℕ → List ℕ → Data → Result A E) → A → ℕ → Members → Result A E
walk_members step found i no_members = Ok found
walk_members step found i (member k d ms) = do
  next ← step found i k d
  walk_members step next (suc i) ms

-- the items one after another
unfoldable pub walk_items : {A E : Type 0} → (A → ℕ → Data → Result A E) → A → ℕ → Items → Result A E
walk_items step found i no_items = Ok found
walk_items step found i (item d ds) = do
  next ← step found i d
  walk_items step next (suc i) ds

-- the entries of a list one after another
unfoldable pub walk_list : {A B E : Type 0} → (A → ℕ → B → Result A E) → A → ℕ → List B → Result A E
walk_list step found i [] = Ok found
walk_list step found i (x ∷ xs) = do
  next ← step found i x
  walk_list step next (suc i) xs

-- Like `Gives`, for a function that takes no memory, with any refusal.
abbrev pub Shows : {X Y E : Type 0} → (X → Y) → Result X E → Result Y E → Type 0
Shows view result read = GivesOr (λ e steps. steps ≡ Err e) view result read
