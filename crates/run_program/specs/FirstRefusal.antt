-- Checks in an order, and the first of them that finds a refusal.
use Rattle.std.specs.Prelude.{◌≡◌, ℕ, zero, suc, List, [], ◌∷◌, ◌++◌, Bool, Option, Some, None, Result, Ok, Err, if◌then◌else◌}
use Rattle.std.specs.List.{AllByRecursion}
use Rattle.std.specs.Option.{option_or}
use Rattle.serde_json.specs.Data.{Data, Items, no_items, item, Members, no_members, member}
use Rattle.problem.specs.declared.refusal.Place.{Place}
use Rattle.problem.specs.declared.refusal.Refusal.{Refusal}
use Rattle.problem.specs.declared.refusal.RefusalKind.{RefusalKind}

-- A check by its name and the numbers of what it looks at, with the refusal that it finds in the bytes of a file. It finds none where
-- something is missing that it needs.
pub record Check (R : Type 0) : Type 0 where
  pub name : List ℕ
  pub numbers : List ℕ
  pub finds : List ℕ → Option R

abbrev pub check : {R : Type 0} → List ℕ → List ℕ → (List ℕ → Option R) → Check R
check name numbers finds = record { name = name; numbers = numbers; finds = finds }

-- the finding of the first check that finds something
abbrev pub first : {R : Type 0} → List (Check R) → List ℕ → Option R
first [] bytes = None
first (c ∷ cs) bytes = option_or (c.finds bytes) (first cs bytes)

-- the checks of the number i, and of the n - 1 numbers after it
abbrev pub of_each : {R : Type 0} → (ℕ → List (Check R)) → ℕ → ℕ → List (Check R)
of_each checks i zero = []
of_each checks i (suc n) = checks i ++ of_each checks (suc i) n

-- none of the checks finds anything
abbrev pub FindNothing : {R : Type 0} → List ℕ → List (Check R) → Type 0
FindNothing {R = R} bytes checks = AllByRecursion (λ (c : Check R). c.finds bytes ≡ None) checks

-- one of the checks finds the refusal, and no check before it finds anything
pub record IsFirst {R : Type 0} (checks : List (Check R)) (bytes : List ℕ) (r : R) : Type 0 where
  pub before : List (Check R)
  pub check : Check R
  pub after : List (Check R)
  pub listed : checks ≡ before ++ check ∷ after
  pub nothing : FindNothing bytes before
  pub found : check.finds bytes ≡ Some r

-- ---- members and items by their numbers

abbrev pub nth_member : ℕ → Members → Option (List ℕ × Data)
nth_member n no_members = None
nth_member zero (member k d ms) = Some (k, d)
nth_member (suc n) (member k d ms) = nth_member n ms

abbrev pub nth_item : ℕ → Items → Option Data
nth_item n no_items = None
nth_item zero (item d ds) = Some d
nth_item (suc n) (item d ds) = nth_item n ds

-- ---- what a step of the reader gives

-- the value, where it is not refused
abbrev pub there : {A R : Type 0} → Result A R → Option A
there (Ok x) = Some x
there (Err r) = None

abbrev pub refusal_of : {A R : Type 0} → Result A R → Option R
refusal_of (Ok x) = None
refusal_of (Err r) = Some r

-- the refusal of a test that fails
abbrev pub failing : Bool → RefusalKind → Place → Option Refusal
failing test kind at = if test then None else Some (record { kind = kind; place = at })
