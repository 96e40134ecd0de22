-- Whole numbers, and members of an object in order.
use Rattle.std.specs.Prelude.{ℕ, zero, suc, ◌+◌, ◌%◌, ℤ, List, [], ◌∷◌}
use Rattle.serde_json.specs.Data.{Data, Members, no_members, member, number, unsigned, put}
use Rattle.serde_json.specs.Find.{of_integer}

-- n members, numbered from i on
abbrev pub members_from : (ℕ → List ℕ) → (ℕ → Data) → ℕ → ℕ → Members
members_from key value i zero = no_members
members_from key value i (suc n) = member (key i) (value i) (members_from key value (suc i) n)

-- a member for each
abbrev pub members_by : {A : Type 0} → (A → List ℕ) → (A → Data) → List A → Members
members_by key value [] = no_members
members_by key value (x ∷ xs) = member (key x) (value x) (members_by key value xs)

abbrev pub whole_data : ℕ → Data
whole_data n = number (unsigned n)

abbrev pub integer : ℤ → Data
integer z = number (of_integer z)

-- the last digit of a number
abbrev pub digit : ℕ → ℕ
digit n = 48 + n % 10

-- a member for each, put one after another among others
abbrev pub put_by : {A : Type 0} → (A → List ℕ) → (A → Data) → List A → Members → Members
put_by key value [] ms = ms
put_by key value (x ∷ xs) ms = put_by key value xs (put (key x) (value x) ms)
