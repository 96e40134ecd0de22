-- Types that are private to the reader.
use Rattle.std.proofs.Common.{List, Result}

-- the type of a value, of what a step finds, of what a function takes, and of the entries of a list
abbrev pub TypeOf : {A : Type 0} → A → Type 0
TypeOf {A} a = A

abbrev pub Finds : {A E : Type 0} → Result A E → Type 0
Finds {A} r = A

abbrev pub Takes : {A B : Type 0} → (A → B) → Type 0
Takes {A} f = A

abbrev pub Entries : {A : Type 0} → List A → Type 0
Entries {A} xs = A
