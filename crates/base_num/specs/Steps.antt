-- Steps one after another, of which each may refuse, and what code that may run out of memory gives of them.
use Rattle.std.specs.Prelude.{◌≡◌, Result, Ok, Err}

infixl 10 ◌>>=◌
abbrev pub ◌>>=◌ : {A B E : Type 0} → Result A E → (A → Result B E) → Result B E
(Ok x) >>= f = f x
(Err e) >>= f = Err e

-- A function gives what the steps give: its answer, seen by view, is equal to it; fails gives the meaning of its error.
abbrev pub GivesOr : {X Y E F : Type 0} → (F → Result Y E → Type 0) → (X → Y) → Result X F → Result Y E → Type 0
GivesOr fails view (Ok x) steps = steps ≡ Ok (view x)
GivesOr fails view (Err e) steps = fails e steps
