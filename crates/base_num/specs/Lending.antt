-- The final values of a list whose values are lent to be changed.
use Rattle.std.specs.Prelude.{List, ◌++◌, length, take, drop}
use Rattle.std.specs.Borrow.{Lends, Fml, RattleType, MutBor, Array}
use Rattle.base_num.specs.contracts.list.List.{the_row}

-- the values old with as many of them written over by new ones; the new ones where they are as many
abbrev pub written_over : {A : Type 0} → List A → List A → List A
written_over old items = take (length old) (items ++ drop (length items) old)

-- once the loan r ends, the list has the values that r shows last
abbrev pub LendsItems : (T : RattleType) → MutBor (List T.Denot) → MutBor (List T.Denot) → Fml
LendsItems T v r = Lends (the_row T) (Array T 0) v r (written_over v.now)
