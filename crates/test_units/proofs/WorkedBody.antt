-- The body of a record of two bytes.
use Rattle.std.proofs.Common.{[], ◌∷◌, refl, arith}
use Rattle.journal_file.specs.Layout.{body_of, IsBody}

pub two_bytes : IsBody (0 ∷ 0 ∷ 0 ∷ 2 ∷ 120 ∷ 121 ∷ 0 ∷ [])
unfolding body_of
two_bytes = (120 ∷ 121 ∷ [], omega arith, refl)
