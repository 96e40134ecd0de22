-- Chains of solves: programs of one node, solved one after another.
use Rattle.std.specs.Prelude.{List, [], ◌∷◌, All, ⊤}
use Rattle.lp_program.specs.declared.programs.Program.{Program}
use Rattle.lp_program.specs.declared.programs.Answer.{Answer}
use Rattle.lp_program.specs.Proper.{IsLike}

-- the answers of a chain that holds c
abbrev pub answers : {C : Type 0} → (C → Program → Answer × C) → C → List Program → List Answer
answers next c [] = []
answers next c (lp ∷ lps) = (next c lp).0 ∷ answers next (next c lp).1 lps

-- the answers of a chain that begins with its first program; without programs nothing is begun
abbrev pub chained : {C : Type 0} → (Program → C) → (C → Program → Answer × C) → List Program → List Answer
chained begun next [] = []
chained begun next (lp ∷ lps) = answers next (begun lp) (lp ∷ lps)

-- the programs of one chain: the first is proper, and all are like it
abbrev pub AreAlike : List Program → Type 0
AreAlike [] = ⊤
AreAlike (lp ∷ lps) = All (IsLike lp) (lp ∷ lps)
