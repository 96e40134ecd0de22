-- A text line by line: the promises of its cuts and bounds.
use Rattle.std.specs.Prelude.{◌≡◌, ℕ, ◌<◌, ℤ, pos, List, [], ◌∷◌, ◌++◌, codes, All, ◌==◌, if◌then◌else◌}
use Rattle.theory.specs.declared.cut.Cut.{Cut}
use Rattle.theory.specs.Fraction.{◌≤ᶠ◌}
use Rattle.theory.specs.Problem.{S, Problem}
use Rattle.theory.specs.Tree.{Forest, Policy}
use Rattle.theory.specs.Cost.{policy_cost}
use Rattle.theory.specs.Pools.{Holds}
use Rattle.theory.specs.Bound.{Under}
use Rattle.policy_report.specs.Report.{word, cut_words}

-- a byte in front of the first line
abbrev pub before_lines : ℕ → List (List ℕ) → List (List ℕ)
before_lines b [] = (b ∷ []) ∷ []
before_lines b (l ∷ ls) = (b ∷ l) ∷ ls

-- the text before each newline, and behind the last one where there is any
abbrev pub lines_of : List ℕ → List (List ℕ)
lines_of [] = []
lines_of (b ∷ bs) = if b == 10 then [] ∷ lines_of bs else before_lines b (lines_of bs)

-- the text before the first space
abbrev pub first_word : List ℕ → List ℕ
first_word [] = []
first_word (b ∷ bs) = if b == 32 then [] else b ∷ first_word bs

-- the promises of a line's cut, bound, cost from above, risk cut and worst bound
pub record Claims : Type 1 where
  pub cuts : ℕ → Cut → Type 0
  pub bounds : ℤ → Type 0
  pub uppers : ℤ → Type 0
  pub risk_cuts : ℕ → Cut → Type 0
  pub worsts : ℤ → Type 0

-- the line is of a cut, or of a risk cut, and this holds of it at its node
pub record CutLine (first : List ℕ) (holds : ℕ → Cut → Type 0) (line : List ℕ) : Type 0 where
  pub node : ℕ
  pub place : ℕ
  pub cut : Cut
  pub is : line ≡ first ++ word (pos node) ++ word (pos place) ++ cut_words cut
  pub claimed : holds node cut

-- the line is of a number, of which this holds
pub record NumberLine (first : List ℕ) (holds : ℤ → Type 0) (line : List ℕ) : Type 0 where
  pub number : ℤ
  pub is : line ≡ first ++ word number
  pub claimed : holds number

-- the line is of an iteration and the bound after it
pub record IterationLine (holds : ℤ → Type 0) (line : List ℕ) : Type 0 where
  pub iteration : ℕ
  pub bound : ℤ
  pub is : line ≡ codes "iteration" ++ word (pos iteration) ++ codes " bound" ++ word bound
  pub claimed : holds bound

-- the first word of a line decides what it is
pub record Line (c : Claims) (line : List ℕ) : Type 0 where
  pub cut : first_word line ≡ codes "cut" → CutLine (codes "cut") c.cuts line
  pub bound : first_word line ≡ codes "bound" → NumberLine (codes "bound") c.bounds line
  pub iteration : first_word line ≡ codes "iteration" → IterationLine c.bounds line
  pub upper : first_word line ≡ codes "upper" → NumberLine (codes "upper") c.uppers line
  pub risk_cut : first_word line ≡ codes "plane" → CutLine (codes "plane") c.risk_cuts line
  pub worst : first_word line ≡ codes "worst" → NumberLine (codes "worst") c.worsts line

-- so is each line of the text
abbrev pub Lines : Claims → List ℕ → Type 0
Lines c text = All (Line c) (lines_of text)

-- some policy costs at most u / S, in some fraction of a unit
abbrev pub Above : Problem → ℤ → Type 0
Above p u = (units : ℕ) × (f : Forest) × (0 < units) × Policy p units f × (policy_cost p units f ≤ᶠ record { up = u; under = S })

-- Cuts hold at their nodes, bounds are under the cost of each policy, and numbers from above are above that of some. The promises of risk cuts
-- and worst bounds rest on lists of weights.
abbrev pub claims_of : Problem → (ℕ → Cut → Type 0) → (ℤ → Type 0) → Claims
claims_of p risk_cuts worsts = record { cuts = Holds p; bounds = Under p; uppers = Above p; risk_cuts = risk_cuts; worsts = worsts }

-- each line of the text is sound, and none is of a risk cut or of a worst bound
abbrev pub SoundLines : Problem → List ℕ → Type 0
SoundLines p text = Lines (claims_of p (λ m c. ⊥) (λ b. ⊥)) text
