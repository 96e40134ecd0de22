-- Certificates from the duals of a solver's answer, which need not be right.
-- A solver's numbers stand over 2^32, multipliers over 2^24.
use Rattle.std.specs.Prelude.{ℕ, zero, suc, ◌+◌, ◌-◌, ◌*◌, ◌/◌, ◌^◌, min, ℤ, pos, negsuc, List, [], ◌∷◌, length, get_or, map, drop, set, nat_lt, if◌then◌else◌}
use Rattle.std.specs.Int.{int_min, int_max}
use Rattle.base_num.specs.Sums.{floor_over}
use Rattle.problem.specs.declared.parts.Row.{Row}
use Rattle.theory.specs.declared.cut.Cut.{Cut}
use Rattle.theory.specs.declared.cut.Certificate.{Certificate}
use Rattle.theory.specs.Problem.{S, Successor, Node}
use Rattle.theory.specs.Pools.{pool}
use Rattle.theory.specs.Base.{base_certificate}
use Rattle.lp_program.specs.declared.fixed.Fx.{Fx}
use Rattle.lp_program.specs.declared.programs.Answer.{Answer}
use Rattle.lp_program.specs.declared.programs.Kind.{Kind}
use Rattle.lp_program.specs.declared.programs.Kind.TheVariants.{Found, Ray, Stuck}
use Rattle.lp_program.specs.Numbers.{zero_fx}
use Rattle.cut_make.specs.Acceptance.{is_sign}

-- the dual of row i, 0 where it is missing
abbrev pub row_dual : List Fx → ℕ → ℤ
row_dual duals i = (get_or duals i zero_fx).0

-- how often the scale of multipliers, 2^24, goes into that of duals, 2^32
abbrev pub finer : ℕ
finer = 2 ^ 32 / 2 ^ 24

-- at the scale of multipliers, rounded down
abbrev pub rescaled_multiplier : ℤ → ℤ
rescaled_multiplier z = floor_over z finer

-- the nearest number of 64 bits
abbrev pub clamped_number : ℤ → ℤ
clamped_number z = int_max (negsuc (2 ^ 63 - 1)) (int_min (pos (2 ^ 63 - 1)) z)

-- 0 where it is positive without a lower side or negative without an upper
abbrev pub signed : Row → ℤ → ℤ
signed row y = if is_sign row y then y else pos 0

-- a row's multiplier: its dual over a divisor, rounded down
abbrev pub row_multiplier_over : ℕ → Row → ℤ → ℤ
row_multiplier_over divisor row dual = signed row (clamped_number (floor_over dual divisor))

-- the multipliers of rows, the first of which has the number i
abbrev pub row_multipliers_over : ℕ → ℕ → List Row → List Fx → List ℤ
row_multipliers_over divisor i [] duals = []
row_multipliers_over divisor i (row ∷ rows) duals = row_multiplier_over divisor row (row_dual duals i) ∷ row_multipliers_over divisor (suc i) rows duals

-- the duals of rows at the scale of multipliers
abbrev pub settled_rows : ℕ → List Row → List Fx → List ℤ
settled_rows i rows duals = row_multipliers_over finer i rows duals

abbrev pub positive_part : ℤ → ℕ
positive_part (pos n) = n
positive_part (negsuc n) = 0

-- the multiplier that the dual of a cut gives
abbrev pub cut_multiplier : ℤ → ℕ
cut_multiplier dual = positive_part (rescaled_multiplier dual)

-- the multipliers of count cuts, the first of which has the place k
abbrev pub cut_multipliers : List Fx → ℕ → ℕ → List ℕ
cut_multipliers duals k zero = []
cut_multipliers duals k (suc count) = cut_multiplier (row_dual duals k) ∷ cut_multipliers duals (suc k) count

-- in order each keeps at most the rest of the target
abbrev pub capped : ℕ → List ℕ → List ℕ
capped left [] = []
capped left (v ∷ vs) = min v left ∷ capped (left - v) vs

-- the amount that is left when all have kept theirs
abbrev pub missing : ℕ → List ℕ → ℕ
missing left [] = left
missing left (v ∷ vs) = missing (left - v) vs

-- the least place of the greatest: that of vs, from the place k on, where it is above `most`, which stands at `best`
abbrev pub greatest_place_from : ℕ → ℕ → ℕ → List ℕ → ℕ
greatest_place_from best most k [] = best
greatest_place_from best most k (v ∷ vs) = if nat_lt most v then greatest_place_from k v (suc k) vs else greatest_place_from best most (suc k) vs

abbrev pub place_of_greatest : List ℕ → ℕ
place_of_greatest vs = greatest_place_from 0 0 0 vs

-- with so much more at a place
abbrev pub raised_place : List ℕ → ℕ → ℕ → List ℕ
raised_place vs k more = set vs k (get_or vs k 0 + more)

-- the places, from k on, whose multiplier is not 0
abbrev pub pairs_from : ℕ → List ℕ → List (ℕ × ℕ)
pairs_from k [] = []
pairs_from k (zero ∷ vs) = pairs_from (suc k) vs
pairs_from k (suc v ∷ vs) = (k, suc v) ∷ pairs_from (suc k) vs

-- where so much goes: rounding down takes less than a unit of each multiplier above 0; more than that is the reduced cost of the
-- successor's cost at its least value, and goes to the first cut, which states that value; else to the greatest
abbrev pub place_of_missing : ℕ → List ℕ → ℕ
place_of_missing more vs = if nat_lt (length (pairs_from 0 vs)) more then 0 else place_of_greatest vs

-- the target shared out: each keeps at most what is left, and what is missing then goes to one place; where something is
-- missing, each has kept all
abbrev pub shared : ℕ → List ℕ → List ℕ
shared target vs = raised_place (capped target vs) (place_of_missing (missing target vs) (capped target vs)) (missing target vs)

-- pairs, with so much more at the one of this number
abbrev pub raised_pair : List (ℕ × ℕ) → ℕ → ℕ → List (ℕ × ℕ)
raised_pair ss i more = set ss i ((get_or ss i (0, 0)).0, (get_or ss i (0, 0)).1 + more)

-- pairs with so much more at the first cut
abbrev pub raised_first : List (ℕ × ℕ) → ℕ → List (ℕ × ℕ)
raised_first [] more = (0, more) ∷ []
raised_first ((zero, v) ∷ ss) more = (0, v + more) ∷ ss
raised_first ((suc k, v) ∷ ss) more = (0, more) ∷ (suc k, v) ∷ ss

-- pairs with the shortfall: more than a unit a pair at the first cut, and else at the greatest of their multipliers
abbrev pub topped : List (ℕ × ℕ) → ℕ → List (ℕ × ℕ)
topped ss more = if nat_lt (length ss) more then raised_first ss more else raised_pair ss (place_of_greatest (map (λ (t : ℕ × ℕ). t.1) ss)) more

-- the pairs of a successor with so many cuts, whose duals come first
abbrev pub settled_pairs : ℕ → ℕ → List Fx → List (ℕ × ℕ)
settled_pairs target count duals = pairs_from 0 (shared target (cut_multipliers duals 0 count))

-- the pairs of the successors, the duals of whose cuts follow one another
abbrev pub settled_successors : List (List Cut) → List Successor → List Fx → List (List (ℕ × ℕ))
settled_successors pools [] duals = []
settled_successors pools (l ∷ ls) duals = settled_pairs (S * l.weight) (length (pool pools l.node)) duals ∷ settled_successors pools ls (drop (length (pool pools l.node)) duals)

-- duals of a node's rows, then of its successors' cuts
abbrev pub settled_duals : List (List Cut) → Node → List Fx → Certificate
settled_duals pools n duals = record { rows = settled_rows 0 n.rows duals; cuts = settled_successors pools n.successors (drop (length n.rows) duals) }

-- the duals that are made use of: those of a claimed solution
abbrev pub used_duals : Kind → List Fx → List Fx
used_duals Found duals = duals
used_duals Ray duals = []
used_duals Stuck duals = []

-- only an answer that claims a solution is settled by its duals
abbrev pub settled_by : Kind → List (List Cut) → Node → List Fx → Certificate
settled_by Found pools n duals = settled_duals pools n duals
settled_by Ray pools n duals = base_certificate n
settled_by Stuck pools n duals = base_certificate n

-- Settle: the certificate of an answer at a node
unfoldable pub settled_of : List (List Cut) → Node → Answer → Certificate
settled_of pools n answer = settled_by answer.kind pools n answer.duals
