-- Duals of rows: of the first rows a list, of some others pairs, and 0 of all others.
use Rattle.std.specs.Prelude.{ℕ, zero, suc, ◌-◌, ◌<◌, ◌≤◌, pos, int_lt, nat_lt, nat_le, ◌==◌, Bool, false, not, ◌&&◌, List, [], ◌∷◌, ◌++◌, length, get_or, Option, Some, None, if◌then◌else◌, ⊤}
use Rattle.lp_program.specs.declared.fixed.Fx.{Fx}
use Rattle.lp_program.specs.Numbers.{zero_fx}

-- the dual of row i among pairs of a row and its dual: that of its first pair, 0 where it has none
abbrev pub dual_among : List (ℕ × Fx) → ℕ → Fx
dual_among [] i = zero_fx
dual_among (p ∷ ps) i = if p.0 == i then p.1 else dual_among ps i

-- the duals of n rows, from row i on
abbrev pub spread : List (ℕ × Fx) → ℕ → ℕ → List Fx
spread ps i zero = []
spread ps i (suc n) = dual_among ps i ∷ spread ps (suc i) n

-- the duals of the first rows, and those of the others up to n
abbrev pub joined : List Fx → List (ℕ × Fx) → ℕ → List Fx
joined first ps n = first ++ spread ps (length first) (n - length first)

-- the rows of pairs rise, from row `low` on and below row `high`
abbrev pub RiseWithin : ℕ → ℕ → List (ℕ × Fx) → Type 0
RiseWithin low high [] = ⊤
RiseWithin low high (p ∷ ps) = (low ≤ p.0) × (p.0 < high) × RiseWithin (suc p.0) high ps

-- pairs of rows behind the first ones, of n rows in all
pub record AreDuals (first : List Fx) (ps : List (ℕ × Fx)) (n : ℕ) : Type 0 where
  pub count : length first ≤ n
  pub rise : RiseWithin (length first) n ps

abbrev pub is_zero : Fx → Bool
is_zero f = not (int_lt (pos 0) f.0) && not (int_lt f.0 (pos 0))

-- pairs with one before them, unless its dual is 0
abbrev pub with_dual : ℕ → Fx → List (ℕ × Fx) → List (ℕ × Fx)
with_dual i f ps = if is_zero f then ps else (i, f) ∷ ps

-- the dual of row i, 0 where it is missing
abbrev pub dual_in : List Fx → ℕ → Fx
dual_in duals i = get_or duals i zero_fx

-- of n duals, from number k on, those that are not 0, with their numbers
abbrev pub not_zero : (ℕ → Fx) → ℕ → ℕ → List (ℕ × Fx)
not_zero dual k zero = []
not_zero dual k (suc n) = with_dual k (dual k) (not_zero dual (suc k) n)

-- pairs with this dual of row k, where it belongs
abbrev pub with_pair : ℕ → Fx → List (ℕ × Fx) → List (ℕ × Fx)
with_pair k f [] = with_dual k f []
with_pair k f (p ∷ ps) = if nat_lt p.0 k then p ∷ with_pair k f ps else (if p.0 == k then (k, f) ∷ ps else with_dual k f (p ∷ ps))

-- how many of the first pairs are of rows before row k
abbrev pub place_of : ℕ → List (ℕ × Fx) → ℕ
place_of k [] = 0
place_of k (p ∷ ps) = if nat_lt p.0 k then suc (place_of k ps) else 0

-- the pair is there, and it is of row k
abbrev pub is_of : ℕ → Option (ℕ × Fx) → Bool
is_of k None = false
is_of k (Some p) = p.0 == k

-- a pair of one of so many rows, numbered from row `from` on, unless its dual is 0
abbrev pub kept : ℕ → ℕ → ℕ × Fx → List (ℕ × Fx)
kept from count p = if nat_le from p.0 && nat_lt (p.0 - from) count then with_dual (p.0 - from) p.1 [] else []

abbrev pub all_kept : ℕ → ℕ → List (ℕ × Fx) → List (ℕ × Fx)
all_kept from count [] = []
all_kept from count (p ∷ ps) = kept from count p ++ all_kept from count ps
