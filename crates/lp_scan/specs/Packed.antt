-- The values of cuts that stand side by side, at a point.
use Rattle.std.specs.Prelude.{ℕ, ◌+◌, ◌^◌, ℤ, pos, negsuc, ◌+ℤ◌, List, replicate, get_or, slice_set, Option, Some, None, nat_lt, if◌then◌else◌}
use Rattle.base_num.specs.Sums.{entry}
use Rattle.lp_program.specs.declared.packed.Out.{Out}
use Rattle.lp_scale.specs.Walks.{walk}
use Rattle.lp_scan.specs.Values.{Valued, greater_valued}

-- give the number, or 0 where 64 bits do not hold it
abbrev pub short_or_zero : ℤ → ℤ
short_or_zero (pos n) = if nat_lt n (2 ^ 63) then pos n else pos 0
short_or_zero (negsuc n) = if nat_lt n (2 ^ 63) then negsuc n else pos 0

-- add a number at a place, where that is one of the list's
abbrev pub added : ℕ → ℤ → List ℤ → List ℤ
added s v ls = slice_set ls s (entry ls s +ℤ v)

-- adds a decision to its outgoing state
abbrev pub with_leaving : List ℤ → List ℤ → Out → List ℤ
with_leaving xs ls o = added o.state (short_or_zero (entry xs o.decision)) ls

-- the outgoing value of each of 50 states
unfoldable pub leaving_of : List ℤ → List Out → List ℤ
leaving_of xs outs = walk (λ k ls (o : Out). with_leaving xs ls o) 0 (replicate 50 (pos 0)) outs

-- by a cut's number give the program's row of the place with that number in a list
abbrev pub with_program_row : ℕ → List ℕ → Valued → Valued
with_program_row first places v = (first + get_or places v.0 0, v.1)

-- keep the greater of the greatest so far and another, where there is one
abbrev pub greater_or : Option Valued → Option Valued → Option Valued
greater_or best None = best
greater_or best (Some v) = greater_valued best v
