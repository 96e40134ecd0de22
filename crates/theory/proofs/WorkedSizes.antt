-- Sizes that were worked out by hand, some at the edge of 128 bits, by computing.
use Rattle.std.proofs.lemmas.Int.{ints}
use Rattle.std.proofs.Common.{◌*◌, negsuc, arith, ◌≡◌, ◌-◌, ◌^◌, pos, [], ◌∷◌, Some, None, refl}
use Rattle.theory.specs.Base.{base_list, base}
use Rattle.theory.specs.Examples.{reservoir, reservoir_certificate, negative_box, with_row, fork, fork_problem, with_pairs, edge, edge_twice}
use Rattle.theory.specs.Problem.{S, node_at}
use Rattle.theory.specs.Range.{range_of}
use Rattle.theory.specs.Size.{remainder_size, size_of, RangeAt}

pub edge_base : size_of [] (edge (pos (2 ^ 39 - 1))) (base_list (edge (pos (2 ^ 39 - 1)))) ≡ pos (2 ^ 127 - 2 ^ 48)
unfolding S
edge_base = refl

pub edge_within : size_of [] (edge (pos (2 ^ 39 - 1))) (with_row (pos 16777215) ∷ []) ≡ pos (2 ^ 127 - 2 ^ 24)
unfolding S
edge_within = refl

pub edge_beyond : size_of [] (edge (pos (2 ^ 39 - 1))) (with_row (pos 16777216) ∷ []) ≡ pos (2 ^ 127)
unfolding S
edge_beyond = refl

pub wide_base : size_of [] (edge (pos (2 ^ 39))) (base_list (edge (pos (2 ^ 39)))) ≡ pos (2 ^ 127)
unfolding S
wide_base = refl

-- at inflow 1: rows 45 + 5, decisions 5*10 + 10*8 + 10*20, state 5*10; at inflow 3 ten more; all at scale 2^48
pub reservoir_size : size_of [] (reservoir 1) (reservoir_certificate ∷ reservoir_certificate ∷ []) ≡ pos (870 * 2 ^ 48)
unfolding S
reservoir_size = refl

-- the second realization twice
pub reservoir_size_1_2 : size_of [] (reservoir 2) (reservoir_certificate ∷ reservoir_certificate ∷ []) ≡ pos (1310 * 2 ^ 48)
unfolding S
reservoir_size_1_2 = refl

-- the constant 8, and 1*8 + 3*4 over the cuts of the successors
pub constant_size : size_of [] (node_at (fork_problem 0) 0) (base_list (node_at (fork_problem 0) 0)) ≡ pos (8 * 2 ^ 48)
unfolding S
constant_size = refl

pub fork_size : size_of (base (fork_problem 0) 3 (0 ∷ 1 ∷ 2 ∷ [])) (fork 0) (base_list (fork 0)) ≡ pos (20 * 2 ^ 48)
unfolding S
fork_size = refl

-- over cuts that fall by 2 and by 1: 3 + (2 + 3*1)*10
pub falling_size : size_of ((record { alpha = pos 50331648; beta = negsuc 33554431 ∷ [] } ∷ []) ∷ (record { alpha = pos 0; beta = negsuc 16777215 ∷ [] } ∷ []) ∷ [] ∷ []) (fork 0) (with_pairs 16777216 50331648 ∷ []) ≡ pos (53 * 2 ^ 48)
unfolding S
falling_size = refl

-- the remainder 2^24 of the negative box, times 7
pub box_remainder : remainder_size negative_box (with_row (pos 1) ∷ with_row (pos 0) ∷ []) ≡ pos (7 * 2 ^ 24)
unfolding S
box_remainder = refl

-- the size passes the range at the first realization
pub passes : RangeAt [] (edge (pos (2 ^ 39))) (base_list (edge (pos (2 ^ 39)))) 0
unfolding S
passes = record { within = omega arith; before = omega (arith, ints); beyond = omega (arith, ints) }

-- where the size passes the range: at the first realization, or only with the remainder 2^24
pub edge_in_range : range_of [] (edge (pos (2 ^ 39 - 1))) (with_row (pos 16777215) ∷ []) ≡ None
unfolding S
edge_in_range = refl

pub edge_out_of_range : range_of [] (edge (pos (2 ^ 39 - 1))) (with_row (pos 16777216) ∷ []) ≡ Some 0
unfolding S
edge_out_of_range = refl

pub remainders_in_range : range_of [] edge_twice (with_row (pos 16777215) ∷ with_row (pos 16777215) ∷ []) ≡ None
unfolding S
remainders_in_range = refl

pub remainders_out_of_range : range_of [] edge_twice (with_row (pos 16777216) ∷ with_row (pos 16777215) ∷ []) ≡ Some 2
unfolding S
remainders_out_of_range = refl
