-- Cuts, base pools and bounds that were worked out by hand, by computing.
use Rattle.std.proofs.Common.{◌≡◌, pos, negsuc, [], ◌∷◌, refl}
use Rattle.theory.specs.Base.{base}
use Rattle.theory.specs.Bound.{bound}
use Rattle.theory.specs.CutOf.{cut_of}
use Rattle.theory.specs.Examples.{reservoir, reservoir_problem, reservoir_certificate, negative_box, with_row, fork, fork_problem, with_pairs}
use Rattle.theory.specs.Problem.{S, with_weights}

-- 35 - 5v: the average of 40 - 5v and 30 - 5v
pub equal_weights : cut_of [] (reservoir 1) (reservoir_certificate ∷ reservoir_certificate ∷ []) ≡ record { alpha = pos 587202560; beta = negsuc 83886079 ∷ [] }
unfolding S
equal_weights = refl

-- alpha is floor(100 * 2^24 / 3)
pub weights_1_2 : cut_of [] (reservoir 2) (reservoir_certificate ∷ reservoir_certificate ∷ []) ≡ record { alpha = pos 559240533; beta = negsuc 83886079 ∷ [] }
unfolding S
weights_1_2 = refl

pub bound_1_2 : bound (reservoir_problem 2) ((record { alpha = pos 0; beta = pos 0 ∷ [] } ∷ record { alpha = pos 559240533; beta = negsuc 83886079 ∷ [] } ∷ []) ∷ []) ≡ pos 223696213
bound_1_2 = refl

-- with the weights 3 and 1 in place of the node's own: (3*40 + 30)/4 - 5v, and its value at 4
pub given_weights : cut_of [] (with_weights (3 ∷ 1 ∷ []) (reservoir 1)) (reservoir_certificate ∷ reservoir_certificate ∷ []) ≡ record { alpha = pos 629145600; beta = negsuc 83886079 ∷ [] }
unfolding S
given_weights = refl

pub given_bound : bound (reservoir_problem 1) ((record { alpha = pos 0; beta = pos 0 ∷ [] } ∷ record { alpha = pos 629145600; beta = negsuc 83886079 ∷ [] } ∷ []) ∷ []) ≡ pos 293601280
given_bound = refl

-- the remainder meets the lower end -7: without it alpha would be -335544317
pub rounded_over_the_box : cut_of [] negative_box (with_row (pos 1) ∷ with_row (pos 0) ∷ []) ≡ record { alpha = negsuc 335544318; beta = pos 0 ∷ [] }
unfolding S
rounded_over_the_box = refl

-- 8, 4 and (8 + 3*4)/4 at scale 2^24
pub fork_base : base (fork_problem 0) 3 (0 ∷ 1 ∷ 2 ∷ []) ≡ (record { alpha = pos 134217728; beta = pos 0 ∷ [] } ∷ []) ∷ (record { alpha = pos 67108864; beta = pos 0 ∷ [] } ∷ []) ∷ (record { alpha = pos 83886080; beta = pos 0 ∷ [] } ∷ []) ∷ []
unfolding S
fork_base = refl

pub fork_bound : bound (fork_problem 0) (base (fork_problem 0) 3 (0 ∷ 1 ∷ 2 ∷ [])) ≡ pos 83886080
unfolding S
fork_bound = refl

-- with the stop weight 4: (8 + 3*4)/8
pub stop_base : base (fork_problem 4) 3 (0 ∷ 1 ∷ 2 ∷ []) ≡ (record { alpha = pos 134217728; beta = pos 0 ∷ [] } ∷ []) ∷ (record { alpha = pos 67108864; beta = pos 0 ∷ [] } ∷ []) ∷ (record { alpha = pos 41943040; beta = pos 0 ∷ [] } ∷ []) ∷ []
unfolding S
stop_base = refl

pub stop_bound : bound (fork_problem 4) (base (fork_problem 4) 3 (0 ∷ 1 ∷ 2 ∷ [])) ≡ pos 41943040
unfolding S
stop_bound = refl

-- over cuts that fall by 2 and by 1: (3 - (2 + 3*1)*10)/4
pub falling_cuts : cut_of ((record { alpha = pos 50331648; beta = negsuc 33554431 ∷ [] } ∷ []) ∷ (record { alpha = pos 0; beta = negsuc 16777215 ∷ [] } ∷ []) ∷ [] ∷ []) (fork 0) (with_pairs 16777216 50331648 ∷ []) ≡ record { alpha = negsuc 197132287; beta = pos 0 ∷ [] }
unfolding S
falling_cuts = refl
