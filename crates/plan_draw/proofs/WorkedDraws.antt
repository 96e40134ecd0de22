-- Worked rows.
use Rattle.std.proofs.Common.{◌≡◌, ℕ, List, [], ◌∷◌, get_or, refl}
use Rattle.rand_chacha.specs.Block.{block_word, double_rounds, diagonal_round, column_round, quarter_round}
use Rattle.rand_core.specs.Steps.{u32_at}
use Rattle.problem.specs.declared.parts.Node.{Node}
use Rattle.problem.specs.declared.parts.ProblemParts.{ProblemParts}
use Rattle.plan_draw.specs.Picked.{picked, stop_weight}
use Rattle.plan_draw.specs.Drawn.{key_bytes, path_from, stream_of, word_in}

last_word_of_the_first : picked (1 ∷ 3 ∷ []) 1073741823 ≡ 0
unfolding picked
last_word_of_the_first = refl

first_word_of_the_second : picked (1 ∷ 3 ∷ []) 1073741824 ≡ 1
unfolding picked
first_word_of_the_second = refl

one_choice : picked (1 ∷ []) 4294967295 ≡ 0
unfolding picked
one_choice = refl

last_word_of_the_successors : picked (1 ∷ 3 ∷ stop_weight 4) 2147483647 ≡ 1
unfolding picked
last_word_of_the_successors = refl

first_word_of_the_stop : picked (1 ∷ 3 ∷ stop_weight 4) 2147483648 ≡ 2
unfolding picked
first_word_of_the_stop = refl

seed_in_front : key_bytes 258 ≡ 2 ∷ 1 ∷ 0 ∷ 0 ∷ 0 ∷ 0 ∷ 0 ∷ 0 ∷ 0 ∷ 0 ∷ 0 ∷ 0 ∷ 0 ∷ 0 ∷ 0 ∷ 0 ∷ 0 ∷ 0 ∷ 0 ∷ 0 ∷ 0 ∷ 0 ∷ 0 ∷ 0 ∷ 0 ∷ 0 ∷ 0 ∷ 0 ∷ 0 ∷ 0 ∷ 0 ∷ 0 ∷ []
unfolding key_bytes
seed_in_front = refl

-- the second word of stream 1 and of stream 3, by ChaCha20 of RFC 8439 with the seed as the key's first byte
second_word : word_in (stream_of 7 1) 1 ≡ 4234461783
unfolding word_in stream_of key_bytes u32_at block_word double_rounds diagonal_round column_round quarter_round
second_word = refl

second_word_of_another : word_in (stream_of 7 3) 1 ≡ 2408307216
unfolding word_in stream_of key_bytes u32_at block_word double_rounds diagonal_round column_round quarter_round
second_word_of_another = refl

-- two realizations of weight 1, and then on to a node without successors by weight 1, or an end by weight 1
first : Node
first = record { name = []; sub = 0; weights = 1 ∷ 1 ∷ []; values = [] ∷ [] ∷ []; successors = 1 ∷ []; successor_weights = 1 ∷ []; stop = 1 }

second : Node
second = record { name = []; sub = 0; weights = 1 ∷ []; values = [] ∷ []; successors = []; successor_weights = []; stop = 0 }

two : ProblemParts
two = record { states = []; root = 0 ∷ []; root_weights = 1 ∷ []; nodes = first ∷ second ∷ []; subs = []; scenarios = [] }

-- the words from place 1 on
words : List ℕ → ℕ → ℕ
words ws place = get_or (0 ∷ ws) place 0

goes_on : path_from two (words (2147483648 ∷ 2147483647 ∷ 5 ∷ [])) 2 1 0 ≡ record { node = 0; realization = 1 } ∷ record { node = 1; realization = 0 } ∷ []
unfolding picked first second two words
goes_on = refl

stops_here : path_from two (words (2147483647 ∷ 2147483648 ∷ 5 ∷ [])) 2 1 0 ≡ record { node = 0; realization = 0 } ∷ []
unfolding picked first second two words
stops_here = refl
