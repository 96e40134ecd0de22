-- The path that a seed and a stream's number draw, and the paths of a problem's graph.
use Rattle.std.specs.Prelude.{◌≡◌, ℕ, zero, suc, ◌+◌, ◌<◌, ◌⊎◌, List, [], ◌∷◌, ◌++◌, length, map, replicate, get_or, slice_get, Option, Some, None, All, Contains}
use Rattle.std.specs.Int.{w64, to_le_bytes}
use Rattle.rand_chacha.specs.ChaCha.{ChaCha, word_at, key_of}
use Rattle.problem.specs.declared.parts.Node.{Node}
use Rattle.problem.specs.declared.parts.ProblemParts.{ProblemParts}
use Rattle.problem.specs.Parts.{successors_at, weights_at}
use Rattle.problem.specs.Validated.{Validated}
use Rattle.plan_draw.specs.declared.steps.PathStep.{PathStep}
use Rattle.plan_draw.specs.Picked.{picked, stop_weight}

-- the bytes of the key: the seed's, the low one first, and 24 zeros
unfoldable pub key_bytes : ℕ → List ℕ
key_bytes seed = to_le_bytes w64 seed ++ replicate 24 0

-- the start of a stream
unfoldable pub stream_of : ℕ → ℕ → ChaCha
stream_of seed stream = record { key = key_of (key_bytes seed); stream = stream; word_pos = 0 }

-- the word of ChaCha20 at a place of a generator's stream
unfoldable pub word_in : ChaCha → ℕ → ℕ
word_in g place = word_at 10 g.key g.stream place

-- the weights of the node's successors, and then its stop weight where it is at least 1
abbrev pub choices : Node → List ℕ
choices n = n.successor_weights ++ stop_weight n.stop

abbrev pub choices_at : ProblemParts → ℕ → List ℕ
choices_at parts m = get_or (map choices parts.nodes) m []

-- the stop weight of the node m
abbrev pub stop_weight_at : ProblemParts → ℕ → ℕ
stop_weight_at parts m = get_or (map (λ (n : Node). n.stop) parts.nodes) m 0

-- the node where a path begins
abbrev pub first_node : ProblemParts → ℕ → Option ℕ
first_node parts word = slice_get parts.root (picked parts.root_weights word)

-- the step at the node m: the word picks the realization
abbrev pub step_at : ProblemParts → ℕ → ℕ → PathStep
step_at parts m word = record { node = m; realization = picked (weights_at parts m) word }

-- the node after m that the word picks. There is none where m has no successors, or where the word picks the stop weight, which stands behind those of the successors.
abbrev pub next_node : ProblemParts → ℕ → ℕ → Option ℕ
next_node parts m word = slice_get (successors_at parts m) (picked (choices_at parts m) word)

-- the steps from a node on, none where there is no node
abbrev pub steps_from_node : (ℕ → List PathStep) → Option ℕ → List PathStep
steps_from_node from None = []
steps_from_node from (Some m) = from m

-- the steps from the node m on, of at most n: the word at the place picks the realization, the one behind it the next node
abbrev pub path_from : ProblemParts → (ℕ → ℕ) → ℕ → ℕ → ℕ → List PathStep
path_from parts word zero place m = []
path_from parts word (suc n) place m = step_at parts m (word place) ∷ steps_from_node (λ k. path_from parts word n (place + 2) k) (next_node parts m (word (place + 1)))

-- the path: the word at place 0 picks the first node, and each step takes the next two words
unfoldable pub path : Validated → ℕ → ℕ → List PathStep
path p seed stream =
    let word : ℕ → ℕ = word_in (stream_of seed stream) in
    steps_from_node (λ m. path_from p.parts word p.longest 1 m) (first_node p.parts (word 0))

-- there is a first step, at a successor of the root
abbrev pub StartsAtRoot : ProblemParts → List PathStep → Type 0
StartsAtRoot parts [] = ⊥
StartsAtRoot parts (s ∷ ss) = Contains parts.root s.node

-- each step is at a successor of the node before it, the first at one of m
abbrev pub FollowsSuccessors : ProblemParts → ℕ → List PathStep → Type 0
FollowsSuccessors parts m [] = Unit {0}
FollowsSuccessors parts m (s ∷ ss) = Contains (successors_at parts m) s.node × FollowsSuccessors parts s.node ss

abbrev pub FollowsArcs : ProblemParts → List PathStep → Type 0
FollowsArcs parts [] = Unit {0}
FollowsArcs parts (s ∷ ss) = FollowsSuccessors parts s.node ss

-- the node m has no successors, or a stop weight of at least 1
abbrev pub MayEnd : ProblemParts → ℕ → Type 0
MayEnd parts m = (successors_at parts m ≡ []) ⊎ (0 < stop_weight_at parts m)

-- the node of the last step, m where there is none
abbrev pub last_node : ℕ → List PathStep → ℕ
last_node m [] = m
last_node m (s ∷ ss) = last_node s.node ss

-- the last step is at a node where a path may end
abbrev pub EndsRight : ProblemParts → List PathStep → Type 0
EndsRight parts [] = ⊥
EndsRight parts (s ∷ ss) = MayEnd parts (last_node s.node ss)

-- the step's node is one of the problem, and so is its realization
abbrev pub IsInRange : ProblemParts → PathStep → Type 0
IsInRange parts s = (s.node < length parts.nodes) × (s.realization < length (weights_at parts s.node))

-- a path of the problem's graph
pub record IsPath (p : Validated) (steps : List PathStep) : Type 0 where
  pub starts : StartsAtRoot p.parts steps
  pub follows : FollowsArcs p.parts steps
  pub in_range : All (IsInRange p.parts) steps
