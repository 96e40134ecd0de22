-- The limits of a validated problem on the weights that a path picks among.
use Rattle.std.proofs.Common.{◌≡◌, ℕ, suc, ◌+◌, ◌-◌, ◌*◌, ◌<◌, ◌≤◌, true, false, List, [], ◌∷◌, ◌++◌, length, map, get_or, sum, Option, Some, None, IfSome, slice_get, nat_lt, refl, sym, ap, subst, ◌∙◌, arith}
use Rattle.std.specs.List.{list_all}
use Rattle.std.proofs.lemmas.Bool.{ltb-true}
use Rattle.std.proofs.lemmas.Bool.Decides.{nat_tests}
use Rattle.std.proofs.lemmas.Grind.{common_steps}
use Rattle.std.proofs.lemmas.List.{append_assoc, get_or-map}
use Rattle.std.proofs.lemmas.Option.{slice_get-get_or, slice_get_past, slice_get_within, get_or_from_slice_get}
use Rattle.base_num.proofs.Tests.{all_get}
use Rattle.problem.specs.declared.parts.Node.{Node}
use Rattle.problem.specs.declared.parts.ProblemParts.{ProblemParts}
use Rattle.problem.specs.declared.parts.Subproblem.{Subproblem}
use Rattle.problem.specs.Limits.{are_weights, successors_in_order_fit, node_fits, root_fits, values_fit}
use Rattle.problem.specs.Parts.{successors_at, weights_at}
use Rattle.problem.specs.Validated.{Validated, is_validated}
use Rattle.problem.proofs.ValidatedFacts.{parts-is_validated, nodes_fit, root-parts_are_lawful}
use Rattle.plan_draw.specs.Picked.{picked}
use Rattle.rand_chacha.specs.ChaCha.{ChaCha}
use Rattle.plan_draw.specs.declared.steps.PathStep.{PathStep}
use Rattle.plan_draw.specs.Drawn.{choices, first_node, next_node, path, path_from, step_at, steps_from_node, stream_of, word_in}

-- the value that is made of the node m
pub made_at : {A : Type 0} (f : Node → A) (nodes : List Node) (m : ℕ) (n : Node) (d : A) → slice_get nodes m ≡ Some n → get_or (map f nodes) m d ≡ f n
made_at f nodes m n d is = get_or-map f nodes m n d (slice_get_within nodes m n is) ∙ ap f (get_or_from_slice_get nodes m n n is)

-- weights that can be picked among
pub record Weighty (ws : List ℕ) : Type 0 where
  pub some : 0 < length ws
  pub weights : are_weights ws ≡ true
  pub total : sum ws ≤ 65535

-- the weights of the root's successors
pub root_weighty : (p : Validated) → is_validated p ≡ true → Weighty p.parts.root_weights
root_weighty p e =
    let fits : root_fits p.parts ≡ true = root-parts_are_lawful p.parts (parts-is_validated p e) in
    record { some = grind (arith, nat_tests, common_steps); weights = grind (arith, nat_tests); total = grind (arith, nat_tests, common_steps) }

pub root_counted : (p : Validated) → is_validated p ≡ true → length p.parts.root_weights ≡ length p.parts.root
root_counted p e = let fits : root_fits p.parts ≡ true = root-parts_are_lawful p.parts (parts-is_validated p e) in grind (arith, nat_tests)

pub root_known : (p : Validated) → is_validated p ≡ true → list_all (λ m. nat_lt m (length p.parts.nodes)) p.parts.root ≡ true
root_known p e = let fits : root_fits p.parts ≡ true = root-parts_are_lawful p.parts (parts-is_validated p e) in grind (arith, nat_tests)

-- where the root leads
pub root_inside : (p : Validated) (i m : ℕ) → is_validated p ≡ true → slice_get p.parts.root i ≡ Some m → m < length p.parts.nodes
root_inside p i m e is = ltb-true m (length p.parts.nodes) (all_get (λ k. nat_lt k (length p.parts.nodes)) p.parts.root i m (root_known p e) is)

node_fits-validated : (p : Validated) (m : ℕ) (n : Node) → is_validated p ≡ true → slice_get p.parts.nodes m ≡ Some n → node_fits p.parts n ≡ true
node_fits-validated p m n e is = all_get (node_fits p.parts) p.parts.nodes m n (nodes_fit p.parts (parts-is_validated p e)) is

weighty_values : (s : Option Subproblem) (n : Node) → values_fit s n ≡ true → Weighty n.weights
weighty_values None n e = absurd (no e)
  where
    no : false ≡ true → ⊥
    no h = cc
weighty_values (Some s) n e = record { some = grind (arith, nat_tests, common_steps); weights = grind (arith, nat_tests); total = grind (arith, nat_tests, common_steps) }

-- the weights of a node's realizations
pub node_weighty : (p : Validated) (m : ℕ) (n : Node) → is_validated p ≡ true → slice_get p.parts.nodes m ≡ Some n → Weighty n.weights
node_weighty p m n e is =
    let fits : node_fits p.parts n ≡ true = node_fits-validated p m n e is in
    weighty_values (slice_get p.parts.subs n.sub) n (grind (arith, nat_tests))

-- the weights of a node's successors
pub record Linked (p : Validated) (n : Node) : Type 0 where
  pub counted : length n.successor_weights ≡ length n.successors
  pub weights : are_weights n.successor_weights ≡ true
  pub total : sum n.successor_weights + n.stop ≤ 65535
  pub known : list_all (λ m. nat_lt m (length p.parts.nodes)) n.successors ≡ true

pub node_linked : (p : Validated) (m : ℕ) (n : Node) → is_validated p ≡ true → slice_get p.parts.nodes m ≡ Some n → Linked p n
node_linked p m n e is =
    let fits : node_fits p.parts n ≡ true = node_fits-validated p m n e is in
    let successors : successors_in_order_fit (length p.parts.nodes) n ≡ true = grind (arith, nat_tests) in
    record { counted = grind (arith, nat_tests); weights = grind (arith, nat_tests); total = grind (arith, nat_tests, common_steps); known = grind (arith, nat_tests) }

-- where a node leads
pub successor_inside : (p : Validated) (n : Node) (i k : ℕ) → Linked p n → slice_get n.successors i ≡ Some k → k < length p.parts.nodes
successor_inside p n i k l is = ltb-true k (length p.parts.nodes) (all_get (λ j. nat_lt j (length p.parts.nodes)) n.successors i k l.known is)

-- the node where a path begins, by lists that are the root's
pub first_is : (p : Validated) (ms ws : List ℕ) (word place : ℕ) → ms ≡ p.parts.root → ws ≡ p.parts.root_weights → place ≡ picked ws word → place < length ms → first_node p.parts word ≡ Some (get_or ms place 0)
first_is p ms ws word place em ew at inside =
    ap (λ (vs : List ℕ). slice_get p.parts.root (picked vs word)) (sym ew) ∙ ap (slice_get p.parts.root) (sym at) ∙ ap (λ (ks : List ℕ). slice_get ks place) (sym em) ∙ slice_get-get_or ms place 0 inside

-- the realization at a node
pub realization_is : (p : Validated) (m : ℕ) (n : Node) (word : ℕ) → slice_get p.parts.nodes m ≡ Some n → picked n.weights word ≡ picked (weights_at p.parts m) word
realization_is p m n word is = ap (λ (ws : List ℕ). picked ws word) (sym (made_at (λ (k : Node). k.weights) p.parts.nodes m n [] is))

pub next_is : (p : Validated) (m : ℕ) (n : Node) (word : ℕ) → slice_get p.parts.nodes m ≡ Some n → slice_get n.successors (picked (choices n) word) ≡ next_node p.parts m word
next_is p m n word is =
    ap (λ (ks : List ℕ). slice_get ks (picked (choices n) word)) (sym (made_at (λ (k : Node). k.successors) p.parts.nodes m n [] is))
    ∙ ap (λ (ws : List ℕ). slice_get (successors_at p.parts m) (picked ws word)) (sym (made_at choices p.parts.nodes m n [] is))

-- at a node without successors a path ends
pub next_none : (p : Validated) (m : ℕ) (n : Node) (word : ℕ) → slice_get p.parts.nodes m ≡ Some n → length n.successors ≡ 0 → next_node p.parts m word ≡ None
next_none p m n word is none = sym (next_is p m n word is) ∙ slice_get_past n.successors (picked (choices n) word) (omega (arith, none))

pub first_inside : (p : Validated) (ms : List ℕ) (place : ℕ) → is_validated p ≡ true → ms ≡ p.parts.root → place < length ms → get_or ms place 0 < length p.parts.nodes
first_inside p ms place e em inside = root_inside p place (get_or ms place 0) e (subst (λ (ks : List ℕ). slice_get ks place ≡ Some (get_or ms place 0)) em (slice_get-get_or ms place 0 inside))

pub next_inside : (p : Validated) (n : Node) (i : ℕ) (o : Option ℕ) → Linked p n → o ≡ slice_get n.successors i → IfSome o (λ m. m < length p.parts.nodes)
next_inside p n i None l e = tt
next_inside p n i (Some k) l e = successor_inside p n i k l (sym e)

-- a generator's words are the same at each place
pub word_in-moved : (g : ChaCha) (at place : ℕ) → word_in (record g { word_pos = at }) place ≡ word_in g place
unfolding word_in
word_in-moved g at place = refl

-- the word that a generator gives at its place
pub at_place : (g w : ChaCha) (at : ℕ) → w ≡ record g { word_pos = at } → word_in w w.word_pos ≡ word_in g at
at_place g w at e = ap (λ (v : ChaCha). word_in v v.word_pos) e ∙ word_in-moved g at at

-- a generator after one more word
pub later : (g w v : ChaCha) (at : ℕ) → w ≡ record g { word_pos = at } → v ≡ record w { word_pos = w.word_pos + 1 } → v ≡ record g { word_pos = at + 1 }
later g w v at e f = f ∙ ap (λ (u : ChaCha). record u { word_pos = u.word_pos + 1 }) e

-- one more step
pub steps_more : (parts : ProblemParts) (word : ℕ → ℕ) (left n place m k : ℕ) (found whole : List PathStep) → left ≡ suc n → next_node parts m (word (place + 1)) ≡ Some k → found ++ path_from parts word left place m ≡ whole
    → (found ++ step_at parts m (word place) ∷ []) ++ path_from parts word n (place + 2) k ≡ whole
steps_more parts word left n place m k found whole e next is =
    append_assoc found (step_at parts m (word place) ∷ []) (path_from parts word n (place + 2) k)
    ∙ ap (λ (o : Option ℕ). found ++ step_at parts m (word place) ∷ steps_from_node (λ j. path_from parts word n (place + 2) j) o) (sym next)
    ∙ ap (λ (j : ℕ). found ++ path_from parts word j place m) (sym e) ∙ is

-- the last step
pub steps_done : (parts : ProblemParts) (word : ℕ → ℕ) (left n place m : ℕ) (found whole : List PathStep) → left ≡ suc n → next_node parts m (word (place + 1)) ≡ None → found ++ path_from parts word left place m ≡ whole
    → found ++ step_at parts m (word place) ∷ [] ≡ whole
steps_done parts word left n place m found whole e next is =
    ap (λ (o : Option ℕ). found ++ step_at parts m (word place) ∷ steps_from_node (λ j. path_from parts word n (place + 2) j) o) (sym next)
    ∙ ap (λ (j : ℕ). found ++ path_from parts word j place m) (sym e) ∙ is

-- a step of the loop: two words from the place 2 i + 1 on
module _ (p : Validated) (g w v u : ChaCha) (i m first : ℕ) (step : PathStep) (o : Option ℕ) (found : List PathStep) where
  module _ (inside : i < p.longest) (words : w ≡ record g { word_pos = 2 * i + 1 }) (so_far : found ++ path_from p.parts (word_in g) (p.longest - i) (2 * i + 1) m ≡ path_from p.parts (word_in g) p.longest 1 first)
      (step_is : step ≡ step_at p.parts m (word_in w w.word_pos)) (step_words : v ≡ record w { word_pos = w.word_pos + 1 }) (next_from : o ≡ next_node p.parts m (word_in v v.word_pos)) where
    left : p.longest - i ≡ suc (p.longest - (i + 1))
    left = omega (arith, inside)

    there : step ≡ step_at p.parts m (word_in g (2 * i + 1))
    there = step_is ∙ ap (step_at p.parts m) (at_place g w (2 * i + 1) words)

    moved : v ≡ record g { word_pos = 2 * i + 1 + 1 }
    moved = later g w v (2 * i + 1) words step_words

    next : next_node p.parts m (word_in g (2 * i + 1 + 1)) ≡ o
    next = ap (next_node p.parts m) (sym (at_place g v (2 * i + 1 + 1) moved)) ∙ sym next_from

    pub path_ends : o ≡ None → found ++ step ∷ [] ≡ path_from p.parts (word_in g) p.longest 1 first
    path_ends none =
        ap (λ (t : PathStep). found ++ t ∷ []) there
        ∙ steps_done p.parts (word_in g) (p.longest - i) (p.longest - (i + 1)) (2 * i + 1) m found (path_from p.parts (word_in g) p.longest 1 first) left (next ∙ none) so_far

    -- the path goes on at k, with the words behind these two
    pub path_goes_on : (k : ℕ) → o ≡ Some k → u ≡ record v { word_pos = v.word_pos + 1 } → (u ≡ record g { word_pos = 2 * (i + 1) + 1 }) × ((found ++ step ∷ []) ++ path_from p.parts (word_in g) (p.longest - (i + 1)) (2 * (i + 1) + 1) k ≡ path_from p.parts (word_in g) p.longest 1 first)
    path_goes_on k some after =
        let place : 2 * i + 1 + 2 ≡ 2 * (i + 1) + 1 = omega arith in
        let behind : 2 * i + 1 + 1 + 1 ≡ 2 * (i + 1) + 1 = omega arith in (
          later g v u (2 * i + 1 + 1) moved after ∙ ap (λ (j : ℕ). record g { word_pos = j }) behind,
          ap (λ (j : ℕ). (found ++ step ∷ []) ++ path_from p.parts (word_in g) (p.longest - (i + 1)) j k) (sym place)
              ∙ ap (λ (t : PathStep). (found ++ t ∷ []) ++ path_from p.parts (word_in g) (p.longest - (i + 1)) (2 * i + 1 + 2) k) there
              ∙ steps_more p.parts (word_in g) (p.longest - i) (p.longest - (i + 1)) (2 * i + 1) m k found (path_from p.parts (word_in g) p.longest 1 first) left (next ∙ some) so_far,
        )

pub starts_at : (seed stream : ℕ) → (stream_of seed stream).word_pos ≡ 0
unfolding stream_of
starts_at seed stream = refl

same_words : (g : ChaCha) (at : ℕ) → word_in (record g { word_pos = at }) ≡ word_in g
unfolding word_in
same_words g at = refl

-- the first node and the steps from there are the path
pub path_is : (p : Validated) (seed stream : ℕ) (w v : ChaCha) (first : ℕ) → w ≡ stream_of seed stream → v ≡ record w { word_pos = w.word_pos + 1 } → first_node p.parts (word_in w w.word_pos) ≡ Some first
    → path_from p.parts (word_in v) p.longest 1 first ≡ path p seed stream
unfolding path
path_is p seed stream w v first e f is =
    let g : ChaCha = stream_of seed stream in
    let words : word_in v ≡ word_in g = ap word_in f ∙ same_words w (w.word_pos + 1) ∙ ap word_in e in
    let zero : word_in w w.word_pos ≡ word_in g 0 = ap (λ (u : ChaCha). word_in u u.word_pos) e ∙ ap (word_in g) (starts_at seed stream) in
    ap (λ (word : ℕ → ℕ). path_from p.parts word p.longest 1 first) words
    ∙ ap (steps_from_node (λ m. path_from p.parts (word_in g) p.longest 1 m)) (sym is ∙ ap (first_node p.parts) zero)
