-- The certificates of a node at an incoming state, one for each realization.
use Rattle.std.specs.Prelude.{ℕ, ◌+◌, ◌/◌, ℤ, Bool, true, false, List, [], ◌∷◌, ◌++◌, length, map, take, drop, get_or, set, replicate, Result, Ok, Err}
use Rattle.base_num.specs.Steps.{◌>>=◌}
use Rattle.problem.specs.declared.parts.ProblemParts.{ProblemParts}
use Rattle.problem.specs.Validated.{Validated}
use Rattle.theory.specs.declared.cut.Cut.{Cut}
use Rattle.theory.specs.declared.cut.Certificate.{Certificate}
use Rattle.theory.specs.Problem.{Node, node_at}
use Rattle.theory.specs.View.{problem_of}
use Rattle.lp_program.specs.declared.programs.Answer.{Answer}
use Rattle.plan_answer.specs.declared.classifying.Classified.{Classified}
use Rattle.plan_answer.specs.declared.classifying.Classified.TheVariants as classified
use Rattle.plan_answer.specs.declared.plan_fault.PlanFault.{PlanFault}
use Rattle.plan_answer.specs.declared.plan_fault.PlanFault.TheVariants.{Infeasible}
use Rattle.plan_answer.specs.Classifying.{classify_of}
use Rattle.plan_answer.specs.Settling.{settled_of}
use Rattle.lp_program.specs.Solving.{Solving}
use Rattle.plan_stage.specs.Nodes.{stage_at}
use Rattle.plan_stage.specs.Orders.{node_values_at, solving_order}
use Rattle.plan_stage.specs.Chained.{chain_answers}
use Rattle.plan_backward.specs.declared.certified.Certified.{Certified}

-- the values of some of the node m's realizations, by their numbers
abbrev pub values_of : ProblemParts → ℕ → List ℕ → List (List ℤ)
values_of parts m order = map (λ i. get_or (node_values_at parts m) i []) order

-- the numbers of the node m's realizations, in the order in which they are solved
abbrev pub order_at : ProblemParts → ℕ → List ℕ
order_at parts m = solving_order (node_values_at parts m)

-- a list up to its middle, rounded down, and the rest of it
abbrev pub first_half : {A : Type 0} → List A → List A
first_half xs = take (length xs / 2) xs

abbrev pub second_half : {A : Type 0} → List A → List A
second_half xs = drop (length xs / 2) xs

-- the answers to the stage problems of the node m at these values, in one chain
abbrev pub answers_to : {Start Chain : Type 0} → Solving Start Chain → Validated → List (List Cut) → ℕ → List ℤ → List (List ℤ) → List Answer
answers_to v p pools m state values = chain_answers v p m (map (λ (own : List ℤ). stage_at p pools m own state) values)

-- the answers to some realizations of the node m, by their numbers: in one chain, or the first half in one and the rest in another
abbrev pub answers_in : {Start Chain : Type 0} → Bool → Solving Start Chain → Validated → List (List Cut) → ℕ → List ℤ → List ℕ → List Answer
answers_in false v p pools m state order = answers_to v p pools m state (values_of p.parts m order)
answers_in true v p pools m state order = answers_to v p pools m state (values_of p.parts m (first_half order)) ++ answers_to v p pools m state (values_of p.parts m (second_half order))

-- whether the realizations of the node m go in two chains, by the stage problem of the one that is solved first
abbrev pub are_in_two : {Start Chain : Type 0} → Solving Start Chain → Validated → List (List Cut) → ℕ → List ℤ → Bool
are_in_two v p pools m state =
    let order : List ℕ = order_at p.parts m in
    v.in_two (stage_at p pools m (get_or (values_of p.parts m order) 0 []) state) (length order)

-- the answers to all realizations of the node m, in their order
abbrev pub answers_at : {Start Chain : Type 0} → Solving Start Chain → Validated → List (List Cut) → ℕ → List ℤ → List Answer
answers_at v p pools m state = answers_in (are_in_two v p pools m state) v p pools m state (order_at p.parts m)

abbrev pub nothing_certified : Certified
nothing_certified = record { list = []; unanswered = 0 }

-- the certificates of two parts, one after the other
abbrev pub both_certified : Certified → Certified → Certified
both_certified a b = record { list = a.list ++ b.list; unanswered = a.unanswered + b.unanswered }

-- the certificates of two parts, one after the other, or the first fault
abbrev pub in_turn : Result Certified PlanFault → Result Certified PlanFault → Result Certified PlanFault
in_turn one other = one >>= λ a. other >>= λ b. Ok (both_certified a b)

-- with a realization more, by the classification of its answer; an infeasible one stops the iteration
abbrev pub with_classified : ℕ → ℕ → List ℤ → List ℤ → Certificate → Certified → Classified → Result Certified PlanFault
with_classified k m state values c found classified.Found = Ok (record { list = found.list ++ c ∷ []; unanswered = found.unanswered })
with_classified k m state values c found classified.Unanswered = Ok (record { list = found.list ++ c ∷ []; unanswered = found.unanswered + 1 })
with_classified k m state values c found (classified.Infeasibility rows) = Err (Infeasible (record { run = k; node = m; values = values; state = state; rows = rows }))

-- the answer at these values, classified, and settled to a certificate
unfoldable pub certify : List (List Cut) → Node → ℕ → ℕ → List ℤ → Certified → List ℤ → Answer → Result Certified PlanFault
certify pools n k m state found values a = with_classified k m state values (settled_of pools n a) found (classify_of n values state a)

-- realizations with their answers, one after another; the first that is infeasible stops
abbrev pub certify_all : (Certified → List ℤ → Answer → Result Certified PlanFault) → Certified → List (List ℤ) → List Answer → Result Certified PlanFault
certify_all step found [] answers = Ok found
certify_all step found (values ∷ tail) [] = Ok found
certify_all step found (values ∷ tail) (a ∷ answers) = step found values a >>= λ next. certify_all step next tail answers

-- the realizations with these values, in a chain of their own
abbrev pub in_chain : {Start Chain : Type 0} → Solving Start Chain → Validated → List (List Cut) → ℕ → ℕ → List ℤ → List (List ℤ) → Result Certified PlanFault
in_chain v p pools k m state values = certify_all (certify pools (node_at (problem_of p) m) k m state) nothing_certified values (answers_to v p pools m state values)

-- some realizations, by their numbers, in one chain or in two
abbrev pub in_chains : {Start Chain : Type 0} → Bool → Solving Start Chain → Validated → List (List Cut) → ℕ → ℕ → List ℤ → List ℕ → Result Certified PlanFault
in_chains false v p pools k m state order = in_chain v p pools k m state (values_of p.parts m order)
in_chains true v p pools k m state order = in_turn (in_chain v p pools k m state (values_of p.parts m (first_half order))) (in_chain v p pools k m state (values_of p.parts m (second_half order)))

-- a certificate without multipliers
abbrev pub blank : Certificate
blank = record { rows = []; cuts = [] }

-- the list with some certificates, each at the number of its realization
abbrev pub placed : List ℕ → List Certificate → List Certificate → List Certificate
placed [] cs list = list
placed (i ∷ order) [] list = list
placed (i ∷ order) (c ∷ cs) list = set (placed order cs list) i c

-- certificates in the order of solving, back at the places of their realizations
abbrev pub in_places : List ℕ → Certified → Certified
in_places order found = record { list = placed order found.list (replicate (length order) blank); unanswered = found.unanswered }

-- the certificates of the node m at an incoming state, over these pools, in iteration k, in the order of solving
unfoldable pub certified_in_order : {Start Chain : Type 0} → Solving Start Chain → Validated → List (List Cut) → ℕ → ℕ → List ℤ → Result Certified PlanFault
certified_in_order v p pools k m state = certify_all (certify pools (node_at (problem_of p) m) k m state) nothing_certified (values_of p.parts m (order_at p.parts m)) (answers_at v p pools m state)

-- and each at the place of its realization
unfoldable pub certified : {Start Chain : Type 0} → Solving Start Chain → Validated → List (List Cut) → ℕ → ℕ → List ℤ → Result Certified PlanFault
certified v p pools k m state = certified_in_order v p pools k m state >>= λ found. Ok (in_places (order_at p.parts m) found)
