-- Realizations and their answers, one after another: in parts, and facts about the result.
use Rattle.std.proofs.Common.{◌≡◌, ℕ, suc, ◌+◌, ℤ, List, [], ◌∷◌, ◌++◌, length, map, get_or, ◌/◌, Bool, true, false, Option, Some, IfOk, Result, Ok, Err, refl, ap, ap₂, sym, subst, ◌∙◌, append_assoc, arith}
use Rattle.std.proofs.lemmas.List.{append-nil, length-append, length-map}
use Rattle.base_num.specs.Steps.{◌>>=◌, GivesOr}
use Rattle.theory.specs.declared.cut.Cut.{Cut}
use Rattle.theory.specs.declared.cut.Certificate.{Certificate}
use Rattle.theory.specs.Problem.{Node, node_at}
use Rattle.theory.specs.View.{problem_of}
use Rattle.problem.specs.Validated.{Validated}
use Rattle.lp_program.specs.declared.programs.Program.{Program}
use Rattle.lp_program.specs.declared.programs.Answer.{Answer}
use Rattle.lp_program.specs.Chains.{answers}
use Rattle.plan_answer.specs.declared.classifying.Classified.{Classified}
use Rattle.plan_answer.specs.declared.classifying.Classified.TheVariants as classified
use Rattle.plan_answer.specs.declared.classifying.Infeasibility.{Infeasibility}
use Rattle.plan_answer.specs.Classifying.{classify_of}
use Rattle.plan_answer.specs.Settling.{settled_of}
use Rattle.plan_answer.specs.Faults.{Stops}
use Rattle.plan_answer.specs.Farkas.{NoDecision}
use Rattle.plan_answer.proofs.ClassifiedInfeasible.{classified_infeasible}
use Rattle.lp_program.specs.Solving.{Solving}
use Rattle.plan_stage.specs.Nodes.{program_of, stage_at, stage_in}
use Rattle.plan_stage.specs.Chained.{chain_answers}
use Rattle.plan_backward.specs.declared.certified.Certified.{Certified}
use Rattle.plan_answer.specs.declared.plan_fault.PlanFault.{PlanFault}
use Rattle.plan_answer.specs.declared.plan_fault.PlanFault.TheVariants.{Infeasible}
use Rattle.plan_backward.specs.Certifying.{answers_at, answers_in, are_in_two, answers_to, both_certified, certified, certified_in_order, certify, certify_all, first_half, second_half, in_chains, in_places, nothing_certified, order_at, values_of, with_classified}
use Rattle.plan_backward.proofs.Placed.{length-values_of, parts-values_of}

same_ok : {A E : Type 0} (x y : A) → ◌≡◌ {A = Result A E} (Ok x) (Ok y) → x ≡ y
same_ok x y e = cc

same_err : {A E : Type 0} (x y : E) → ◌≡◌ {A = Result A E} (Err x) (Err y) → x ≡ y
same_err x y e = cc

same_infeasible : (x y : Infeasibility) → Infeasible x ≡ Infeasible y → x ≡ y
same_infeasible x y e = cc

no_err : {A E : Type 0} (x : A) (y : E) → ◌≡◌ {A = Result A E} (Ok x) (Err y) → ⊥
no_err x y e = cc

-- as many answers as programs
counted_answers : {C : Type 0} (next : C → Program → Answer × C) (c : C) (lps : List Program) → length (answers next c lps) ≡ length lps
counted_answers next c [] = refl
counted_answers next c (lp ∷ lps) = ap suc (counted_answers next (next c lp).1 lps)

pub counted-answers_to : {Start Chain : Type 0} (v : Solving Start Chain) (p : Validated) (pools : List (List Cut)) (m : ℕ) (state : List ℤ) (values : List (List ℤ)) → length (answers_to v p pools m state values) ≡ length values
unfolding chain_answers
counted-answers_to v p pools m state [] = refl
counted-answers_to v p pools m state (own ∷ values) = ap suc (counted_answers v.next _ (map (λ (own : List ℤ). stage_at p pools m own state) values) ∙ length-map values (λ (own : List ℤ). stage_at p pools m own state))

-- two parts, one after the other
certify-append : (step : Certified → List ℤ → Answer → Result Certified PlanFault) (found : Certified) (vs ws : List (List ℤ)) (xs ys : List Answer) → length xs ≡ length vs
    → certify_all step found (vs ++ ws) (xs ++ ys) ≡ (certify_all step found vs xs >>= λ f. certify_all step f ws ys)
certify-append step found [] ws [] ys e = refl
certify-append step found [] ws (x ∷ xs) ys e = absurd (omega arith)
certify-append step found (v ∷ vs) ws [] ys e = absurd (omega arith)
certify-append step found (v ∷ vs) ws (x ∷ xs) ys e = by (λ f. certify-append step f vs ws xs ys (omega arith)) (step found v x)
  where
    by : ((f : Certified) → certify_all step f (vs ++ ws) (xs ++ ys) ≡ (certify_all step f vs xs >>= λ f. certify_all step f ws ys)) → (r : Result Certified PlanFault) → (r >>= λ f. certify_all step f (vs ++ ws) (xs ++ ys)) ≡ ((r >>= λ f. certify_all step f vs xs) >>= λ f. certify_all step f ws ys)
    by tail (Ok f) = tail f
    by tail (Err d) = refl

module _ (pools : List (List Cut)) (n : Node) (k m : ℕ) (state : List ℤ) where
  abbrev step : Certified → List ℤ → Answer → Result Certified PlanFault
  step = certify pools n k m state

  -- with other certificates before
  classified-both_certified : (f g : Certified) (v : List ℤ) (c : Certificate) (j : Classified) → with_classified k m state v c (both_certified f g) j ≡ (with_classified k m state v c g j >>= λ h. Ok (both_certified f h))
  classified-both_certified f g v c classified.Found = ap (λ (l : List Certificate). Ok (record { list = l; unanswered = f.unanswered + g.unanswered })) (append_assoc f.list g.list (c ∷ []))
  classified-both_certified f g v c classified.Unanswered = ap₂ (λ (l : List Certificate) (u : ℕ). Ok (record { list = l; unanswered = u })) (append_assoc f.list g.list (c ∷ [])) (omega arith)
  classified-both_certified f g v c (classified.Infeasibility rows) = refl

  certify-both_certified : (f g : Certified) (v : List ℤ) (a : Answer) → certify pools n k m state (both_certified f g) v a ≡ (certify pools n k m state g v a >>= λ h. Ok (both_certified f h))
  unfolding certify
  certify-both_certified f g v a = classified-both_certified f g v (settled_of pools n a) (classify_of n v state a)

  all-both_certified : (f g : Certified) (vs : List (List ℤ)) (xs : List Answer) → certify_all step (both_certified f g) vs xs ≡ (certify_all step g vs xs >>= λ h. Ok (both_certified f h))
  all-both_certified f g [] xs = refl
  all-both_certified f g (v ∷ vs) [] = refl
  all-both_certified f g (v ∷ vs) (a ∷ xs) = ap (λ r. r >>= λ next. certify_all step next vs xs) (certify-both_certified f g v a) ∙ by (λ h. all-both_certified f h vs xs) (certify pools n k m state g v a)
    where
      by : ((h : Certified) → certify_all step (both_certified f h) vs xs ≡ (certify_all step h vs xs >>= λ h. Ok (both_certified f h))) → (r : Result Certified PlanFault) → ((r >>= λ h. Ok (both_certified f h)) >>= λ next. certify_all step next vs xs) ≡ ((r >>= λ next. certify_all step next vs xs) >>= λ h. Ok (both_certified f h))
      by tail (Ok h) = tail h
      by tail (Err d) = refl

  after_nothing : (f : Certified) → f ≡ both_certified f nothing_certified
  after_nothing f = ap₂ (λ (l : List Certificate) (u : ℕ). record { list = l; unanswered = u }) (sym (append-nil f.list)) (omega arith)

  pub all-halves : (vs ws : List (List ℤ)) (xs ys : List Answer) → length xs ≡ length vs
      → certify_all step nothing_certified (vs ++ ws) (xs ++ ys) ≡ (certify_all step nothing_certified vs xs >>= λ f. certify_all step nothing_certified ws ys >>= λ g. Ok (both_certified f g))
  all-halves vs ws xs ys e = certify-append step nothing_certified vs ws xs ys e ∙ by (certify_all step nothing_certified vs xs)
    where
      by : (r : Result Certified PlanFault) → (r >>= λ f. certify_all step f ws ys) ≡ (r >>= λ f. certify_all step nothing_certified ws ys >>= λ g. Ok (both_certified f g))
      by (Ok f) = ap (λ (h : Certified). certify_all step h ws ys) (after_nothing f) ∙ all-both_certified f nothing_certified ws ys
      by (Err d) = refl

  -- each answer is settled
  pub listed : (found : Certified) (vs : List (List ℤ)) (xs : List Answer) (g : Certified) → length xs ≡ length vs → certify_all step found vs xs ≡ Ok g → g.list ≡ found.list ++ map (settled_of pools n) xs
  unfolding certify
  listed found [] [] g e is = ap (λ (c : Certified). c.list) (sym (same_ok found g is)) ∙ sym (append-nil found.list)
  listed found [] (x ∷ xs) g e is = absurd (omega arith)
  listed found (v ∷ vs) [] g e is = absurd (omega arith)
  listed found (v ∷ vs) (a ∷ xs) g e is = by (λ f w. listed f vs xs g (omega arith) w) (classify_of n v state a) is
    where
      c : Certificate
      c = settled_of pools n a

      by : ((f : Certified) → certify_all step f vs xs ≡ Ok g → g.list ≡ f.list ++ map (settled_of pools n) xs) → (j : Classified) → (with_classified k m state v c found j >>= λ next. certify_all step next vs xs) ≡ Ok g → g.list ≡ found.list ++ map (settled_of pools n) (a ∷ xs)
      by tail classified.Found w = tail (record { list = found.list ++ c ∷ []; unanswered = found.unanswered }) w ∙ append_assoc found.list (c ∷ []) (map (settled_of pools n) xs)
      by tail classified.Unanswered w = tail (record { list = found.list ++ c ∷ []; unanswered = found.unanswered + 1 }) w ∙ append_assoc found.list (c ∷ []) (map (settled_of pools n) xs)
      by tail (classified.Infeasibility rows) w = absurd (no_err g _ (sym w))

  -- where a realization is infeasible, it has no decisions
  pub infeasible_there : (found : Certified) (vs : List (List ℤ)) (xs : List Answer) (d : Infeasibility) → certify_all step found vs xs ≡ Err (Infeasible d) → (d.node ≡ m) × NoDecision n d.values d.state
  unfolding certify
  infeasible_there found [] xs d is = absurd (no_err found (Infeasible d) is)
  infeasible_there found (v ∷ vs) [] d is = absurd (no_err found (Infeasible d) is)
  infeasible_there found (v ∷ vs) (a ∷ xs) d is = by (λ f w. infeasible_there f vs xs d w) (classify_of n v state a) refl is
    where
      c : Certificate
      c = settled_of pools n a

      by : ((f : Certified) → certify_all step f vs xs ≡ Err (Infeasible d) → (d.node ≡ m) × NoDecision n d.values d.state) → (j : Classified) → classify_of n v state a ≡ j → (with_classified k m state v c found j >>= λ next. certify_all step next vs xs) ≡ Err (Infeasible d) → (d.node ≡ m) × NoDecision n d.values d.state
      by tail classified.Found e w = tail (record { list = found.list ++ c ∷ []; unanswered = found.unanswered }) w
      by tail classified.Unanswered e w = tail (record { list = found.list ++ c ∷ []; unanswered = found.unanswered + 1 }) w
      by tail (classified.Infeasibility rows) e w =
          let this : Infeasibility = record { run = k; node = m; values = v; state = state; rows = rows } in
          subst (λ (x : Infeasibility). (x.node ≡ m) × NoDecision n x.values x.state) (same_infeasible this d (same_err (Infeasible this) (Infeasible d) w)) (refl, classified_infeasible n v state a rows e)

-- a node's realizations in one chain, or in the two halves of their order
pub by_chains : {Start Chain : Type 0} (two : Bool) (v : Solving Start Chain) (p : Validated) (pools : List (List Cut)) (k m : ℕ) (state : List ℤ) (order : List ℕ)
    → certify_all (certify pools (node_at (problem_of p) m) k m state) nothing_certified (values_of p.parts m order) (answers_in two v p pools m state order) ≡ in_chains two v p pools k m state order
by_chains false v p pools k m state order = refl
by_chains true v p pools k m state order =
    let vs : List (List ℤ) = values_of p.parts m (first_half order) in
    let ws : List (List ℤ) = values_of p.parts m (second_half order) in
    let n : Node = node_at (problem_of p) m in
    ap (λ (all : List (List ℤ)). certify_all (certify pools n k m state) nothing_certified all (answers_to v p pools m state vs ++ answers_to v p pools m state ws)) (sym (parts-values_of p.parts m (length order / 2) order))
    ∙ all-halves pools n k m state vs ws (answers_to v p pools m state vs) (answers_to v p pools m state ws) (counted-answers_to v p pools m state vs)

-- by what the solver says of the stage problem of the first one
pub in_their_chains : {Start Chain : Type 0} (v : Solving Start Chain) (p : Validated) (pools : List (List Cut)) (k m : ℕ) (state : List ℤ) (lp : Program) (order : List ℕ) (two : Bool)
    → stage_in p pools m (get_or (values_of p.parts m (order_at p.parts m)) 0 []) state ≡ Some lp → order ≡ order_at p.parts m → v.in_two lp (length order) ≡ two
    → in_chains two v p pools k m state order ≡ certified_in_order v p pools k m state
unfolding certified_in_order
in_their_chains v p pools k m state lp order two stage all said =
    let asked : are_in_two v p pools m state ≡ two =
    ap₂ (λ (x : Option Program) (l : List ℕ). v.in_two (program_of x) (length l)) stage (sym all) ∙ said in
    ap₂ (λ (t : Bool) (l : List ℕ). in_chains t v p pools k m state l) (sym asked) all
    ∙ sym (by_chains (are_in_two v p pools m state) v p pools k m state (order_at p.parts m))

-- as many answers as realizations
counted_answers_in : {Start Chain : Type 0} (two : Bool) (v : Solving Start Chain) (p : Validated) (pools : List (List Cut)) (m : ℕ) (state : List ℤ) (order : List ℕ) → length (answers_in two v p pools m state order) ≡ length order
counted_answers_in false v p pools m state order = counted-answers_to v p pools m state (values_of p.parts m order) ∙ length-values_of p.parts m order
counted_answers_in true v p pools m state order =
    let vs : List (List ℤ) = values_of p.parts m (first_half order) in
    let ws : List (List ℤ) = values_of p.parts m (second_half order) in
    let whole : length vs + length ws ≡ length order = sym (length-append vs ws) ∙ ap (λ (all : List (List ℤ)). length all) (parts-values_of p.parts m (length order / 2) order) ∙ length-values_of p.parts m order in
    omega (arith, length-append (answers_to v p pools m state vs) (answers_to v p pools m state ws), counted-answers_to v p pools m state vs, counted-answers_to v p pools m state ws, whole)

pub counted_answers_at : {Start Chain : Type 0} (v : Solving Start Chain) (p : Validated) (pools : List (List Cut)) (m : ℕ) (state : List ℤ) → length (answers_at v p pools m state) ≡ length (order_at p.parts m)
counted_answers_at v p pools m state = counted_answers_in (are_in_two v p pools m state) v p pools m state (order_at p.parts m)

-- the certificates of a node in the order in which they were solved
pub record InOrder {Start Chain : Type 0} (v : Solving Start Chain) (p : Validated) (pools : List (List Cut)) (k m : ℕ) (state : List ℤ) (found : Certified) : Type 0 where
  pub is : certify_all (certify pools (node_at (problem_of p) m) k m state) nothing_certified (values_of p.parts m (order_at p.parts m)) (answers_at v p pools m state) ≡ Ok found
  pub settled : found.list ≡ map (settled_of pools (node_at (problem_of p) m)) (answers_at v p pools m state)
  pub count : length found.list ≡ length (order_at p.parts m)

pub each_in_order : {Start Chain : Type 0} (v : Solving Start Chain) (p : Validated) (pools : List (List Cut)) (k m : ℕ) (state : List ℤ) (found : Certified) → certified_in_order v p pools k m state ≡ Ok found → InOrder v p pools k m state found
unfolding certified_in_order
each_in_order v p pools k m state found is =
    let n : Node = node_at (problem_of p) m in
    let values : List (List ℤ) = values_of p.parts m (order_at p.parts m) in
    let xs : List Answer = answers_at v p pools m state in
    let list : found.list ≡ map (settled_of pools n) xs = listed pools n k m state nothing_certified values xs found (counted_answers_at v p pools m state ∙ sym (length-values_of p.parts m (order_at p.parts m))) is in
    record {
      is = is;
      settled = list;
      count = ap (λ (cs : List Certificate). length cs) list ∙ length-map xs (settled_of pools n) ∙ counted_answers_at v p pools m state;
    }

pub counted_in_order : {Start Chain : Type 0} (v : Solving Start Chain) (p : Validated) (pools : List (List Cut)) (k m : ℕ) (state : List ℤ) (r : Result Certified PlanFault) → GivesOr Stops (λ found. found) r (certified_in_order v p pools k m state)
    → IfOk r (λ found. length found.list ≡ length (order_at p.parts m))
counted_in_order v p pools k m state (Ok found) gives = (each_in_order v p pools k m state found gives).count
counted_in_order v p pools k m state (Err fault) gives = tt

-- and put back to the places of their realizations
pub record InPlaces {Start Chain : Type 0} (v : Solving Start Chain) (p : Validated) (pools : List (List Cut)) (k m : ℕ) (state : List ℤ) (found : Certified) : Type 0 where
  pub solved : Certified
  pub order : InOrder v p pools k m state solved
  pub placed_is : found ≡ in_places (order_at p.parts m) solved

pub each_in_place : {Start Chain : Type 0} (v : Solving Start Chain) (p : Validated) (pools : List (List Cut)) (k m : ℕ) (state : List ℤ) (found : Certified) → certified v p pools k m state ≡ Ok found → InPlaces v p pools k m state found
unfolding certified
each_in_place v p pools k m state found is = by (certified_in_order v p pools k m state) refl is
  where
    by : (r : Result Certified PlanFault) → certified_in_order v p pools k m state ≡ r → (r >>= λ f. Ok (in_places (order_at p.parts m) f)) ≡ Ok found → InPlaces v p pools k m state found
    by (Err d) e w = absurd (no_err found d (sym w))
    by (Ok f) e w = record { solved = f; order = each_in_order v p pools k m state f e; placed_is = sym (same_ok (in_places (order_at p.parts m) f) found w) }
