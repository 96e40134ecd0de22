-- Where iterations are refuted: at a realization of a node on one of their paths.
use Rattle.std.proofs.Common.{◌≡◌, ℕ, zero, suc, ◌+◌, ◌++◌, true, List, [], ◌∷◌, zip, All, Option, Some, None, Result, Ok, Err, IfErr, IfSome, refl}
use Rattle.std.proofs.lemmas.List.Elements.{All-nil, All-cons}
use Rattle.base_num.proofs.Sums.{All_head, All_tail}
use Rattle.problem.specs.Validated.{Validated, is_validated}
use Rattle.theory.specs.declared.cut.Cut.{Cut}
use Rattle.plan_answer.specs.declared.classifying.Infeasibility.{Infeasibility}
use Rattle.plan_answer.specs.declared.plan_fault.PlanFault.{PlanFault}
use Rattle.plan_answer.specs.Faults.{or_infeasible}
use Rattle.lp_program.specs.Solving.{Solving}
use Rattle.plan_draw.specs.declared.steps.PathStep.{PathStep}
use Rattle.plan_draw.specs.declared.steps.Trajectory.{Trajectory}
use Rattle.plan_draw.specs.Drawn.{IsPath, path}
use Rattle.plan_forward.specs.Walking.{IsWalk, walks_of}
use Rattle.plan_forward.proofs.Walks.{walks_are}
use Rattle.plan_backward.specs.Sweeping.{swept}
use Rattle.plan_train.specs.Continuing.{Continued, continued, with_iteration, with_step}
use Rattle.plan_train.specs.Drawing.{first_stream, paths_from}
use Rattle.plan_train.specs.Stepping.{Stepped, along, before_paths, entry_of, forwards, training_step, with_path, with_walks}
use Rattle.run_program.specs.Refuted.{IsRealized}
use Rattle.run_program.proofs.RefutedPlace.{Located, err_then}
use Rattle.run_program.proofs.RefutedSweeps.{OnInfeasible, swept_located, zip_both}
use Rattle.run_program.proofs.RefutedWalks.{path_drawn, walks_located}

infeasible_as : {A : Type 0} (P : Infeasibility → Type 0) (r : Result A Infeasibility) → IfErr r P → IfErr (or_infeasible r) (OnInfeasible P)
infeasible_as P (Ok x) h = h
infeasible_as P (Err d) h = h

found_as : {A : Type 0} (r : Result A Infeasibility) (x : A) → or_infeasible r ≡ Ok x → r ≡ Ok x
found_as (Ok y) x e = cc
found_as (Err d) x e = absurd cc

-- one after another
module _ {A B E : Type 0} (step : B → A → Result B E) (R : A → Type 0) (Q : E → Type 0) (h : (b : B) (x : A) → R x → IfErr (step b x) Q) where
  forwards_err : (xs : List A) (found : B) → All R xs → IfErr (forwards step xs found) Q
  forwards_err [] found all = tt
  forwards_err (x ∷ xs) found all = err_then Q (step found x) (forwards step xs) (h found x (All_head R x xs all)) (λ next is. forwards_err xs next (All_tail R x xs all))

module _ {Start Chain : Type 0} (v : Solving Start Chain) (p : Validated) (validated : is_validated p ≡ true) where
  abbrev Fault : PlanFault → Type 0
  Fault = OnInfeasible (Located p (IsRealized p))

  -- a path, and a walk along it
  abbrev IsWalked : List PathStep × Trajectory → Type 0
  IsWalked q = IsPath p q.0 × IsWalk p q.0 q.1

  path_located : (k : ℕ) (before : Stepped) (walked : List PathStep × Trajectory) → IsWalked walked → IfErr (with_path v p k before walked) Fault
  unfolding with_path
  path_located k before walked h =
      err_then Fault (swept v p before.pools k walked.0 walked.1.states walked.1.unanswered) (λ s. Ok (record { pools = s.pools; entries = before.entries ++ entry_of k s ∷ [] }))
      (swept_located v p validated k before.pools walked.0 walked.1.states walked.1.unanswered h.0.in_range h.1.inside) (λ s is. tt)

  walks_swept : (pools : List (List Cut)) (k : ℕ) (paths : List (List PathStep)) (walks : List Trajectory) → All IsWalked (zip paths walks) → IfErr (with_walks v p pools k paths walks) Fault
  unfolding with_walks
  walks_swept pools k paths walks all = forwards_err (with_path v p k) IsWalked Fault (path_located k) (zip paths walks) (before_paths pools) all

  along_located : (pools : List (List Cut)) (k : ℕ) (paths : List (List PathStep)) → All (IsPath p) paths → IfErr (along v p pools k paths) Fault
  unfolding along
  along_located pools k paths all =
      err_then Fault (or_infeasible (walks_of v p pools k paths)) (with_walks v p pools k paths) (infeasible_as (Located p (IsRealized p)) (walks_of v p pools k paths) (walks_located v p validated pools k paths all))
      (λ walks is. walks_swept pools k paths walks
      (zip_both (IsPath p) (λ (q : List PathStep × Trajectory). IsWalk p q.0 q.1) paths walks all (walks_are v p pools k validated paths walks all (found_as (walks_of v p pools k paths) walks is)).each))

  paths_drawn : (seed stream n : ℕ) → All (IsPath p) (paths_from p seed stream n)
  paths_drawn seed stream zero = All-nil (IsPath p)
  paths_drawn seed stream (suc n) = All-cons (IsPath p) (path p seed stream) (paths_from p seed (suc stream) n) (path_drawn p validated seed stream) (paths_drawn seed (suc stream) n)

  step_located : (pools : List (List Cut)) (seed batch k : ℕ) → IfErr (training_step v p pools seed batch k) Fault
  unfolding training_step
  step_located pools seed batch k = along_located pools k (paths_from p seed (first_stream batch k) batch) (paths_drawn seed (first_stream batch k) batch)

  step_stops : (c : Continued) (r : Result Stepped PlanFault) → IfErr r Fault → IfSome (with_step p c r).stop Fault
  step_stops c (Ok s) h = tt
  step_stops c (Err f) h = h

  -- where iterations stop
  pub stop_located : (pools : List (List Cut)) (seed batch j n : ℕ) → IfSome (continued v p pools seed batch j n).stop Fault
  unfolding continued
  stop_located pools seed batch j zero = tt
  stop_located pools seed batch j (suc n) = by (continued v p pools seed batch j n) (continued v p pools seed batch j n).stop refl (stop_located pools seed batch j n)
    where
      by : (c : Continued) (o : Option PlanFault) → c.stop ≡ o → IfSome c.stop Fault → IfSome (with_iteration v p seed batch (suc (j + n)) c o).stop Fault
      by c (Some f) is h = h
      by c None is h = step_stops c (training_step v p c.pools seed batch (suc (j + n))) (step_located c.pools seed batch (suc (j + n)))
