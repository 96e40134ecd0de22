-- Where traces are refuted: at a moment of one of the runs.
use Rattle.std.proofs.Common.{◌≡◌, ℕ, zero, suc, ◌+◌, ◌^◌, ℤ, true, List, [], ◌∷◌, ◌++◌, map, get_or, All, Result, Ok, Err, IfErr, refl, arith}
use Rattle.std.proofs.lemmas.List.{get_or_default}
use Rattle.std.proofs.lemmas.List.Elements.{All-nil, All-cons}
use Rattle.base_num.specs.Steps.{◌>>=◌}
use Rattle.base_num.proofs.Sums.{All_head, All_tail}
use Rattle.problem.specs.declared.parts.Moment.{Moment}
use Rattle.problem.specs.Validated.{Validated, is_validated}
use Rattle.theory.specs.declared.cut.Cut.{Cut}
use Rattle.theory.specs.Problem.{S}
use Rattle.theory.specs.Tree.{times_all}
use Rattle.theory.specs.View.{problem_of}
use Rattle.plan_answer.specs.declared.classifying.Infeasibility.{Infeasibility}
use Rattle.lp_program.specs.Solving.{Solving}
use Rattle.plan_draw.specs.declared.steps.PathStep.{PathStep}
use Rattle.plan_draw.specs.Drawn.{IsInRange, IsPath, path}
use Rattle.plan_forward.specs.declared.deciding.Decided.{Decided}
use Rattle.plan_forward.specs.declared.traces.Trace.{Trace}
use Rattle.plan_mend.proofs.MendedDecisions.{successors_mended}
use Rattle.policy_simulate.specs.Runs.{IsProblemRun, drawn_from, moment_of}
use Rattle.policy_simulate.specs.Tracing.{decide_at, longer, no_trace, trace_of, trace_on, traced, traces_of, traces_on}
use Rattle.policy_simulate.proofs.Following.{ComesTo, IsHere, comes_first, comes_here, comes_next, path_run, stored_runs}
use Rattle.run_program.specs.Refuted.{IsRealized, IsStoredMoment}
use Rattle.run_program.proofs.RefutedPlace.{Located, err_as, err_then, mended_located}
use Rattle.run_program.proofs.RefutedWalks.{path_drawn}

-- a run of a problem, of whose moments this holds
abbrev pub IsRunOf : Validated → (Moment → Type 0) → List Moment → Type 0
IsRunOf p P run = IsProblemRun p run × All P run

module _ {Start Chain : Type 0} (v : Solving Start Chain) (p : Validated) (validated : is_validated p ≡ true) (P : Moment → Type 0) (pools : List (List Cut)) where
  module _ (run : ℕ) where
    abbrev decide : Moment → List ℤ → Result Decided Infeasibility
    decide = decide_at v p pools run

    -- the trace with a step, and what leaves it
    abbrev after : Trace → List ℤ → Moment → Result Decided Infeasibility → Result (Trace × List ℤ) Infeasibility
    after trace state m r = r >>= λ d. Ok (longer trace (traced p m state d), d.next)

    trace_located : (trace : Trace) (state : List ℤ) (ms : List Moment) → ComesTo p ms state → All P ms → IfErr (trace_on p decide trace state ms) (Located p P)
    trace_located trace state [] c all = tt
    trace_located trace state (m ∷ ms) c all = by (λ d next. trace_located (longer trace (traced p m state d)) d.next ms next (All_tail P m ms all)) (decide m state) refl
      where
        here : IsHere p m ms state
        here = comes_here p (m ∷ ms) 0 m state (omega arith) refl c

        by : ((d : Decided) → ComesTo p ms d.next → IfErr (trace_on p decide (longer trace (traced p m state d)) d.next ms) (Located p P)) → (r : Result Decided Infeasibility) → decide m state ≡ r
            → IfErr (after trace state m r >>= λ a. trace_on p decide a.0 a.1 ms) (Located p P)
        by tail (Ok d) is = tail d (comes_next p m ms state d.next here (successors_mended v p pools run m.node m.values state validated here.known d is))
        by tail (Err d) is = err_as (Located p P) (decide m state) (Err d) is (mended_located p P m.node m.values state here.known (All_head P m ms all) here.inside v pools run)

    run_located : (ms : List Moment) → IsRunOf p P ms → IfErr (trace_of v p pools run ms) (Located p P)
    unfolding trace_of
    run_located ms h = trace_located no_trace (times_all S (problem_of p).initial) ms (comes_first p ms validated h.0) h.1

  runs_located : (found : List Trace) (i : ℕ) (runs : List (List Moment)) → All (IsRunOf p P) runs → IfErr (traces_on (trace_of v p pools) found i runs) (Located p P)
  runs_located found i [] all = tt
  runs_located found i (run ∷ runs) all =
      err_then (Located p P) (trace_of v p pools i run) (λ t. traces_on (trace_of v p pools) (found ++ t ∷ []) (suc i) runs) (run_located i run (All_head (IsRunOf p P) run runs all))
      (λ t is. runs_located (found ++ t ∷ []) (suc i) runs (All_tail (IsRunOf p P) run runs all))

  pub traces_located : (runs : List (List Moment)) → All (IsRunOf p P) runs → IfErr (traces_of v p pools runs) (Located p P)
  traces_located runs all = runs_located [] 0 runs all

module _ (p : Validated) (validated : is_validated p ≡ true) where
  moments_realized : (ss : List PathStep) → All (IsInRange p.parts) ss → All (IsRealized p) (map (moment_of p.parts) ss)
  moments_realized [] r = All-nil (IsRealized p)
  moments_realized (s ∷ ss) r = All-cons (IsRealized p) (moment_of p.parts s) (map (moment_of p.parts) ss) (s, All_head (IsInRange p.parts) s ss r, refl) (moments_realized ss (All_tail (IsInRange p.parts) s ss r))

  -- the moments of drawn scenarios are realizations of their nodes
  pub drawn_runs : (seed i n : ℕ) → All (IsRunOf p (IsRealized p)) (drawn_from p seed i n)
  drawn_runs seed i zero = All-nil (IsRunOf p (IsRealized p))
  drawn_runs seed i (suc n) =
      let one : List PathStep = path p seed (2 ^ 32 + i) in
      let is : IsPath p one = path_drawn p validated seed (2 ^ 32 + i) in
      All-cons (IsRunOf p (IsRealized p)) (map (moment_of p.parts) one) (drawn_from p seed (suc i) n) (path_run p validated one is, moments_realized one is.in_range) (drawn_runs seed (suc i) n)

  -- those of stored ones are moments of theirs
  pub runs_stored : All (IsRunOf p (IsStoredMoment p)) p.parts.scenarios
  runs_stored = λ i d h. (stored_runs p validated i d h, λ j m k. (get_or p.parts.scenarios i d, (i, h, get_or_default p.parts.scenarios i (get_or p.parts.scenarios i d) d h), (j, k, get_or_default (get_or p.parts.scenarios i d) j (get_or (get_or p.parts.scenarios i d) j m) m k)))
