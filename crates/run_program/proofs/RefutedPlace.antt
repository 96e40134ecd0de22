-- Where a stage is refuted, from what is decided there.
use Rattle.std.proofs.Common.{◌≡◌, ℕ, ◌+◌, ◌<◌, zero, suc, ℤ, Bool, true, false, if◌then◌else◌, List, length, Result, Ok, Err, IfErr, refl, subst}
use Rattle.base_num.specs.Steps.{◌>>=◌}
use Rattle.problem.specs.declared.parts.Moment.{Moment}
use Rattle.problem.specs.Validated.{Validated}
use Rattle.theory.specs.declared.cut.Cut.{Cut}
use Rattle.theory.specs.Problem.{Node, node_at}
use Rattle.theory.specs.View.{problem_of}
use Rattle.lp_program.specs.declared.fixed.Fx.{Fx}
use Rattle.lp_program.specs.declared.programs.Answer.{Answer}
use Rattle.lp_program.specs.declared.programs.Kind.{Kind}
use Rattle.lp_program.specs.declared.programs.Kind.TheVariants as kinds
use Rattle.plan_answer.specs.declared.classifying.Infeasibility.{Infeasibility}
use Rattle.plan_answer.specs.declared.classifying.Classified.{Classified}
use Rattle.plan_answer.specs.declared.classifying.Classified.TheVariants as classified
use Rattle.plan_answer.specs.Classifying.{first_infeasible, classify_of, classified_by, ray_rows}
use Rattle.plan_answer.specs.Farkas.{refutes_of}
use Rattle.plan_answer.proofs.Refuted.{refuted}
use Rattle.lp_program.specs.Solving.{Solving}
use Rattle.plan_stage.specs.Chained.{stage_answer}
use Rattle.plan_forward.specs.Deciding.{decide_by, decide_of}
use Rattle.cut_pool.specs.AtNodes.{IsStateAt}
use Rattle.plan_mend.specs.Deciding.{decide_mended_of, mend}
use Rattle.run_program.specs.Outcome.{WithBase, based_at}
use Rattle.run_program.specs.Refuted.{DecidesAt, IsRefuted, moment_in}
use Rattle.run_words.specs.declared.command.Command.{Command}

-- an infeasibility at a node of the problem and a state in its box, by the multipliers of its rows; this holds of its node and values
pub record Located (p : Validated) (P : Moment → Type 0) (d : Infeasibility) : Type 0 where
  pub known : d.node < length p.parts.nodes
  pub own : P (moment_in d)
  pub inside : IsStateAt p d.node d.state
  pub multipliers : refutes_of (node_at (problem_of p) d.node) d.values d.state d.rows ≡ true

-- what holds of a refusal, step by step
pub err_then : {A B E : Type 0} (Q : E → Type 0) (r : Result A E) (f : A → Result B E) → IfErr r Q → ((x : A) → r ≡ Ok x → IfErr (f x) Q) → IfErr (r >>= f) Q
err_then Q (Ok x) f h k = k x refl
err_then Q (Err e) f h k = h

pub err_as : {A E : Type 0} (Q : E → Type 0) (r s : Result A E) → r ≡ s → IfErr r Q → IfErr s Q
err_as {A} {E} Q r s is h = subst (λ (x : Result A E). IfErr x Q) is h

-- an infeasible answer has the multipliers that refute
classified_same : (ys zs : List ℤ) → classified.Infeasibility ys ≡ classified.Infeasibility zs → ys ≡ zs
classified_same ys zs e = cc

first_refutes : (n : Node) (values x : List ℤ) (duals : List Fx) (digits more : ℕ) (ys : List ℤ) → first_infeasible n values x duals digits more ≡ classified.Infeasibility ys → refutes_of n values x ys ≡ true
first_refutes n values x duals digits zero ys e = absurd cc
first_refutes n values x duals digits (suc more) ys e = by (refutes_of n values x (ray_rows n duals digits)) refl (first_refutes n values x duals (digits + 4) more ys) e
  where
    by : (t : Bool) → refutes_of n values x (ray_rows n duals digits) ≡ t → (first_infeasible n values x duals (digits + 4) more ≡ classified.Infeasibility ys → refutes_of n values x ys ≡ true)
        → (if t then classified.Infeasibility (ray_rows n duals digits) else first_infeasible n values x duals (digits + 4) more) ≡ classified.Infeasibility ys → refutes_of n values x ys ≡ true
    by true is tail e = subst (λ (zs : List ℤ). refutes_of n values x zs ≡ true) (classified_same (ray_rows n duals digits) ys e) is
    by false is tail e = tail e

pub classified_refutes : (n : Node) (values x : List ℤ) (a : Answer) (ys : List ℤ) → classify_of n values x a ≡ classified.Infeasibility ys → refutes_of n values x ys ≡ true
unfolding classify_of
classified_refutes n values x a ys e = by a.kind e
  where
    by : (k : Kind) → classified_by n values x a.duals k ≡ classified.Infeasibility ys → refutes_of n values x ys ≡ true
    by kinds.Found e = absurd cc
    by kinds.Ray e = first_refutes n values x a.duals 0 15 ys e
    by kinds.Stuck e = absurd cc

-- at a node of the problem, values of which this holds there, and a state in its box
module _ (p : Validated) (P : Moment → Type 0) (m : ℕ) (values state : List ℤ) (known : m < length p.parts.nodes) (own : P (record { node = m; values = values })) (inside : IsStateAt p m state) where
  pub located : (run : ℕ) (ys : List ℤ) → refutes_of (node_at (problem_of p) m) values state ys ≡ true → Located p P (record { run = run; node = m; values = values; state = state; rows = ys })
  located run ys e = record { known = known; own = own; inside = inside; multipliers = e }

  by_answer : (run : ℕ) (a : Answer) (j : Classified) → classify_of (node_at (problem_of p) m) values state a ≡ j → IfErr (decide_by p run m values state a j) (Located p P)
  by_answer run a classified.Found e = tt
  by_answer run a classified.Unanswered e = tt
  by_answer run a (classified.Infeasibility ys) e = located run ys (classified_refutes (node_at (problem_of p) m) values state a ys e)

  module _ {Start Chain : Type 0} (v : Solving Start Chain) (pools : List (List Cut)) (run : ℕ) where
    pub decide_located : IfErr (decide_of v p pools run m values state) (Located p P)
    unfolding decide_of
    decide_located = by_answer run (stage_answer v p pools m values state) (classify_of (node_at (problem_of p) m) values state (stage_answer v p pools m values state)) refl

    -- and mending leaves it as it is
    pub mended_located : IfErr (decide_mended_of v p pools run m values state) (Located p P)
    unfolding decide_mended_of
    mended_located = err_then (Located p P) (decide_of v p pools run m values state) (λ d. Ok (mend (node_at (problem_of p) m) values state d)) decide_located (λ d is. tt)

-- of the problem that the bytes give
pub refuted_here : (command : Command) (bytes : List ℕ) (b : WithBase) (d : Infeasibility) → based_at bytes ≡ Ok b → Located b.problem (DecidesAt command b.problem) d → IsRefuted command bytes d
refuted_here command bytes b d is l = record {
  b = b;
  is = is;
  known = l.known;
  realized = l.own;
  inside = l.inside;
  multipliers = l.multipliers;
  none = refuted (node_at (problem_of b.problem) d.node) d.values d.state d.rows l.multipliers;
}
