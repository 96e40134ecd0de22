-- Risk cuts, which bound the greatest expectation over the lists of weights, made from the certificates of a journal.
use Rattle.std.specs.Prelude.{◌≡◌, ℕ, ℤ, List, [], ◌∷◌, length, get_or, map, replicate, Option, Some, None, Result, Ok, Err, int_lt, if◌then◌else◌}
pub use Rattle.base_num.specs.Steps.{◌>>=◌}
use Rattle.problem.specs.Validated.{Validated}
use Rattle.theory.specs.declared.cut.Cut.{Cut}
use Rattle.theory.specs.declared.cut.Certificate.{Certificate}
use Rattle.theory.specs.Problem.{Node, node_at, with_weights}
use Rattle.theory.specs.Pools.{push}
use Rattle.theory.specs.Base.{base_list}
use Rattle.theory.specs.Bound.{value_of_cut}
use Rattle.theory.specs.View.{problem_of}
use Rattle.cut_pool.specs.Pooled.{Pooled}
use Rattle.cut_pool.specs.declared.entry.Entry.{Entry}
use Rattle.cut_pool.specs.declared.entry.EntryStep.{EntryStep}
use Rattle.cut_make.specs.declared.fault.CertFault.{CertFault}
use Rattle.cut_make.specs.declared.fault.CertFault.TheVariants as faults
use Rattle.cut_make.specs.Acceptance.{fault_of}
use Rattle.cut_make.specs.Reweighting.{cut_with}
use Rattle.policy_robust.specs.declared.alternatives.Alternatives.{Alternatives}
use Rattle.policy_robust.specs.declared.risk_cuts.RobustFault.{RobustFault}
use Rattle.policy_robust.specs.declared.risk_cuts.RobustFault.TheVariants as ends
use Rattle.policy_robust.specs.Listed.{lists_at}

-- one step for each item of a list, one after another
abbrev pub each_step : {A B E : Type 0} → (A → B → Result A E) → A → List B → Result A E
each_step step a [] = Ok a
each_step step a (x ∷ xs) = do
  next ← step a x
  each_step step next xs

-- the one of greater value at x, the first where they are equal
abbrev pub better : List ℤ → Option Cut → Option Cut → Option Cut
better x best None = best
better x None (Some c) = Some c
better x (Some best) (Some c) = if int_lt (value_of_cut best x) (value_of_cut c x) then Some c else Some best

-- the best of several cuts and of the best before, by their values at x
abbrev pub best_from : List ℤ → Option Cut → List (Option Cut) → Option Cut
best_from x best [] = best
best_from x best (c ∷ cs) = best_from x (better x best c) cs

-- the risk cut: of the cuts with each list of weights the best at the lower end of the node's box
unfoldable pub risk_cut_of : List (List Cut) → Node → List Certificate → List (List ℕ) → Option Cut
risk_cut_of risk_cuts n list lists = best_from n.low None (map (cut_with risk_cuts n list) lists)

-- the realization that a fault names
abbrev pub realization_in : Option CertFault → ℕ
realization_in None = 0
realization_in (Some (faults.Shape r)) = r
realization_in (Some (faults.Sign r i)) = r
realization_in (Some (faults.Cutless r i e)) = r
realization_in (Some (faults.Sum r i)) = r
realization_in (Some (faults.Range r)) = r

-- the realization at which the first list of weights fails
abbrev pub failing_realization : List (List Cut) → Node → List Certificate → List (List ℕ) → ℕ
failing_realization risk_cuts n list lists = realization_in (fault_of risk_cuts (with_weights (get_or lists 0 []) n) list)

-- the risk cuts with one more at the node m; without a candidate they stop with the iteration, the node and the realization
abbrev pub add_or_stop : ℕ → ℕ → ℕ → List (List Cut) → Option Cut → Result (List (List Cut)) (ℕ × ℕ × ℕ)
add_or_stop k m r risk_cuts None = Err (k, m, r)
add_or_stop k m r risk_cuts (Some c) = Ok (push risk_cuts m c)

unfoldable pub risk_cut_added : Validated → Alternatives → ℕ → List (List Cut) → ℕ → List Certificate → Result (List (List Cut)) (ℕ × ℕ × ℕ)
risk_cut_added p x k risk_cuts m list =
    add_or_stop k m (failing_realization risk_cuts (node_at (problem_of p) m) list (lists_at x.lists m)) risk_cuts (risk_cut_of risk_cuts (node_at (problem_of p) m) list (lists_at x.lists m))

-- a risk cut for each node of an order, from its base certificates over the risk cuts of its successors
abbrev pub base_added : Validated → Alternatives → List (List Cut) → ℕ → Result (List (List Cut)) (ℕ × ℕ × ℕ)
base_added p x risk_cuts m = risk_cut_added p x 0 risk_cuts m (base_list (node_at (problem_of p) m))

unfoldable pub base_risk_cuts : Validated → Alternatives → Result (List (List Cut)) (ℕ × ℕ × ℕ)
base_risk_cuts p x = each_step (base_added p x) (replicate (length p.parts.nodes) []) p.order

-- a risk cut for each step of an entry of iteration k, over the risk cuts so far
abbrev pub risk_step_added : Validated → Alternatives → ℕ → List (List Cut) → EntryStep → Result (List (List Cut)) (ℕ × ℕ × ℕ)
risk_step_added p x k risk_cuts s = risk_cut_added p x k risk_cuts s.node s.list

unfoldable pub entry_added : Validated → Alternatives → List (List Cut) → Entry → Result (List (List Cut)) (ℕ × ℕ × ℕ)
entry_added p x risk_cuts e = each_step (risk_step_added p x e.iteration) risk_cuts e.steps

unfoldable pub risk_entries_added : Validated → Alternatives → List (List Cut) → List Entry → Result (List (List Cut)) (ℕ × ℕ × ℕ)
risk_entries_added p x risk_cuts es = each_step (entry_added p x) risk_cuts es

-- Risk cuts of the problem, its lists of weights and the entries of a journal; or the iteration, 0 for a base risk cut, the node and the
-- realization at which they stop
unfoldable pub risk_cuts_of : Validated → Alternatives → List (List Entry) → Result (List (List Cut)) (ℕ × ℕ × ℕ)
risk_cuts_of p x lists = do
  base ← base_risk_cuts p x
  each_step (risk_entries_added p x) base lists

-- Code answers as the definition does; want of memory is free.

abbrev pub RiskStops : RobustFault → Result (List (List Cut)) (ℕ × ℕ × ℕ) → Type 0
RiskStops (ends.Range k m r) risk_cuts = risk_cuts ≡ Err (k, m, r)
RiskStops ends.Memory risk_cuts = Unit {0}

abbrev pub GivesRiskCuts : Result Pooled RobustFault → Result (List (List Cut)) (ℕ × ℕ × ℕ) → Type 0
GivesRiskCuts (Ok pools) risk_cuts = risk_cuts ≡ Ok pools.lists
GivesRiskCuts (Err fault) risk_cuts = RiskStops fault risk_cuts

-- the contract of a call that changes risk cuts to `new`
abbrev pub PlansTo : List (List Cut) → Result (Unit {0}) RobustFault → Result (List (List Cut)) (ℕ × ℕ × ℕ) → Type 0
PlansTo new (Ok u) risk_cuts = risk_cuts ≡ Ok new
PlansTo new (Err fault) risk_cuts = RiskStops fault risk_cuts
