-- Risk cuts of steps, entries and records, as the loops add them.
use Rattle.std.proofs.Common.{◌≡◌, ℕ, zero, suc, ◌<◌, true, List, [], ◌∷◌, ◌++◌, length, get_or, nat_lt, All, Contains, replicate, IfOk, Result, Ok, Err, subst, arith}
use Rattle.std.specs.List.{AllByRecursion, list_all}
use Rattle.std.proofs.lemmas.Bool.Decides.{nat_tests}
use Rattle.std.proofs.lemmas.List.{length-map}
use Rattle.std.proofs.lemmas.List.Elements.{All-nil, All-cons, All-contains}
use Rattle.base_num.proofs.Tests.{all_at}
use Rattle.base_graph.specs.Paths.{arcs_from}
use Rattle.base_graph.proofs.Paths.{leads_to}
use Rattle.problem.specs.declared.parts.Node as nodes
use Rattle.problem.specs.declared.parts.ProblemParts.{ProblemParts}
use Rattle.problem.specs.Limits.{root_fits}
use Rattle.problem.specs.Validated.{Validated, is_validated, graph_of}
use Rattle.problem.proofs.ValidatedFacts.{parts-is_validated, root-parts_are_lawful, known_graph}
use Rattle.theory.specs.Problem.{node_at}
use Rattle.theory.specs.Base.{base_list}
use Rattle.theory.specs.Bound.{bound}
use Rattle.theory.specs.Premises.{InOrder}
use Rattle.theory.proofs.ValidatedOrder.{in_order-validated}
use Rattle.theory.proofs.ValidatedPremises.{root_shaped-validated, have_cuts-root}
use Rattle.theory.proofs.SoundBase.{no_cuts}
use Rattle.cut_pool.specs.Pooled.{Pooled}
use Rattle.theory.specs.View.{problem_of}
use Rattle.cut_pool.specs.AtNodes.{PoolsFit}
use Rattle.cut_pool.specs.declared.entry.Entry.{Entry}
use Rattle.cut_pool.specs.declared.entry.EntryStep.{EntryStep}
use Rattle.journal_record.specs.Backwards.{IsSuccessorChain, IsPathFromRoot, nodes_back}
use Rattle.journal_load.specs.Accepted.{IsRecord}
use Rattle.policy_robust.specs.declared.alternatives.Alternatives.{Alternatives}
use Rattle.policy_robust.specs.declared.risk_cuts.RobustFault.{RobustFault}
use Rattle.policy_robust.specs.Listed.{Listed}
use Rattle.policy_robust.specs.RiskCuts.{each_step, base_added, base_risk_cuts, risk_step_added, entry_added, risk_entries_added, risk_cuts_of, GivesRiskCuts}
use Rattle.policy_robust.specs.RiskCost.{RiskHolds, RiskSound, RiskUnder}
use Rattle.policy_robust.proofs.Each.{RiskCuts, bind_ok, each_keeps}
use Rattle.policy_robust.proofs.Keeping.{fit_more, risk_more}
use Rattle.policy_robust.proofs.RiskBound.{risk_bound}

abbrev pub KnownStep : Validated → EntryStep → Type 0
KnownStep p s = s.node < length p.parts.nodes

abbrev pub KnownEntry : Validated → Entry → Type 0
KnownEntry p e = All (KnownStep p) e.steps

abbrev pub KnownEntries : Validated → List Entry → Type 0
KnownEntries p es = All (KnownEntry p) es

-- the nodes of a path from the root are there
module _ (p : Validated) (validated : is_validated p ≡ true) where
  abbrev There : ℕ → Type 0
  There m = m < length p.parts.nodes

  root_known : (parts : ProblemParts) → root_fits parts ≡ true → list_all (λ m. nat_lt m (length parts.nodes)) parts.root ≡ true
  root_known parts e = grind (arith, nat_tests)

  below : (m n : ℕ) → nat_lt m n ≡ true → m < n
  below m n e = grind (arith, nat_tests)

  in_root : (m : ℕ) → Contains p.parts.root m → There m
  in_root m c = All-contains There p.parts.root m (λ k d h. below (get_or p.parts.root k d) (length p.parts.nodes) (all_at (λ m. nat_lt m (length p.parts.nodes)) p.parts.root k d (root_known p.parts (root-parts_are_lawful p.parts (parts-is_validated p validated))) h)) c

  led_to : (m k : ℕ) → Contains (arcs_from (graph_of p.parts) m) k → There k
  led_to m k c = subst (λ (n : ℕ). k < n) (length-map p.parts.nodes (λ (n : nodes.Node). n.successors)) (leads_to (graph_of p.parts) m k (known_graph p.parts (parts-is_validated p validated)) c)

  goes_on : (m : ℕ) (ks : List ℕ) → IsSuccessorChain p m ks → AllByRecursion There ks
  goes_on m [] h = tt
  goes_on m (k ∷ ks) h = (led_to m k h.0, goes_on k ks h.1)

  path_known : (ks : List ℕ) → IsPathFromRoot p ks → AllByRecursion There ks
  path_known [] h = tt
  path_known (m ∷ ms) h = (in_root m h.0, goes_on m ms h.1)

  split_last : (xs : List ℕ) (m : ℕ) → AllByRecursion There (xs ++ m ∷ []) → AllByRecursion There xs × There m
  split_last [] m h = (tt, h.0)
  split_last (x ∷ xs) m h = let r = split_last xs m h.1 in ((h.0, r.0), r.1)

  steps_known : (ss : List EntryStep) → AllByRecursion There (nodes_back ss) → All (KnownStep p) ss
  steps_known [] h = All-nil (KnownStep p)
  steps_known (s ∷ ss) h = let r = split_last (nodes_back ss) s.node h in All-cons (KnownStep p) s ss r.1 (steps_known ss r.0)

  entries_known : (es : List Entry) → AllByRecursion (λ (e : Entry). IsPathFromRoot p (nodes_back e.steps)) es → KnownEntries p es
  entries_known [] h = All-nil (KnownEntry p)
  entries_known (e ∷ es) h = All-cons (KnownEntry p) e es (steps_known e.steps (path_known (nodes_back e.steps) h.0)) (entries_known es h.1)

  pub record_known : (es : List Entry) → IsRecord p es → KnownEntries p es
  record_known es r = entries_known es r.paths

  pub records_known : (lists : List (List Entry)) → AllByRecursion (IsRecord p) lists → All (KnownEntries p) lists
  records_known [] h = All-nil (KnownEntries p)
  records_known (es ∷ lists) h = All-cons (KnownEntries p) es lists (record_known es h.0) (records_known lists h.1)

pub at_index : {A : Type 0} (P : A → Type 0) (xs : List A) (i : ℕ) (d : A) → AllByRecursion P xs → i < length xs → P (get_or xs i d)
at_index P [] i d h lt = absurd (omega arith)
at_index P (x ∷ xs) zero d h lt = h.0
at_index P (x ∷ xs) (suc i) d h lt = at_index P xs i d h.1 (omega arith)

-- a property that one risk cut more keeps is kept by all
module _ (p : Validated) (x : Alternatives) (validated : is_validated p ≡ true) (listed : Listed p x.lists) where
  abbrev IsFit : RiskCuts → Type 0
  IsFit risk_cuts = PoolsFit p risk_cuts

  abbrev IsRisk : RiskCuts → Type 0
  IsRisk risk_cuts = RiskSound (problem_of p) x.lists risk_cuts

  pub step_fit : (k : ℕ) (risk_cuts new : RiskCuts) (s : EntryStep) → KnownStep p s → IsFit risk_cuts → risk_step_added p x k risk_cuts s ≡ Ok new → IsFit new
  step_fit k risk_cuts new s known fit e = fit_more p x validated listed s.node known risk_cuts s.list k new e fit

  step_risk : (k : ℕ) (risk_cuts new : RiskCuts) (s : EntryStep) → KnownStep p s → IsRisk risk_cuts → risk_step_added p x k risk_cuts s ≡ Ok new → IsRisk new
  step_risk k risk_cuts new s known risk e = risk_more p x validated listed s.node known risk_cuts s.list k new e risk

  pub entry_fit : (risk_cuts new : RiskCuts) (e : Entry) → KnownEntry p e → IsFit risk_cuts → entry_added p x risk_cuts e ≡ Ok new → IsFit new
  unfolding entry_added
  entry_fit risk_cuts new e known fit is = each_keeps (risk_step_added p x e.iteration) IsFit (KnownStep p) (step_fit e.iteration) risk_cuts new e.steps known fit is

  entry_risk : (risk_cuts new : RiskCuts) (e : Entry) → KnownEntry p e → IsRisk risk_cuts → entry_added p x risk_cuts e ≡ Ok new → IsRisk new
  unfolding entry_added
  entry_risk risk_cuts new e known risk is = each_keeps (risk_step_added p x e.iteration) IsRisk (KnownStep p) (step_risk e.iteration) risk_cuts new e.steps known risk is

  pub entries_fit : (risk_cuts new : RiskCuts) (es : List Entry) → KnownEntries p es → IsFit risk_cuts → risk_entries_added p x risk_cuts es ≡ Ok new → IsFit new
  unfolding risk_entries_added
  entries_fit risk_cuts new es known fit is = each_keeps (entry_added p x) IsFit (KnownEntry p) entry_fit risk_cuts new es known fit is

  entries_risk : (risk_cuts new : RiskCuts) (es : List Entry) → KnownEntries p es → IsRisk risk_cuts → risk_entries_added p x risk_cuts es ≡ Ok new → IsRisk new
  unfolding risk_entries_added
  entries_risk risk_cuts new es known risk is = each_keeps (entry_added p x) IsRisk (KnownEntry p) entry_risk risk_cuts new es known risk is

  pub lists_risk : (risk_cuts new : RiskCuts) (lists : List (List Entry)) → All (KnownEntries p) lists → IsRisk risk_cuts → each_step (risk_entries_added p x) risk_cuts lists ≡ Ok new → IsRisk new
  lists_risk risk_cuts new lists known risk is = each_keeps (risk_entries_added p x) IsRisk (KnownEntries p) entries_risk risk_cuts new lists known risk is

  in_order_known : (done ms : List ℕ) → InOrder (problem_of p) (length p.parts.nodes) done ms → All (λ m. m < length p.parts.nodes) ms
  in_order_known done [] o = All-nil (λ m. m < length p.parts.nodes)
  in_order_known done (m ∷ ms) o = All-cons (λ m. m < length p.parts.nodes) m ms o.0 (in_order_known (m ∷ done) ms o.3)

  base_risk : (new : RiskCuts) → base_risk_cuts p x ≡ Ok new → IsRisk new
  unfolding base_risk_cuts
  base_risk new e =
      each_keeps (base_added p x) IsRisk (λ m. m < length p.parts.nodes) (λ risk_cuts next m known risk is. risk_more p x validated listed m known risk_cuts (base_list (node_at (problem_of p) m)) 0 next is risk)
      (replicate (length p.parts.nodes) []) new p.order (in_order_known [] p.order (in_order-validated p validated)) (λ m. no_cuts (length p.parts.nodes) m (RiskHolds (problem_of p) x.lists m)) e

  -- risk cuts of accepted records hold
  pub risk_cuts_risk : (lists : List (List Entry)) (new : RiskCuts) → AllByRecursion (IsRecord p) lists → risk_cuts_of p x lists ≡ Ok new → IsRisk new
  unfolding risk_cuts_of
  risk_cuts_risk lists new records e =
      let b = bind_ok (base_risk_cuts p x) (λ base. each_step (risk_entries_added p x) base lists) new e in
      lists_risk b.0 new lists (records_known p validated lists records) (base_risk b.0 b.1) b.2

  module _ (lists : List (List Entry)) (records : AllByRecursion (IsRecord p) lists) where
    pub risk_cuts_hold : (result : Result Pooled RobustFault) → GivesRiskCuts result (risk_cuts_of p x lists) → IfOk result (λ risk_cuts. RiskSound (problem_of p) x.lists risk_cuts.lists)
    risk_cuts_hold (Ok risk_cuts) h = risk_cuts_risk lists risk_cuts.lists records h
    risk_cuts_hold (Err e) h = tt

    -- and so does the bound over them
    pub risk_cuts_under : (result : Result Pooled RobustFault) → GivesRiskCuts result (risk_cuts_of p x lists) → IfOk result (λ risk_cuts. PoolsFit p risk_cuts.lists) → IfOk result (λ risk_cuts. RiskUnder (problem_of p) x.lists (bound (problem_of p) risk_cuts.lists))
    risk_cuts_under (Ok risk_cuts) h fit =
        risk_bound (problem_of p) x.lists risk_cuts.lists (root_shaped-validated p validated) (have_cuts-root p risk_cuts.lists validated fit.some) (risk_cuts_risk lists risk_cuts.lists records h)
    risk_cuts_under (Err e) h fit = tt
