-- The certificates that are settled at a node have the shape of the node in a record, and count at most 100 answers of no use.
use Rattle.std.proofs.Common.{◌≡◌, ◌∙◌, ℕ, zero, suc, ◌+◌, ◌/◌, ◌<◌, ◌≤◌, ◌^◌, true, ℤ, List, [], ◌∷◌, ◌++◌, length, map, zip, get_or, min, sum, All, Option, Some, Result, Ok, Err, option_and_then, slice_get, sym, ap, subst, arith}
use Rattle.std.specs.Prelude.{option_map, unwrap_or}
use Rattle.std.specs.List.{AllByRecursion}
use Rattle.std.proofs.lemmas.List.{length-map, length-append, take-append-drop}
use Rattle.std.proofs.lemmas.List.Elements.{All-from_recursion, recursion_from_All}
use Rattle.std.proofs.lemmas.List.Sums.{sum_by-cons}
use Rattle.std.proofs.lemmas.Slice.Zip.{length-zip}
use Rattle.base_num.specs.Steps.{◌>>=◌}
use Rattle.problem.specs.declared.parts.Row.{Row}
use Rattle.problem.specs.declared.parts.Node as nodes
use Rattle.problem.specs.declared.parts.Subproblem.{Subproblem}
use Rattle.problem.specs.Validated.{Validated, is_validated, subproblem_of}
use Rattle.theory.specs.declared.cut.Cut.{Cut}
use Rattle.theory.specs.declared.cut.Certificate.{Certificate}
use Rattle.theory.specs.Problem.{Realization, Successor, Node, node_at}
use Rattle.theory.specs.Pools.{pool}
use Rattle.theory.specs.View.{problem_of, successors_of, realizations_of}
use Rattle.theory.proofs.ValidatedParts.{Parts, parts_of_node, linked, weighty}
use Rattle.theory.proofs.Views.{All-successors_of, length-successors_of, successors-node_of, rows-node_of, realizations-node_of}
use Rattle.cut_pool.specs.AtNodes.{PoolsFit}
use Rattle.lp_program.specs.declared.programs.Answer.{Answer}
use Rattle.plan_answer.specs.declared.classifying.Classified.{Classified}
use Rattle.plan_answer.specs.declared.classifying.Classified.TheVariants as classified
use Rattle.plan_answer.specs.Classifying.{classify_of}
use Rattle.plan_answer.specs.Settling.{settled_of}
use Rattle.plan_answer.proofs.SettledNode.{have_cuts}
use Rattle.cut_pool.specs.declared.entry.EntryStep.{EntryStep}
use Rattle.lp_program.specs.Solving.{Solving}
use Rattle.plan_stage.specs.Orders.{node_values_at}
use Rattle.plan_backward.specs.Certifying.{answers_at, certified, certify, certify_all, nothing_certified, order_at, values_of, with_classified}
use Rattle.plan_backward.proofs.Certificates.{InPlaces, each_in_place}
use Rattle.plan_backward.proofs.NodeValues.{values_here}
use Rattle.plan_backward.proofs.Placed.{all_in_places, length-in_places, length-order_at, length-values_of}
use Rattle.journal_record.specs.Shape.{sizes_of, SuitsSizes, StepSuits, CertificateFits, StepFits, StepWithin}
use Rattle.journal_record.proofs.NodeParts.{weights_are, successors_are}
use Rattle.journal_record.proofs.Room.{all_weaker}
use Rattle.plan_train.proofs.SettledText.{IsLight, HasText, all_text}
use Rattle.plan_train.proofs.Answered.{same_ok}

-- the certificates of a node, with the count of the answers of no use
abbrev type_of : {A : Type 0} → A → Type 0
type_of {A} x = A

abbrev pub Certified : Type 0
Certified = type_of nothing_certified

entry_at_most : (ws : List ℕ) (i : ℕ) → get_or ws i 0 ≤ sum ws
entry_at_most [] i = omega arith
entry_at_most (w ∷ ws) zero = omega (arith, sum_by-cons (λ k. k) w ws)
entry_at_most (w ∷ ws) (suc i) = omega (arith, sum_by-cons (λ k. k) w ws, entry_at_most ws i)

-- the sizes of a node in a record are those that the definitions see
record SizesSeen (p : Validated) (m : ℕ) : Type 0 where
  realizations : length (node_at (problem_of p) m).realizations ≡ (sizes_of p m).realizations
  rows : length (node_at (problem_of p) m).rows ≡ (sizes_of p m).rows
  successors : length (node_at (problem_of p) m).successors ≡ (sizes_of p m).successors
  light : All IsLight (node_at (problem_of p) m).successors

sizes_seen : (p : Validated) (m : ℕ) → is_validated p ≡ true → m < length p.parts.nodes → SizesSeen p m
sizes_seen p m e h =
    let q : Parts p m = parts_of_node p m e h in
    let n : nodes.Node = q.node in
    let s : Subproblem = q.subproblem in
    let w = weighty n (length s.randoms) q.fit.realizations in
    let l = linked n (length p.parts.nodes) q.fit.successors in
    let rs : (node_at (problem_of p) m).realizations ≡ realizations_of n.weights n.values = ap (λ (k : Node). k.realizations) q.fit.is ∙ realizations-node_of n s q.low q.high in
    let ls : (node_at (problem_of p) m).successors ≡ successors_of n.successors n.successor_weights = ap (λ (k : Node). k.successors) q.fit.is ∙ successors-node_of n s q.low q.high in
    let rows : (node_at (problem_of p) m).rows ≡ s.rows = ap (λ (k : Node). k.rows) q.fit.is ∙ rows-node_of n s q.low q.high in
    let sub : subproblem_of p m ≡ Some s = ap (λ (o : Option nodes.Node). option_and_then (λ (k : nodes.Node). slice_get p.parts.subs k.sub) o) q.fit.the_node ∙ q.fit.the_subproblem in
    let counted : length (realizations_of n.weights n.values) ≡ length n.weights =
    length-map {B = Realization} (zip n.weights n.values) (λ (r : ℕ × List ℤ). record { weight = r.0; values = r.1 }) ∙ same (length n.weights) (length n.values) (length (zip n.weights n.values)) (length-zip n.weights n.values) w.3 in
    record {
      realizations = ap (λ (k : List Realization). length k) rs ∙ counted ∙ sym (ap (λ (k : List ℕ). length k) (weights_are p.parts m n q.fit.the_node));
      rows = ap (λ (k : List Row). length k) rows ∙ sym (ap (λ (o : Option Subproblem). unwrap_or (option_map (λ (k : Subproblem). length k.rows) o) 0) sub);
      successors = ap (λ (k : List Successor). length k) ls ∙ length-successors_of n.successors n.successor_weights l.1 ∙ sym (ap (λ (k : List ℕ). length k) (successors_are p.parts m n q.fit.the_node));
      light = subst (All IsLight) (sym ls) (All-successors_of IsLight n.successors n.successor_weights l.1 (λ i inside. omega (arith, entry_at_most n.successor_weights i, l.2)));
    }
  where
    same : (a b c : ℕ) → c ≡ min a b → b ≡ a → c ≡ a
    same a b c e f = omega (arith, e, f)

no_ok : {A E : Type 0} (x : E) (y : A) → ◌≡◌ {A = Result A E} (Err x) (Ok y) → ⊥
no_ok x y e = cc

-- each realization counts once at most
module _ (pools : List (List Cut)) (n : Node) (k m : ℕ) (state : List ℤ) where
  few_counted : (found : Certified) (vs : List (List ℤ)) (xs : List Answer) (g : Certified) → certify_all (certify pools n k m state) found vs xs ≡ Ok g → g.unanswered ≤ found.unanswered + length vs
  unfolding certify
  few_counted found [] xs g is = omega (arith, ap (λ (c : Certified). c.unanswered) (same_ok found g is))
  few_counted found (v ∷ vs) [] g is = omega (arith, ap (λ (c : Certified). c.unanswered) (same_ok found g is))
  few_counted found (v ∷ vs) (a ∷ xs) g is = by (λ f w. few_counted f vs xs g w) (classify_of n v state a) is
    where
      c : Certificate
      c = settled_of pools n a

      by : ((f : Certified) → certify_all (certify pools n k m state) f vs xs ≡ Ok g → g.unanswered ≤ f.unanswered + length vs) → (j : Classified) → (with_classified k m state v c found j >>= λ next. certify_all (certify pools n k m state) next vs xs) ≡ Ok g → g.unanswered ≤ found.unanswered + suc (length vs)
      by tail classified.Found w = omega (arith, tail (record { list = found.list ++ c ∷ []; unanswered = found.unanswered }) w)
      by tail classified.Unanswered w = omega (arith, tail (record { list = found.list ++ c ∷ []; unanswered = found.unanswered + 1 }) w)
      by tail (classified.Infeasibility rows) w = absurd (no_ok _ g w)

-- the premises under which a step of an entry can be written, with at most so many pairs to a list
pub record StepText (p : Validated) (most : ℕ) (s : EntryStep) : Type 0 where
  pub suits : StepSuits p s
  pub fits : StepFits s
  pub within : StepWithin most s

module _ {Start Chain : Type 0} (v : Solving Start Chain) (p : Validated) (validated : is_validated p ≡ true) (pools : List (List Cut)) (k m : ℕ) (state : List ℤ) (known : m < length p.parts.nodes) (fit : PoolsFit p pools)
    (most : ℕ) (small : most < 2 ^ 32) (few : (j : ℕ) → length (pool pools j) ≤ most) (found : Certified) (is : certified v p pools k m state ≡ Ok found) where
  abbrev n : Node
  n = node_at (problem_of p) m

  abbrev answers : List Answer
  answers = answers_at v p pools m state

  seen : SizesSeen p m
  seen = sizes_seen p m validated known

  at : InPlaces v p pools k m state found
  at = each_in_place v p pools k m state found is

  solved_texts : AllByRecursion (HasText most n) at.solved.list
  solved_texts = subst (AllByRecursion (HasText most n)) (sym at.order.settled) (all_text pools n most (have_cuts p m pools validated known fit) seen.light small few answers)

  texts : AllByRecursion (HasText most n) found.list
  texts = subst (λ (f : Certified). AllByRecursion (HasText most n) f.list) (sym at.placed_is)
      (recursion_from_All (HasText most n) _ (all_in_places (node_values_at p.parts m) at.solved.list at.order.count (HasText most n) (All-from_recursion (HasText most n) at.solved.list solved_texts)))

  count : length found.list ≡ (sizes_of p m).realizations
  count = ap (λ (f : Certified). length f.list) at.placed_is ∙ length-in_places (node_values_at p.parts m) at.solved.list at.order.count ∙ (values_here p m validated known).count ∙ seen.realizations

  pub certified_text : StepText p most (record { node = m; list = found.list })
  certified_text = record {
    suits = record { count = count; each = all_weaker (HasText most n) (SuitsSizes (sizes_of p m)) (λ c h. record { rows = h.rows ∙ seen.rows; cuts = h.cuts ∙ seen.successors }) found.list texts };
    fits = all_weaker (HasText most n) CertificateFits (λ c h. h.fits) found.list texts;
    within = all_weaker (HasText most n) (λ (c : Certificate). AllByRecursion (λ qs. length qs ≤ most) c.cuts) (λ c h. h.within) found.list texts;
  }

  pub certified_few : found.unanswered ≤ 100
  certified_few = omega (
    arith,
    ap (λ (f : Certified). f.unanswered) at.placed_is,
    few_counted pools n k m state nothing_certified (values_of p.parts m (order_at p.parts m)) answers at.solved at.order.is,
    length-values_of p.parts m (order_at p.parts m),
    length-order_at p.parts m,
    (values_here p m validated known).few,
  )
