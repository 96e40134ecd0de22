-- The parts of a validated problem's node meet the premises of its stage problems.
use Rattle.std.proofs.Common.{◌≡◌, ℕ, zero, suc, ◌<◌, ◌≤◌, ◌^◌, max, ℤ, pos, ◌+ℤ◌, ◌*ℤ◌, ◌≤ℤ◌, true, nat_abs, nat_lt, List, [], length, map, zip, get_or, All, Option, Some, slice_get, sym, ap, subst, ◌∙◌, mul-le-mul, arith}
use Rattle.std.specs.List.{list_all}
use Rattle.std.proofs.lemmas.Bool.Decides.{nat_tests}
use Rattle.std.proofs.lemmas.Grind.{common_steps}
use Rattle.std.proofs.lemmas.Int.{ints}
use Rattle.std.proofs.lemmas.List.{get_or-map, get_or_default, length-map}
use Rattle.base_num.specs.Sums.{sum_to, entry}
use Rattle.base_num.proofs.Order.{le_trans, le_scale}
use Rattle.base_num.proofs.Fronts.{sum_some}
use Rattle.base_num.proofs.Tests.{all_at, some_of}
use Rattle.problem.specs.declared.parts.Decision.{Decision}
use Rattle.problem.specs.declared.parts.Row.{Row}
use Rattle.problem.specs.declared.parts.Node as nodes
use Rattle.problem.specs.declared.parts.Subproblem.{Subproblem}
use Rattle.problem.specs.Limits.{realizations_fit, are_numbers, are_values, decision_fits, row_fits, counts_fit, outs_differ, subproblem_fits, terms_fit}
use Rattle.problem.specs.Validated.{Validated, is_validated, subproblem_of, out_lows, out_highs}
use Rattle.problem.proofs.ValidatedFacts.{parts-is_validated, few_states, few_nodes, box_counts}
use Rattle.problem.proofs.SubproblemFacts.{rows-subproblem_fits, decisions-subproblem_fits, counts-subproblem_fits}
use Rattle.theory.specs.declared.cut.Cut.{Cut}
use Rattle.theory.specs.Problem.{S, Successor, Node, node_at}
use Rattle.theory.specs.View.{node_of, successors_of, problem_of}
use Rattle.theory.specs.Tree.{InBox}
use Rattle.theory.specs.Size.{magnitude, reach}
use Rattle.theory.specs.Pools.{pool}
use Rattle.theory.specs.Fit.{CutFits, Fit}
use Rattle.theory.specs.Premises.{Nested}
use Rattle.theory.proofs.SizeToFit.{size_mul}
use Rattle.theory.proofs.Views.{successor_at, length-successors_of, low-node_of, high-node_of, successors-node_of}
use Rattle.theory.proofs.ValidatedParts.{PartsFit, weighty, parts_given, linked, successors_known, outs_known, numbers_counted, numbers_small}
use Rattle.theory.proofs.ValidatedPremises.{shaped-validated}
use Rattle.cut_pool.specs.AtNodes.{IsStateAt}
use Rattle.plan_stage.specs.Spans.{Spans}
use Rattle.plan_stage.specs.Nodes.{Stands, quarter, quarters}
use Rattle.std.proofs.lemmas.List.Elements.{All-map}
use Rattle.std.proofs.lemmas.Slice.Zip.{get_or-zip, length-zip}
use Rattle.plan_stage.specs.Given.{AreGiven, IsOver, AreOf, AreNodePartsWithin, HasReference}

-- the box of a node's incoming state
pub record Boxed (p : Validated) (m : ℕ) (n : nodes.Node) (s : Subproblem) : Type 0 where
  pub low : List ℤ
  pub high : List ℤ
  pub fit : PartsFit p m n s low high

pub boxed : {p : Validated} {m : ℕ} {n : nodes.Node} {s : Subproblem} → Stands p m n s → Boxed p m n s
boxed {p} {m} {n} {s} t =
    let counts = box_counts p t.validated in
    let l = some_of p.lo m (omega (arith, counts.0, t.known)) in
    let u = some_of p.hi m (omega (arith, counts.1, t.known)) in
    record { low = l.0; high = u.0; fit = parts_given p m n s l.0 u.0 t.validated t.the_node t.the_subproblem l.1 u.1 }

-- a summand is at most the sum where none is negative
term_at_most : (n k : ℕ) (f : ℕ → ℤ) → ((j : ℕ) → pos 0 ≤ℤ f j) → k < n → f k ≤ℤ sum_to n f
term_at_most zero k f some h = absurd (omega arith)
term_at_most (suc n) zero f some h = let tail = sum_some n (λ j. f (suc j)) (λ j. some (suc j)) in omega (arith, ints, tail)
term_at_most (suc n) (suc k) f some h = let tail = term_at_most n k (λ j. f (suc j)) (λ j. some (suc j)) (omega arith) in let first = some 0 in omega (arith, ints, tail, first)

no_less : (a b : ℕ) → pos 0 ≤ℤ (pos a *ℤ pos b)
no_less a b = omega (arith, ints)

-- the parts of a small sum
alpha_small : (a s t : ℤ) → pos 0 ≤ℤ s → (magnitude a +ℤ s) ≤ℤ t → magnitude a ≤ℤ t
alpha_small a s t h k = omega (arith, ints, h, k)

rest_small : (a x s t : ℤ) → x ≤ℤ s → (magnitude a +ℤ s) ≤ℤ t → x ≤ℤ t
rest_small a x s t h k = omega (arith, ints, h, k)

-- a slope, and its product with a number of the box
slope_small : (b : ℤ) (r : ℕ) → (magnitude b *ℤ pos (max 1 r)) ≤ℤ pos (2 ^ 104) → nat_abs b ≤ 2 ^ 104
slope_small b r h = omega (arith, ints, h, mul-le-mul (le (nat_abs b)) (one r))
  where
    le : (x : ℕ) → x ≤ x
    le x = omega arith

    one : (r : ℕ) → 1 ≤ max 1 r
    one r = omega arith

product_small : (b x : ℤ) (r : ℕ) → nat_abs x ≤ r → (magnitude b *ℤ pos r) ≤ℤ pos (2 ^ 104) → nat_abs (b *ℤ x) ≤ 2 ^ 104
product_small b x r h k = let is : magnitude (b *ℤ x) ≡ magnitude b *ℤ magnitude x = size_mul b x in
    let more : (magnitude b *ℤ magnitude x) ≤ℤ (magnitude b *ℤ pos r) = le_scale (nat_abs b) (magnitude x) (pos r) (omega (arith, ints)) in
    omega (arith, ints, is, more, k)

in_reach : (l x h : ℤ) → l ≤ℤ x → x ≤ℤ h → nat_abs x ≤ max 1 (max (nat_abs l) (nat_abs h))
in_reach l x h p q = omega (arith, ints)

ordered : (d : Decision) → decision_fits d ≡ true → d.low ≤ℤ d.high
ordered d e = grind (arith, ints, nat_tests, common_steps, e)

-- a cut that fits a successor's box spans what leaves the node
module _ (n : nodes.Node) (s : Subproblem) (low high : List ℤ) (k : Node) (nested : Nested (node_of n s low high) k) (known : list_all (λ o. nat_lt o (length s.decisions)) s.outs ≡ true) (decisions : list_all decision_fits s.decisions ≡ true) where
  out_low : (i : ℕ) → i < length s.outs → entry (out_lows s) i ≡ entry (map (λ (d : Decision). d.low) s.decisions) (get_or s.outs i 0)
  out_low i h = get_or-map (λ o. entry (map (λ (d : Decision). d.low) s.decisions) o) s.outs i 0 (pos 0) h

  out_high : (i : ℕ) → i < length s.outs → entry (out_highs s) i ≡ entry (map (λ (d : Decision). d.high) s.decisions) (get_or s.outs i 0)
  out_high i h = get_or-map (λ o. entry (map (λ (d : Decision). d.high) s.decisions) o) s.outs i 0 (pos 0) h

  count : length s.outs ≡ length k.low
  unfolding node_of
  count = nested.count

  low_above : (i : ℕ) → i < length k.low → entry k.low i ≤ℤ entry (map (λ (d : Decision). d.low) s.decisions) (get_or s.outs i 0)
  unfolding node_of
  low_above i h = nested.lows i h

  high_below : (i : ℕ) → i < length k.low → entry (map (λ (d : Decision). d.high) s.decisions) (get_or s.outs i 0) ≤ℤ entry k.high i
  unfolding node_of
  high_below i h = nested.highs i h

  crossing : (o : ℕ) → o < length s.decisions → entry (map (λ (d : Decision). d.low) s.decisions) o ≤ℤ entry (map (λ (d : Decision). d.high) s.decisions) o
  crossing o h =
      let d = (some_of s.decisions o h).0 in
      let at : Decision = get_or s.decisions o d in
      let l = get_or-map (λ (d : Decision). d.low) s.decisions o d (pos 0) h in
      let u = get_or-map (λ (d : Decision). d.high) s.decisions o d (pos 0) h in
      let between = ordered at (all_at decision_fits s.decisions o d decisions h) in
      omega (arith, ints, l, u, between)

  known_out : (i : ℕ) → i < length s.outs → get_or s.outs i 0 < length s.decisions
  known_out i h = below (get_or s.outs i 0) (length s.decisions) (all_at (λ o. nat_lt o (length s.decisions)) s.outs i 0 known h)
    where
      below : (a b : ℕ) → nat_lt a b ≡ true → a < b
      below a b e = grind (arith, nat_tests)

  low_reach : (i : ℕ) → i < length s.outs → nat_abs (entry (out_lows s) i) ≤ max 1 (max (nat_abs (entry k.low i)) (nat_abs (entry k.high i)))
  low_reach i h =
      let inside : i < length k.low = omega (arith, count) in
      let o : ℕ = get_or s.outs i 0 in
      subst (λ (z : ℤ). nat_abs z ≤ max 1 (max (nat_abs (entry k.low i)) (nat_abs (entry k.high i)))) (sym (out_low i h))
      (in_reach (entry k.low i) (entry (map (λ (d : Decision). d.low) s.decisions) o) (entry k.high i) (low_above i inside) (le_trans _ (entry (map (λ (d : Decision). d.high) s.decisions) o) _ (crossing o (known_out i h)) (high_below i inside)))

  high_reach : (i : ℕ) → i < length s.outs → nat_abs (entry (out_highs s) i) ≤ max 1 (max (nat_abs (entry k.low i)) (nat_abs (entry k.high i)))
  high_reach i h =
      let inside : i < length k.low = omega (arith, count) in
      let o : ℕ = get_or s.outs i 0 in
      subst (λ (z : ℤ). nat_abs z ≤ max 1 (max (nat_abs (entry k.low i)) (nat_abs (entry k.high i)))) (sym (out_high i h))
      (in_reach (entry k.low i) (entry (map (λ (d : Decision). d.high) s.decisions) o) (entry k.high i) (le_trans _ (entry (map (λ (d : Decision). d.low) s.decisions) o) _ (low_above i inside) (crossing o (known_out i h))) (high_below i inside))

  spans-fits : (c : Cut) → CutFits k c → Spans s c
  spans-fits c f =
      let part : ℕ → ℤ = λ j. magnitude (entry c.beta j) *ℤ reach k.low k.high j in
      let some : (j : ℕ) → pos 0 ≤ℤ part j = λ j. no_less (nat_abs (entry c.beta j)) (max 1 (max (nat_abs (entry k.low j)) (nat_abs (entry k.high j)))) in
      let each : (i : ℕ) → i < length s.outs → part i ≤ℤ pos (2 ^ 104) = λ i h. rest_small c.alpha (part i) (sum_to (length k.low) part) (pos (2 ^ 104)) (term_at_most (length k.low) i part some (omega (arith, count))) f.small in
      let alpha : magnitude c.alpha ≤ℤ pos (2 ^ 104) = alpha_small c.alpha (sum_to (length k.low) part) (pos (2 ^ 104)) (sum_some (length k.low) part some) f.small in
      record {
        slopes = f.slopes ∙ sym count;
        alpha = omega (arith, ints, alpha);
        each = λ i h. slope_small (entry c.beta i) (max (nat_abs (entry k.low i)) (nat_abs (entry k.high i))) (each i h);
        lows = λ i h. product_small (entry c.beta i) (entry (out_lows s) i) (max 1 (max (nat_abs (entry k.low i)) (nat_abs (entry k.high i)))) (low_reach i h) (each i h);
        highs = λ i h. product_small (entry c.beta i) (entry (out_highs s) i) (max 1 (max (nat_abs (entry k.low i)) (nat_abs (entry k.high i)))) (high_reach i h) (each i h);
      }

-- the limits of a subproblem
few : (states : ℕ) (s : Subproblem) → subproblem_fits states s ≡ true → (length s.decisions ≤ 200) × (length s.rows ≤ 200) × (length s.randoms ≤ 50) × (length s.outs ≡ states)
few states s e =
    let counts : counts_fit states s ≡ true = counts-subproblem_fits states s e in
    (grind (arith, nat_tests, common_steps, counts), grind (arith, nat_tests, common_steps, counts), grind (arith, nat_tests, common_steps, counts), grind (arith, nat_tests, common_steps, counts))

differ : (states : ℕ) (s : Subproblem) → subproblem_fits states s ≡ true → outs_differ s ≡ true
differ states s e = grind (arith, common_steps, e)

module _ (p : Validated) (e : is_validated p ≡ true) (m : ℕ) (h : m < length p.parts.nodes) (n : nodes.Node) (s : Subproblem) (low high : List ℤ) (fit : PartsFit p m n s low high) where
  -- a successor's box holds what leaves the node
  nested_at : (i : ℕ) → i < length n.successors → Nested (node_of n s low high) (node_at (problem_of p) (get_or n.successors i 0))
  nested_at i k =
      let l = linked n (length p.parts.nodes) fit.successors in
      let no_successor : Successor = record { node = 0; weight = 0 } in
      let successors : (node_at (problem_of p) m).successors ≡ successors_of n.successors n.successor_weights = ap (λ (x : Node). x.successors) fit.is ∙ successors-node_of n s low high in
      let inside : i < length (node_at (problem_of p) m).successors = subst (λ (ls : List Successor). i < length ls) (sym successors) (omega (arith, length-successors_of n.successors n.successor_weights l.1)) in
      let at : get_or (node_at (problem_of p) m).successors i no_successor ≡ record { node = get_or n.successors i 0; weight = get_or n.successor_weights i 0 } = ap (λ (ls : List Successor). get_or ls i no_successor) successors ∙ successor_at n.successors n.successor_weights i no_successor l.1 k in
      subst (λ (x : Node). Nested x (node_at (problem_of p) (get_or n.successors i 0))) fit.is
      (subst (λ (x : Successor). Nested (node_at (problem_of p) m) (node_at (problem_of p) x.node)) at ((shaped-validated p m e h).nested i no_successor inside))

  successor_there : (i : ℕ) → i < length n.successors → get_or n.successors i 0 < length p.parts.nodes
  successor_there i k = below (get_or n.successors i 0) (all_at (λ m. nat_lt m (length p.parts.nodes)) n.successors i 0 (successors_known n (length p.parts.nodes) fit.successors) k)
    where
      below : (a : ℕ) → nat_lt a (length p.parts.nodes) ≡ true → a < length p.parts.nodes
      below a b = grind (arith, nat_tests)

  each_successor : (P : ℕ → Type 0) → ((i : ℕ) → i < length n.successors → P (get_or n.successors i 0)) → All P n.successors
  each_successor P f = λ i d k. subst P (get_or_default n.successors i 0 d k) (f i k)

  -- the parts and the pools are within what a stage problem needs
  pub within-validated : (pools : List (List Cut)) → Fit (problem_of p) (length p.parts.nodes) pools → AreNodePartsWithin pools n s
  within-validated pools f =
      let l = linked n (length p.parts.nodes) fit.successors in
      let c = few (length p.parts.states) s fit.subproblem in
      let decisions = decisions-subproblem_fits (length p.parts.states) s fit.subproblem in
      let known = outs_known s (length p.parts.states) fit.subproblem in
      record {
        decisions = c.0;
        rows = c.1;
        outs = omega (arith, c.3, few_states p.parts (parts-is_validated p e));
        known_outs = known;
        differ = differ (length p.parts.states) s fit.subproblem;
        weights = l.1;
        successors = omega (arith, l.0, few_nodes p.parts (parts-is_validated p e));
        there = each_successor (λ k. k < length pools) (λ i k. subst (λ (c : ℕ). get_or n.successors i 0 < c) (sym f.lists) (successor_there i k));
        some = each_successor (λ k. 0 < length (pool pools k)) (λ i k. f.some (get_or n.successors i 0) (successor_there i k));
        spans = each_successor (λ k. All (Spans s) (pool pools k)) (λ i k. λ j d o. spans-fits n s low high (node_at (problem_of p) (get_or n.successors i 0)) (nested_at i k) known decisions (get_or (pool pools (get_or n.successors i 0)) j d) (f.cuts (get_or n.successors i 0) (successor_there i k) j d o));
      }

  -- so are values and a state
  state_small : (x l u : ℤ) → (pos S *ℤ l) ≤ℤ x → x ≤ℤ (pos S *ℤ u) → nat_abs l ≤ 2 ^ 40 → nat_abs u ≤ 2 ^ 40 → nat_abs x ≤ 2 ^ 64
  unfolding S
  state_small x l u a b c d = omega (arith, ints, a, b, c, d)

  inside : (state : List ℤ) → IsStateAt p m state → InBox S low high state
  inside state b =
      let lows : (node_at (problem_of p) m).low ≡ low = ap (λ (x : Node). x.low) fit.is ∙ low-node_of n s low high in
      let highs : (node_at (problem_of p) m).high ≡ high = ap (λ (x : Node). x.high) fit.is ∙ high-node_of n s low high in
      subst (λ (us : List ℤ). InBox S low us state) highs (subst (λ (ls : List ℤ). InBox S ls (node_at (problem_of p) m).high state) lows b)

  values_of : (values : List ℤ) → are_values (subproblem_of p m) values ≡ true → subproblem_of p m ≡ Some s → are_numbers (length s.randoms) values ≡ true
  values_of values v fs = subst (λ (o : Option Subproblem). are_values o values ≡ true) fs v

  pub given-validated : (values state : List ℤ) → are_numbers (length s.randoms) values ≡ true → InBox S low high state → AreGiven values state
  given-validated values state v b =
      let c = few (length p.parts.states) s fit.subproblem in
      let states = few_states p.parts (parts-is_validated p e) in
      let lows = numbers_counted low (length p.parts.states) fit.lows in
      let highs = numbers_counted high (length p.parts.states) fit.highs in
      record {
        few_values = omega (arith, numbers_counted values (length s.randoms) v, c.2);
        few_states = omega (arith, b.count, lows, states);
        small_values = λ k d o. subst (λ (z : ℤ). nat_abs z ≤ 2 ^ 40) (get_or_default values k (pos 0) d o) (numbers_small values (length s.randoms) k v o);
        small_state = λ k d o.
            let at : k < length low = omega (arith, b.count) in
            subst (λ (z : ℤ). nat_abs z ≤ 2 ^ 64) (get_or_default state k (pos 0) d o) (state_small (entry state k) (entry low k) (entry high k) (b.above k at) (b.below k at) (numbers_small low (length p.parts.states) k fit.lows at) (numbers_small high (length p.parts.states) k fit.highs (omega (arith, lows, highs))));
      }

  pub over-validated : (values state : List ℤ) → length values ≡ length s.randoms → length state ≡ length p.parts.states → All (IsOver (length state) (length values)) s.rows
  over-validated values state v x = λ k d o.
      let row : Row = get_or s.rows k d in
      let fits : row_fits (length p.parts.states) s row ≡ true = all_at (row_fits (length p.parts.states) s) s.rows k d (rows-subproblem_fits (length p.parts.states) s fit.subproblem) o in
      record {
        over_states = subst (λ (c : ℕ). terms_fit c 0 row.states ≡ true) (sym x) (grind (arith, common_steps, fits));
        over_randoms = subst (λ (c : ℕ). terms_fit c 0 row.randoms ≡ true) (sym v) (grind (arith, common_steps, fits));
      }

-- the premises on the own rows of a node, at values and a state
pub of-validated : {p : Validated} {m : ℕ} {n : nodes.Node} {s : Subproblem} (values state : List ℤ) → Stands p m n s → are_values (subproblem_of p m) values ≡ true → IsStateAt p m state → AreOf s values state
of-validated {p} {m} {n} {s} values state t v x =
    let b = boxed t in
    let numbers = values_of p t.validated m t.known n s b.low b.high b.fit values v t.the_subproblem in
    let box = inside p t.validated m t.known n s b.low b.high b.fit state x in
    record {
      given = given-validated p t.validated m t.known n s b.low b.high b.fit values state numbers box;
      over = over-validated p t.validated m t.known n s b.low b.high b.fit values state (numbers_counted values (length s.randoms) numbers) (box.count ∙ numbers_counted b.low (length p.parts.states) b.fit.lows);
    }

-- the premises on its columns and on the cuts
pub within-fit : {p : Validated} {m : ℕ} {n : nodes.Node} {s : Subproblem} (pools : List (List Cut)) → Stands p m n s → Fit (problem_of p) (length p.parts.nodes) pools → AreNodePartsWithin pools n s
within-fit {p} {m} {n} {s} pools t f = let b = boxed t in within-validated p t.validated m t.known n s b.low b.high b.fit pools f

-- the premises on its reference program
quarter_small : (l u : ℤ) → nat_abs l ≤ 2 ^ 40 → nat_abs u ≤ 2 ^ 40 → nat_abs (quarter (l, u)) ≤ 2 ^ 64
quarter_small l u a b = omega (arith, ints, a, b)

pub reference-validated : {p : Validated} {m : ℕ} {n : nodes.Node} {s : Subproblem} (low high : List ℤ) → Stands p m n s → slice_get p.lo m ≡ Some low → slice_get p.hi m ≡ Some high → HasReference n s low high
reference-validated {p} {m} {n} {s} low high t fl fh =
    let e = t.validated in
    let fit = parts_given p m n s low high e t.the_node t.the_subproblem fl fh in
    let w = weighty n (length s.randoms) fit.realizations in
    let c = few (length p.parts.states) s fit.subproblem in
    let some : 0 < length n.values = omega (arith, w.0, w.3) in
    let all : list_all (are_numbers (length s.randoms)) n.values ≡ true = values_fit n (length s.randoms) fit.realizations in
    let numbers : are_numbers (length s.randoms) (get_or n.values 0 []) ≡ true = all_at (are_numbers (length s.randoms)) n.values 0 [] all some in
    let lows = numbers_counted low (length p.parts.states) fit.lows in
    let highs = numbers_counted high (length p.parts.states) fit.highs in
    let count : length (quarters low high) ≡ length p.parts.states = omega (arith, length-map (zip low high) quarter, length-zip low high, lows, highs) in
    let values = numbers_counted (get_or n.values 0 []) (length s.randoms) numbers in
    record {
      some = some;
      decisions = c.0;
      rows = c.1;
      given = record {
        given = record {
          few_values = omega (arith, values, c.2);
          few_states = omega (arith, count, few_states p.parts (parts-is_validated p e));
          small_values = λ k d o. subst (λ (z : ℤ). nat_abs z ≤ 2 ^ 40) (get_or_default (get_or n.values 0 []) k (pos 0) d o) (numbers_small (get_or n.values 0 []) (length s.randoms) k numbers o);
          small_state = All-map (λ (z : ℤ). nat_abs z ≤ 2 ^ 64) quarter (zip low high)
              (λ k d o.
              let in_low : k < length low = omega (arith, length-zip low high, o) in
              let in_high : k < length high = omega (arith, length-zip low high, o) in
              subst (λ (b : ℤ × ℤ). nat_abs (quarter b) ≤ 2 ^ 64) (get_or_default (zip low high) k (pos 0, pos 0) d o)
              (subst (λ (b : ℤ × ℤ). nat_abs (quarter b) ≤ 2 ^ 64) (sym (get_or-zip low high k (pos 0, pos 0) in_low in_high))
              (quarter_small (entry low k) (entry high k) (numbers_small low (length p.parts.states) k fit.lows in_low) (numbers_small high (length p.parts.states) k fit.highs in_high))));
        };
        over = over-validated p e m t.known n s low high fit (get_or n.values 0 []) (quarters low high) values count;
      };
    }
  where
    values_fit : (n : nodes.Node) (randoms : ℕ) → realizations_fit randoms n ≡ true → list_all (are_numbers randoms) n.values ≡ true
    values_fit n randoms e = grind (arith, nat_tests, common_steps)
