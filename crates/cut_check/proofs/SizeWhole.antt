-- The size of a realization, by the terms of its rows, its costs and its pairs.
use Rattle.std.proofs.Common.{◌≡◌, ℕ, ◌+◌, ◌*◌, ℤ, pos, ◌+ℤ◌, ◌*ℤ◌, true, List, [], ◌∷◌, length, map, zip, All, nat_abs, nat_lt, arith, refl, ap, ap₂, sym, ◌∙◌}
use Rattle.std.specs.List.{sum_by, list_all}
use Rattle.std.proofs.lemmas.Bool.Decides.{nat_tests}
use Rattle.std.proofs.lemmas.List.{length-map}
use Rattle.std.proofs.lemmas.List.Elements.{All-nil, All-cons}
use Rattle.std.proofs.lemmas.List.Sums.{sum_by-cons}
use lib.IntN.{*ℤ-zero}
use Rattle.base_num.specs.Sums.{sum_to, total, entry, dot, coefficient, placed}
use Rattle.base_num.proofs.Ring.{ring, var, ◌⊕◌, ◌⊗◌}
use Rattle.base_num.proofs.Sums.{sum_ext, sum_zero, sum_add, sum_times, total_ext, total_add}
use Rattle.problem.specs.Limits.{terms_fit, row_fits, subproblem_fits}
use Rattle.problem.specs.declared.parts.Decision.{Decision}
use Rattle.problem.specs.declared.parts.Row.{Row}
use Rattle.problem.specs.declared.parts.Subproblem.{Subproblem}
use Rattle.problem.specs.declared.parts.Node as nodes
use Rattle.theory.specs.declared.cut.Cut.{Cut}
use Rattle.theory.specs.declared.cut.Certificate.{Certificate}
use Rattle.theory.specs.Problem.{S, Successor}
use Rattle.theory.specs.View.{successors_of, node_of}
use Rattle.theory.specs.Certificates.{cut_at}
use Rattle.theory.specs.CutOf.{side}
use Rattle.theory.specs.Pools.{pool}
use Rattle.theory.specs.Size.{magnitude, magnitudes, terms_size, coefficient_size, reach, alpha_size, beta_size}
use Rattle.theory.proofs.Lists.{All-zip}
use Rattle.theory.proofs.ValidatedParts.{counted}
use Rattle.cut_make.specs.SizeByTerms.{over_decisions, over_box, over_values, terms_by, numbers_by, scaled_row, rows_amount, decision_amount, pair_amount, successor_amount, successors_amount, total_successor_weight, certificate_amount}
use Rattle.cut_make.proofs.SizeParts.{pos-sum_by, total_ext_all, row_terms, cut_terms, terms_of, reach-decisions, decision_costs, numbers_at, random_costs, found_cut}

-- a sum over variables of sums over a list
exchange : {A : Type 0} (n : ℕ) (x : ℕ → ℤ) (g : A → ℕ → ℤ) (qs : List A) → sum_to n (λ j. x j *ℤ total (λ q. g q j) qs) ≡ total (λ q. sum_to n (λ j. x j *ℤ g q j)) qs
exchange n x g [] = sum_zero n (λ j. x j *ℤ pos 0) (λ k p. *ℤ-zero (x k))
exchange n x g (q ∷ qs) =
    sum_ext n (λ j. x j *ℤ (g q j +ℤ total (λ r. g r j) qs)) (λ j. x j *ℤ g q j +ℤ x j *ℤ total (λ r. g r j) qs) (λ j p. ring (x j ∷ g q j ∷ total (λ r. g r j) qs ∷ []) (var 0 ⊗ (var 1 ⊕ var 2)) (var 0 ⊗ var 1 ⊕ var 0 ⊗ var 2) tt)
    ∙ sum_add n (λ j. x j *ℤ g q j) (λ j. x j *ℤ total (λ r. g r j) qs) ∙ ap (λ (k : ℤ). sum_to n (λ j. x j *ℤ g q j) +ℤ k) (exchange n x g qs)

exchange_scaled : {A : Type 0} (n : ℕ) (x : ℕ → ℤ) (m : A → ℤ) (f : A → ℕ → ℤ) (qs : List A) → sum_to n (λ j. x j *ℤ total (λ q. m q *ℤ f q j) qs) ≡ total (λ q. m q *ℤ sum_to n (λ j. x j *ℤ f q j)) qs
exchange_scaled n x m f qs =
    exchange n x (λ q j. m q *ℤ f q j) qs
    ∙ total_ext (λ q. sum_to n (λ j. x j *ℤ (m q *ℤ f q j))) (λ q. m q *ℤ sum_to n (λ j. x j *ℤ f q j)) qs
    (λ q. sum_ext n (λ j. x j *ℤ (m q *ℤ f q j)) (λ j. m q *ℤ (x j *ℤ f q j)) (λ j p. ring (x j ∷ m q ∷ f q j ∷ []) (var 0 ⊗ (var 1 ⊗ var 2)) (var 1 ⊗ (var 0 ⊗ var 2)) tt) ∙ sum_times n (m q) (λ j. x j *ℤ f q j))

-- the variables of a row's terms are known, each once
abbrev pub Placed : ℕ → ℕ → Row → Type 0
Placed decisions states row = (terms_fit decisions 0 row.decisions ≡ true) × (terms_fit states 0 row.states ≡ true)

pub rows_placed : (s : Subproblem) (states : ℕ) → subproblem_fits states s ≡ true → All (Placed (length s.decisions) states) s.rows
rows_placed s states e = each s.rows (grind (arith, nat_tests))
  where
    each : (rows : List Row) → list_all (row_fits states s) rows ≡ true → All (Placed (length s.decisions) states) rows
    each [] h = All-nil (Placed (length s.decisions) states)
    each (row ∷ rows) h = All-cons (Placed (length s.decisions) states) row rows (grind (arith, nat_tests), grind (arith, nat_tests)) (each rows (grind (arith, nat_tests)))

pub outs_placed : (s : Subproblem) (states : ℕ) → subproblem_fits states s ≡ true → list_all (λ o. nat_lt o (length s.decisions)) s.outs ≡ true
outs_placed s states e = grind (arith, nat_tests)

module _ (ds : List Decision) (low high values : List ℤ) where
  abbrev decided : ℕ → ℤ
  decided j = pos (over_decisions ds j)

  abbrev incoming : ℕ → ℤ
  incoming k = pos (over_box low high k)

  one_row : (q : Row × ℤ) → Placed (length ds) (length low) q.0
      → magnitude q.1 *ℤ (magnitude (side q.0 q.1) +ℤ terms_size q.0.randoms (entry values)) +ℤ magnitude q.1 *ℤ sum_to (length ds) (λ j. decided j *ℤ magnitude (coefficient q.0.decisions j)) +ℤ magnitude q.1 *ℤ sum_to (length low) (λ k. incoming k *ℤ magnitude (coefficient q.0.states k))
      ≡ pos (scaled_row ds low high values q)
  one_row q h =
      let d : ℕ = terms_by (over_decisions ds) q.0.decisions in
      let x : ℕ = terms_by (over_box low high) q.0.states in
      let r : ℕ = terms_by (over_values values) q.0.randoms in
      let a : ℕ = nat_abs (side q.0 q.1) in
      ap (λ (k : ℤ). magnitude q.1 *ℤ (pos a +ℤ k) +ℤ magnitude q.1 *ℤ sum_to (length ds) (λ j. decided j *ℤ magnitude (coefficient q.0.decisions j)) +ℤ magnitude q.1 *ℤ sum_to (length low) (λ k. incoming k *ℤ magnitude (coefficient q.0.states k))) (terms_of (over_values values) q.0.randoms)
      ∙ ap₂ (λ (k l : ℤ). magnitude q.1 *ℤ (pos a +ℤ pos r) +ℤ magnitude q.1 *ℤ k +ℤ magnitude q.1 *ℤ l) (row_terms (length ds) (over_decisions ds) q.0.decisions h.0) (row_terms (length low) (over_box low high) q.0.states h.1)
      ∙ ring (magnitude q.1 ∷ pos a ∷ pos r ∷ pos d ∷ pos x ∷ []) (var 0 ⊗ (var 1 ⊕ var 2) ⊕ var 0 ⊗ var 3 ⊕ var 0 ⊗ var 4) (var 0 ⊗ (var 1 ⊕ (var 3 ⊕ var 4) ⊕ var 2)) tt

  all_rows : (qs : List (Row × ℤ)) → All (λ (q : Row × ℤ). Placed (length ds) (length low) q.0) qs
      → total (λ (q : Row × ℤ). magnitude q.1 *ℤ (magnitude (side q.0 q.1) +ℤ terms_size q.0.randoms (entry values))) qs
      +ℤ sum_to (length ds) (λ j. decided j *ℤ total (λ (q : Row × ℤ). magnitude q.1 *ℤ magnitude (coefficient q.0.decisions j)) qs)
      +ℤ sum_to (length low) (λ k. incoming k *ℤ total (λ (q : Row × ℤ). magnitude q.1 *ℤ magnitude (coefficient q.0.states k)) qs)
      ≡ pos (sum_by (scaled_row ds low high values) qs)
  all_rows qs h =
      let a : Row × ℤ → ℤ = λ q. magnitude q.1 *ℤ (magnitude (side q.0 q.1) +ℤ terms_size q.0.randoms (entry values)) in
      let b : Row × ℤ → ℤ = λ q. magnitude q.1 *ℤ sum_to (length ds) (λ j. decided j *ℤ magnitude (coefficient q.0.decisions j)) in
      let c : Row × ℤ → ℤ = λ q. magnitude q.1 *ℤ sum_to (length low) (λ k. incoming k *ℤ magnitude (coefficient q.0.states k)) in
      ap₂ (λ (k l : ℤ). total a qs +ℤ k +ℤ l) (exchange_scaled (length ds) decided (λ (q : Row × ℤ). magnitude q.1) (λ (q : Row × ℤ) j. magnitude (coefficient q.0.decisions j)) qs) (exchange_scaled (length low) incoming (λ (q : Row × ℤ). magnitude q.1) (λ (q : Row × ℤ) k. magnitude (coefficient q.0.states k)) qs)
      ∙ ap (λ (k : ℤ). k +ℤ total c qs) (sym (total_add a b qs)) ∙ sym (total_add (λ q. a q +ℤ b q) c qs)
      ∙ total_ext_all (λ (q : Row × ℤ). Placed (length ds) (length low) q.0) (λ q. a q +ℤ b q +ℤ c q) (λ q. pos (scaled_row ds low high values q)) qs h one_row
      ∙ sym (pos-sum_by (scaled_row ds low high values) qs)

  module _ (pools : List (List Cut)) (outs : List ℕ) (e : list_all (λ o. nat_lt o (length ds)) outs ≡ true) where
    one_pair : (l : Successor) (s : ℕ × ℕ) → pos s.1 *ℤ magnitude (cut_at pools l s).alpha +ℤ pos s.1 *ℤ sum_to (length ds) (λ j. decided j *ℤ coefficient_size (placed outs (cut_at pools l s).beta) j) ≡ pos (pair_amount ds outs (pool pools l.node) s)
    one_pair l s =
        let c : Cut = cut_at pools l s in
        ap (λ (k : ℤ). pos s.1 *ℤ magnitude c.alpha +ℤ pos s.1 *ℤ k) (cut_terms (length ds) (over_decisions ds) outs c.beta e)
        ∙ ring (pos s.1 ∷ magnitude c.alpha ∷ pos (terms_by (over_decisions ds) (zip outs c.beta)) ∷ []) (var 0 ⊗ var 1 ⊕ var 0 ⊗ var 2) (var 0 ⊗ (var 1 ⊕ var 2)) tt
        ∙ ap (λ (k : ℕ). pos (s.1 * k)) (sym (found_cut ds outs (pool pools l.node) s.0))

    one_successor : (q : Successor × List (ℕ × ℕ)) → total (λ (s : ℕ × ℕ). pos s.1 *ℤ magnitude (cut_at pools q.0 s).alpha) q.1 +ℤ sum_to (length ds) (λ j. decided j *ℤ total (λ (s : ℕ × ℕ). pos s.1 *ℤ coefficient_size (placed outs (cut_at pools q.0 s).beta) j) q.1)
        ≡ pos (successor_amount ds outs pools (q.0.node, q.1))
    one_successor q =
        let a : ℕ × ℕ → ℤ = λ s. pos s.1 *ℤ magnitude (cut_at pools q.0 s).alpha in
        let b : ℕ × ℕ → ℤ = λ s. pos s.1 *ℤ sum_to (length ds) (λ j. decided j *ℤ coefficient_size (placed outs (cut_at pools q.0 s).beta) j) in
        ap (λ (k : ℤ). total a q.1 +ℤ k) (exchange_scaled (length ds) decided (λ (s : ℕ × ℕ). pos s.1) (λ (s : ℕ × ℕ) j. coefficient_size (placed outs (cut_at pools q.0 s).beta) j) q.1)
        ∙ sym (total_add a b q.1) ∙ total_ext (λ s. a s +ℤ b s) (λ s. pos (pair_amount ds outs (pool pools q.0.node) s)) q.1 (one_pair q.0) ∙ sym (pos-sum_by (pair_amount ds outs (pool pools q.0.node)) q.1)

    all_successors : (qs : List (Successor × List (ℕ × ℕ)))
        → total (λ (q : Successor × List (ℕ × ℕ)). total (λ (s : ℕ × ℕ). pos s.1 *ℤ magnitude (cut_at pools q.0 s).alpha) q.1) qs
        +ℤ sum_to (length ds) (λ j. decided j *ℤ total (λ (q : Successor × List (ℕ × ℕ)). total (λ (s : ℕ × ℕ). pos s.1 *ℤ coefficient_size (placed outs (cut_at pools q.0 s).beta) j) q.1) qs)
        ≡ pos (sum_by (λ (q : Successor × List (ℕ × ℕ)). successor_amount ds outs pools (q.0.node, q.1)) qs)
    all_successors qs =
        let a : Successor × List (ℕ × ℕ) → ℤ = λ q. total (λ (s : ℕ × ℕ). pos s.1 *ℤ magnitude (cut_at pools q.0 s).alpha) q.1 in
        let g : Successor × List (ℕ × ℕ) → ℕ → ℤ = λ q j. total (λ (s : ℕ × ℕ). pos s.1 *ℤ coefficient_size (placed outs (cut_at pools q.0 s).beta) j) q.1 in
        let b : Successor × List (ℕ × ℕ) → ℤ = λ q. sum_to (length ds) (λ j. decided j *ℤ g q j) in
        let f : Successor × List (ℕ × ℕ) → ℕ = λ q. successor_amount ds outs pools (q.0.node, q.1) in
        ap (λ (k : ℤ). total a qs +ℤ k) (exchange (length ds) decided g qs)
        ∙ sym (total_add a b qs) ∙ total_ext (λ q. a q +ℤ b q) (λ q. pos (f q)) qs one_successor ∙ sym (pos-sum_by f qs)

-- the arcs by their nodes alone
linked : (f : ℕ × List (ℕ × ℕ) → ℕ) (ms ws : List ℕ) (cuts : List (List (ℕ × ℕ))) → length ws ≡ length ms → sum_by (λ (q : Successor × List (ℕ × ℕ)). f (q.0.node, q.1)) (zip (successors_of ms ws) cuts) ≡ sum_by f (zip ms cuts)
linked f [] ws cuts e = refl
linked f (m ∷ ms) [] cuts e = absurd (omega arith)
linked f (m ∷ ms) (w ∷ ws) [] e = refl
linked f (m ∷ ms) (w ∷ ws) (c ∷ cs) e =
    sum_by-cons (λ (q : Successor × List (ℕ × ℕ)). f (q.0.node, q.1)) (record { node = m; weight = w }, c) (zip (successors_of ms ws) cs)
    ∙ ap (λ (k : ℕ). f (m, c) + k) (linked f ms ws cs (omega arith)) ∙ sym (sum_by-cons f (m, c) (zip ms cs))

-- sums of multiples
split_three : (n : ℕ) (x a b p : ℕ → ℤ) (u v : ℤ) → sum_to n (λ j. x j *ℤ (u *ℤ a j +ℤ v *ℤ b j +ℤ p j)) ≡ u *ℤ sum_to n (λ j. x j *ℤ a j) +ℤ v *ℤ sum_to n (λ j. x j *ℤ b j) +ℤ sum_to n (λ j. x j *ℤ p j)
split_three n x a b p u v =
    sum_ext n (λ j. x j *ℤ (u *ℤ a j +ℤ v *ℤ b j +ℤ p j)) (λ j. u *ℤ (x j *ℤ a j) +ℤ v *ℤ (x j *ℤ b j) +ℤ x j *ℤ p j)
    (λ j h. ring (x j ∷ a j ∷ b j ∷ p j ∷ u ∷ v ∷ []) (var 0 ⊗ (var 4 ⊗ var 1 ⊕ var 5 ⊗ var 2 ⊕ var 3)) (var 4 ⊗ (var 0 ⊗ var 1) ⊕ var 5 ⊗ (var 0 ⊗ var 2) ⊕ var 0 ⊗ var 3) tt)
    ∙ sum_add n (λ j. u *ℤ (x j *ℤ a j) +ℤ v *ℤ (x j *ℤ b j)) (λ j. x j *ℤ p j)
    ∙ ap (λ (k : ℤ). k +ℤ sum_to n (λ j. x j *ℤ p j)) (sum_add n (λ j. u *ℤ (x j *ℤ a j)) (λ j. v *ℤ (x j *ℤ b j)) ∙ ap₂ ◌+ℤ◌ (sum_times n u (λ j. x j *ℤ a j)) (sum_times n v (λ j. x j *ℤ b j)))

split_two : (n : ℕ) (x a b : ℕ → ℤ) (u v : ℤ) → sum_to n (λ j. x j *ℤ (u *ℤ a j +ℤ v *ℤ b j)) ≡ u *ℤ sum_to n (λ j. x j *ℤ a j) +ℤ v *ℤ sum_to n (λ j. x j *ℤ b j)
split_two n x a b u v =
    sum_ext n (λ j. x j *ℤ (u *ℤ a j +ℤ v *ℤ b j)) (λ j. u *ℤ (x j *ℤ a j) +ℤ v *ℤ (x j *ℤ b j)) (λ j h. ring (x j ∷ a j ∷ b j ∷ u ∷ v ∷ []) (var 0 ⊗ (var 3 ⊗ var 1 ⊕ var 4 ⊗ var 2)) (var 3 ⊗ (var 0 ⊗ var 1) ⊕ var 4 ⊗ (var 0 ⊗ var 2)) tt)
    ∙ sum_add n (λ j. u *ℤ (x j *ℤ a j)) (λ j. v *ℤ (x j *ℤ b j)) ∙ ap₂ ◌+ℤ◌ (sum_times n u (λ j. x j *ℤ a j)) (sum_times n v (λ j. x j *ℤ b j))

-- the parts together
assemble : (s q : ℤ) (fixed random r0 rd rx pa pp costs states : ℤ) (rows pairs : ℤ) → r0 +ℤ rd +ℤ rx ≡ rows → pa +ℤ pp ≡ pairs
    → (s *ℤ s *ℤ q) *ℤ (fixed +ℤ random) +ℤ s *ℤ r0 +ℤ pa +ℤ ((s *ℤ s *ℤ q) *ℤ costs +ℤ s *ℤ rd +ℤ pp) +ℤ ((s *ℤ s *ℤ q) *ℤ states +ℤ s *ℤ rx)
    ≡ pairs +ℤ s *ℤ (rows +ℤ (s *ℤ q) *ℤ (fixed +ℤ costs +ℤ states +ℤ random))
assemble s q fixed random r0 rd rx pa pp costs states rows pairs e f =
    ring (s ∷ q ∷ fixed ∷ random ∷ r0 ∷ rd ∷ rx ∷ pa ∷ pp ∷ costs ∷ states ∷ [])
    ((var 0 ⊗ var 0 ⊗ var 1) ⊗ (var 2 ⊕ var 3) ⊕ var 0 ⊗ var 4 ⊕ var 7 ⊕ ((var 0 ⊗ var 0 ⊗ var 1) ⊗ var 9 ⊕ var 0 ⊗ var 5 ⊕ var 8) ⊕ ((var 0 ⊗ var 0 ⊗ var 1) ⊗ var 10 ⊕ var 0 ⊗ var 6))
    (var 7 ⊕ var 8 ⊕ var 0 ⊗ (var 4 ⊕ var 5 ⊕ var 6 ⊕ (var 0 ⊗ var 1) ⊗ (var 2 ⊕ var 9 ⊕ var 10 ⊕ var 3))) tt
    ∙ ap₂ (λ (k l : ℤ). k +ℤ s *ℤ (l +ℤ (s *ℤ q) *ℤ (fixed +ℤ costs +ℤ states +ℤ random))) f e

-- all of a realization but its weight
pub stage_is : (pools : List (List Cut)) (n : nodes.Node) (s : Subproblem) (low high values : List ℤ) (c : Certificate) → subproblem_fits (length low) s ≡ true → length n.successor_weights ≡ length n.successors
    → alpha_size pools (node_of n s low high) values c +ℤ sum_to (length (node_of n s low high).low) (λ k. reach (node_of n s low high).low (node_of n s low high).high k *ℤ beta_size (node_of n s low high) c k)
    ≡ pos (certificate_amount n s low high pools (values, c))
unfolding node_of
stage_is pools n s low high values c fits same =
    let ds : List Decision = s.decisions in
    let dn : ℕ = length ds in
    let sn : ℕ = length low in
    let sc : ℤ = pos (S * S * total_successor_weight n) in
    let qs : List (Row × ℤ) = zip s.rows c.rows in
    let ls : List (Successor × List (ℕ × ℕ)) = zip (successors_of n.successors n.successor_weights) c.cuts in
    let m : ℕ → ℤ = reach (map (λ (d : Decision). d.low) ds) (map (λ (d : Decision). d.high) ds) in
    let dm : ℕ → ℤ = λ j. pos (over_decisions ds j) in
    let x : ℕ → ℤ = λ k. pos (over_box low high k) in
    let aj : ℕ → ℤ = λ j. magnitude (entry (map (λ (d : Decision). d.cost) ds) j) in
    let bj : ℕ → ℤ = λ j. total (λ (q : Row × ℤ). magnitude q.1 *ℤ magnitude (coefficient q.0.decisions j)) qs in
    let pj : ℕ → ℤ = λ j. total (λ (q : Successor × List (ℕ × ℕ)). total (λ (t : ℕ × ℕ). pos t.1 *ℤ coefficient_size (placed s.outs (cut_at pools q.0 t).beta) j) q.1) ls in
    let ek : ℕ → ℤ = λ k. magnitude (entry s.state_costs k) in
    let bk : ℕ → ℤ = λ k. total (λ (q : Row × ℤ). magnitude q.1 *ℤ magnitude (coefficient q.0.states k)) qs in
    let fixed : ℤ = magnitude s.constant in
    let random : ℤ = dot (magnitudes s.random_costs) (magnitudes values) in
    let r0 : ℤ = total (λ (q : Row × ℤ). magnitude q.1 *ℤ (magnitude (side q.0 q.1) +ℤ terms_size q.0.randoms (entry values))) qs in
    let pa : ℤ = total (λ (q : Successor × List (ℕ × ℕ)). total (λ (t : ℕ × ℕ). pos t.1 *ℤ magnitude (cut_at pools q.0 t).alpha) q.1) ls in
    let rows : r0 +ℤ sum_to dn (λ j. dm j *ℤ bj j) +ℤ sum_to sn (λ k. x k *ℤ bk k) ≡ pos (rows_amount ds low high values s.rows c.rows) =
    all_rows ds low high values qs (All-zip (Placed dn sn) s.rows c.rows (rows_placed s sn fits)) in
    let pairs : pa +ℤ sum_to dn (λ j. dm j *ℤ pj j) ≡ pos (successors_amount ds s.outs pools n.successors c.cuts) =
    all_successors ds low high values pools s.outs (outs_placed s sn fits) ls ∙ ap pos (linked (successor_amount ds s.outs pools) n.successors n.successor_weights c.cuts same) in
    let first : sum_to (length (map (λ (d : Decision). d.cost) ds)) (λ j. m j *ℤ (sc *ℤ aj j +ℤ pos S *ℤ bj j +ℤ pj j)) ≡ sc *ℤ pos (sum_by decision_amount ds) +ℤ pos S *ℤ sum_to dn (λ j. dm j *ℤ bj j) +ℤ sum_to dn (λ j. dm j *ℤ pj j) =
    ap (λ (k : ℕ). sum_to k (λ j. m j *ℤ (sc *ℤ aj j +ℤ pos S *ℤ bj j +ℤ pj j))) (length-map ds (λ (d : Decision). d.cost))
    ∙ sum_ext dn (λ j. m j *ℤ (sc *ℤ aj j +ℤ pos S *ℤ bj j +ℤ pj j)) (λ j. dm j *ℤ (sc *ℤ aj j +ℤ pos S *ℤ bj j +ℤ pj j)) (λ j p. ap (λ (k : ℤ). k *ℤ (sc *ℤ aj j +ℤ pos S *ℤ bj j +ℤ pj j)) (reach-decisions ds j))
    ∙ split_three dn dm aj bj pj sc (pos S) ∙ ap (λ (k : ℤ). sc *ℤ k +ℤ pos S *ℤ sum_to dn (λ j. dm j *ℤ bj j) +ℤ sum_to dn (λ j. dm j *ℤ pj j)) (decision_costs ds) in
    let second : sum_to sn (λ k. x k *ℤ (sc *ℤ ek k +ℤ pos S *ℤ bk k)) ≡ sc *ℤ pos (numbers_by (over_box low high) s.state_costs) +ℤ pos S *ℤ sum_to sn (λ k. x k *ℤ bk k) =
    split_two sn x ek bk sc (pos S)
    ∙ ap (λ (k : ℤ). sc *ℤ k +ℤ pos S *ℤ sum_to sn (λ k. x k *ℤ bk k)) (ap (λ (k : ℕ). sum_to k (λ j. x j *ℤ ek j)) (sym (counted s sn fits).0) ∙ numbers_at (over_box low high) s.state_costs) in
    ap₂ (λ (k l : ℤ). sc *ℤ (fixed +ℤ random) +ℤ pos S *ℤ r0 +ℤ pa +ℤ k +ℤ l) first second
    ∙ assemble (pos S) (pos (total_successor_weight n)) fixed random r0 (sum_to dn (λ j. dm j *ℤ bj j)) (sum_to sn (λ k. x k *ℤ bk k)) pa (sum_to dn (λ j. dm j *ℤ pj j)) (pos (sum_by decision_amount ds)) (pos (numbers_by (over_box low high) s.state_costs))
    (pos (rows_amount ds low high values s.rows c.rows)) (pos (successors_amount ds s.outs pools n.successors c.cuts)) rows pairs
    ∙ ap (λ (k : ℤ). pos (successors_amount ds s.outs pools n.successors c.cuts) +ℤ pos S *ℤ (pos (rows_amount ds low high values s.rows c.rows) +ℤ (pos S *ℤ pos (total_successor_weight n)) *ℤ (fixed +ℤ pos (sum_by decision_amount ds) +ℤ pos (numbers_by (over_box low high) s.state_costs) +ℤ k))) (random_costs s.random_costs values)
