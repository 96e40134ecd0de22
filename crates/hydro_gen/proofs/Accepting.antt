-- The reader accepts a generated problem, and its base cuts fit.
use Rattle.std.proofs.Common.{◌≡◌, ℕ, zero, suc, ◌+◌, ◌*◌, ◌-◌, ◌^◌, ◌<◌, ◌≤◌, ◌==◌, ◌⊎◌, inl, inr, ℤ, pos, ◌+ℤ◌, ◌*ℤ◌, ◌≤ℤ◌, List, [], ◌∷◌, ◌++◌, length, map, get_or, slice_get, replicate, codes, Bool, true, false, cond, nat_lt, Some, None, Ok, refl, sym, ap, ap₂, subst, ◌∙◌, arith}
use Rattle.std.specs.List.{flat_map, range_with_len}
use Rattle.std.specs.Str.{IsUtf8}
use Rattle.std.proofs.lemmas.Str.{is_utf8-from_IsUtf8, IsUtf8-append, IsUtf8-from_ascii}
use Rattle.std.proofs.lemmas.Int.{ints}
use lib.IntN.{zero-*ℤ, *ℤ-zero}
use Rattle.base_num.proofs.Order.{le_scale}
use Rattle.json.specs.Lex.{tokens}
use Rattle.json.specs.Print.{print}
use Rattle.serde_json.specs.Data.{Data, depth}
use Rattle.serde_json.specs.Read.{read, max_depth}
use Rattle.serde_json.specs.Written.{IsInOrder}
use Rattle.base_num.specs.Sums.{sum_to, entry, dot}
use Rattle.base_graph.specs.Paths.{numbers}
use Rattle.problem.specs.declared.parts.Decision.{Decision}
use Rattle.problem.specs.declared.parts.Node as nodes
use Rattle.problem.specs.Validated.{Validated}
use Rattle.read_json.specs.Fields.{json_at}
use Rattle.read_file.specs.Problem.{problem_at}
use Rattle.theory.specs.declared.cut.Cut.{Cut}
use Rattle.theory.specs.Problem.{S, node_at, weight_of_successors}
use Rattle.theory.specs.Range.{based}
use Rattle.theory.specs.Size.{magnitude, magnitudes, reach}
use Rattle.theory.specs.View.{node_of, successors_of, problem_of}
use Rattle.theory.proofs.Ranges.{some_pos}
use Rattle.theory.proofs.Views.{node_at-problem_of, node_at-past}
use Rattle.hydro_gen.specs.Names.{stage_number, kind_of}
use Rattle.hydro_gen.specs.Stage as stage
use Rattle.hydro_gen.specs.Generated.{problem}
use Rattle.hydro_gen.proofs.Subproblems.{form, decision, decision_list, each}
use Rattle.hydro_gen.proofs.Reading.{node_form, successor_by, problem_parts_read}
use Rattle.hydro_gen.proofs.Boxing.{validated_form, arranged_form}
use Rattle.hydro_form.proofs.Newline.{read-newline}
use Rattle.hydro_gen.proofs.Plain.{problem_plain}
use Rattle.hydro_gen.proofs.Basing.{Tame, MayBeTame, all_based, no_cuts_zero}

-- ---- decisions that are at least 0 and cost at least 0

TameDecisions : List Decision → Type 0
TameDecisions [] = Unit {0}
TameDecisions (d ∷ ds) = (d.low ≡ pos 0) × (pos 0 ≤ℤ d.high) × (pos 0 ≤ℤ d.cost) × TameDecisions ds

one_more : (name : List ℕ) (high cost : ℕ) (ds : List Decision) → TameDecisions ds → TameDecisions (decision name high cost ∷ ds)
unfolding TameDecisions
one_more name high cost ds t = (refl, some_pos high, some_pos cost, t)

abbrev of_reservoir : ℕ → List Decision
of_reservoir j = decision (stage.outgoing j) 100 0 ∷ decision (stage.turbined j) 30 0 ∷ decision (stage.spilled j) 10000 0 ∷ []

tame_from : (js : List ℕ) (tail : List Decision) → TameDecisions tail → TameDecisions (flat_map of_reservoir js ++ tail)
tame_from [] tail t = t
tame_from (j ∷ js) tail t = one_more _ 100 0 _ (one_more _ 30 0 _ (one_more _ 10000 0 _ (tame_from js tail t)))

tame_decisions : (count : ℕ) → TameDecisions (decision_list count)
unfolding TameDecisions
tame_decisions count =
    let k = decision (codes "k") (40 * count) 200 in
    let h = decision (codes "h") (10 * count) 20 in
    let g = decision (codes "g") (10 * count) 5 in
    tame_from (numbers count) (g ∷ h ∷ k ∷ []) (one_more (codes "g") (10 * count) 5 (h ∷ k ∷ []) (one_more (codes "h") (10 * count) 20 (k ∷ []) (one_more (codes "k") (40 * count) 200 [] tt)))

low_at : (ds : List Decision) → TameDecisions ds → (j : ℕ) → entry (map (λ (d : Decision). d.low) ds) j ≡ pos 0
unfolding TameDecisions
low_at [] t j = refl
low_at (d ∷ ds) t zero = t.0
low_at (d ∷ ds) t (suc j) = low_at ds t.3 j

free_low : (ds : List Decision) (j : ℕ) → entry (map (λ (d : Decision). d.low) ds) j ≡ pos 0 → entry (map (λ (d : Decision). d.cost) ds) j *ℤ entry (map (λ (d : Decision). d.low) ds) j ≡ pos 0
free_low ds j e = ap (λ (l : ℤ). entry (map (λ (d : Decision). d.cost) ds) j *ℤ l) e ∙ *ℤ-zero (entry (map (λ (d : Decision). d.cost) ds) j)

high_at : (ds : List Decision) → TameDecisions ds → (j : ℕ) → pos 0 ≤ℤ entry (map (λ (d : Decision). d.high) ds) j
unfolding TameDecisions
high_at [] t j = some_pos 0
high_at (d ∷ ds) t zero = t.1
high_at (d ∷ ds) t (suc j) = high_at ds t.3 j

cost_at : (ds : List Decision) → TameDecisions ds → (j : ℕ) → pos 0 ≤ℤ entry (map (λ (d : Decision). d.cost) ds) j
unfolding TameDecisions
cost_at [] t j = some_pos 0
cost_at (d ∷ ds) t zero = t.2
cost_at (d ∷ ds) t (suc j) = cost_at ds t.3 j

abbrev costs_size : ℕ → ℤ
costs_size count =
    let ds = decision_list count in
    sum_to (length (map (λ (d : Decision). d.cost) ds)) (λ j. reach (map (λ (d : Decision). d.low) ds) (map (λ (d : Decision). d.high) ds) j *ℤ magnitude (entry (map (λ (d : Decision). d.cost) ds) j))

abbrev Sized : ℕ → Type 0
Sized count = costs_size count ≡ pos (8250 * count)

sized : (count : ℕ) → 1 ≤ count → count ≤ 10 → costs_size count ≡ pos (8250 * count)
sized = each Sized refl refl refl refl refl refl refl refl refl refl

-- ---- lists of zeros

entry_repeated : (n k : ℕ) → entry (replicate n (pos 0)) k ≡ pos 0
entry_repeated zero k = refl
entry_repeated (suc n) zero = refl
entry_repeated (suc n) (suc k) = entry_repeated n k

dot_repeated : (n : ℕ) (ys : List ℤ) → dot (replicate n (pos 0)) ys ≡ pos 0
dot_repeated zero ys = refl
dot_repeated (suc n) [] = refl
dot_repeated (suc n) (y ∷ ys) = ap₂ ◌+ℤ◌ (zero-*ℤ y) (dot_repeated n ys)

dot_small : (n : ℕ) (ys : List ℤ) → dot (magnitudes (replicate n (pos 0))) ys ≡ pos 0
dot_small zero ys = refl
dot_small (suc n) [] = refl
dot_small (suc n) (y ∷ ys) = ap₂ ◌+ℤ◌ (zero-*ℤ y) (dot_small n ys)

-- ---- weights

weighs : (b : Bool) → (1 ≤ cond b 3 1) × (cond b 3 1 ≤ 3)
weighs true = (omega arith, omega arith)
weighs false = (omega arith, omega arith)

weigh_by : (b : Bool) (i : ℕ) → (1 ≤ weight_of_successors (successor_by b i).stop (successors_of (successor_by b i).nodes (successor_by b i).weights)) × (weight_of_successors (successor_by b i).stop (successors_of (successor_by b i).nodes (successor_by b i).weights) ≤ 6)
weigh_by true i =
    let dry = weighs (kind_of i == 0) in
    let wet = weighs (kind_of i == 1) in
    (omega arith, omega arith)
weigh_by false i = (omega arith, omega arith)

some_divisor : (q : ℕ) → 1 ≤ q → 0 < S * q * 10
unfolding S
some_divisor q h = omega arith

factor_fits : (q : ℕ) → q ≤ 6 → 10 * (S * S * q) ≤ 2 ^ 60
unfolding S
factor_fits q h = omega arith

far_within : (k : ℕ) (c : ℤ) → k ≤ 2 ^ 60 → (pos k *ℤ c) ≤ℤ (pos k *ℤ pos 82500) → (pos k *ℤ c) ≤ℤ pos (2 ^ 127 - 1)
far_within k c h l = omega (arith, ints)

below : (count : ℕ) (z : ℤ) → z ≡ pos (8250 * count) → count ≤ 10 → z ≤ℤ pos 82500
below count z e h = rw e (omega (arith, ints))

-- ---- nodes

module _ (word : ℕ → ℕ) (stages count : ℕ) (some : 1 ≤ count) (few : count ≤ 10) where
  tame_node : (i : ℕ) (lo hi : List ℤ) → Tame (node_of (node_form word stages count i) (form count) lo hi)
  unfolding node_of
  tame_node i lo hi =
      let q = weigh_by (nat_lt (stage_number i) stages) i in
      record {
        constant = refl;
        randoms = dot_repeated count;
        randoms_small = dot_small count;
        states = entry_repeated count;
        lows = λ j. free_low (decision_list count) j (low_at (decision_list count) (tame_decisions count) j);
        highs = high_at (decision_list count) (tame_decisions count);
        costs = cost_at (decision_list count) (tame_decisions count);
        weights = some_divisor _ q.0;
        fits = far_within _ (costs_size count) (factor_fits _ q.1) (le_scale _ (costs_size count) (pos 82500) (below count (costs_size count) (sized count some few) few));
      }

  -- the node of a number is one that was read, or none
  got : (f : ℕ → nodes.Node) (i n m : ℕ) → (slice_get (map f (range_with_len i n)) m ≡ None) ⊎ ((j : ℕ) × (slice_get (map f (range_with_len i n)) m ≡ Some (f j)))
  got f i zero m = inl refl
  got f i (suc n) zero = inr (i, refl)
  got f i (suc n) (suc m) = got f (i + 1) n m

  may_node : (m : ℕ) → (slice_get (map (node_form word stages count) (numbers (2 * stages))) m ≡ None) ⊎ ((j : ℕ) × (slice_get (map (node_form word stages count) (numbers (2 * stages))) m ≡ Some (node_form word stages count j)))
      → MayBeTame (node_at (problem_of (validated_form word stages count some few)) m)
  may_node m (inl e) = inl (node_at-past (validated_form word stages count some few) m e)
  may_node m (inr (j, e)) =
      let s = validated_form word stages count some few in
      let is = node_at-problem_of s m (node_form word stages count j) (form count) e refl in
      inr (subst Tame (sym is) (tame_node j (get_or s.lo m []) (get_or s.hi m [])))

  base_form : (all : List (List Cut)) × (based (validated_form word stages count some few) ≡ Ok all)
  unfolding based
  base_form =
      let s = validated_form word stages count some few in
      all_based (problem_of s) (λ m. may_node m (got (node_form word stages count) 0 (2 * stages) m)) s.order (replicate (length s.parts.nodes) []) (no_cuts_zero (length s.parts.nodes))

-- ---- the text

json_read : (text : List ℕ) (word : ℕ → ℕ) (stages count : ℕ) → IsUtf8 text → read text ≡ Some (problem word stages count) → json_at text ≡ Ok (problem word stages count)
unfolding json_at
json_read text word stages count utf8 e = rw (is_utf8-from_IsUtf8 text utf8, e) refl

pub text_read : (text : List ℕ) (word : ℕ → ℕ) (stages count : ℕ) (s1 : 1 ≤ stages) (s2 : stages ≤ 500) (c1 : 1 ≤ count) (c2 : count ≤ 10) → IsUtf8 text → read text ≡ Some (problem word stages count)
    → (p : Validated) × (problem_at text ≡ Ok p) × (all : List (List Cut)) × (based p ≡ Ok all)
unfolding problem_at
text_read text word stages count s1 s2 c1 c2 utf8 e =
    let b = base_form word stages count c1 c2 in
    (validated_form word stages count c1 c2, rw (problem_parts_read word stages count text s1 s2 c1 c2 (json_read text word stages count utf8 e)) (arranged_form word stages count c1 c2), b.0, b.1)

newline_ascii : (i : ℕ) → get_or (10 ∷ []) i 0 < 128
newline_ascii zero = omega arith
newline_ascii (suc i) = omega arith

-- the text that was printed for the problem, and a newline
pub printed_read : (printed text : List ℕ) (d : Data) (word : ℕ → ℕ) (stages count : ℕ) → 1 ≤ stages → stages ≤ 500 → 1 ≤ count → count ≤ 10 → d ≡ problem word stages count
    → IsUtf8 printed → printed ≡ print (tokens printed) → IsInOrder printed d → (depth d ≤ max_depth → read printed ≡ Some d) → text ≡ printed ++ 10 ∷ []
    → (p : Validated) × (problem_at text ≡ Ok p) × (all : List (List Cut)) × (based p ≡ Ok all)
printed_read printed text d word stages count s1 s2 c1 c2 is utf8 compact order back whole =
    let shallow : depth (problem word stages count) ≤ 9 = (problem_plain word stages count).shallow in
    let levels : depth d ≤ 127 = subst (λ (e : Data). depth e ≤ 127) (sym is) (omega arith) in
    let last : IsUtf8 (10 ∷ []) = IsUtf8-from_ascii (10 ∷ []) newline_ascii in
    text_read text word stages count s1 s2 c1 c2 (subst IsUtf8 (sym whole) (IsUtf8-append printed (10 ∷ []) utf8 last)) (ap read whole ∙ read-newline printed order.0 d compact order.1 (back levels) ∙ ap Some is)
