-- The graph of a generated problem has no cycle, and all of it is reached.
use Rattle.std.proofs.Common.{◌≡◌, ℕ, zero, suc, ◌+◌, ◌*◌, ◌/◌, ◌%◌, ◌<◌, ◌≤◌, ◌⊎◌, inl, inr, ◌==◌, ◌||◌, not, List, [], ◌∷◌, length, map, get_or, Bool, true, false, nat_lt, None, Ok, refl, ap, subst, ◌∙◌, arith}
use Rattle.std.specs.List.{list_any, find, range_with_len}
use Rattle.std.proofs.lemmas.Bool.{cases_lt, ne_eqb, lt-ltb}
use Rattle.std.proofs.lemmas.Bool.Decides.{nat_tests}
use Rattle.std.proofs.lemmas.List.FromFn.{length-map-range_with_len, get_or-map-range_with_len}
use Rattle.base_graph.specs.Paths.{numbers, arcs_from, within, reached, in_cycle, first_in_cycle, first_unreached}
use Rattle.base_graph.specs.Ranks.{ranks, by_rank, longest_from}
use Rattle.problem.specs.declared.parts.Node.{Node}
use Rattle.problem.specs.declared.parts.ProblemParts.{ProblemParts}
use Rattle.problem.specs.Validated.{graph_of}
use Rattle.problem.specs.Arranged.{ordered, unless_cycle, unless_unreached}
use Rattle.hydro_gen.specs.Names.{stage_number}
use Rattle.hydro_gen.proofs.Reading.{node_form, successor_form, parts_form}

-- ---- arcs

abbrev successors_of : ℕ → ℕ → List ℕ
successors_of stages i = (successor_form stages i).nodes

abbrev graph : ℕ → List (List ℕ)
graph stages = map (successors_of stages) (numbers (2 * stages))

graph_is : (word : ℕ → ℕ) (stages count : ℕ) (ns : List ℕ) → map (λ (n : Node). n.successors) (map (node_form word stages count) ns) ≡ map (successors_of stages) ns
graph_is word stages count [] = refl
graph_is word stages count (n ∷ ns) = ap (λ (ls : List (List ℕ)). successors_of stages n ∷ ls) (graph_is word stages count ns)

length-graph : (stages : ℕ) → length (graph stages) ≡ 2 * stages
length-graph stages = length-map-range_with_len (successors_of stages) 0 (2 * stages)

get_or-past : (xs : List (List ℕ)) (m : ℕ) → length xs ≤ m → get_or xs m [] ≡ []
get_or-past [] m h = refl
get_or-past (x ∷ xs) zero h = absurd (omega arith)
get_or-past (x ∷ xs) (suc m) h = get_or-past xs m (omega arith)

abbrev next_pair : ℕ → List ℕ
next_pair m = (2 * stage_number m) ∷ (2 * stage_number m + 1) ∷ []

successors_next : (stages m : ℕ) → m < 2 * stages → stage_number m < stages → arcs_from (graph stages) m ≡ next_pair m
successors_next stages m h l = get_or-map-range_with_len (successors_of stages) 0 (2 * stages) m m [] h (omega arith) ∙ rw (lt-ltb (stage_number m) stages l, successors_of) refl

either_successors : (b : Bool) (stages m : ℕ) → nat_lt (stage_number m) stages ≡ b → (successors_of stages m ≡ []) ⊎ (successors_of stages m ≡ next_pair m)
either_successors true stages m e = inr (rw (e, successors_of) refl)
either_successors false stages m e = inl (rw (e, successors_of) refl)

successors_cases : (stages m : ℕ) → (m < 2 * stages) ⊎ (2 * stages ≤ m) → (arcs_from (graph stages) m ≡ []) ⊎ (arcs_from (graph stages) m ≡ next_pair m)
successors_cases stages m (inl h) = rw (get_or-map-range_with_len (successors_of stages) 0 (2 * stages) m m [] h (omega arith)) (either_successors (nat_lt (stage_number m) stages) stages m refl)
successors_cases stages m (inr h) = inl (get_or-past (graph stages) m (omega (arith, length-graph stages)))

-- ---- no cycle

module _ (stages : ℕ) where
  none_of : (p : ℕ → Bool) (m : ℕ) → (arcs_from (graph stages) m ≡ []) ⊎ (arcs_from (graph stages) m ≡ next_pair m) → p (2 * stage_number m) ≡ false → p (2 * stage_number m + 1) ≡ false → list_any p (arcs_from (graph stages) m) ≡ false
  none_of p m (inl e) a b = rw e refl
  none_of p m (inr e) a b = rw (e, a, b) refl

  -- no path leads to a node with a smaller number
  away : (n k m : ℕ) → m < k → within (graph stages) n k m ≡ false
  away zero k m h = ne_eqb k m (λ e. omega arith)
  away (suc n) k m h =
      rw (ne_eqb k m (λ e. omega arith)) (none_of (λ j. within (graph stages) n j m) k (successors_cases stages k (cases_lt k (2 * stages))) (away n (2 * stage_number k) m (omega arith)) (away n (2 * stage_number k + 1) m (omega arith)))

  not_back : (m : ℕ) → in_cycle (graph stages) m ≡ false
  unfolding reached
  not_back m =
      none_of (λ k. within (graph stages) (length (graph stages)) k m) m (successors_cases stages m (cases_lt m (2 * stages))) (away (length (graph stages)) (2 * stage_number m) m (omega arith)) (away (length (graph stages)) (2 * stage_number m + 1) m (omega arith))

  -- ---- all nodes are reached

  same_number : (m : ℕ) → (m == m) ≡ true
  same_number m = grind (arith, nat_tests)

  itself : (n m : ℕ) → within (graph stages) n m m ≡ true
  itself zero m = same_number m
  itself (suc n) m = rw (same_number m) refl

  or_right : (a b : Bool) → b ≡ true → (a || b) ≡ true
  or_right true b h = refl
  or_right false b h = h

  or_left : (a b : Bool) → a ≡ true → (a || b) ≡ true
  or_left true b h = refl
  or_left false b h = absurd (cc)

  -- one step on to either node of the next stage
  step_dry : (n k m : ℕ) → k < 2 * stages → stage_number k < stages → within (graph stages) n (2 * stage_number k) m ≡ true → within (graph stages) (suc n) k m ≡ true
  step_dry n k m h l e = or_right (k == m) _ (rw (successors_next stages k h l, e) refl)

  step_wet : (n k m : ℕ) → k < 2 * stages → stage_number k < stages → within (graph stages) n (2 * stage_number k + 1) m ≡ true → within (graph stages) (suc n) k m ≡ true
  step_wet n k m h l e = or_right (k == m) _ (rw (successors_next stages k h l, e) (or_right (within (graph stages) n (2 * stage_number k) m) true refl))

  -- from the dry node of one stage to the dry node d stages later
  to_dry : (d n a : ℕ) → d ≤ n → a + d < stages → within (graph stages) n (2 * a) (2 * (a + d)) ≡ true
  to_dry zero n a h l = let e : a + 0 ≡ a = omega arith in rw e (itself n (2 * a))
  to_dry (suc d) zero a h l = absurd (omega arith)
  to_dry (suc d) (suc n) a h l =
      let s : stage_number (2 * a) ≡ a + 1 = omega arith in
      let e : a + suc d ≡ (a + 1) + d = omega arith in
      step_dry n (2 * a) (2 * (a + suc d)) (omega arith) (omega arith) (rw (s, e) (to_dry d n (a + 1) (omega arith) (omega arith)))

  to_wet : (d n a : ℕ) → 0 < d → d ≤ n → a + d < stages → within (graph stages) n (2 * a) (2 * (a + d) + 1) ≡ true
  to_wet zero n a some h l = absurd (omega arith)
  to_wet (suc d) zero a some h l = absurd (omega arith)
  to_wet (suc zero) (suc n) a some h l =
      let s : stage_number (2 * a) ≡ a + 1 = omega arith in
      step_wet n (2 * a) (2 * (a + 1) + 1) (omega arith) (omega arith) (rw s (itself n (2 * (a + 1) + 1)))
  to_wet (suc (suc d)) (suc n) a some h l =
      let s : stage_number (2 * a) ≡ a + 1 = omega arith in
      let e : a + suc (suc d) ≡ (a + 1) + suc d = omega arith in
      step_dry n (2 * a) (2 * (a + suc (suc d)) + 1) (omega arith) (omega arith) (rw (s, e) (to_wet (suc d) n (a + 1) (omega arith) (omega arith) (omega arith)))

  reached_by : (n d m : ℕ) → d ≤ n → d < stages → (m ≡ 2 * d) ⊎ (m ≡ 2 * d + 1) → list_any (λ k. within (graph stages) n k m) (0 ∷ 1 ∷ []) ≡ true
  reached_by n d m h l (inl e) =
      let z : 2 * (0 + d) ≡ m = omega arith in
      or_left (within (graph stages) n 0 m) _ (subst (λ (k : ℕ). within (graph stages) n 0 k ≡ true) z (to_dry d n 0 h (omega arith)))
  reached_by n zero m h l (inr e) = let z : m ≡ 1 = omega arith in or_right (within (graph stages) n 0 m) _ (or_left (within (graph stages) n 1 m) false (rw z (itself n 1)))
  reached_by n (suc d) m h l (inr e) =
      let z : 2 * (0 + suc d) + 1 ≡ m = omega arith in
      or_left (within (graph stages) n 0 m) _ (subst (λ (k : ℕ). within (graph stages) n 0 k ≡ true) z (to_wet (suc d) n 0 (omega arith) h (omega arith)))

  two_kinds : (m : ℕ) → (m % 2 < 1) ⊎ (1 ≤ m % 2) → (m ≡ 2 * (m / 2)) ⊎ (m ≡ 2 * (m / 2) + 1)
  two_kinds m (inl h) = inl (omega arith)
  two_kinds m (inr h) = inr (omega arith)

  all_reached : (m : ℕ) → m < 2 * stages → reached (graph stages) (0 ∷ 1 ∷ []) m ≡ true
  unfolding reached
  all_reached m h = reached_by (length (graph stages)) (m / 2) m (omega (arith, length-graph stages)) (omega arith) (two_kinds m (cases_lt (m % 2) 1))

pub none_found : (p : ℕ → Bool) → (ns : List ℕ) → ((m : ℕ) → p m ≡ false) → find p ns ≡ None
none_found p [] h = refl
none_found p (n ∷ ns) h = rw (h n) (none_found p ns h)

-- where each of n numbers passes, none fails
none_left : (p : ℕ → Bool) (i n : ℕ) → ((m : ℕ) → m < i + n → p m ≡ true) → find (λ m. not (p m)) (range_with_len i n) ≡ None
none_left p i zero h = refl
none_left p i (suc n) h = rw (h i (omega arith)) (none_left p (i + 1) n (λ m l. h m (omega arith)))

pub no_cycle : (stages : ℕ) → first_in_cycle (graph stages) ≡ None
unfolding first_in_cycle
no_cycle stages = none_found (in_cycle (graph stages)) (numbers (length (graph stages))) (not_back stages)

pub none_unreached : (stages : ℕ) → first_unreached (graph stages) (0 ∷ 1 ∷ []) ≡ None
unfolding first_unreached
none_unreached stages = none_left (reached (graph stages) (0 ∷ 1 ∷ [])) 0 (length (graph stages)) (λ m l. all_reached stages m (omega (arith, length-graph stages)))

graph_same : (word : ℕ → ℕ) (stages count : ℕ) → graph_of (parts_form word stages count) ≡ graph stages
graph_same word stages count = graph_is word stages count (numbers (2 * stages))

abbrev pub order_form : ProblemParts → List ℕ × ℕ
order_form parts = (by_rank (ranks (graph_of parts)), longest_from (ranks (graph_of parts)) parts.root)

pub ordered_form : (word : ℕ → ℕ) (stages count : ℕ) → ordered (parts_form word stages count) ≡ Ok (order_form (parts_form word stages count))
unfolding ordered
ordered_form word stages count =
    let parts = parts_form word stages count in
    ap (unless_cycle parts) (ap first_in_cycle (graph_same word stages count) ∙ no_cycle stages)
    ∙ ap (unless_unreached parts) (ap (λ (g : List (List ℕ)). first_unreached g (0 ∷ 1 ∷ [])) (graph_same word stages count) ∙ none_unreached stages)
