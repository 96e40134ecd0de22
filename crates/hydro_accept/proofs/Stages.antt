-- The reader's answers on the nodes of a hydro problem.
use Rattle.std.proofs.Common.{◌≡◌, ℕ, zero, suc, ◌+◌, ◌/◌, ◌^◌, ◌<◌, ◌≤◌, ◌==◌, ℤ, pos, List, [], ◌∷◌, ◌++◌, length, map, get_or, slice_get, Bool, true, false, int_lt, Equal, Greater, nat_cmp, bytes_eq, position, Some, None, Result, Ok, refl, sym, ap, ap₂, subst, ◌∙◌, arith, append-nil, append_assoc}
use Rattle.std.specs.Cmp.Lexicographic.{slice_cmp}
use Rattle.std.specs.List.{AllByRecursion, range_with_len}
use Rattle.std.specs.Ordering.{ordering_reverse}
use Rattle.std.proofs.lemmas.Bool.{le-leb}
use Rattle.std.proofs.lemmas.Bool.Decides.{nat_tests}
use Rattle.std.proofs.lemmas.Cmp.{nat_list_cmp_total, tied_itself}
use Rattle.std.proofs.lemmas.Int.{ints}
use Rattle.serde_json.specs.Data.{Data, Members, no_members}
use Rattle.serde_json.specs.Events.{items_len}
use Rattle.serde_json.specs.Find.{get_member}
use Rattle.serde_json.specs.View.{items_of}
use Rattle.problem.specs.declared.refusal.Part.{Part}
use Rattle.problem.specs.declared.refusal.Part.TheVariants as part_kinds
use Rattle.problem.specs.declared.refusal.Place.{Place}
use Rattle.problem.specs.declared.refusal.Refusal.{Refusal}
use Rattle.base_graph.specs.Paths.{numbers}
use Rattle.read_json.specs.Steps.{◌>>=◌, walk_items}
use Rattle.read_json.specs.Fields as fields
use Rattle.read_json.specs.Limits as limits
use Rattle.read_json.proofs.Distinct.{bytes_eq-no}
use Rattle.read_file.specs.Values as values
use Rattle.read_file.specs.Realizations as realizations
use Rattle.read_file.specs.Nodes as nodes
use Rattle.read_file.specs.Subproblems as subproblems
use Rattle.hydro_form.specs.Listed.{members_from, members_by, whole_data, integer, digit}
use Rattle.hydro_form.specs.Nodes as forms
use Rattle.hydro_make.specs.Nodes.{node_name}
use Rattle.hydro_accept.proofs.Types.{Finds, TypeOf}
use Rattle.hydro_accept.proofs.Named.{Distinct, At, known, stands, place_at, some_is}
use Rattle.hydro_accept.proofs.Pairs.{Pairwise, Before, pair_numbers}
use Rattle.hydro_accept.proofs.Functions.{IsSmall, integer_read}
use Rattle.hydro_accept.proofs.Walks.{list_grow}

abbrev Realizations : Type 0
Realizations = TypeOf realizations.no_realizations

abbrev Transitions : Type 0
Transitions = Finds (nodes.transitions_at [] 0 no_members None)

abbrev pub SubproblemTable : Type 0
SubproblemTable = Finds (subproblems.subproblems_at [] no_members)

-- ---- members that rise

-- the member of a name
module _ {A : Type 0} (key : A → List ℕ) (value : A → Data) where
  later_key : (x c : A) (xs : List A) (k : ℕ) → AllByRecursion (Before key x) xs → slice_get xs k ≡ Some c → Before key x c
  later_key x c [] k all at = absurd cc
  later_key x c (y ∷ ys) zero all at = subst (Before key x) (some_is y c at) all.0
  later_key x c (y ∷ ys) (suc k) all at = later_key x c ys k all.1 at

  pub member_found : (xs : List A) (k : ℕ) (c : A) → Pairwise (Before key) xs → slice_get xs k ≡ Some c → get_member (key c) (members_by key value xs) ≡ Some (value c)
  member_found [] k c rise at = absurd cc
  member_found (x ∷ xs) zero c rise at =
      let same : x ≡ c = some_is x c at in
      let tied : slice_cmp nat_cmp (key c) (key x) ≡ Equal = subst (λ y. slice_cmp nat_cmp (key c) (key y) ≡ Equal) (sym same) (tied_itself nat_list_cmp_total (key c)) in
      rw tied (ap (λ y. Some (value y)) same)
  member_found (x ∷ xs) (suc k) c rise at =
      let above : slice_cmp nat_cmp (key c) (key x) ≡ Greater = nat_list_cmp_total.antisymm (key c) (key x) ∙ ap ordering_reverse (later_key x c xs k rise.0 at) in
      rw above (member_found xs k c rise.1 at)

-- ---- values

module _ {A : Type 0} (key : A → List ℕ) (value : A → ℤ) (all : List A) where
  -- x has a small value among the members
  pub record HasValue (x : A) : Type 0 where
    pub number : ℕ
    pub there : slice_get all number ≡ Some x
    pub small : IsSmall (value x)

  value_read : (p : Place) (found : List ℤ) (x : A) → Pairwise (Before key) all → HasValue x → values.random_value_at p (members_by key (λ y. integer (value y)) all) found (key x) ≡ Ok (found ++ value x ∷ [])
  unfolding values.random_value_at fields.present_at
  value_read p found x rise v = rw (member_found key (λ y. integer (value y)) all v.number x rise v.there, integer_read p (value x) v.small) refl

  pub values_read : (part : Part) (a b : ℕ) → Pairwise (Before key) all → (xs : List A) → AllByRecursion HasValue xs → values.values_at part a b (map key xs) (members_by key (λ y. integer (value y)) all) ≡ Ok (map value xs)
  unfolding values.values_at
  values_read part a b rise xs have =
      list_grow HasValue value (λ (found : List ℤ) (i : ℕ) (name : List ℕ). values.random_value_at (fields.place part a b i) (members_by key (λ y. integer (value y)) all) found name) key
      (λ found i x v. value_read (fields.place part a b i) found x rise v) xs have [] 0

-- ---- realizations

not_less : (w : ℕ) → 0 < w → int_lt (pos w) (pos 1) ≡ false
not_less w some = by (int_lt (pos w) (pos 1)) refl
  where
    by : (b : Bool) → int_lt (pos w) (pos 1) ≡ b → b ≡ false
    by true e = absurd (omega (arith, ints))
    by false e = refl

pub weight_read : (p : Place) (w : ℕ) → 0 < w → w ≤ 2 ^ 40 → fields.weight_at p (whole_data w) ≡ Ok (pos w)
unfolding fields.weight_at fields.whole_at
weight_read p w some few = rw (le-leb w (2 ^ 40) few, not_less w some) refl

module _ {R : Type 0} (weight : R → ℕ) (support : R → Members) (made : R → List ℤ) (randoms : List (List ℕ)) where
  pub record IsRead (n : ℕ) (r : R) : Type 0 where
    pub some : 0 < weight r
    pub few : weight r ≤ 2 ^ 40
    pub values : (k : ℕ) → values.values_at part_kinds.Support n k randoms (support r) ≡ Ok (made r)

  abbrev data_of : R → Data
  data_of r = forms.realization_form (weight r) (support r)

  realization_read : (n : ℕ) (ws : List ℕ) (vs : List (List ℤ)) (k : ℕ) (r : R) → IsRead n r
      → realizations.realization_at n randoms (record { weights = ws; values = vs }) k (data_of r) ≡ Ok (record { weights = ws ++ weight r ∷ []; values = vs ++ made r ∷ [] })
  unfolding realizations.realization_at forms.realization_form fields.object_at fields.present_at limits.members_at
  realization_read n ws vs k r is = rw (weight_read (realizations.at_realization n k) (weight r) is.some is.few, is.values k) refl

  realizations_walk : (n : ℕ) (rs : List R) → AllByRecursion (IsRead n) rs → (ws : List ℕ) (vs : List (List ℤ)) (k : ℕ)
      → walk_items (realizations.realization_at n randoms) (record { weights = ws; values = vs }) k (items_of (map data_of rs)) ≡ Ok (record { weights = ws ++ map weight rs; values = vs ++ map made rs })
  unfolding walk_items
  realizations_walk n [] all ws vs k = ap₂ (λ (a : List ℕ) (b : List (List ℤ)). Ok (record { weights = a; values = b })) (sym (append-nil ws)) (sym (append-nil vs))
  realizations_walk n (r ∷ rs) all ws vs k =
      ap (λ (q : Result Realizations Refusal). q >>= λ next. walk_items (realizations.realization_at n randoms) next (suc k) (items_of (map data_of rs))) (realization_read n ws vs k r all.0)
      ∙ realizations_walk n rs all.1 (ws ++ weight r ∷ []) (vs ++ made r ∷ []) (suc k)
      ∙ ap₂ (λ (a : List ℕ) (b : List (List ℤ)). Ok (record { weights = a; values = b })) (append_assoc ws (weight r ∷ []) (map weight rs)) (append_assoc vs (made r ∷ []) (map made rs))

  len_items : (ds : List Data) → items_len (items_of ds) ≡ length ds
  len_items [] = refl
  len_items (d ∷ ds) = ap suc (len_items ds)

  len_mapped : (rs : List R) → length (map data_of rs) ≡ length rs
  len_mapped [] = refl
  len_mapped (r ∷ rs) = ap suc (len_mapped rs)

  not_none : (n : ℕ) → 0 < n → (n == 0) ≡ false
  not_none n h = grind (arith, nat_tests)

  pub realizations_read : (n : ℕ) (rs : List R) → 0 < length rs → length rs ≤ 100 → AllByRecursion (IsRead n) rs
      → realizations.realizations_at n randoms (items_of (map data_of rs)) ≡ Ok (record { weights = map weight rs; values = map made rs })
  unfolding realizations.realizations_at
  realizations_read n rs some few all =
      rw (len_items (map data_of rs), len_mapped rs, le-leb (length rs) 100 few, not_none (length rs) some) (realizations_walk n rs all [] [] 0)

-- ---- names of nodes

digits_tell : (j k : ℕ) → j < 999 → k < 999 → digit (suc j / 100) ≡ digit (suc k / 100) → digit (suc j / 10) ≡ digit (suc k / 10) → digit (suc j) ≡ digit (suc k) → j ≡ k
digits_tell j k p q a b c = omega arith

nodes_apart : (j k : ℕ) → j < k → k < 999 → bytes_eq (node_name j) (node_name k) ≡ false
unfolding node_name
nodes_apart j k p q = bytes_eq-no (node_name j) (node_name k) (λ e. let same = digits_tell j k (omega arith) q (ap (λ (l : List ℕ). get_or l 1 0) e) (ap (λ (l : List ℕ). get_or l 2 0) e) (ap (λ (l : List ℕ). get_or l 3 0) e) in omega arith)

pub distinct_nodes : (n : ℕ) → n ≤ 999 → Distinct node_name (numbers n)
distinct_nodes n few = pair_numbers (λ j k. bytes_eq (node_name j) (node_name k) ≡ false) n (λ j k p q. nodes_apart j k p (omega arith))

at_number : (a n k : ℕ) → k < n → slice_get (range_with_len a n) k ≡ Some (a + k)
at_number a zero k h = absurd (omega arith)
at_number a (suc n) zero h = let e : a ≡ a + 0 = omega arith in ap Some e
at_number a (suc n) (suc k) h = let e : a + 1 + k ≡ a + suc k = omega arith in at_number (a + 1) n k (omega arith) ∙ ap Some e

-- the number of a node's name
pub node_known : (n m : ℕ) → n ≤ 999 → m < n → position (bytes_eq (node_name m)) (map node_name (numbers n)) ≡ Some m
node_known n m few h =
    let none : 0 + m ≡ m = omega arith in
    let here : At node_name (numbers n) m m = at_number 0 n m h ∙ ap Some none in
    known node_name m (numbers n) (stands node_name m (numbers n) m (distinct_nodes n few) here) ∙ ap Some (place_at node_name m (numbers n) m (distinct_nodes n few) here)

keys_from : (value : ℕ → Data) (a n : ℕ) → fields.keys_of (members_from node_name value a n) ≡ map node_name (range_with_len a n)
keys_from value a zero = refl
keys_from value a (suc n) = let e : suc a ≡ a + 1 = omega arith in ap (λ ks. node_name a ∷ ks) (keys_from value (suc a) n ∙ ap (λ (b : ℕ). map node_name (range_with_len b n)) e)

pub keys_are : (value : ℕ → Data) (n : ℕ) → fields.keys_of (members_from node_name value 0 n) ≡ map node_name (numbers n)
keys_are value n = keys_from value 0 n
