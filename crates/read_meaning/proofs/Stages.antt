-- A stage of the file and the node of its subproblem: the numbers of the one are the decisions of the other.
use Rattle.std.proofs.Common.{◌≡◌, ℕ, zero, suc, ℤ, pos, ◌+ℤ◌, ◌*ℤ◌, ◌≤ℤ◌, List, [], ◌∷◌, ◌++◌, length, map, get_or, All, Option, Some, None, refl, sym, ap, ap₂, subst, ◌∙◌, arith}
use Rattle.std.specs.List.{AllByRecursion, IsDistinct}
use Rattle.std.specs.Str.{bytes_eq}
use Rattle.std.proofs.lemmas.List.{length-map, length-append, map-append}
use Rattle.std.proofs.lemmas.List.Elements.{All-from_recursion, recursion_from_All}
use Rattle.std.proofs.lemmas.Map.Keys.{IsDistinct-head, IsDistinct-tail}
use lib.IntN.{*ℤ-zero}
use Rattle.base_num.specs.Sums.{entry, dot, Term, at_terms}
use Rattle.base_num.proofs.Ring.{ring, var, ◌⊕◌, ◌⊗◌, mul_swap}
use Rattle.base_num.proofs.Sums.{total_ext, total_times}
use Rattle.problem.specs.declared.parts.Decision.{Decision}
use Rattle.problem.specs.declared.parts.Row.{Row}
use Rattle.problem.specs.declared.parts.Subproblem.{Subproblem}
use Rattle.theory.specs.Tree as trees
use Rattle.theory.specs.Tree.{InBox, RowHolds, left_side, times_all}
use Rattle.theory.proofs.Boxes.{InBox-nil, InBox-cons}
use Rattle.read_profile.specs.File.{Name, Numbers, State, Stage, FileRealization}
use Rattle.read_meaning.specs.Meaning.{Volumes, in_units, leaving}
use Rattle.read_stage.specs.Said.{Between, IsAboveLow, IsBelowHigh, Given, RowKept, row_value_by_numbers, decision_names, decision_numbers, incoming_numbers, random_numbers, StageSaid}
use Rattle.read_meaning.proofs.Sides.{Stands}
use Rattle.read_meaning.proofs.Names.{numbers, map-numbers, map_alike, skips, same_name, same_parts}

-- ---- lists

-- numbers that all are there
pub same_Somes : (xs ys : List ℤ) → map Some xs ≡ map Some ys → xs ≡ ys
same_Somes [] [] e = refl
same_Somes [] (y ∷ ys) e = absurd cc
same_Somes (x ∷ xs) [] e = absurd cc
same_Somes (x ∷ xs) (y ∷ ys) e =
    let first : x ≡ y = cc in
    let later : map Some xs ≡ map Some ys = cc in
    ap₂ ◌∷◌ first (same_Somes xs ys later)

pub map_map : {A B C : Type 0} (f : A → B) (g : B → C) (xs : List A) → map g (map f xs) ≡ map (λ x. g (f x)) xs
map_map f g [] = refl
map_map {C = C} f g (x ∷ xs) = ap (λ (ys : List C). g (f x) ∷ ys) (map_map f g xs)

pub entry_times : (units : ℕ) (xs : List ℤ) (k : ℕ) → entry (times_all units xs) k ≡ pos units *ℤ entry xs k
entry_times units [] k = sym (*ℤ-zero (pos units))
entry_times units (x ∷ xs) zero = refl
entry_times units (x ∷ xs) (suc k) = entry_times units xs k

dot_times : (units : ℕ) (bs xs : List ℤ) → dot bs (times_all units xs) ≡ pos units *ℤ dot bs xs
dot_times units [] xs = sym (*ℤ-zero (pos units))
dot_times units (b ∷ bs) [] = sym (*ℤ-zero (pos units))
dot_times units (b ∷ bs) (x ∷ xs) = ap (λ (k : ℤ). b *ℤ (pos units *ℤ x) +ℤ k) (dot_times units bs xs) ∙ ring (b ∷ pos units ∷ x ∷ dot bs xs ∷ []) (var 0 ⊗ (var 1 ⊗ var 2) ⊕ var 1 ⊗ var 3) (var 1 ⊗ (var 0 ⊗ var 2 ⊕ var 3)) tt

terms_times : (units : ℕ) (ts : List Term) (xs : List ℤ) → at_terms ts (entry (times_all units xs)) ≡ pos units *ℤ at_terms ts (entry xs)
terms_times units ts xs =
    total_ext (λ (t : Term). t.1 *ℤ entry (times_all units xs) t.0) (λ (t : Term). pos units *ℤ (t.1 *ℤ entry xs t.0)) ts (λ t. ap (λ (z : ℤ). t.1 *ℤ z) (entry_times units xs t.0) ∙ mul_swap t.1 (pos units) (entry xs t.0))
    ∙ total_times (pos units) (λ (t : Term). t.1 *ℤ entry xs t.0) ts

-- ---- boxes

InBox-head : (units : ℕ) (l h x : ℤ) (ls hs xs : List ℤ) → InBox units (l ∷ ls) (h ∷ hs) (x ∷ xs) → ((pos units *ℤ l) ≤ℤ x) × (x ≤ℤ (pos units *ℤ h))
InBox-head units l h x ls hs xs b = (b.above 0 (omega arith), b.below 0 (omega arith))

InBox-tail : (units : ℕ) (l h x : ℤ) (ls hs xs : List ℤ) → InBox units (l ∷ ls) (h ∷ hs) (x ∷ xs) → InBox units ls hs xs
InBox-tail units l h x ls hs xs b = record {
  count = let c : length (x ∷ xs) ≡ length (l ∷ ls) = b.count in omega arith;
  above = λ k i. b.above (suc k) (omega arith);
  below = λ k i. b.below (suc k) (omega arith);
}

abbrev lows : List Decision → List ℤ
lows ds = map (λ (d : Decision). d.low) ds

abbrev highs : List Decision → List ℤ
highs ds = map (λ (d : Decision). d.high) ds

abbrev named : List Decision → Numbers → List ℤ
named ds y = map y (map (λ (d : Decision). d.name) ds)

pub boxed : (units : ℕ) (y : Numbers) (ds : List Decision) → AllByRecursion (λ (d : Decision). Between units (Some d.low) (Some d.high) (y d.name)) ds → InBox units (lows ds) (highs ds) (named ds y)
boxed units y [] a = InBox-nil units
boxed units y (d ∷ ds) a = InBox-cons units d.low d.high (y d.name) (lows ds) (highs ds) (named ds y) a.0.0 a.0.1 (boxed units y ds a.1)

pub unboxed : (units : ℕ) (y : Numbers) (ds : List Decision) → InBox units (lows ds) (highs ds) (named ds y) → AllByRecursion (λ (d : Decision). Between units (Some d.low) (Some d.high) (y d.name)) ds
unboxed units y [] b = tt
unboxed units y (d ∷ ds) b =
    let first = InBox-head units d.low d.high (y d.name) (lows ds) (highs ds) (named ds y) b in
    ((first.0, first.1), unboxed units y ds (InBox-tail units d.low d.high (y d.name) (lows ds) (highs ds) (named ds y) b))

at_least : (o : Option ℤ) (units : ℕ) (a b : ℤ) → a ≡ b → IsAboveLow o units a → trees.AtLeast o units b
at_least None units a b e h = tt
at_least (Some low) units a b e h = subst (λ (z : ℤ). (pos units *ℤ low) ≤ℤ z) e h

at_most : (o : Option ℤ) (units : ℕ) (a b : ℤ) → a ≡ b → IsBelowHigh o units a → trees.AtMost o units b
at_most None units a b e h = tt
at_most (Some high) units a b e h = subst (λ (z : ℤ). z ≤ℤ (pos units *ℤ high)) e h

at_least_back : (o : Option ℤ) (units : ℕ) (a b : ℤ) → a ≡ b → trees.AtLeast o units b → IsAboveLow o units a
at_least_back None units a b e h = tt
at_least_back (Some low) units a b e h = subst (λ (z : ℤ). (pos units *ℤ low) ≤ℤ z) (sym e) h

at_most_back : (o : Option ℤ) (units : ℕ) (a b : ℤ) → a ≡ b → trees.AtMost o units b → IsBelowHigh o units a
at_most_back None units a b e h = tt
at_most_back (Some high) units a b e h = subst (λ (z : ℤ). z ≤ℤ (pos units *ℤ high)) (sym e) h

-- a given bound that is the side of a box in which the number lies
least_given : (o : Option ℤ) (units : ℕ) (side z : ℤ) → ((b : ℤ) → o ≡ Some b → b ≡ side) → (pos units *ℤ side) ≤ℤ z → IsAboveLow o units z
least_given None units side z is h = tt
least_given (Some b) units side z is h = subst (λ (a : ℤ). (pos units *ℤ a) ≤ℤ z) (sym (is b refl)) h

most_given : (o : Option ℤ) (units : ℕ) (side z : ℤ) → ((b : ℤ) → o ≡ Some b → b ≡ side) → z ≤ℤ (pos units *ℤ side) → IsBelowHigh o units z
most_given None units side z is h = tt
most_given (Some b) units side z is h = subst (λ (a : ℤ). z ≤ℤ (pos units *ℤ a)) (sym (is b refl)) h

-- ---- what holds one by one

all_follow : {A : Type 0} (P Q : A → Type 0) (xs : List A) → ((x : A) → P x → Q x) → AllByRecursion P xs → AllByRecursion Q xs
all_follow P Q [] f a = tt
all_follow P Q (x ∷ xs) f a = (f x a.0, all_follow P Q xs f a.1)

-- two functions that give the same list agree on each
agree : {A B : Type 0} (f g : A → B) (xs : List A) → map f xs ≡ map g xs → AllByRecursion (λ (x : A). f x ≡ g x) xs
agree f g [] e = tt
agree f g (x ∷ xs) e =
    let first : f x ≡ g x = cc in
    let later : map f xs ≡ map g xs = cc in
    (first, agree f g xs later)

leaving_named : (ss : List State) (y : Numbers) → IsDistinct bytes_eq (map (λ (t : State). t.name) ss) → map (leaving ss y) (map (λ (t : State). t.name) ss) ≡ map (λ (t : State). Some (y t.after)) ss
leaving_named [] y d = refl
leaving_named (t ∷ ss) y d =
    ap₂ ◌∷◌ (rw (same_name t.name) refl) (skips t.name (Some (y t.after)) (leaving ss y) (map (λ (t : State). t.name) ss) (IsDistinct-head bytes_eq t.name (map (λ (t : State). t.name) ss) d)
    ∙ leaving_named ss y (IsDistinct-tail bytes_eq t.name (map (λ (t : State). t.name) ss) d))

-- a row's value is the left side
abbrev row_by : ℕ → Row → List ℤ → List ℤ → List ℤ → ℤ
row_by units row u b c = at_terms row.decisions (entry u) +ℤ at_terms row.states (entry b) +ℤ at_terms row.randoms (entry c)

row_is : (units : ℕ) (st : Stage) (sub : Subproblem) (y : Numbers) (xi values : List ℤ) (row : Row) → incoming_numbers st y ≡ xi → random_numbers st y ≡ times_all units values → row_value_by_numbers st sub y row ≡ left_side units values xi (decision_numbers sub y) row
row_is units st sub y xi values row b c =
    ap₂ (λ (k l : List ℤ). row_by units row (decision_numbers sub y) k l) b c
    ∙ ap (λ (z : ℤ). at_terms row.decisions (entry (decision_numbers sub y)) +ℤ at_terms row.states (entry xi) +ℤ z) (terms_times units row.randoms values)

-- ---- a stage and its subproblem

module _ (names : List Name) (st : Stage) (sub : Subproblem) (is : StageSaid names st sub) (differ : IsDistinct bytes_eq names) where
  pub before_is : (x : Volumes) (xi : List ℤ) (y : Numbers) → map x names ≡ map Some xi → All (λ (t : State). x t.name ≡ Some (y t.before)) st.states → incoming_numbers st y ≡ xi
  before_is x xi y e a =
      same_Somes (incoming_numbers st y) xi
      (map_map (λ (t : State). y t.before) Some st.states
      ∙ sym (map_alike (λ (t : State). x t.name) (λ (t : State). Some (y t.before)) st.states (recursion_from_All (λ (t : State). x t.name ≡ Some (y t.before)) st.states a))
      ∙ sym (map_map (λ (t : State). t.name) x st.states)
      ∙ ap (map x) is.states ∙ e)

  pub chances_is : (units : ℕ) (r : FileRealization) (values : List ℤ) (y : Numbers) → map r.support st.randoms ≡ map Some values → All (λ (v : Name). in_units units (r.support v) ≡ Some (y v)) st.randoms → random_numbers st y ≡ times_all units values
  chances_is units r values y e a =
      same_Somes (random_numbers st y) (times_all units values)
      (map_map y Some st.randoms
      ∙ sym (map_alike (λ (v : Name). in_units units (r.support v)) (λ (v : Name). Some (y v)) st.randoms (recursion_from_All (λ (v : Name). in_units units (r.support v) ≡ Some (y v)) st.randoms a))
      ∙ sym (map_map r.support (in_units units) st.randoms)
      ∙ ap (map (in_units units)) e
      ∙ map_map Some (in_units units) values
      ∙ sym (map_map (λ (z : ℤ). pos units *ℤ z) Some values))

  -- the outgoing volumes
  pub leaves_as : (x : Volumes) (y : Numbers) → map (leaving st.states y) names ≡ map Some (map (entry (decision_numbers sub y)) sub.outs)
  leaves_as x y =
      ap (map (leaving st.states y)) (sym is.states)
      ∙ leaving_named st.states y (subst (IsDistinct bytes_eq) (sym is.states) differ)
      ∙ sym (map_map (λ (t : State). y t.after) Some st.states)
      ∙ ap (map Some) (is.outs y)

  module _ (units : ℕ) (xi values : List ℤ) (y : Numbers) (b : incoming_numbers st y ≡ xi) (c : random_numbers st y ≡ times_all units values) where
    -- the constraints are kept where boxes and rows are, and the given bounds
    pub rows_hold : AllByRecursion (RowKept units st sub y) sub.rows → All (RowHolds units values xi (decision_numbers sub y)) sub.rows
    rows_hold a = All-from_recursion (RowHolds units values xi (decision_numbers sub y)) sub.rows (all_follow (RowKept units st sub y) (RowHolds units values xi (decision_numbers sub y)) sub.rows (λ row h. record {
      low = at_least row.low units _ _ (row_is units st sub y xi values row b c) h.0;
      high = at_most row.high units _ _ (row_is units st sub y xi values row b c) h.1;
    }) a)

    pub rows_kept : All (RowHolds units values xi (decision_numbers sub y)) sub.rows → AllByRecursion (RowKept units st sub y) sub.rows
    rows_kept a = all_follow (RowHolds units values xi (decision_numbers sub y)) (RowKept units st sub y) sub.rows (λ row h. (
      at_least_back row.low units _ _ (row_is units st sub y xi values row b c) h.low,
      at_most_back row.high units _ _ (row_is units st sub y xi values row b c) h.high,
    )) (recursion_from_All (RowHolds units values xi (decision_numbers sub y)) sub.rows a)

    pub given_kept : (low high : List ℤ) → length low ≡ length st.states → length high ≡ length st.states → Stands sub.low low → Stands sub.high high → InBox units low high xi → Given units st sub y
    given_kept low high ls hs ld hd box = λ k h.
        subst (λ (zs : List ℤ). Between units (get_or sub.low k None) (get_or sub.high k None) (entry zs k)) (sym b) (
          least_given (get_or sub.low k None) units (entry low k) (entry xi k) (ld.is k (omega arith)) (box.above k (omega arith)),
          most_given (get_or sub.high k None) units (entry high k) (entry xi k) (hd.is k (omega arith)) (box.below k (omega arith)),
        )

    pub objective_is : st.objective units y ≡ pos units *ℤ sub.constant +ℤ pos units *ℤ dot sub.random_costs values +ℤ dot (map (λ (d : Decision). d.cost) sub.decisions) (decision_numbers sub y) +ℤ dot sub.state_costs xi
    objective_is =
        let costs : ℤ = dot (map (λ (d : Decision). d.cost) sub.decisions) (decision_numbers sub y) in
        is.objective units y
        ∙ ap₂ (λ (k l : List ℤ). pos units *ℤ sub.constant +ℤ costs +ℤ dot sub.state_costs k +ℤ dot sub.random_costs l) b c
        ∙ ap (λ (z : ℤ). pos units *ℤ sub.constant +ℤ costs +ℤ dot sub.state_costs xi +ℤ z) (dot_times units sub.random_costs values)
        ∙ ring ((pos units *ℤ sub.constant) ∷ costs ∷ dot sub.state_costs xi ∷ (pos units *ℤ dot sub.random_costs values) ∷ []) (var 0 ⊕ var 1 ⊕ var 2 ⊕ var 3) (var 0 ⊕ var 3 ⊕ var 1 ⊕ var 2) tt

  -- numbers with these decisions, this incoming state and these realized values
  abbrev pub NumbersFor : ℕ → Volumes → FileRealization → List ℤ → Type 0
  NumbersFor units x r u = (y : Numbers) × (decision_numbers sub y ≡ u) × All (λ (t : State). x t.name ≡ Some (y t.before)) st.states × All (λ (v : Name). in_units units (r.support v) ≡ Some (y v)) st.randoms

  abbrev befores : List Name
  befores = map (λ (t : State). t.before) st.states

  pub numbers_for : (units : ℕ) (x : Volumes) (r : FileRealization) (xi values u : List ℤ) → map x names ≡ map Some xi → map r.support st.randoms ≡ map Some values → length u ≡ length sub.decisions → NumbersFor units x r u
  numbers_for units x r xi values u e f l =
      let ws : List ℤ = times_all units values in
      let all : List Name = decision_names sub ++ befores ++ st.randoms in
      let y : Numbers = numbers all (u ++ xi ++ ws) in
      let decided : length (decision_names sub) ≡ length u = length-map sub.decisions (λ (d : Decision). d.name) ∙ sym l in
      let came : length befores ≡ length xi =
      length-map st.states (λ (t : State). t.before) ∙ sym (length-map st.states (λ (t : State). t.name)) ∙ ap (λ (ks : List Name). length ks) is.states
      ∙ sym (length-map names x) ∙ ap (λ (zs : List (Option ℤ)). length zs) e ∙ length-map xi (λ (z : ℤ). Some z) in
      let realized : length st.randoms ≡ length ws = sym (length-map st.randoms r.support) ∙ ap (λ (zs : List (Option ℤ)). length zs) f ∙ length-map values (λ (z : ℤ). Some z) ∙ sym (length-map values (λ (z : ℤ). pos units *ℤ z)) in
      let whole : map y all ≡ u ++ xi ++ ws = map-numbers all (u ++ xi ++ ws) is.distinct (together (decision_names sub) befores st.randoms u xi ws decided came realized) in
      let parts = three_parts y (decision_names sub) befores st.randoms u xi ws decided came whole in (
        y,
        parts.0,
        All-from_recursion _ st.states (agree (λ (t : State). x t.name) (λ (t : State). Some (y t.before)) st.states
            (sym (map_map (λ (t : State). t.name) x st.states) ∙ ap (map x) is.states ∙ e ∙ ap (map Some) (sym parts.1) ∙ ap (map Some) (map_map (λ (t : State). t.before) y st.states) ∙ map_map (λ (t : State). y t.before) Some st.states)),
        All-from_recursion _ st.randoms (agree (λ (v : Name). in_units units (r.support v)) (λ (v : Name). Some (y v)) st.randoms
            (sym (map_map r.support (in_units units) st.randoms) ∙ ap (map (in_units units)) f ∙ map_map Some (in_units units) values ∙ sym (map_map (λ (z : ℤ). pos units *ℤ z) Some values) ∙ ap (map Some) (sym parts.2) ∙ map_map y Some st.randoms)),
      )
    where
      together : (a b c : List Name) (u v w : List ℤ) → length a ≡ length u → length b ≡ length v → length c ≡ length w → length (a ++ b ++ c) ≡ length (u ++ v ++ w)
      together a b c u v w e f g = simp length-append (omega arith)

      three_parts : (y : Numbers) (a b c : List Name) (u v w : List ℤ) → length a ≡ length u → length b ≡ length v → map y (a ++ b ++ c) ≡ u ++ v ++ w → (map y a ≡ u) × (map y b ≡ v) × (map y c ≡ w)
      three_parts y a b c u v w e f h =
          let split : map y a ++ map y b ++ map y c ≡ u ++ v ++ w = sym (map-append y (a ++ b) c ∙ ap (λ (zs : List ℤ). zs ++ map y c) (map-append y a b)) ∙ h in
          let outer = same_parts (map y a ++ map y b) (u ++ v) (map y c) w (simp (length-append, length-map) (omega arith)) split in
          let inner = same_parts (map y a) u (map y b) v (length-map a y ∙ e) outer.0 in
          (inner.0, inner.1, outer.1)
