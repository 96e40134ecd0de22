-- The reader's answers on variables, and on their uses by states and random variables.
use Rattle.std.proofs.Common.{◌≡◌, ℕ, zero, suc, ◌+◌, ◌<◌, ◌≤◌, ◌==◌, ℤ, List, [], ◌∷◌, ◌++◌, length, map, filter, get_or, slice_get, Bool, true, false, cond, if◌then◌else◌, Some, Result, Ok, Err, bytes_eq, refl, sym, ap, ap₂, subst, ◌∙◌, arith, append-nil, append_assoc}
use Rattle.std.specs.List.{AllByRecursion, list_any, position_or_len}
use Rattle.std.proofs.lemmas.Bool.{le-leb, lt-ltb, true≢false}
use Rattle.std.proofs.lemmas.Bool.Decides.{nat_tests}
use Rattle.std.proofs.lemmas.List.{length-map}
use Rattle.serde_json.specs.Data.{Data, string}
use Rattle.serde_json.specs.View.{items_of}
use Rattle.base_num.specs.Sums.{entry}
use Rattle.problem.specs.declared.refusal.Refusal.{Refusal}
use Rattle.problem.specs.declared.refusal.Part.TheVariants as part_kinds
use Rattle.problem.specs.declared.refusal.Place.{Place}
use Rattle.read_json.specs.Steps.{◌>>=◌, walk_items, walk_members}
use Rattle.read_json.specs.Fields as fields
use Rattle.read_json.specs.Limits as limits
use Rattle.read_stage.specs.Variables as variables
use Rattle.read_stage.specs.Roles as roles
use Rattle.read_stage.specs.States as states
use Rattle.read_stage.specs.Randoms as randoms
use Rattle.read_stage.specs.Decisions as decisions
use Rattle.read_stage.specs.Subproblem.{decision_number_of}
use Rattle.hydro_form.specs.Listed.{members_by}
use Rattle.hydro_form.specs.Stage as forms
use Rattle.hydro_accept.proofs.Types.{Entries, TypeOf}
use Rattle.hydro_accept.proofs.Named.{same, Distinct, At, Stands, place, place_at, known, found_at, changed_at, entry_at, some_is, equal_names, apart_at, turned, distinct_any}

abbrev pub Uses : Type 0
Uses = TypeOf (roles.unused 0)

abbrev pub Role : Type 0
Role = Entries (roles.unused 0).roles

-- the entry at k, where there is one
abbrev pub nth : {A : Type 0} (xs : List A) (k : ℕ) → k < length xs → A
nth [] k h = absurd (omega arith)
nth (x ∷ xs) zero h = x
nth (x ∷ xs) (suc k) h = nth xs k (omega arith)

-- ---- roles

abbrev pub found_or : {A : Type 0} → A → Result A Refusal → A
found_or a (Ok b) = b
found_or a (Err e) = a

abbrev pub free : Role
free = nth (roles.unused 1).roles 0 (omega arith)

-- the roles of two variables after a state that goes from the first to the second
unfoldable pub of_state : List Role
unfolding states.uses_of_state_at roles.taken_at fields.present_at fields.string_at limits.known_at forms.state_between
of_state = (found_or (roles.unused 2) (states.uses_of_state_at ((97 ∷ []) ∷ (98 ∷ []) ∷ []) 0 (roles.unused 2) 0 [] (forms.state_between (97 ∷ []) (98 ∷ [])))).roles

unfoldable pub of_random : List Role
unfolding randoms.random_at roles.taken_at fields.string_at limits.known_at
of_random = (found_or (roles.unused 1) (randoms.random_at ((97 ∷ []) ∷ []) 0 (roles.unused 1) 0 (string (97 ∷ [])))).roles

unfoldable pub incoming : Role
unfolding of_state
incoming = get_or of_state 0 free

unfoldable pub outgoing : Role
unfolding of_state
outgoing = get_or of_state 1 free

unfoldable pub random : Role
unfolding of_random
random = get_or of_random 0 free

pub incoming_decides : decisions.is_decision incoming ≡ false
unfolding incoming
incoming_decides = refl

pub outgoing_decides : decisions.is_decision outgoing ≡ true
unfolding outgoing
outgoing_decides = refl

pub random_decides : decisions.is_decision random ≡ false
unfolding random
random_decides = refl

abbrev pub IsFree : Role → Type 0
IsFree r = roles.is_free (Some r) ≡ true

abbrev pub uses : List Role → List ℕ → List ℕ → List ℕ → List (List ℕ) → Uses
uses rs is os ps ns = record { roles = rs; incoming = is; outgoing = os; randoms = ps; names = ns }

-- ---- names

module _ {A : Type 0} (name : A → List ℕ) where
  abbrev NewTo : List (List ℕ) → A → Type 0
  NewTo found x = list_any (bytes_eq (name x)) found ≡ false

  still_new : (x : A) (found : List (List ℕ)) (ys : List A) → AllByRecursion (NewTo found) ys → AllByRecursion (λ y. same name x y ≡ false) ys → AllByRecursion (NewTo (found ++ name x ∷ [])) ys
  still_new x found [] all apart = tt
  still_new x found (y ∷ ys) all apart = (distinct_any name x found y all.0 (turned name x y apart.0), still_new x found ys all.1 apart.1)

  name_read : (p : Place) (n : List ℕ) → length n ≤ 128 → limits.name_at p (string n) ≡ Ok n
  unfolding limits.name_at fields.string_at fields.key_at
  name_read p n h = rw (le-leb (length n) 128 h) refl

  variable_read : (p i : ℕ) (found : List (List ℕ)) (x : A) → NewTo found x → length (name x) ≤ 128 → variables.variable_at p found i (forms.variable (name x)) ≡ Ok (found ++ name x ∷ [])
  unfolding variables.variable_at fields.present_at forms.variable
  variable_read p i found x new short = rw (name_read _ (name x) short, new) refl

  names_walk : (p : ℕ) (xs : List A) → Distinct name xs → AllByRecursion (λ x. length (name x) ≤ 128) xs → (found : List (List ℕ)) (i : ℕ) → AllByRecursion (NewTo found) xs
      → walk_items (variables.variable_at p) found i (items_of (map (λ x. forms.variable (name x)) xs)) ≡ Ok (found ++ map name xs)
  unfolding walk_items
  names_walk p [] d short found i new = ap Ok (sym (append-nil found))
  names_walk p (x ∷ xs) d short found i new =
      ap (λ (r : Result (List (List ℕ)) Refusal). r >>= λ next. walk_items (variables.variable_at p) next (suc i) (items_of (map (λ y. forms.variable (name y)) xs))) (variable_read p i found x new.0 short.0)
      ∙ names_walk p xs d.1 short.1 (found ++ name x ∷ []) (suc i) (still_new x found xs new.1 d.0) ∙ ap Ok (append_assoc found (name x ∷ []) (map name xs))

  none_yet : (xs : List A) → AllByRecursion (NewTo []) xs
  none_yet [] = tt
  none_yet (x ∷ xs) = (refl, none_yet xs)

  pub names_read : (p : ℕ) (xs : List A) → Distinct name xs → AllByRecursion (λ x. length (name x) ≤ 128) xs → variables.names_at p (items_of (map (λ x. forms.variable (name x)) xs)) ≡ Ok (map name xs)
  unfolding variables.names_at
  names_read p xs d short = names_walk p xs d short [] 0 (none_yet xs)

  -- ---- what is given to some, one after another

  abbrev pub given : {B : Type 0} → (A → B) → (A → B) → List A → A → B
  given g f [] y = f y
  given g f (x ∷ xs) y = given g (λ z. cond (same name x z) (g x) (f z)) xs y

  -- a value under y's name is y's value
  abbrev pub Respects : {B : Type 0} → (A → B) → A → List A → Type 0
  Respects g y xs = AllByRecursion (λ x. same name x y ≡ true → g x ≡ g y) xs

  choice : {B : Type 0} (b : Bool) (u v w : B) → (b ≡ true → u ≡ w) → v ≡ w → cond b u v ≡ w
  choice true u v w one other = one refl
  choice false u v w one other = other

  pub given_by : {B : Type 0} (g f : A → B) (xs : List A) (y : A) → f y ≡ g y → Respects g y xs → given g f xs y ≡ g y
  given_by g f [] y e all = e
  given_by g f (x ∷ xs) y e all = given_by g (λ z. cond (same name x z) (g x) (f z)) xs y (choice (same name x y) (g x) (f y) (g y) all.0 e) all.1

  pub given_in : {B : Type 0} (g f : A → B) (xs : List A) (k : ℕ) (y : A) → At name xs k y → Respects g y xs → given g f xs y ≡ g y
  given_in g f [] k y at all = absurd cc
  given_in {B} g f (x ∷ xs) zero y at all =
      let here : same name x y ≡ true = subst (λ w. same name w y ≡ true) (sym (some_is x y at)) (equal_names (name y)) in
      given_by g (λ z. cond (same name x z) (g x) (f z)) xs y (ap (λ b. cond b (g x) (f y)) here ∙ ap g (some_is x y at)) all.1
  given_in g f (x ∷ xs) (suc k) y at all = given_in g (λ z. cond (same name x z) (g x) (f z)) xs k y at all.1

  -- ---- roles

  taken_read : (at : Place) (f g : A → Role) (x : A) (xs : List A) → Distinct name xs → Stands name xs x → IsFree (f x)
      → roles.taken_at at (map f xs) (place name xs x) (g x) ≡ Ok (map (λ y. cond (same name x y) (g x) (f y)) xs)
  unfolding roles.taken_at
  taken_read at f g x xs d there free = rw (found_at name f x xs (place name xs x) there, free) (ap Ok (changed_at name f (λ y. g x) x xs (place name xs x) d there))

  still_free : (f g : A → Role) (x : A) (ys : List A) → AllByRecursion (λ y. same name x y ≡ false) ys → AllByRecursion (λ y. IsFree (f y)) ys → AllByRecursion (λ y. IsFree (cond (same name x y) (g x) (f y))) ys
  still_free f g x [] apart all = tt
  still_free f g x (y ∷ ys) apart all = (subst (λ b. IsFree (cond b (g x) (f y))) (sym apart.0) all.0, still_free f g x ys apart.1 all.1)

  state_read : (p : ℕ) (g f : A → Role) (xs : List A) (is os ps : List ℕ) (ns : List (List ℕ)) (i : ℕ) (k : List ℕ) (x y : A) → Distinct name xs → Stands name xs x → Stands name xs y
      → IsFree (f x) → IsFree (f y) → same name x y ≡ false → g x ≡ incoming → g y ≡ outgoing
      → states.uses_of_state_at (map name xs) p (uses (map f xs) is os ps ns) i k (forms.state_between (name x) (name y))
      ≡ Ok (uses (map (λ z. cond (same name y z) (g y) (cond (same name x z) (g x) (f z))) xs) (is ++ place name xs x ∷ []) (os ++ place name xs y ∷ []) ps ns)
  unfolding states.uses_of_state_at fields.present_at fields.string_at limits.known_at forms.state_between incoming outgoing
  state_read p g f xs is os ps ns i k x y d sx sy fx fy apart e1 e2 =
      let at : Place = fields.place part_kinds.State p i 0 in
      let first : A → Role = λ z. cond (same name x z) incoming (f z) in
      let left : IsFree (first y) = subst (λ b. IsFree (cond b incoming (f y))) (sym apart) fy in
      rw (e1, e2, known name x xs sx, known name y xs sy, taken_read at f (λ z. incoming) x xs d sx fx, taken_read at first (λ z. outgoing) y xs d sy left) refl

  -- the variables of states, one after another
  abbrev pub both : {S : Type 0} → (S → A) → (S → A) → List S → List A
  both ins outs [] = []
  both ins outs (s ∷ ss) = ins s ∷ outs s ∷ both ins outs ss

  pub record FitsState (xs : List A) (g : A → Role) (x y : A) : Type 0 where
    pub first : Stands name xs x
    pub second : Stands name xs y
    pub comes : g x ≡ incoming
    pub goes : g y ≡ outgoing

  states_walk : {S : Type 0} (p : ℕ) (g : A → Role) (xs : List A) (key : S → List ℕ) (ins outs : S → A) → Distinct name xs → (ss : List S) → AllByRecursion (λ s. FitsState xs g (ins s) (outs s)) ss
      → (f : A → Role) → AllByRecursion (λ x. IsFree (f x)) (both ins outs ss) → Distinct name (both ins outs ss) → (is os ps : List ℕ) (ns : List (List ℕ)) (i : ℕ)
      → walk_members (states.uses_of_state_at (map name xs) p) (uses (map f xs) is os ps ns) i (members_by key (λ s. forms.state_between (name (ins s)) (name (outs s))) ss)
      ≡ Ok (uses (map (given g f (both ins outs ss)) xs) (is ++ map (λ s. place name xs (ins s)) ss) (os ++ map (λ s. place name xs (outs s)) ss) ps ns)
  unfolding walk_members
  states_walk p g xs key ins outs d [] fits f frees apart is os ps ns i = ap₂ (λ (a b : List ℕ). Ok (uses (map f xs) a b ps ns)) (sym (append-nil is)) (sym (append-nil os))
  states_walk p g xs key ins outs d (s ∷ ss) fits f frees apart is os ps ns i =
      let x : A = ins s in
      let y : A = outs s in
      let first : A → Role = λ z. cond (same name x z) (g x) (f z) in
      let next : A → Role = λ z. cond (same name y z) (g y) (first z) in
      ap (λ (r : Result Uses Refusal). r >>= λ u. walk_members (states.uses_of_state_at (map name xs) p) u (suc i) (members_by key (λ t. forms.state_between (name (ins t)) (name (outs t))) ss))
      (state_read p g f xs is os ps ns i (key s) x y d fits.0.first fits.0.second frees.0 frees.1.0 apart.0.0 fits.0.comes fits.0.goes)
      ∙ states_walk p g xs key ins outs d ss fits.1 next
      (still_free first g y (both ins outs ss) apart.1.0 (still_free f g x (both ins outs ss) apart.0.1 frees.1.1)) apart.1.1 (is ++ place name xs x ∷ []) (os ++ place name xs y ∷ []) ps ns (suc i)
      ∙ ap₂ (λ (a b : List ℕ). Ok (uses (map (given g next (both ins outs ss)) xs) a b ps ns)) (append_assoc is (place name xs x ∷ []) (map (λ t. place name xs (ins t)) ss)) (append_assoc os (place name xs y ∷ []) (map (λ t. place name xs (outs t)) ss))

  keys_are : {S : Type 0} (key : S → List ℕ) (value : S → Data) (initial : S → ℤ) (ss : List S) → states.are_keys (map (λ s. record { name = key s; initial = initial s }) ss) (members_by key value ss) ≡ true
  keys_are key value initial [] = refl
  keys_are key value initial (s ∷ ss) = rw (equal_names (key s), keys_are key value initial ss) refl

  none_used : (xs : List A) → roles.unused (length (map name xs)) ≡ uses (map (λ y. free) xs) [] [] [] []
  none_used xs = ap (λ (rs : List Role). uses rs [] [] [] []) (each xs)
    where
      each : (ys : List A) → (roles.unused (length (map name ys))).roles ≡ map (λ y. free) ys
      each [] = refl
      each (y ∷ ys) = ap (λ (rs : List Role). free ∷ rs) (each ys)

  all_free : (xs : List A) → AllByRecursion (λ x. IsFree free) xs
  all_free [] = tt
  all_free (x ∷ xs) = (refl, all_free xs)

  pub states_read : {S : Type 0} (p : ℕ) (g : A → Role) (xs : List A) (key : S → List ℕ) (ins outs : S → A) (initial : S → ℤ) → Distinct name xs → (ss : List S) → AllByRecursion (λ s. FitsState xs g (ins s) (outs s)) ss
      → Distinct name (both ins outs ss)
      → states.uses_of_states_at (map (λ s. record { name = key s; initial = initial s }) ss) (map name xs) p (roles.unused (length (map name xs))) (members_by key (λ s. forms.state_between (name (ins s)) (name (outs s))) ss)
      ≡ Ok (uses (map (given g (λ y. free) (both ins outs ss)) xs) (map (λ s. place name xs (ins s)) ss) (map (λ s. place name xs (outs s)) ss) [] [])
  unfolding states.uses_of_states_at states.each_state_at
  states_read p g xs key ins outs initial d ss fits apart =
      rw (keys_are key (λ s. forms.state_between (name (ins s)) (name (outs s))) initial ss, none_used xs) (states_walk p g xs key ins outs d ss fits (λ y. free) (all_free (both ins outs ss)) apart [] [] [] [] 0)

  -- ---- random variables

  random_read : (p : ℕ) (g f : A → Role) (xs : List A) (is os ps : List ℕ) (ns : List (List ℕ)) (i : ℕ) (x : A) → Distinct name xs → Stands name xs x → IsFree (f x) → g x ≡ random
      → randoms.random_at (map name xs) p (uses (map f xs) is os ps ns) i (string (name x)) ≡ Ok (uses (map (λ z. cond (same name x z) (g x) (f z)) xs) is os (ps ++ place name xs x ∷ []) (ns ++ name x ∷ []))
  unfolding randoms.random_at fields.string_at limits.known_at random
  random_read p g f xs is os ps ns i x d sx fx e = rw (e, known name x xs sx, taken_read (fields.place part_kinds.Random p i 0) f (λ z. random) x xs d sx fx) refl

  pub randoms_walk : {C : Type 0} (p : ℕ) (g : A → Role) (xs : List A) (at : C → A) → Distinct name xs → (cs : List C) → AllByRecursion (λ c. Stands name xs (at c) × (g (at c) ≡ random)) cs
      → (f : A → Role) → AllByRecursion (λ c. IsFree (f (at c))) cs → Distinct name (map at cs) → (is os ps : List ℕ) (ns : List (List ℕ)) (i : ℕ)
      → walk_items (randoms.random_at (map name xs) p) (uses (map f xs) is os ps ns) i (items_of (map (λ c. string (name (at c))) cs))
      ≡ Ok (uses (map (given g f (map at cs)) xs) is os (ps ++ map (λ c. place name xs (at c)) cs) (ns ++ map (λ c. name (at c)) cs))
  unfolding walk_items
  randoms_walk p g xs at d [] fits f frees apart is os ps ns i = ap₂ (λ (a : List ℕ) (b : List (List ℕ)). Ok (uses (map f xs) is os a b)) (sym (append-nil ps)) (sym (append-nil ns))
  randoms_walk {C} p g xs at d (c ∷ cs) fits f frees apart is os ps ns i =
      let x : A = at c in
      let next : A → Role = λ z. cond (same name x z) (g x) (f z) in
      ap (λ (r : Result Uses Refusal). r >>= λ u. walk_items (randoms.random_at (map name xs) p) u (suc i) (items_of (map (λ e. string (name (at e))) cs)))
      (random_read p g f xs is os ps ns i x d fits.0.0 frees.0 fits.0.1)
      ∙ randoms_walk p g xs at d cs fits.1 next (left cs apart.0 frees.1) apart.1 is os (ps ++ place name xs x ∷ []) (ns ++ name x ∷ []) (suc i)
      ∙ ap₂ (λ (a : List ℕ) (b : List (List ℕ)). Ok (uses (map (given g next (map at cs)) xs) is os a b)) (append_assoc ps (place name xs x ∷ []) (map (λ e. place name xs (at e)) cs)) (append_assoc ns (name x ∷ []) (map (λ e. name (at e)) cs))
    where
      left : (es : List C) → AllByRecursion (λ y. same name (at c) y ≡ false) (map at es) → AllByRecursion (λ e. IsFree (f (at e))) es → AllByRecursion (λ e. IsFree (cond (same name (at c) (at e)) (g (at c)) (f (at e)))) es
      left [] a b = tt
      left (e ∷ es) a b = (subst (λ q. IsFree (cond q (g (at c)) (f (at e)))) (sym a.0) b.0, left es a.1 b.1)

  -- ---- decisions

  either_place : (b : Bool) (v w : ℕ) (ns : List ℕ) (f : A → ℕ) (y : A) (zs : List A) → f y ≡ v → ns ≡ map f zs → (if b then v ∷ ns else ns) ≡ map f (cond b (y ∷ zs) zs)
  either_place true v w ns f y zs e more = ap₂ ◌∷◌ (sym e) more
  either_place false v w ns f y zs e more = more

  places_from : (g : A → Role) (xs : List A) → Distinct name xs → (ys : List A) (v : ℕ) → ((k : ℕ) (y : A) → At name ys k y → At name xs (v + k) y)
      → decisions.decisions_from v (map g ys) ≡ map (place name xs) (filter (λ y. decisions.is_decision (g y)) ys)
  places_from g xs d [] v h = refl
  places_from g xs d (y ∷ ys) v h =
      let none : v + 0 ≡ v = omega arith in
      either_place (decisions.is_decision (g y)) v v (decisions.decisions_from (v + 1) (map g ys)) (place name xs) y (filter (λ z. decisions.is_decision (g z)) ys) (place_at name y xs (v + 0) d (h 0 y refl) ∙ none)
      (places_from g xs d ys (v + 1) (λ k z at. let more : v + suc k ≡ v + 1 + k = omega arith in subst (λ (j : ℕ). At name xs j z) more (h (suc k) z at)))

  pub places_are : (g : A → Role) (xs : List A) → Distinct name xs → decisions.decisions_from 0 (map g xs) ≡ map (place name xs) (filter (λ y. decisions.is_decision (g y)) xs)
  places_are g xs d = places_from g xs d xs 0 (λ k y at. let none : k ≡ 0 + k = omega arith in subst (λ (j : ℕ). At name xs j y) none at)

  -- the values at the places of some
  pub picked_are : (f : A → ℤ) (xs ys : List A) → AllByRecursion (Stands name xs) ys → map (entry (map f xs)) (map (place name xs) ys) ≡ map f ys
  picked_are f xs [] all = refl
  picked_are f xs (y ∷ ys) all = ap₂ ◌∷◌ (entry_at name f y xs (place name xs y) all.0) (picked_are f xs ys all.1)

  place_differs : (xs : List A) (y c : A) → Stands name xs y → Stands name xs c → same name y c ≡ false → (place name xs y == place name xs c) ≡ false
  place_differs xs y c sy sc apart = by (place name xs y == place name xs c) refl
    where
      by : (b : Bool) → (place name xs y == place name xs c) ≡ b → b ≡ false
      by true e =
          let places : place name xs y ≡ place name xs c = grind (arith, nat_tests) in
          let one : y ≡ c = some_is y c (sym sy ∙ ap (slice_get xs) places ∙ sc) in
          absurd (true≢false (sym (subst (λ w. same name y w ≡ true) one (equal_names (name y))) ∙ apart))
      by false e = refl

  place_itself : (n : ℕ) → (n == n) ≡ true
  place_itself n = grind (arith, nat_tests)

  number_or_len : (xs ys : List A) (k : ℕ) (c : A) → AllByRecursion (Stands name xs) ys → Distinct name ys → Stands name xs c → At name ys k c
      → position_or_len (λ w. w == place name xs c) (map (place name xs) ys) ≡ k
  number_or_len xs [] k c all d sc at = absurd cc
  number_or_len xs (y ∷ ys) zero c all d sc at =
      let here : (place name xs y == place name xs c) ≡ true = subst (λ w. (place name xs y == place name xs w) ≡ true) (some_is y c at) (place_itself (place name xs y)) in
      rw here refl
  number_or_len xs (y ∷ ys) (suc k) c all d sc at =
      rw (place_differs xs y c all.0 sc (apart_at name y c ys k d.0 at), number_or_len xs ys k c all.1 d.1 sc at) (omega arith)

  within_list : (ys : List A) (k : ℕ) (c : A) → At name ys k c → k < length ys
  within_list [] k c at = absurd cc
  within_list (y ∷ ys) zero c at = omega arith
  within_list (y ∷ ys) (suc k) c at = let less = within_list ys k c at in omega arith

  -- the number of a decision
  pub number_at : (xs ys : List A) (k : ℕ) (c : A) → AllByRecursion (Stands name xs) ys → Distinct name ys → Stands name xs c → At name ys k c → decision_number_of (map (place name xs) ys) (place name xs c) ≡ k
  unfolding decision_number_of
  number_at xs ys k c all d sc at =
      rw (number_or_len xs ys k c all d sc at, length-map ys (place name xs), lt-ltb k (length ys) (within_list ys k c at)) refl
