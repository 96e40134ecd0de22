-- The reader's answers on rows and on bounds.
use Rattle.std.proofs.Common.{◌≡◌, ℕ, suc, ◌+◌, ℤ, pos, ◌≤ℤ◌, List, [], ◌∷◌, ◌++◌, length, map, Bool, true, false, cond, Some, Result, Ok, Err, int_lt, refl, sym, ap, subst, ◌∙◌, arith, append-nil, append_assoc}
use Rattle.std.specs.List.{AllByRecursion, flat_map}
use Rattle.std.proofs.lemmas.Int.{ints}
use Rattle.serde_json.specs.Data.{Data}
use Rattle.serde_json.specs.View.{items_of}
use Rattle.problem.specs.declared.parts.Row.{Row}
use Rattle.problem.specs.declared.parts.Decision.{Decision}
use Rattle.problem.specs.declared.refusal.Refusal.{Refusal}
use Rattle.problem.specs.declared.refusal.Part.TheVariants as part_kinds
use Rattle.problem.specs.declared.refusal.Place.{Place}
use Rattle.read_json.specs.Steps.{◌>>=◌, walk_items, walk_list}
use Rattle.read_json.specs.Fields as fields
use Rattle.read_json.specs.Limits as limits
use Rattle.read_stage.specs.Boxes as boxes
use Rattle.read_stage.specs.Constraint as constraint
use Rattle.read_stage.specs.Function as function
use Rattle.read_stage.specs.Roles as roles
use Rattle.read_stage.specs.Rows as rows
use Rattle.read_stage.specs.Sides as sides
use Rattle.hydro_form.specs.Stage as forms
use Rattle.hydro_accept.proofs.Types.{Takes, TypeOf}
use Rattle.hydro_accept.proofs.Named.{same, Distinct, At, Stands, place, found_at, changed_at, entry_at}
use Rattle.hydro_accept.proofs.Functions.{IsSmall, IsTerm, factor, term_of, integer_read, sum_read, single_read}
use Rattle.hydro_accept.proofs.Uses.{Role, uses, given, picked_are}

abbrev pub Sides : Type 0
Sides = TypeOf sides.no_sides

abbrev pub Constraints : Type 0
Constraints = TypeOf (constraint.no_constraints 0)

abbrev pub Variables : Type 0
Variables = Takes boxes.variable_box_at

abbrev pub between : ℤ → ℤ → Sides
between low high = record { low = Some low; high = Some high }

-- the low side is not above the high one, and both are small
pub record IsBox (low high : ℤ) : Type 0 where
  pub order : low ≤ℤ high
  pub low_small : IsSmall low
  pub high_small : IsSmall high

not_crossed : (low high : ℤ) → low ≤ℤ high → int_lt high low ≡ false
not_crossed low high h = by (int_lt high low) refl
  where
    by : (b : Bool) → int_lt high low ≡ b → b ≡ false
    by true e = absurd (omega (arith, ints))
    by false e = refl

pub ordered_read : (p : Place) (low high : ℤ) → low ≤ℤ high → sides.ordered_at p (between low high) ≡ Ok (between low high)
unfolding sides.ordered_at
ordered_read p low high h = rw (not_crossed low high h) refl

interval_read : (p : Place) (low high : ℤ) → IsBox low high → sides.set_at p (forms.interval low high) ≡ Ok (between low high)
unfolding sides.set_at sides.interval_at sides.side_at fields.present_at fields.string_at forms.interval
interval_read p low high h = rw (integer_read p low h.low_small, integer_read p high h.high_small, ordered_read p low high h.order) refl

module _ {A : Type 0} (name : A → List ℕ) (g : A → Role) (xs before chances decided outs : List A) (ns : List (List ℕ)) (d : Distinct name xs) where
  abbrev places : List A → List ℕ
  places ys = map (place name xs) ys

  -- the variables, with those before a stage, not known, and decided
  abbrev pub vars : Variables
  vars = record { names = map name xs; uses = uses (map g xs) (places before) (places outs) (places chances) ns; decisions = places decided }

  -- ---- rows

  -- the row in which the sum is 0
  abbrev pub zero_row : (A → ℤ) → Row
  zero_row f = record {
    low = Some (pos 0);
    high = Some (pos 0);
    decisions = rows.terms_from 0 (map f decided);
    states = rows.terms_from 0 (map f before);
    randoms = rows.terms_from 0 (map f chances);
  }

  pub record AllStand : Type 0 where
    pub coming : AllByRecursion (Stands name xs) before
    pub unknown : AllByRecursion (Stands name xs) chances
    pub chosen : AllByRecursion (Stands name xs) decided

  module _ (all : AllStand) where
    row_is : (f : A → ℤ) → rows.row_of vars (map f xs) (between (pos 0) (pos 0)) ≡ zero_row f
    unfolding rows.row_of rows.picked_coefficients
    row_is f = rw (picked_are name f xs before all.coming, picked_are name f xs chances all.unknown, picked_are name f xs decided all.chosen) refl

    -- the terms stand among the variables, and each factor is small
    pub record IsSum (ts : List (ℤ × A)) : Type 0 where
      pub terms : AllByRecursion (IsTerm name xs) ts
      pub small : AllByRecursion (λ y. IsSmall (factor name ts y)) xs

    abbrev found : List Sides → List Row → Constraints
    found bounds rs = record { bounds = bounds; rows = rs }

    row_read : (p i : ℕ) (bounds : List Sides) (rs : List Row) (ts : List (ℤ × A)) → IsSum ts
        → constraint.constraint_at vars p (found bounds rs) i (forms.row 0 (map (term_of name) ts)) ≡ Ok (found bounds (rs ++ zero_row (factor name ts) ∷ []))
    unfolding constraint.constraint_at constraint.bounded constraint.joined_at sides.set_at sides.equal_at sides.side_at sides.shifted_at sides.shifted_side_at limits.limited_at fields.whole_at fields.present_at fields.object_at fields.string_at forms.row forms.equal_to forms.affine
    row_read p i bounds rs ts h = rw (sum_read, d, h.terms, h.small, row_is (factor name ts)) refl

    rows_walk : (p : ℕ) (bounds : List Sides) (tss : List (List (ℤ × A))) → AllByRecursion IsSum tss → (rs : List Row) (i : ℕ)
        → walk_items (constraint.constraint_at vars p) (found bounds rs) i (items_of (map (λ ts. forms.row 0 (map (term_of name) ts)) tss)) ≡ Ok (found bounds (rs ++ map (λ ts. zero_row (factor name ts)) tss))
    unfolding walk_items
    rows_walk p bounds [] sums rs i = ap (λ (z : List Row). Ok (found bounds z)) (sym (append-nil rs))
    rows_walk p bounds (ts ∷ tss) sums rs i =
        ap (λ (r : Result Constraints Refusal). r >>= λ next. walk_items (constraint.constraint_at vars p) next (suc i) (items_of (map (λ us. forms.row 0 (map (term_of name) us)) tss))) (row_read p i bounds rs ts sums.0)
        ∙ rows_walk p bounds tss sums.1 (rs ++ zero_row (factor name ts) ∷ []) (suc i) ∙ ap (λ (z : List Row). Ok (found bounds z)) (append_assoc rs (zero_row (factor name ts) ∷ []) (map (λ us. zero_row (factor name us)) tss))

    -- ---- bounds

    bound_read : (p i : ℕ) (b : A → Sides) (rs : List Row) (x : A) (low high : ℤ) → Stands name xs x → b x ≡ sides.no_sides → roles.is_random (Some (g x)) ≡ false → IsBox low high
        → constraint.constraint_at vars p (found (map b xs) rs) i (forms.variable_bound (name x) low high) ≡ Ok (found (map (λ y. cond (same name x y) (between low high) (b y)) xs) rs)
    unfolding constraint.constraint_at constraint.bounded constraint.joined_at constraint.narrowed function.function_at fields.present_at fields.object_at forms.variable_bound forms.single forms.interval
    bound_read p i b rs x low high sx none known box =
        rw (single_read, sx, interval_read (fields.place part_kinds.Constraint p i 0) low high box, found_at name g x xs (place name xs x) sx, known, found_at name b x xs (place name xs x) sx, none)
        (ap (λ (bs : List Sides). Ok (found bs rs)) (changed_at name b (λ y. between low high) x xs (place name xs x) d sx))

    pub record IsBounded (low high : A → ℤ) (x : A) : Type 0 where
      pub stands : Stands name xs x
      pub known : roles.is_random (Some (g x)) ≡ false
      pub box : IsBox (low x) (high x)

    still_none : (b s : A → Sides) (x : A) (ys : List A) → AllByRecursion (λ y. same name x y ≡ false) ys → AllByRecursion (λ y. b y ≡ sides.no_sides) ys → AllByRecursion (λ y. cond (same name x y) (s x) (b y) ≡ sides.no_sides) ys
    still_none b s x [] apart all = tt
    still_none b s x (y ∷ ys) apart all = (ap (λ q. cond q (s x) (b y)) apart.0 ∙ all.0, still_none b s x ys apart.1 all.1)

    bounds_walk : (p : ℕ) (rs : List Row) (low high : A → ℤ) (ys : List A) → AllByRecursion (IsBounded low high) ys → Distinct name ys → (b : A → Sides) → AllByRecursion (λ y. b y ≡ sides.no_sides) ys → (i : ℕ)
        → walk_items (constraint.constraint_at vars p) (found (map b xs) rs) i (items_of (map (λ y. forms.variable_bound (name y) (low y) (high y)) ys))
        ≡ Ok (found (map (given name (λ y. between (low y) (high y)) b ys) xs) rs)
    unfolding walk_items
    bounds_walk p rs low high [] all apart b none i = refl
    bounds_walk p rs low high (y ∷ ys) all apart b none i =
        let next : A → Sides = λ z. cond (same name y z) (between (low y) (high y)) (b z) in
        ap (λ (r : Result Constraints Refusal). r >>= λ c. walk_items (constraint.constraint_at vars p) c (suc i) (items_of (map (λ z. forms.variable_bound (name z) (low z) (high z)) ys)))
        (bound_read p i b rs y (low y) (high y) all.0.stands none.0 all.0.known all.0.box)
        ∙ bounds_walk p rs low high ys all.1 apart.1 next (still_none b (λ z. between (low z) (high z)) y ys apart.0 none.1) (suc i)

    append_by : (step : Constraints → ℕ → Data → Result Constraints Refusal) (front back : List Data) (i : ℕ) (r : Result Constraints Refusal)
        → ((next : Constraints) → walk_items step next (suc i) (items_of (front ++ back)) ≡ (walk_items step next (suc i) (items_of front) >>= λ after. walk_items step after (suc i + length front) (items_of back)))
        → (r >>= λ next. walk_items step next (suc i) (items_of (front ++ back))) ≡ ((r >>= λ next. walk_items step next (suc i) (items_of front)) >>= λ after. walk_items step after (i + suc (length front)) (items_of back))
    append_by step front back i (Ok next) more = let same : suc i + length front ≡ i + suc (length front) = omega arith in more next ∙ ap (λ (k : ℕ). walk_items step next (suc i) (items_of front) >>= λ after. walk_items step after k (items_of back)) same
    append_by step front back i (Err e) more = refl

    walk_append : (step : Constraints → ℕ → Data → Result Constraints Refusal) (front back : List Data) (c : Constraints) (i : ℕ)
        → walk_items step c i (items_of (front ++ back)) ≡ (walk_items step c i (items_of front) >>= λ next. walk_items step next (i + length front) (items_of back))
    unfolding walk_items
    walk_append step [] back c i = let none : i ≡ i + 0 = omega arith in ap (λ (k : ℕ). walk_items step c k (items_of back)) none
    walk_append step (a ∷ front) back c i = append_by step front back i (step c i a) (λ next. walk_append step front back next (suc i))

    nothing_yet : (ys : List A) → constraint.no_constraints (length (map name ys)) ≡ found (map (λ y. sides.no_sides) ys) []
    nothing_yet ys = ap (λ (bs : List Sides). found bs []) (each ys)
      where
        each : (zs : List A) → (constraint.no_constraints (length (map name zs))).bounds ≡ map (λ y. sides.no_sides) zs
        each [] = refl
        each (z ∷ zs) = ap (λ (bs : List Sides). sides.no_sides ∷ bs) (each zs)

    all_none : (ys : List A) → AllByRecursion (λ (y : A). sides.no_sides ≡ sides.no_sides) ys
    all_none [] = tt
    all_none (y ∷ ys) = (refl, all_none ys)

    -- all rows and then all bounds
    pub constraints_read : (p : ℕ) (tss : List (List (ℤ × A))) (low high : A → ℤ) (ys : List A) → AllByRecursion IsSum tss → AllByRecursion (IsBounded low high) ys → Distinct name ys
        → constraint.constraints_at vars p (items_of (map (λ ts. forms.row 0 (map (term_of name) ts)) tss ++ map (λ y. forms.variable_bound (name y) (low y) (high y)) ys))
        ≡ Ok (found (map (given name (λ y. between (low y) (high y)) (λ y. sides.no_sides) ys) xs) (map (λ ts. zero_row (factor name ts)) tss))
    unfolding constraint.constraints_at
    constraints_read p tss low high ys sums all apart =
        let front : List Data = map (λ ts. forms.row 0 (map (term_of name) ts)) tss in
        let back : List Data = map (λ y. forms.variable_bound (name y) (low y) (high y)) ys in
        ap (λ (c : Constraints). walk_items (constraint.constraint_at vars p) c 0 (items_of (front ++ back))) (nothing_yet xs)
        ∙ walk_append (constraint.constraint_at vars p) front back (found (map (λ y. sides.no_sides) xs) []) 0
        ∙ ap (λ (r : Result Constraints Refusal). r >>= λ next. walk_items (constraint.constraint_at vars p) next (0 + length front) (items_of back)) (rows_walk p (map (λ y. sides.no_sides) xs) tss sums [] 0)
        ∙ bounds_walk p (map (λ ts. zero_row (factor name ts)) tss) low high ys all apart (λ y. sides.no_sides) (all_none ys) (0 + length front)

    -- ---- boxes

    boxes_walk : (p : ℕ) (s : A → Sides) (c : A → ℤ) (box : A → List Decision) → ((found : List Decision) (at : Place) (y : A) (k : ℕ) → At name xs k y → boxes.box_at at found (Some (g y)) (name y) (s y) (c y) ≡ Ok (found ++ box y))
        → (ys : List A) (found : List Decision) (i : ℕ) → ((k : ℕ) (y : A) → At name ys k y → At name xs (i + k) y)
        → walk_list (boxes.variable_box_at vars p (map s xs) (map c xs)) found i (map name ys) ≡ Ok (found ++ flat_map box ys)
    unfolding walk_list boxes.variable_box_at
    boxes_walk p s c box go [] found i h = ap Ok (sym (append-nil found))
    boxes_walk p s c box go (y ∷ ys) found i h =
        let none : i + 0 ≡ i = omega arith in
        let here : At name xs i y = subst (λ (j : ℕ). At name xs j y) none (h 0 y refl) in
        let step : boxes.variable_box_at vars p (map s xs) (map c xs) found i (name y) ≡ Ok (found ++ box y) = rw (found_at name g y xs i here, found_at name s y xs i here, entry_at name c y xs i here) (go found (fields.place part_kinds.Variable p i 0) y i here) in
        ap (λ (r : Result (List Decision) Refusal). r >>= λ next. walk_list (boxes.variable_box_at vars p (map s xs) (map c xs)) next (suc i) (map name ys)) step
        ∙ boxes_walk p s c box go ys (found ++ box y) (suc i) (λ k z at. let more : i + suc k ≡ suc i + k = omega arith in subst (λ (j : ℕ). At name xs j z) more (h (suc k) z at))
        ∙ ap Ok (append_assoc found (box y) (flat_map box ys))

    pub boxes_read : (p : ℕ) (s : A → Sides) (c : A → ℤ) (box : A → List Decision) → ((found : List Decision) (at : Place) (y : A) (k : ℕ) → At name xs k y → boxes.box_at at found (Some (g y)) (name y) (s y) (c y) ≡ Ok (found ++ box y))
        → boxes.boxes_at vars p (map s xs) (map c xs) ≡ Ok (flat_map box xs)
    unfolding boxes.boxes_at
    boxes_read p s c box go = boxes_walk p s c box go xs [] 0 (λ k y at. let none : k ≡ 0 + k = omega arith in subst (λ (j : ℕ). At name xs j y) none at)
