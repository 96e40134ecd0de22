-- The decisions that were read keep their limits, and there is one for each variable that is a decision.
use Rattle.std.proofs.Common.{◌≡◌, ◌<◌, ◌+◌, ◌==◌, ℕ, zero, suc, ℤ, List, [], ◌∷◌, ◌++◌, length, map, drop, Bool, true, false, slice_get, Option, Some, None, Ok, int_le, if◌then◌else◌, refl, sym, ap, ap₂, subst, ◌∙◌, arith}
use Rattle.std.specs.List.{list_all, zip, AllByRecursion}
use Rattle.std.proofs.lemmas.Bool.{and_from, eqb-true, eqb-false}
use Rattle.std.proofs.lemmas.List.{map-append, append-nil, append_assoc, drop_all}
use Rattle.std.proofs.lemmas.Option.{same_Some, slice_get_within}
use Rattle.base_num.specs.Sums.{entry}
use Rattle.base_num.proofs.Tests.{and_first, and_second}
use Rattle.problem.specs.Limits.{is_small, are_small, is_name, is_bound, sides_fit, decision_fits}
use Rattle.problem.specs.declared.parts.Decision.{Decision}
use Rattle.problem.specs.declared.refusal.Place.{Place}
use Rattle.read_json.proofs.Accepted.{then-Ok, Ok-is, unless-Ok, list_all-push, EachFrom, walk_list-Ok}
use Rattle.read_json.proofs.Distinct.{name_of}
use Rattle.read_stage.specs.declared.role.Role.{Role}
use Rattle.read_stage.specs.declared.role.Role.TheVariants.{Free, Incoming, Outgoing, Random}
use Rattle.read_stage.specs.declared.variables.Variables.{Variables}
use Rattle.read_stage.specs.declared.sides.RowSides.{RowSides}
use Rattle.read_stage.specs.Sides.{is_crossed, ordered_at}
use Rattle.read_stage.specs.Decisions.{is_decision, decisions_from}
use Rattle.read_stage.specs.Boxes.{bound_at, decision_at, incoming_at, box_at, sides_of, variable_box_at, boxes_at, given_low_bounds, given_high_bounds}
use Rattle.read_stage.proofs.SidesFit.{AreBounds, both_fit, le_from_uncrossed}
use Rattle.read_stage.proofs.RowsFit.{entry-small}

-- ---- one decision

pub bound_at-Ok : (at : Place) (o : Option ℤ) (z : ℤ) → bound_at at o ≡ Ok z → o ≡ Some z
unfolding bound_at
bound_at-Ok at None z e = cc
bound_at-Ok at (Some y) z e = ap Some (Ok-is y z e)

-- one decision more of that name, which keeps its limits
record OneMore (name : List ℕ) (found next : List Decision) : Type 0 where
  decision : Decision
  named : decision.name ≡ name
  added : found ++ decision ∷ [] ≡ next
  fits : decision_fits decision ≡ true

ordered_at-le : (at : Place) (sides ordered : RowSides) (low high : ℤ) → sides.low ≡ Some low → sides.high ≡ Some high → ordered_at at sides ≡ Ok ordered → int_le low high ≡ true
unfolding ordered_at
ordered_at-le at sides ordered low high is_low is_high e =
    let parts = unless-Ok (is_crossed sides.low sides.high) _ _ at ordered e in
    le_from_uncrossed low high (sym (ap₂ is_crossed is_low is_high) ∙ parts.0)

decision_at-more : (at : Place) (found next : List Decision) (name : List ℕ) (sides : RowSides) (cost : ℤ) → is_name name ≡ true → AreBounds sides → is_small cost ≡ true
    → decision_at at found name sides cost ≡ Ok next → OneMore name found next
unfolding decision_at
decision_at-more at found next name sides cost named bounds small e =
    then-Ok (bound_at _ _) _ next e (λ low is_low e.
    then-Ok (bound_at _ _) _ next e (λ high is_high e.
    then-Ok (ordered_at _ _) _ next e (λ ordered is e.
    let l = bound_at-Ok at sides.low low is_low in
    let h = bound_at-Ok at sides.high high is_high in
    let small_low : is_small low ≡ true = subst (λ o. is_bound o ≡ true) l bounds.low in
    let small_high : is_small high ≡ true = subst (λ o. is_bound o ≡ true) h bounds.high in
    record {
      decision = record { name = name; low = low; high = high; cost = cost };
      named = refl;
      added = Ok-is _ next e;
      fits = rw (named, small_low, small_high, ordered_at-le at sides ordered low high l h is, small) refl;
    })))

-- ---- a list of them

drop_some : {A : Type 0} (xs : List A) (i : ℕ) (x : A) → slice_get xs i ≡ Some x → drop i xs ≡ x ∷ drop (suc i) xs
drop_some [] i x e = cc
drop_some (y ∷ ys) zero x e = ap (λ z. z ∷ ys) (same_Some y x e)
drop_some (y ∷ ys) (suc i) x e = drop_some ys i x e

drop_none : {A : Type 0} (xs : List A) (i : ℕ) → slice_get xs i ≡ None → drop i xs ≡ []
drop_none [] zero e = refl
drop_none [] (suc i) e = refl
drop_none (y ∷ ys) zero e = cc
drop_none (y ∷ ys) (suc i) e = drop_none ys i e

none_later : {A : Type 0} (xs : List A) (i : ℕ) → slice_get xs i ≡ None → slice_get xs (suc i) ≡ None
none_later [] i e = refl
none_later (y ∷ ys) zero e = cc
none_later (y ∷ ys) (suc i) e = none_later ys i e

-- the decisions that are left from variable i on
left : List Role → ℕ → List ℕ
left roles i = decisions_from i (drop i roles)

left_some : (roles : List Role) (i : ℕ) (r : Role) → slice_get roles i ≡ Some r → left roles i ≡ (if is_decision r then i ∷ left roles (suc i) else left roles (suc i))
unfolding left
left_some roles i r e = let next : i + 1 ≡ suc i = omega arith in ap (λ rs. decisions_from i rs) (drop_some roles i r e) ∙ ap (λ n. if is_decision r then i ∷ decisions_from n (drop (suc i) roles) else decisions_from n (drop (suc i) roles)) next

left_none : (roles : List Role) (i : ℕ) → slice_get roles i ≡ None → left roles i ≡ []
unfolding left
left_none roles i e = ap (λ rs. decisions_from i rs) (drop_none roles i e)

left_all : (roles : List Role) → left roles 0 ≡ decisions_from 0 roles
unfolding left
left_all roles = refl

left_at_end : (roles : List Role) (n : ℕ) → length roles ≡ n → left roles n ≡ []
unfolding left
left_at_end roles n e = ap (λ rs. decisions_from n rs) (drop_all n roles (omega arith))

abbrev names_in : List Decision → List (List ℕ)
names_in decisions = map (λ (d : Decision). d.name) decisions

-- the given bounds of the variable v do not pass each other, where it is an incoming state
abbrev InOrder : List Role → List RowSides → ℕ → Type 0
InOrder roles bounds v = slice_get roles v ≡ Some Incoming → is_crossed (sides_of bounds v).low (sides_of bounds v).high ≡ false

-- so far each decision before variable i has its box, and the bounds of each incoming state are in order
record Boxed (names : List (List ℕ)) (roles : List Role) (bounds : List RowSides) (i : ℕ) (found : List Decision) : Type 0 where
  named : names_in found ++ map (name_of names) (left roles i) ≡ map (name_of names) (left roles 0)
  fit : list_all decision_fits found ≡ true
  in_order : (v : ℕ) → v < i → InOrder roles bounds v

-- one variable more whose bounds are in order
one_more : (roles : List Role) (bounds : List RowSides) (i : ℕ) → ((v : ℕ) → v < i → InOrder roles bounds v) → InOrder roles bounds i → (v : ℕ) → v < suc i → InOrder roles bounds v
one_more roles bounds i before here v lt = by (v == i) refl
  where
    by : (b : Bool) → (v == i) ≡ b → InOrder roles bounds v
    by true is = subst (InOrder roles bounds) (sym (eqb-true v i is)) here
    by false is = before v (omega (arith, lt, eqb-false v i is))

-- a variable of another role
other_role : (roles : List Role) (bounds : List RowSides) (i : ℕ) (o : Option Role) → slice_get roles i ≡ o → (o ≡ Some Incoming → ⊥) → InOrder roles bounds i
other_role roles bounds i o is no_state h = absurd (no_state (sym is ∙ h))

grown : (names : List (List ℕ)) (roles : List Role) (bounds : List RowSides) (i : ℕ) (name : List ℕ) (found next : List Decision) → name ≡ name_of names i → OneMore name found next → left roles i ≡ i ∷ left roles (suc i) → InOrder roles bounds i
    → Boxed names roles bounds i found → Boxed names roles bounds (suc i) next
grown names roles bounds i name found next is_name more is here b =
    let tail = map (name_of names) (left roles (suc i)) in
    let front : names_in (found ++ more.decision ∷ []) ≡ names_in found ++ name_of names i ∷ [] = map-append (λ (d : Decision). d.name) found (more.decision ∷ []) ∙ ap (λ n. names_in found ++ n ∷ []) (more.named ∙ is_name) in
    subst (Boxed names roles bounds (suc i)) more.added (record {
      named = ap (λ ns. ns ++ tail) front ∙ append_assoc (names_in found) (name_of names i ∷ []) tail ∙ ap (λ vs. names_in found ++ map (name_of names) vs) (sym is) ∙ b.named;
      fit = list_all-push decision_fits found more.decision b.fit more.fits;
      in_order = one_more roles bounds i b.in_order here;
    })

same : (names : List (List ℕ)) (roles : List Role) (bounds : List RowSides) (i : ℕ) (found next : List Decision) → found ≡ next → left roles i ≡ left roles (suc i) → InOrder roles bounds i → Boxed names roles bounds i found → Boxed names roles bounds (suc i) next
same names roles bounds i found next e is here b = subst (Boxed names roles bounds (suc i)) e (record {
  named = ap (λ vs. names_in found ++ map (name_of names) vs) (sym is) ∙ b.named;
  fit = b.fit;
  in_order = one_more roles bounds i b.in_order here;
})

ordered_at-uncrossed : (at : Place) (sides ordered : RowSides) → ordered_at at sides ≡ Ok ordered → is_crossed sides.low sides.high ≡ false
unfolding ordered_at
ordered_at-uncrossed at sides ordered e = (unless-Ok (is_crossed sides.low sides.high) _ _ at ordered e).0

box_at-boxed : (names : List (List ℕ)) (roles : List Role) (bounds : List RowSides) (at : Place) (found next : List Decision) (o : Option Role) (i : ℕ) (name : List ℕ) (cost : ℤ) → slice_get roles i ≡ o → name ≡ name_of names i → is_name name ≡ true
    → AreBounds (sides_of bounds i) → is_small cost ≡ true → box_at at found o name (sides_of bounds i) cost ≡ Ok next → Boxed names roles bounds i found → Boxed names roles bounds (suc i) next
unfolding box_at incoming_at
box_at-boxed names roles bounds at found next None i name cost is is_at named fit small e b =
    same names roles bounds i found next (Ok-is _ next e) (left_none roles i is ∙ sym (left_none roles (suc i) (none_later roles i is))) (other_role roles bounds i None is (λ h. cc)) b
box_at-boxed names roles bounds at found next (Some Free) i name cost is is_at named fit small e b =
    grown names roles bounds i name found next is_at (decision_at-more at found next name (sides_of bounds i) cost named fit small e) (left_some roles i Free is) (other_role roles bounds i (Some Free) is (λ h. cc)) b
box_at-boxed names roles bounds at found next (Some Incoming) i name cost is is_at named fit small e b =
    then-Ok (ordered_at _ _) _ next e (λ ordered is_ordered e.
    same names roles bounds i found next (Ok-is _ next e) (left_some roles i Incoming is) (λ h. ordered_at-uncrossed at (sides_of bounds i) ordered is_ordered) b)
box_at-boxed names roles bounds at found next (Some Outgoing) i name cost is is_at named fit small e b =
    grown names roles bounds i name found next is_at (decision_at-more at found next name (sides_of bounds i) cost named fit small e) (left_some roles i Outgoing is) (other_role roles bounds i (Some Outgoing) is (λ h. cc)) b
box_at-boxed names roles bounds at found next (Some Random) i name cost is is_at named fit small e b =
    same names roles bounds i found next (Ok-is _ next e) (left_some roles i Random is) (other_role roles bounds i (Some Random) is (λ h. cc)) b

sides_of-bounds : (bounds : List RowSides) (v : ℕ) → AllByRecursion AreBounds bounds → AreBounds (sides_of bounds v)
sides_of-bounds [] v all = record { low = refl; high = refl }
sides_of-bounds (b ∷ bs) zero all = all.0
sides_of-bounds (b ∷ bs) (suc v) all = sides_of-bounds bs v all.1

-- a name of at most 128 bytes that is the one with the number i
abbrev NameAt : List (List ℕ) → ℕ → List ℕ → Type 0
NameAt names i name = (name ≡ name_of names i) × (is_name name ≡ true)

each_name : (names : List (List ℕ)) (i : ℕ) (tail : List (List ℕ)) → ((j : ℕ) → name_of tail j ≡ name_of names (i + j)) → list_all is_name tail ≡ true → EachFrom (NameAt names) i tail
unfolding name_of
each_name names i [] there all = tt
each_name names i (x ∷ xs) there all =
    let here : i + 0 ≡ i = omega arith in (
      (there 0 ∙ ap (name_of names) here, and_first (is_name x) (list_all is_name xs) all),
      each_name names (suc i) xs (λ j. let next : i + suc j ≡ suc i + j = omega arith in there (suc j) ∙ ap (name_of names) next) (and_second (is_name x) (list_all is_name xs) all),
    )

variable_box_at-boxed : (vars : Variables) (p : ℕ) (bounds : List RowSides) (costs : List ℤ) (found next : List Decision) (i : ℕ) (name : List ℕ) → AllByRecursion AreBounds bounds → are_small costs ≡ true → NameAt vars.names i name
    → variable_box_at vars p bounds costs found i name ≡ Ok next → Boxed vars.names vars.uses.roles bounds i found → Boxed vars.names vars.uses.roles bounds (suc i) next
unfolding variable_box_at
variable_box_at-boxed vars p bounds costs found next i name all small named e b =
    box_at-boxed vars.names vars.uses.roles bounds _ found next (slice_get vars.uses.roles i) i name (entry costs i) refl named.0 named.1 (sides_of-bounds bounds i all) (entry-small costs i small) e b

-- the decisions with their boxes: each keeps its limits and has the name of its variable; and the bounds of the incoming states are in order
pub record BoxesFit (vars : Variables) (bounds : List RowSides) (decisions : List Decision) : Type 0 where
  pub named : map (λ (d : Decision). d.name) decisions ≡ map (name_of vars.names) (decisions_from 0 vars.uses.roles)
  pub fit : list_all decision_fits decisions ≡ true
  pub in_order : (v : ℕ) → slice_get vars.uses.roles v ≡ Some Incoming → is_crossed (sides_of bounds v).low (sides_of bounds v).high ≡ false

pub boxes_at-fit : (vars : Variables) (p : ℕ) (bounds : List RowSides) (costs : List ℤ) (decisions : List Decision) → list_all is_name vars.names ≡ true → length vars.uses.roles ≡ length vars.names → AllByRecursion AreBounds bounds
    → are_small costs ≡ true → boxes_at vars p bounds costs ≡ Ok decisions → BoxesFit vars bounds decisions
unfolding boxes_at
boxes_at-fit vars p bounds costs decisions named long all small e =
    let names = vars.names in
    let roles = vars.uses.roles in
    let b = walk_list-Ok (Boxed names roles bounds) (NameAt names) (variable_box_at vars p bounds costs) (λ found next i name named e b. variable_box_at-boxed vars p bounds costs found next i name all small named e b)
    names [] decisions 0 (length names) (omega arith) (each_name names 0 names (λ j. let same : j ≡ 0 + j = omega arith in ap (name_of names) same) named) e (record { named = refl; fit = refl; in_order = λ v lt. absurd (omega arith) }) in
    let none : map (name_of names) (left roles (length names)) ≡ [] = ap (map (name_of names)) (left_at_end roles (length names) long) in
    record {
      named = sym (append-nil (names_in decisions)) ∙ ap (λ ns. names_in decisions ++ ns) (sym none) ∙ b.named ∙ ap (map (name_of names)) (left_all roles);
      fit = b.fit;
      in_order = λ v has. b.in_order v (omega (arith, slice_get_within roles v Incoming has, long)) has;
    }

-- ---- the given bounds of some variables

pub given_low_bounds-bounds : (bounds : List RowSides) (vs : List ℕ) → AllByRecursion AreBounds bounds → list_all is_bound (given_low_bounds bounds vs) ≡ true
unfolding given_low_bounds
given_low_bounds-bounds bounds [] all = refl
given_low_bounds-bounds bounds (v ∷ vs) all = and_from (is_bound (sides_of bounds v).low) (list_all is_bound (map (λ v. (sides_of bounds v).low) vs)) (sides_of-bounds bounds v all).low (given_low_bounds-bounds bounds vs all)

pub given_high_bounds-bounds : (bounds : List RowSides) (vs : List ℕ) → AllByRecursion AreBounds bounds → list_all is_bound (given_high_bounds bounds vs) ≡ true
unfolding given_high_bounds
given_high_bounds-bounds bounds [] all = refl
given_high_bounds-bounds bounds (v ∷ vs) all = and_from (is_bound (sides_of bounds v).high) (list_all is_bound (map (λ v. (sides_of bounds v).high) vs)) (sides_of-bounds bounds v all).high (given_high_bounds-bounds bounds vs all)

-- the sides of a box that is not crossed
box_sides : (low high : Option ℤ) → is_bound low ≡ true → is_bound high ≡ true → is_crossed low high ≡ false → sides_fit low high ≡ true
box_sides None high l h e = h
box_sides (Some x) None l h e = l
box_sides (Some x) (Some y) l h e = both_fit x y l h (le_from_uncrossed x y e)

-- the given bounds of incoming states do not pass each other
pub bounds-fit : (roles : List Role) (bounds : List RowSides) (vs : List ℕ) → AllByRecursion AreBounds bounds → ((v : ℕ) → slice_get roles v ≡ Some Incoming → is_crossed (sides_of bounds v).low (sides_of bounds v).high ≡ false)
    → AllByRecursion (λ v. slice_get roles v ≡ Some Incoming) vs → list_all (λ (b : Option ℤ × Option ℤ). sides_fit b.0 b.1) (zip (given_low_bounds bounds vs) (given_high_bounds bounds vs)) ≡ true
unfolding given_low_bounds given_high_bounds
bounds-fit roles bounds [] all ordered has = refl
bounds-fit roles bounds (v ∷ vs) all ordered has =
    let sides = sides_of-bounds bounds v all in
    and_from (sides_fit (sides_of bounds v).low (sides_of bounds v).high) (list_all (λ (b : Option ℤ × Option ℤ). sides_fit b.0 b.1) (zip (given_low_bounds bounds vs) (given_high_bounds bounds vs)))
    (box_sides (sides_of bounds v).low (sides_of bounds v).high sides.low sides.high (ordered v has.0)) (bounds-fit roles bounds vs all ordered has.1)
