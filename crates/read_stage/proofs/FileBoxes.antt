-- The decisions that the reader finds, in closed form, and the bounds of all variables by those of the decisions and of the incoming states.
use Rattle.std.proofs.Common.{◌≡◌, ◌↔◌, ◌<◌, ◌+◌, ◌==◌, ℕ, zero, suc, ℤ, List, [], ◌∷◌, ◌++◌, length, map, Bool, true, false, ◌||◌, get_or, slice_get, Some, None, Ok, if◌then◌else◌, refl, sym, ap, ap₂, subst, ◌∙◌, arith}
use Rattle.std.specs.List.{AllByRecursion, list_any}
use Rattle.std.proofs.lemmas.Bool.{eqb-true}
use Rattle.std.proofs.lemmas.List.{append-nil, append_assoc}
use Rattle.std.proofs.lemmas.Option.{same_Some, slice_get_within}
use Rattle.base_num.specs.Sums.{entry}
use Rattle.problem.specs.declared.parts.Decision.{Decision}
use Rattle.problem.specs.declared.refusal.Part.TheVariants as part_kinds
use Rattle.problem.specs.declared.refusal.Place.{Place}
use Rattle.read_json.specs.Fields.{place}
use Rattle.read_json.specs.Steps.{walk_list}
use Rattle.read_json.proofs.Accepted.{then-Ok, Ok-is}
use Rattle.read_json.proofs.Answered.{step-Ok}
use Rattle.read_json.proofs.Distinct.{name_of}
use Rattle.read_profile.specs.File.{Name, Numbers}
use Rattle.read_stage.specs.declared.role.Role.{Role}
use Rattle.read_stage.specs.declared.role.Role.TheVariants.{Free, Incoming, Outgoing, Random}
use Rattle.read_stage.specs.declared.variables.Variables.{Variables}
use Rattle.read_stage.specs.declared.sides.RowSides.{RowSides}
use Rattle.read_stage.specs.Decisions.{is_decision, decisions_from}
use Rattle.read_stage.specs.Rows.{picked_coefficients}
use Rattle.read_stage.specs.Sides.{ordered_at}
use Rattle.read_stage.specs.Boxes.{bound_at, decision_at, incoming_at, box_at, sides_of, variable_box_at, boxes_at, given_low_bounds, given_high_bounds}
use Rattle.read_stage.specs.Said.{Between}
use Rattle.read_stage.proofs.FileSets.{Within}
use Rattle.read_stage.proofs.BoxesFit.{bound_at-Ok}
use Rattle.read_stage.proofs.FileTerms.{entry_map}
use Rattle.read_stage.proofs.FileSplit.{Split}
use Rattle.read_stage.proofs.FileKept.{Bounded, Unbounded}

-- the decision d is the variable v
pub record IsBox (names : List Name) (bounds : List RowSides) (costs : List ℤ) (v : ℕ) (d : Decision) : Type 0 where
  pub known : v < length names
  pub named : d.name ≡ name_of names v
  pub low : (sides_of bounds v).low ≡ Some d.low
  pub high : (sides_of bounds v).high ≡ Some d.high
  pub cost : d.cost ≡ entry costs v

-- the decisions are these variables, one after another
abbrev pub AreBoxes : List Name → List RowSides → List ℤ → List ℕ → List Decision → Type 0
AreBoxes names bounds costs [] [] = Unit {0}
AreBoxes names bounds costs [] (d ∷ ds) = ⊥
AreBoxes names bounds costs (v ∷ vs) [] = ⊥
AreBoxes names bounds costs (v ∷ vs) (d ∷ ds) = IsBox names bounds costs v d × AreBoxes names bounds costs vs ds

-- one decision more
decision-box : (names : List Name) (bounds : List RowSides) (costs : List ℤ) (at : Place) (found next : List Decision) (name : List ℕ) (v : ℕ) → v < length names → name ≡ name_of names v
    → decision_at at found name (sides_of bounds v) (entry costs v) ≡ Ok next → (d : Decision) × (next ≡ found ++ d ∷ []) × IsBox names bounds costs v d
unfolding decision_at
decision-box names bounds costs at found next name v known named e =
    then-Ok (bound_at _ _) _ next e (λ low is_low e.
    then-Ok (bound_at _ _) _ next e (λ high is_high e.
    then-Ok (ordered_at _ _) _ next e (λ ordered is e. (
      record { name = name; low = low; high = high; cost = entry costs v },
      sym (Ok-is _ next e),
      record { known = known; named = named; low = bound_at-Ok at _ low is_low; high = bound_at-Ok at _ high is_high; cost = refl },
    ))))

-- the addition of one variable: a decision, or nothing
Adds : List Name → List RowSides → List ℤ → ℕ → Bool → List Decision → List Decision → Type 0
Adds names bounds costs v decides found next = (ds : List Decision) × (next ≡ found ++ ds) × AreBoxes names bounds costs (if decides then v ∷ [] else []) ds

one-adds : (names : List Name) (bounds : List RowSides) (costs : List ℤ) (at : Place) (found next : List Decision) (r : Role) (name : List ℕ) (v : ℕ) → v < length names → name ≡ name_of names v
    → box_at at found (Some r) name (sides_of bounds v) (entry costs v) ≡ Ok next → Adds names bounds costs v (is_decision r) found next
unfolding box_at incoming_at Adds
one-adds names bounds costs at found next Free name v known named e = let one = decision-box names bounds costs at found next name v known named e in (one.0 ∷ [], one.1, (one.2, tt))
one-adds names bounds costs at found next Incoming name v known named e = then-Ok (ordered_at _ _) _ next e (λ ordered is e. ([], sym (Ok-is found next e) ∙ sym (append-nil found), tt))
one-adds names bounds costs at found next Outgoing name v known named e = let one = decision-box names bounds costs at found next name v known named e in (one.0 ∷ [], one.1, (one.2, tt))
one-adds names bounds costs at found next Random name v known named e = ([], sym (Ok-is found next e) ∙ sym (append-nil found), tt)

-- lists of them, one after the other
joined : (names : List Name) (bounds : List RowSides) (costs : List ℤ) (vs ws : List ℕ) (ds es : List Decision) → AreBoxes names bounds costs vs ds → AreBoxes names bounds costs ws es → AreBoxes names bounds costs (vs ++ ws) (ds ++ es)
joined names bounds costs [] ws [] es a b = b
joined names bounds costs [] ws (d ∷ ds) es a b = absurd a
joined names bounds costs (v ∷ vs) ws [] es a b = absurd a
joined names bounds costs (v ∷ vs) ws (d ∷ ds) es a b = (a.0, joined names bounds costs vs ws ds es a.1 b)

variable-adds : (vars : Variables) (p : ℕ) (bounds : List RowSides) (costs : List ℤ) (found next : List Decision) (r : Role) (name : List ℕ) (v : ℕ) → v < length vars.names → name ≡ name_of vars.names v → slice_get vars.uses.roles v ≡ Some r
    → variable_box_at vars p bounds costs found v name ≡ Ok next → Adds vars.names bounds costs v (is_decision r) found next
unfolding variable_box_at
variable-adds vars p bounds costs found next r name v known named is e = one-adds vars.names bounds costs (place part_kinds.Variable p v 0) found next r name v known named (subst (λ o. box_at (place part_kinds.Variable p v 0) found o name (sides_of bounds v) (entry costs v) ≡ Ok next) is e)

front : (b : Bool) (i : ℕ) (rs : List Role) → (if b then i ∷ [] else []) ++ decisions_from (suc i) rs ≡ (if b then i ∷ decisions_from (i + 1) rs else decisions_from (i + 1) rs)
front true i rs = ap (λ n. i ∷ decisions_from n rs) (omega arith)
front false i rs = ap (λ n. decisions_from n rs) (omega arith)

-- the addition of two steps
after : (found next all ds es : List Decision) → all ≡ next ++ es → next ≡ found ++ ds → all ≡ found ++ (ds ++ es)
after found next all ds es is first = is ∙ ap (λ (xs : List Decision). xs ++ es) first ∙ append_assoc found ds es

-- the rest of the variables adds the decisions among them
walk-adds : (vars : Variables) (p : ℕ) (bounds : List RowSides) (costs : List ℤ) (tail : List Name) (roles : List Role) (i : ℕ) (found all : List Decision) → length roles ≡ length tail → i + length tail ≡ length vars.names
    → ((j : ℕ) → slice_get vars.uses.roles (i + j) ≡ slice_get roles j) → ((j : ℕ) → name_of vars.names (i + j) ≡ name_of tail j)
    → walk_list (variable_box_at vars p bounds costs) found i tail ≡ Ok all → (ds : List Decision) × (all ≡ found ++ ds) × AreBoxes vars.names bounds costs (decisions_from i roles) ds
unfolding walk_list name_of Adds
walk-adds vars p bounds costs [] [] i found all long count roles_are names_are e = ([], sym (Ok-is found all e) ∙ sym (append-nil found), tt)
walk-adds vars p bounds costs [] (r ∷ rs) i found all long count roles_are names_are e = absurd (omega arith)
walk-adds vars p bounds costs (n ∷ ns) [] i found all long count roles_are names_are e = absurd (omega arith)
walk-adds vars p bounds costs (n ∷ ns) (r ∷ rs) i found all long count roles_are names_are e =
    let first = step-Ok (variable_box_at vars p bounds costs found i n) (λ next. walk_list (variable_box_at vars p bounds costs) next (suc i) ns) all e in
    let zero_is : i + 0 ≡ i = omega arith in
    let here : slice_get vars.uses.roles i ≡ Some r = ap (slice_get vars.uses.roles) (sym zero_is) ∙ roles_are 0 in
    let named : n ≡ name_of vars.names i = sym (ap (name_of vars.names) (sym zero_is) ∙ names_are 0) in
    let one = variable-adds vars p bounds costs found first.0 r n i (omega (arith, count)) named here first.1 in
    let next : (j : ℕ) → i + suc j ≡ suc i + j = λ j. omega arith in
    let more = walk-adds vars p bounds costs ns rs (suc i) first.0 all (omega (arith, long)) (omega (arith, count))
    (λ j. ap (slice_get vars.uses.roles) (sym (next j)) ∙ roles_are (suc j)) (λ j. ap (name_of vars.names) (sym (next j)) ∙ names_are (suc j)) first.2 in (
      one.0 ++ more.0,
      after found first.0 all one.0 more.0 more.1 one.1,
      subst (λ vs. AreBoxes vars.names bounds costs vs (one.0 ++ more.0)) (front (is_decision r) i rs) (joined vars.names bounds costs _ _ one.0 more.0 one.2 more.2),
    )

-- the decisions are the variables that are decisions
pub boxes-are : (vars : Variables) (p : ℕ) (bounds : List RowSides) (costs : List ℤ) (decisions : List Decision) → length vars.uses.roles ≡ length vars.names → boxes_at vars p bounds costs ≡ Ok decisions
    → AreBoxes vars.names bounds costs (decisions_from 0 vars.uses.roles) decisions
unfolding boxes_at
boxes-are vars p bounds costs decisions long e =
    let from : (j : ℕ) → 0 + j ≡ j = λ j. omega arith in
    let all = walk-adds vars p bounds costs vars.names vars.uses.roles 0 [] decisions long (omega arith) (λ j. ap (slice_get vars.uses.roles) (from j)) (λ j. ap (name_of vars.names) (from j)) e in
    subst (AreBoxes vars.names bounds costs (decisions_from 0 vars.uses.roles)) (sym all.1) all.2

-- ---- what they are called and cost

pub boxes-named : (names : List Name) (bounds : List RowSides) (costs : List ℤ) (vs : List ℕ) (ds : List Decision) → AreBoxes names bounds costs vs ds → map (λ (d : Decision). d.name) ds ≡ map (name_of names) vs
boxes-named names bounds costs [] [] b = refl
boxes-named names bounds costs [] (d ∷ ds) b = absurd b
boxes-named names bounds costs (v ∷ vs) [] b = absurd b
boxes-named names bounds costs (v ∷ vs) (d ∷ ds) b = ap₂ (λ (n : Name) (ns : List Name). n ∷ ns) b.0.named (boxes-named names bounds costs vs ds b.1)

pub boxes-cost : (names : List Name) (bounds : List RowSides) (costs : List ℤ) (vs : List ℕ) (ds : List Decision) → AreBoxes names bounds costs vs ds → map (λ (d : Decision). d.cost) ds ≡ picked_coefficients vs costs
unfolding picked_coefficients
boxes-cost names bounds costs [] [] b = refl
boxes-cost names bounds costs [] (d ∷ ds) b = absurd b
boxes-cost names bounds costs (v ∷ vs) [] b = absurd b
boxes-cost names bounds costs (v ∷ vs) (d ∷ ds) b = ap₂ (λ (c : ℤ) (cs : List ℤ). c ∷ cs) b.0.cost (boxes-cost names bounds costs vs ds b.1)

-- the number of a decision, by its place
box-number : (names : List Name) (bounds : List RowSides) (costs : List ℤ) (y : Numbers) (v : ℕ) (d : Decision) → IsBox names bounds costs v d → y d.name ≡ entry (map y names) v
unfolding name_of
box-number names bounds costs y v d b = ap y b.named ∙ sym (entry_map y names v b.known)

pub boxes-own : (names : List Name) (bounds : List RowSides) (costs : List ℤ) (y : Numbers) (vs : List ℕ) (ds : List Decision) → AreBoxes names bounds costs vs ds → map y (map (λ (d : Decision). d.name) ds) ≡ map (entry (map y names)) vs
boxes-own names bounds costs y [] [] b = refl
boxes-own names bounds costs y [] (d ∷ ds) b = absurd b
boxes-own names bounds costs y (v ∷ vs) [] b = absurd b
boxes-own names bounds costs y (v ∷ vs) (d ∷ ds) b = ap₂ (λ (z : ℤ) (zs : List ℤ). z ∷ zs) (box-number names bounds costs y v d b.0) (boxes-own names bounds costs y vs ds b.1)

-- ---- their boxes

-- the variable keeps its bounds
abbrev pub Keeps : ℕ → List ℤ → List RowSides → ℕ → Type 0
Keeps units ys bounds v = Within units (sides_of bounds v) (entry ys v)

box-is : (names : List Name) (bounds : List RowSides) (costs : List ℤ) (units : ℕ) (y : Numbers) (v : ℕ) (d : Decision) → IsBox names bounds costs v d
    → Between units (Some d.low) (Some d.high) (y d.name) ≡ Keeps units (map y names) bounds v
box-is names bounds costs units y v d b = rw (b.low, b.high, box-number names bounds costs y v d b) refl

pub boxes-kept : (names : List Name) (bounds : List RowSides) (costs : List ℤ) (units : ℕ) (y : Numbers) (vs : List ℕ) (ds : List Decision) → AreBoxes names bounds costs vs ds
    → AllByRecursion (λ (d : Decision). Between units (Some d.low) (Some d.high) (y d.name)) ds ↔ AllByRecursion (Keeps units (map y names) bounds) vs
boxes-kept names bounds costs units y [] [] b = (λ h. tt, λ h. tt)
boxes-kept names bounds costs units y [] (d ∷ ds) b = absurd b
boxes-kept names bounds costs units y (v ∷ vs) [] b = absurd b
boxes-kept names bounds costs units y (v ∷ vs) (d ∷ ds) b =
    let is = box-is names bounds costs units y v d b.0 in
    let tail = boxes-kept names bounds costs units y vs ds b.1 in (λ h. (subst (λ (T : Type 0). T) is h.0, tail.0 h.1), λ h. (subst (λ (T : Type 0). T) (sym is) h.0, tail.1 h.1))

-- ---- the given bounds

pub given-kept : (units : ℕ) (ys : List ℤ) (bounds : List RowSides) (vs : List ℕ)
    → ((k : ℕ) → k < length vs → Between units (get_or (given_low_bounds bounds vs) k None) (get_or (given_high_bounds bounds vs) k None) (entry (map (entry ys) vs) k)) ↔ AllByRecursion (Keeps units ys bounds) vs
unfolding given_low_bounds given_high_bounds
given-kept units ys bounds [] = (λ h. tt, λ h k lt. absurd (omega arith))
given-kept units ys bounds (v ∷ vs) = let tail = given-kept units ys bounds vs in (λ h. (h 0 (omega arith), tail.0 (λ k lt. h (suc k) (omega arith))), λ h k. each h.0 (tail.1 h.1) k)
  where
    each : Keeps units ys bounds v → ((k : ℕ) → k < length vs → Between units (get_or (given_low_bounds bounds vs) k None) (get_or (given_high_bounds bounds vs) k None) (entry (map (entry ys) vs) k))
        → (k : ℕ) → k < length (v ∷ vs) → Between units (get_or (given_low_bounds bounds (v ∷ vs)) k None) (get_or (given_high_bounds bounds (v ∷ vs)) k None) (entry (map (entry ys) (v ∷ vs)) k)
    each here tail zero lt = here
    each here tail (suc k) lt = tail k (omega arith)

-- ---- all variables

-- a property of all variables holds of the decisions
decisions-each : (P : ℕ → Type 0) (roles : List Role) (i n : ℕ) → i + length roles ≡ n → ((v : ℕ) → v < n → P v) → AllByRecursion P (decisions_from i roles)
decisions-each P [] i n count all = tt
decisions-each P (r ∷ rs) i n count all = by (is_decision r) (decisions-each P rs (i + 1) n (omega arith) all)
  where
    by : (b : Bool) → AllByRecursion P (decisions_from (i + 1) rs) → AllByRecursion P (if b then i ∷ decisions_from (i + 1) rs else decisions_from (i + 1) rs)
    by true tail = (all i (omega arith), tail)
    by false tail = tail

-- a property of the decisions holds of each variable that is one
decided : (P : ℕ → Type 0) (roles : List Role) (i v n : ℕ) (r : Role) → i + v ≡ n → slice_get roles v ≡ Some r → is_decision r ≡ true → AllByRecursion P (decisions_from i roles) → P n
decided P [] i v n r count is decides all = cc
decided P (q ∷ rs) i zero n r count is decides all =
    let same : q ≡ r = same_Some q r is in
    let here : i ≡ n = omega arith in
    subst P here (by (is_decision q) (ap is_decision same ∙ decides) all)
  where
    by : (b : Bool) → b ≡ true → AllByRecursion P (if b then i ∷ decisions_from (i + 1) rs else decisions_from (i + 1) rs) → P i
    by true e h = h.0
    by false e h = cc
decided P (q ∷ rs) i (suc v) n r count is decides all = decided P rs (i + 1) v n r (omega arith) is decides (by (is_decision q) all)
  where
    by : (b : Bool) → AllByRecursion P (if b then i ∷ decisions_from (i + 1) rs else decisions_from (i + 1) rs) → AllByRecursion P (decisions_from (i + 1) rs)
    by true h = h.1
    by false h = h

-- a property of all holds of one among them
listed : (P : ℕ → Type 0) (vs : List ℕ) (v : ℕ) → list_any (λ w. w == v) vs ≡ true → AllByRecursion P vs → P v
listed P [] v any all = cc
listed P (w ∷ ws) v any all = by (w == v) refl any (λ more. listed P ws v more all.1)
  where
    by : (b : Bool) → (w == v) ≡ b → (b || list_any (λ w. w == v) ws) ≡ true → (list_any (λ w. w == v) ws ≡ true → P v) → P v
    by true is h tail = subst P (eqb-true w v is) all.0
    by false is h tail = tail h

-- a property of all variables holds of the incoming states
incoming-each : (P : ℕ → Type 0) (roles : List Role) (n : ℕ) (vs : List ℕ) → length roles ≡ n → AllByRecursion (λ v. slice_get roles v ≡ Some Incoming) vs → ((v : ℕ) → v < n → P v) → AllByRecursion P vs
incoming-each P roles n [] long is all = tt
incoming-each P roles n (v ∷ vs) long is all = (all v (omega (arith, slice_get_within roles v Incoming is.0, long)), incoming-each P roles n vs long is.1 all)

get-some : {A : Type 0} (xs : List A) (v : ℕ) → v < length xs → (x : A) × (slice_get xs v ≡ Some x)
get-some [] v lt = absurd (omega arith)
get-some (x ∷ xs) zero lt = (x, refl)
get-some (x ∷ xs) (suc v) lt = get-some xs v (omega arith)

-- all bounds are kept where those of the decisions and those of the incoming states are
pub bounded-parts : (vars : Variables) (units : ℕ) (ys : List ℤ) (bounds : List RowSides) → Split vars → length ys ≡ length vars.names → Unbounded vars bounds
    → Bounded units ys bounds ↔ (AllByRecursion (Keeps units ys bounds) (decisions_from 0 vars.uses.roles) × AllByRecursion (Keeps units ys bounds) vars.uses.incoming)
bounded-parts vars units ys bounds split long free = (
  λ h. (decisions-each (Keeps units ys bounds) vars.uses.roles 0 (length ys) (omega (arith, split.long, long)) h, incoming-each (Keeps units ys bounds) vars.uses.roles (length ys) vars.uses.incoming (split.long ∙ sym long) split.incoming_is h),
  λ h v lt. let role = get-some vars.uses.roles v (omega (arith, split.long, long)) in each h v role.0 role.1,
)
  where
    each : AllByRecursion (Keeps units ys bounds) (decisions_from 0 vars.uses.roles) × AllByRecursion (Keeps units ys bounds) vars.uses.incoming → (v : ℕ) (r : Role) → slice_get vars.uses.roles v ≡ Some r → Keeps units ys bounds v
    each h v Free is = decided (Keeps units ys bounds) vars.uses.roles 0 v v Free (omega arith) is refl h.0
    each h v Incoming is = listed (Keeps units ys bounds) vars.uses.incoming v (split.incoming_all v is) h.1
    each h v Outgoing is = decided (Keeps units ys bounds) vars.uses.roles 0 v v Outgoing (omega arith) is refl h.0
    each h v Random is = subst (λ s. Within units s (entry ys v)) (sym (free v is)) (tt, tt)
