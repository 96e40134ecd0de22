-- Steps of the reader that refuse what the first of some checks finds.
use Rattle.std.proofs.Common.{◌≡◌, ◌+◌, ℕ, suc, List, [], ◌∷◌, ◌++◌, length, slice_get, Bool, true, false, if◌then◌else◌, Option, Some, None, Result, Ok, Err, refl, sym, ap, subst, ◌∙◌, arith}
use Rattle.std.specs.Option.{option_or}
use Rattle.serde_json.specs.Data.{Data, Items, no_items, item, Members, no_members, member}
use Rattle.serde_json.specs.Events.{items_len, members_len}
use Rattle.problem.specs.declared.refusal.Place.{Place}
use Rattle.problem.specs.declared.refusal.Refusal.{Refusal}
use Rattle.problem.specs.declared.refusal.RefusalKind.{RefusalKind}
use Rattle.read_json.specs.Fields.{refuse}
use Rattle.read_json.specs.Steps.{◌>>=◌, walk_items, walk_members, walk_list}
use Rattle.run_program.specs.FirstRefusal.{Check, first, of_each, nth_item, nth_member, refusal_of, failing}
use Rattle.run_program.specs.PresentParts.{items_in, members_in}

-- the steps refuse what the checks find first
pub record Told {R A : Type 0} (bytes : List ℕ) (cs : List (Check R)) (x : Result A R) : Type 0 where
  pub is : refusal_of x ≡ first cs bytes

or-or : {A : Type 0} (o p q : Option A) → option_or (option_or o p) q ≡ option_or o (option_or p q)
or-or None p q = refl
or-or (Some x) p q = refl

or-none : {A : Type 0} (o : Option A) → o ≡ option_or o None
or-none None = refl
or-none (Some x) = refl

pub first-append : {R : Type 0} (cs ds : List (Check R)) (bytes : List ℕ) → first (cs ++ ds) bytes ≡ option_or (first cs bytes) (first ds bytes)
first-append [] ds bytes = refl
first-append (c ∷ cs) ds bytes = ap (option_or (c.finds bytes)) (first-append cs ds bytes) ∙ sym (or-or (c.finds bytes) (first cs bytes) (first ds bytes))

-- what is refused does not depend on what is made of the value
pub refusal-same : {R A B C : Type 0} (x : Result A R) (f : A → Result B R) (g : A → Result C R) → ((v : A) → refusal_of (f v) ≡ refusal_of (g v)) → refusal_of (x >>= f) ≡ refusal_of (x >>= g)
refusal-same (Ok v) f g same = same v
refusal-same (Err r) f g same = refl

module _ {R : Type 0} (bytes : List ℕ) where
  pub one-then : {A B : Type 0} (c : Check R) (cs : List (Check R)) (x : Result A R) (f : A → Result B R) → c.finds bytes ≡ refusal_of x
      → ((v : A) → x ≡ Ok v → Told bytes cs (f v)) → Told bytes (c ∷ cs) (x >>= f)
  one-then c cs (Ok v) f is tail = record { is = rw is (tail v refl).is }
  one-then c cs (Err r) f is tail = record { is = rw is refl }

  pub all-then : {A B : Type 0} (cs ds : List (Check R)) (x : Result A R) (f : A → Result B R) → Told bytes cs x
      → ((v : A) → x ≡ Ok v → Told bytes ds (f v)) → Told bytes (cs ++ ds) (x >>= f)
  all-then cs ds (Ok v) f told tail = record { is = rw (first-append cs ds bytes, sym told.is) (tail v refl).is }
  all-then cs ds (Err r) f told tail = record { is = rw (first-append cs ds bytes, sym told.is) refl }

  -- a check of a step that comes last
  pub one-last : {A : Type 0} (c : Check R) (x : Result A R) → c.finds bytes ≡ refusal_of x → Told bytes (c ∷ []) x
  one-last c x is = record { is = sym is ∙ or-none (c.finds bytes) }

  -- what is made of the value in the end refuses nothing
  pub made : {A B : Type 0} (cs : List (Check R)) (x : Result A R) (f : A → B) → Told bytes cs x → Told bytes cs (x >>= λ v. Ok (f v))
  made cs (Ok v) f told = record { is = told.is }
  made cs (Err r) f told = record { is = told.is }

  -- steps of steps, one after another
  pub in-turn : {A B C : Type 0} (cs : List (Check R)) (x : Result A R) (g : A → Result B R) (f : B → Result C R) → Told bytes cs (x >>= λ v. g v >>= f) → Told bytes cs ((x >>= g) >>= f)
  in-turn cs (Ok v) g f told = told
  in-turn cs (Err r) g f told = told

  -- one step or others
  pub either : {A : Type 0} (c : Check R) (cs : List (Check R)) (test : Bool) (x y : Result A R) → c.finds bytes ≡ (if test then refusal_of x else None)
      → (test ≡ true → cs ≡ []) → (test ≡ false → Told bytes cs y) → Told bytes (c ∷ cs) (if test then x else y)
  either c cs true x y is none told = record { is = rw (is, none refl) (or-none (refusal_of x)) }
  either c cs false x y is none told = record { is = rw is (told refl).is }

module _ (bytes : List ℕ) where
  -- a test before a step
  pub tested : {A : Type 0} (c : Check Refusal) (cs : List (Check Refusal)) (test : Bool) (kind : RefusalKind) (at : Place) (x : Result A Refusal) → c.finds bytes ≡ failing test kind at
      → (test ≡ true → Told bytes cs x) → Told bytes (c ∷ cs) (if test then x else refuse kind at)
  tested c cs true kind at x is told = record { is = rw is (told refl).is }
  tested c cs false kind at x is told = record { is = rw is refl }

  pub tested-then : {A B : Type 0} (c : Check Refusal) (cs : List (Check Refusal)) (test : Bool) (kind : RefusalKind) (at : Place) (x : Result A Refusal) (f : A → Result B Refusal) → c.finds bytes ≡ failing test kind at
      → (test ≡ true → Told bytes cs (x >>= f)) → Told bytes (c ∷ cs) ((if test then x else refuse kind at) >>= f)
  tested-then c cs true kind at x f is told = record { is = rw is (told refl).is }
  tested-then c cs false kind at x f is told = record { is = rw is refl }

  -- ---- walks, of which each step refuses what the checks of its number find, whatever was found before

  module _ {A : Type 0} (checks : ℕ → List (Check Refusal)) where
    members-told : (step : A → ℕ → List ℕ → Data → Result A Refusal) (all : Members)
        → ((found : A) (i : ℕ) (k : List ℕ) (d : Data) → nth_member i all ≡ Some (k, d) → Told bytes (checks i) (step found i k d))
        → (ms : Members) (i : ℕ) → ((j : ℕ) → nth_member (i + j) all ≡ nth_member j ms) → (found : A) → Told bytes (of_each checks i (members_len ms)) (walk_members step found i ms)
    unfolding walk_members
    members-told step all told no_members i same found = record { is = refl }
    members-told step all told (member k d ms) i same found =
        all-then bytes (checks i) (of_each checks (suc i) (members_len ms)) (step found i k d) (λ next. walk_members step next (suc i) ms)
        (told found i k d (ap (λ n. nth_member n all) (omega arith) ∙ same 0))
        (λ next e. members-told step all told ms (suc i) (λ j. ap (λ n. nth_member n all) (omega arith) ∙ same (suc j)) next)

    pub all-members : (step : A → ℕ → List ℕ → Data → Result A Refusal) (o : Option Members) (ms : Members) (found : A) → o ≡ Some ms
        → ((found : A) (i : ℕ) (k : List ℕ) (d : Data) → nth_member i ms ≡ Some (k, d) → Told bytes (checks i) (step found i k d))
        → Told bytes (of_each checks 0 (members_in o)) (walk_members step found 0 ms)
    all-members step o ms found is told =
        subst (λ o. Told bytes (of_each checks 0 (members_in o)) (walk_members step found 0 ms)) (sym is) (members-told step ms told ms 0 (λ j. ap (λ n. nth_member n ms) (omega arith)) found)

    items-told : (step : A → ℕ → Data → Result A Refusal) (all : Items)
        → ((found : A) (i : ℕ) (d : Data) → nth_item i all ≡ Some d → Told bytes (checks i) (step found i d))
        → (ds : Items) (i : ℕ) → ((j : ℕ) → nth_item (i + j) all ≡ nth_item j ds) → (found : A) → Told bytes (of_each checks i (items_len ds)) (walk_items step found i ds)
    unfolding walk_items
    items-told step all told no_items i same found = record { is = refl }
    items-told step all told (item d ds) i same found =
        all-then bytes (checks i) (of_each checks (suc i) (items_len ds)) (step found i d) (λ next. walk_items step next (suc i) ds)
        (told found i d (ap (λ n. nth_item n all) (omega arith) ∙ same 0))
        (λ next e. items-told step all told ds (suc i) (λ j. ap (λ n. nth_item n all) (omega arith) ∙ same (suc j)) next)

    pub all-items : (step : A → ℕ → Data → Result A Refusal) (o : Option Items) (ds : Items) (found : A) → o ≡ Some ds
        → ((found : A) (i : ℕ) (d : Data) → nth_item i ds ≡ Some d → Told bytes (checks i) (step found i d))
        → Told bytes (of_each checks 0 (items_in o)) (walk_items step found 0 ds)
    all-items step o ds found is told =
        subst (λ o. Told bytes (of_each checks 0 (items_in o)) (walk_items step found 0 ds)) (sym is) (items-told step ds told ds 0 (λ j. ap (λ n. nth_item n ds) (omega arith)) found)

  module _ {A B : Type 0} (checks : ℕ → List (Check Refusal)) where
    list-told : (step : A → ℕ → B → Result A Refusal) (all : List B)
        → ((found : A) (i : ℕ) (x : B) → slice_get all i ≡ Some x → Told bytes (checks i) (step found i x))
        → (xs : List B) (i : ℕ) → ((j : ℕ) → slice_get all (i + j) ≡ slice_get xs j) → (found : A) → Told bytes (of_each checks i (length xs)) (walk_list step found i xs)
    unfolding walk_list
    list-told step all told [] i same found = record { is = refl }
    list-told step all told (x ∷ xs) i same found =
        all-then bytes (checks i) (of_each checks (suc i) (length xs)) (step found i x) (λ next. walk_list step next (suc i) xs)
        (told found i x (ap (slice_get all) (omega arith) ∙ same 0))
        (λ next e. list-told step all told xs (suc i) (λ j. ap (slice_get all) (omega arith) ∙ same (suc j)) next)

    pub all-listed : (step : A → ℕ → B → Result A Refusal) (xs : List B) (found : A) → ((found : A) (i : ℕ) (x : B) → slice_get xs i ≡ Some x → Told bytes (checks i) (step found i x))
        → Told bytes (of_each checks 0 (length xs)) (walk_list step found 0 xs)
    all-listed step xs found told = list-told step xs told xs 0 (λ j. ap (slice_get xs) (omega arith)) found
