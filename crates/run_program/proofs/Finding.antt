-- The first check that finds a refusal, and those before it.
use Rattle.std.proofs.Common.{◌≡◌, ◌↔◌, ℕ, Bool, true, false, if◌then◌else◌, List, [], ◌∷◌, ◌++◌, Option, Some, None, Result, Ok, Err, IsOk, refl, sym, ap, ◌∙◌}
use Rattle.std.specs.Option.{option_or}
use Rattle.std.specs.Prelude.{MatchBool}
use Rattle.problem.specs.declared.refusal.Refusal.{Refusal}
use Rattle.run_program.specs.FirstRefusal.{Check, FindNothing, IsFirst, first, refusal_of}
use Rattle.run_program.specs.CheckList.{checks, checks_of, list_checks}
use Rattle.run_program.specs.Outcome.{IsRefused, based_at, problem_with_alternatives_at}
use Rattle.run_words.specs.declared.command.Command.{Command}
use Rattle.run_words.specs.Traits.{traits}
use Rattle.run_program.proofs.FirstRefusal.{Told}
use Rattle.run_program.proofs.CheckedAll.{based-told, listed-told}

-- with one more in front that finds nothing
behind : {R : Type 0} (c : Check R) (cs : List (Check R)) (bytes : List ℕ) (r : R) → c.finds bytes ≡ None → IsFirst cs bytes r → IsFirst (c ∷ cs) bytes r
behind c cs bytes r e f = record {
  before = c ∷ f.before;
  check = f.check;
  after = f.after;
  listed = ap (λ ds. c ∷ ds) f.listed;
  nothing = (e, f.nothing);
  found = f.found;
}

found-first : {R : Type 0} (cs : List (Check R)) (bytes : List ℕ) (r : R) → first cs bytes ≡ Some r → IsFirst cs bytes r
found-first [] bytes r e = absurd cc
found-first {R = R} (c ∷ cs) bytes r e = by (c.finds bytes) refl (found-first cs bytes r) e
  where
    by : (o : Option R) → c.finds bytes ≡ o → (first cs bytes ≡ Some r → IsFirst cs bytes r) → option_or o (first cs bytes) ≡ Some r → IsFirst (c ∷ cs) bytes r
    by None is more e = behind c cs bytes r is (more e)
    by (Some q) is more e = record { before = []; check = c; after = cs; listed = refl; nothing = tt; found = is ∙ e }

after-nothing : {R : Type 0} (before : List (Check R)) (check : Check R) (after : List (Check R)) (bytes : List ℕ) (r : R) → FindNothing bytes before → check.finds bytes ≡ Some r
    → first (before ++ check ∷ after) bytes ≡ Some r
after-nothing [] check after bytes r nothing found = rw found refl
after-nothing (c ∷ before) check after bytes r nothing found = rw nothing.0 (after-nothing before check after bytes r nothing.1 found)

first-found : {R : Type 0} (cs : List (Check R)) (bytes : List ℕ) (r : R) → IsFirst cs bytes r → first cs bytes ≡ Some r
first-found cs bytes r f = ap (λ ds. first ds bytes) f.listed ∙ after-nothing f.before f.check f.after bytes r f.nothing f.found

refused : {A R : Type 0} (x : Result A R) (r : R) → refusal_of x ≡ Some r → x ≡ Err r
refused (Ok v) r e = absurd cc
refused (Err q) r e = cc

-- what is refused is what the first check finds, and the other way round
told-first : {A R : Type 0} (bytes : List ℕ) (cs : List (Check R)) (x : Result A R) → Told bytes cs x → (r : R) → (x ≡ Err r) ↔ (first cs bytes ≡ Some r)
told-first bytes cs x told r = ((λ e. sym told.is ∙ ap refusal_of e), (λ e. refused x r (told.is ∙ e)))

pub refused-first : (command : Command) (bytes : List ℕ) (r : Refusal) → IsRefused command bytes r ↔ (first (checks_of command bytes) bytes ≡ Some r)
refused-first command bytes r = by (traits command).lists_weights
  where
    by : (b : Bool) → MatchBool b (problem_with_alternatives_at bytes ≡ Err r) (based_at bytes ≡ Err r) ↔ (first (if b then checks bytes ++ list_checks bytes else checks bytes) bytes ≡ Some r)
    by true = told-first bytes (checks bytes ++ list_checks bytes) (problem_with_alternatives_at bytes) (listed-told bytes) r
    by false = told-first bytes (checks bytes) (based_at bytes) (based-told bytes) r

pub told-none-before : {A R : Type 0} (bytes : List ℕ) (cs : List (Check R)) (x : Result A R) → Told bytes cs x → (r : R) → (x ≡ Err r) ↔ IsFirst cs bytes r
told-none-before bytes cs x told r =
    let it = told-first bytes cs x told r in
    ((λ e. found-first cs bytes r (it.0 e)), (λ f. it.1 (first-found cs bytes r f)))

pub none-before : (command : Command) (bytes : List ℕ) (r : Refusal) → IsRefused command bytes r ↔ IsFirst (checks_of command bytes) bytes r
none-before command bytes r =
    let it = refused-first command bytes r in
    ((λ e. found-first (checks_of command bytes) bytes r (it.0 e)), (λ f. it.1 (first-found (checks_of command bytes) bytes r f)))

-- ---- nothing is found

one-more : {R : Type 0} (c : Check R) (cs : List (Check R)) (bytes : List ℕ) (o : Option R) → c.finds bytes ≡ o → option_or o (first cs bytes) ≡ None → (c.finds bytes ≡ None) × (first cs bytes ≡ None)
one-more c cs bytes None is e = (is, e)
one-more c cs bytes (Some q) is e = absurd cc

nothing-found : {R : Type 0} (cs : List (Check R)) (bytes : List ℕ) → first cs bytes ≡ None → FindNothing bytes cs
nothing-found [] bytes e = tt
nothing-found (c ∷ cs) bytes e = let it = one-more c cs bytes (c.finds bytes) refl e in (it.0, nothing-found cs bytes it.1)

found-nothing : {R : Type 0} (cs : List (Check R)) (bytes : List ℕ) → FindNothing bytes cs → first cs bytes ≡ None
found-nothing [] bytes all = refl
found-nothing (c ∷ cs) bytes all = rw all.0 (found-nothing cs bytes all.1)

not-refused : {A R : Type 0} (x : Result A R) → refusal_of x ≡ None → IsOk x
not-refused (Ok v) e = refl
not-refused (Err r) e = absurd cc

refuses-nothing : {A R : Type 0} (x : Result A R) → IsOk x → refusal_of x ≡ None
refuses-nothing (Ok v) is = refl
refuses-nothing (Err r) is = absurd cc

pub accepted : (bytes : List ℕ) → IsOk (based_at bytes) ↔ FindNothing bytes (checks bytes)
accepted bytes =
    let told = based-told bytes in
    ((λ is. nothing-found (checks bytes) bytes (sym told.is ∙ refuses-nothing (based_at bytes) is)), (λ all. not-refused (based_at bytes) (told.is ∙ found-nothing (checks bytes) bytes all)))
