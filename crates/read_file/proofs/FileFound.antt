-- Members by name and by number.
use Rattle.std.proofs.Common.{◌≡◌, ℕ, zero, suc, List, [], ◌∷◌, ◌++◌, map, Option, Some, None, IsSomeAnd, option_map, slice_get, Ordering, Less, Equal, Greater, nat_cmp, position, bytes_eq, refl, sym, ap, subst, ◌∙◌}
use Rattle.std.specs.Cmp.Lexicographic.{slice_cmp}
use Rattle.std.specs.List.{AllByRecursion, AllZip}
use Rattle.std.specs.Ordering.{match_ordering, ordering_reverse}
use Rattle.std.proofs.lemmas.Cmp.{nat_list_cmp_total}
use Rattle.std.proofs.lemmas.Option.{same_Some, slice_get-map, slice_get-get_or}
use Rattle.serde_json.specs.Data.{Data, null, boolean, number, string, array, object, Members, no_members, member}
use Rattle.serde_json.specs.Find.{get, get_member, as_object}
use Rattle.read_json.specs.Fields.{keys_of}
use Rattle.read_json.proofs.Distinct.{name_of, found-name}
use Rattle.read_json.proofs.Rising.{RisingMembers}
use Rattle.read_profile.specs.File.{◌>>=◌, under, or_absent, each_member}

-- ---- options

pub value-of : {A : Type 0} (o : Option A) (P : A → Type 0) → IsSomeAnd o P → (x : A) × (o ≡ Some x) × P x
value-of None P h = absurd h
value-of (Some x) P h = (x, refl, h)

pub some-value : {A : Type 0} (o : Option A) (P : A → Type 0) (x : A) → o ≡ Some x → P x → IsSomeAnd o P
some-value o P x e p = subst (λ o. IsSomeAnd o P) (sym e) p

-- ---- lists

-- one function for another
pub alike : {A B : Type 0} (f g : A → B) → ((x : A) → f x ≡ g x) → (xs : List A) → map f xs ≡ map g xs
alike f g same [] = refl
alike f g same (x ∷ xs) = rw (same x, alike f g same xs) refl

pub all_zip-push : {A B : Type 0} (P : A → B → Type 0) (xs : List A) (ys : List B) (x : A) (y : B) → AllZip P xs ys → P x y → AllZip P (xs ++ x ∷ []) (ys ++ y ∷ [])
all_zip-push P [] [] x y all p = (p, tt)
all_zip-push P [] (z ∷ ys) x y all p = absurd all
all_zip-push P (z ∷ xs) [] x y all p = absurd all
all_zip-push P (z ∷ xs) (w ∷ ys) x y all p = (all.0, all_zip-push P xs ys x y all.1 p)

pub all_zip-weaker : {A B : Type 0} (P Q : A → B → Type 0) (xs : List A) (ys : List B) → ((x : A) (y : B) → P x y → Q x y) → AllZip P xs ys → AllZip Q xs ys
all_zip-weaker P Q [] [] f all = tt
all_zip-weaker P Q [] (y ∷ ys) f all = absurd all
all_zip-weaker P Q (x ∷ xs) [] f all = absurd all
all_zip-weaker P Q (x ∷ xs) (y ∷ ys) f all = (f x y all.0, all_zip-weaker P Q xs ys f all.1)

-- the entry beside an entry
pub beside : {A B : Type 0} (P : A → B → Type 0) (xs : List A) (ys : List B) (i : ℕ) (x : A) → AllZip P xs ys → slice_get xs i ≡ Some x → (y : B) × (slice_get ys i ≡ Some y) × P x y
beside P [] [] i x all e = cc
beside P [] (y ∷ ys) i x all e = absurd all
beside P (z ∷ xs) [] i x all e = absurd all
beside P (z ∷ xs) (y ∷ ys) zero x all e = (y, refl, subst (λ z. P z y) (same_Some z x e) all.0)
beside P (z ∷ xs) (y ∷ ys) (suc i) x all e = beside P xs ys i x all.1 e

-- the name that has a known number
pub known-name : (names : List (List ℕ)) (k : List ℕ) (i : ℕ) → position (bytes_eq k) names ≡ Some i → slice_get names i ≡ Some k
unfolding name_of
known-name names k i e = let found = found-name names k i e in slice_get-get_or names i [] found.0 ∙ ap Some found.1

-- ---- objects

pub get-object : (k : List ℕ) (d : Data) (ms : Members) → as_object d ≡ Some ms → get k d ≡ get_member k ms
get-object k null ms e = cc
get-object k (boolean b) ms e = cc
get-object k (number n) ms e = cc
get-object k (string s) ms e = cc
get-object k (array ds) ms e = cc
get-object k (object ns) ms e = ap (get_member k) (same_Some ns ms e)

-- the members of an object that may be absent
pub under-object : {A : Type 0} (o : Option Data) (ms : Members) → or_absent no_members as_object o ≡ Some ms → (k : List ℕ) (f : Data → Option A) → (o >>= under k f) ≡ (get_member k ms >>= f)
under-object None ms e k f = subst (λ ms. None ≡ (get_member k ms >>= f)) (same_Some no_members ms e) refl
under-object (Some d) ms e k f = ap (λ o. o >>= f) (get-object k d ms e)

-- the keys are the names of the members
pub each-keys : (ms : Members) → each_member (λ k d. Some k) ms ≡ Some (keys_of ms)
each-keys no_members = refl
each-keys (member k d ms) = rw (each-keys ms) refl

-- ---- a member by its key

same_name : (k : List ℕ) → slice_cmp nat_cmp k k ≡ Equal
same_name k = by (slice_cmp nat_cmp k k) (nat_list_cmp_total.antisymm k k)
  where
    by : (o : Ordering) → o ≡ ordering_reverse o → o ≡ Equal
    by Less e = cc
    by Equal e = refl
    by Greater e = cc

first-found : (k : List ℕ) (d : Data) (ms : Members) → get_member k (member k d ms) ≡ Some d
first-found k d ms = ap (λ o. match_ordering o (get_member k ms) (Some d) (get_member k ms)) (same_name k)

-- a key above the first one stands among the later members
later-found : (first k : List ℕ) (d : Data) (ms : Members) → slice_cmp nat_cmp first k ≡ Less → get_member k (member first d ms) ≡ get_member k ms
later-found first k d ms less = ap (λ o. match_ordering o (get_member k ms) (Some d) (get_member k ms)) (nat_list_cmp_total.antisymm k first ∙ ap ordering_reverse less)

module _ {B : Type 0} (says : List ℕ → Data → Option B) where
  -- the members under keys above the first one
  later-read : (first : List ℕ) (d : Data) (ms : Members) (ks : List (List ℕ)) → AllByRecursion (λ k. slice_cmp nat_cmp first k ≡ Less) ks
      → map (λ k. get_member k (member first d ms) >>= says k) ks ≡ map (λ k. get_member k ms >>= says k) ks
  later-read first d ms [] above = refl
  later-read first d ms (k ∷ ks) above = rw (later-found first k d ms above.0, later-read first d ms ks above.1) refl

  more-read : (k : List ℕ) (d : Data) (ms : Members) (o : Option B) (os : Option (List B)) (xs : List B) → says k d ≡ o → each_member says ms ≡ os → each_member says (member k d ms) ≡ Some xs
      → (x : B) × (ys : List B) × (xs ≡ x ∷ ys) × (says k d ≡ Some x) × (each_member says ms ≡ Some ys)
  more-read k d ms None os xs one tail e = absurd cc
  more-read k d ms (Some x) None xs one tail e = absurd cc
  more-read k d ms (Some x) (Some ys) xs one tail e = (x, ys, same_Some xs (x ∷ ys) (sym e ∙ rw (one, tail) refl), one, tail)

  -- each member is found under its key, and what it says is read of it
  pub each-found : (ms : Members) (xs : List B) → RisingMembers ms → each_member says ms ≡ Some xs → map (λ k. get_member k ms >>= says k) (keys_of ms) ≡ map Some xs
  each-found no_members xs rising e = rw (← same_Some [] xs e) refl
  each-found (member k d ms) xs rising e = by (more-read k d ms (says k d) (each_member says ms) xs refl refl e) (λ ys. each-found ms ys rising.2)
    where
      by : (x : B) × (ys : List B) × (xs ≡ x ∷ ys) × (says k d ≡ Some x) × (each_member says ms ≡ Some ys)
          → ((ys : List B) → each_member says ms ≡ Some ys → map (λ l. get_member l ms >>= says l) (keys_of ms) ≡ map Some ys)
          → map (λ l. get_member l (member k d ms) >>= says l) (k ∷ keys_of ms) ≡ map Some xs
      by p tail = rw (p.2, first-found k d ms, p.3, later-read k d ms (keys_of ms) rising.0, tail p.1 p.4) refl

  -- the statement of the member with a number, by its name
  pub found-at : (ms : Members) (xs : List B) (k : List ℕ) (i : ℕ) → RisingMembers ms → each_member says ms ≡ Some xs → slice_get (keys_of ms) i ≡ Some k
      → (x : B) × (slice_get xs i ≡ Some x) × ((get_member k ms >>= says k) ≡ Some x)
  found-at ms xs k i rising e is = by (slice_get xs i) refl (sym (slice_get-map Some xs i) ∙ ap (λ ys. slice_get ys i) (sym (each-found ms xs rising e)) ∙ slice_get-map (λ k. get_member k ms >>= says k) (keys_of ms) i ∙ ap (option_map (λ k. get_member k ms >>= says k)) is)
    where
      no : {G : Type 0} → ◌≡◌ {A = Option (Option B)} None (Some (get_member k ms >>= says k)) → G
      no h = cc

      by : (o : Option B) → slice_get xs i ≡ o → option_map Some (slice_get xs i) ≡ Some (get_member k ms >>= says k) → (x : B) × (slice_get xs i ≡ Some x) × ((get_member k ms >>= says k) ≡ Some x)
      by None there h = no (sym (ap (option_map Some) there) ∙ h)
      by (Some x) there h = (x, there, sym (same_Some (Some x) (get_member k ms >>= says k) (sym (ap (option_map Some) there) ∙ h)))
