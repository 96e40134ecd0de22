-- Each object of a JSON value that was read has its keys in rising order, so each of them once.
use Rattle.std.proofs.Common.{◌≡◌, ◌≤◌, ◌<◌, ◌+◌, ℕ, suc, ◌||◌, List, [], ◌∷◌, length, Bool, true, false, cond, not, Option, Some, None, option_map, option_and_then, IfSome, ok_or, if◌then◌else◌, Ok, Ordering, Less, Equal, Greater, nat_cmp, is_eq, bytes_eq, position, nat_lt, refl, sym, ap, subst, ◌∙◌, arith}
use Rattle.std.specs.Cmp.Lexicographic.{slice_cmp}
use Rattle.std.specs.List.{AllByRecursion, IsDistinct, list_any, position_or_len}
use Rattle.std.specs.List.Sorted.{IsStrictlySortedBy}
use Rattle.std.specs.Ordering.{match_ordering, ordering_reverse}
use Rattle.std.specs.Set.{is_member}
use Rattle.std.specs.Str.{is_utf8}
use Rattle.std.proofs.lemmas.Bool.{ltb-true}
use Rattle.std.proofs.lemmas.Cmp.{nat_list_cmp_total, nat_list_eq_equiv}
use Rattle.std.proofs.lemmas.Map.Made.{length-le_from_is_member}
use Rattle.std.proofs.lemmas.Map.Text.{is_eq-slice_cmp}
use Rattle.std.proofs.lemmas.Option.{cond_some}
use Rattle.std.proofs.lemmas.Slice.Eq.{bytes_eq-Decides}
use Rattle.json.specs.Json as json
use Rattle.json.specs.Lex.{tokens}
use Rattle.serde_json.specs.Data.{Data, null, boolean, number, string, array, object, Items, no_items, item, Members, no_members, member, put}
use Rattle.serde_json.specs.Find.{as_object, get, get_member}
use Rattle.serde_json.specs.Read.{of_json, of_items, of_members, number_of, max_depth, read}
use Rattle.problem.specs.declared.refusal.RefusalKind.TheVariants as kinds
use Rattle.problem.specs.declared.refusal.Place.{Place}
use Rattle.read_json.specs.Values.{spelled, object_or, members_or}
use Rattle.read_json.specs.Fields.{fault_at, keys_of, json_at, whole, present_at, object_at}
use Rattle.read_json.specs.Limits.{members_at}
use Rattle.read_json.proofs.Accepted.{Ok-is, AllMembers}
use Rattle.read_json.proofs.Distinct.{Sorted}
use Rattle.read_json.proofs.Instances.{members_is}
use Rattle.read_json.proofs.Texts.{json_is}

-- each key is above k
abbrev AllAbove : List ℕ → Members → Type 0
AllAbove k ms = AllByRecursion (λ l. slice_cmp nat_cmp k l ≡ Less) (keys_of ms)

abbrev mutual
  pub Rising : Data → Type 0
  Rising null = Unit {0}
  Rising (boolean b) = Unit {0}
  Rising (number n) = Unit {0}
  Rising (string s) = Unit {0}
  Rising (array ds) = RisingItems ds
  Rising (object ms) = RisingMembers ms

  pub RisingItems : Items → Type 0
  RisingItems no_items = Unit {0}
  RisingItems (item d ds) = Rising d × RisingItems ds

  pub RisingMembers : Members → Type 0
  RisingMembers no_members = Unit {0}
  RisingMembers (member k d ms) = AllAbove k ms × Rising d × RisingMembers ms

-- ---- what `put` leaves

above_all : (k l : List ℕ) (ms : Members) → slice_cmp nat_cmp k l ≡ Less → AllAbove l ms → AllAbove k ms
above_all k l no_members less all = tt
above_all k l (member x d ms) less all = (nat_list_cmp_total.trans k l x less all.0, above_all k l ms less all.1)

above-put_at : (o : Ordering) (first k l : List ℕ) (d e : Data) (ms : Members) → slice_cmp nat_cmp first k ≡ Less → AllAbove first (member l e ms) → AllAbove first (put k d ms)
    → AllAbove first (match_ordering o (member k d (member l e ms)) (member l d ms) (member l e (put k d ms)))
above-put_at Less first k l d e ms less all later = (less, all)
above-put_at Equal first k l d e ms less all later = all
above-put_at Greater first k l d e ms less all later = (all.0, later)

above-put : (first k : List ℕ) (d : Data) (ms : Members) → slice_cmp nat_cmp first k ≡ Less → AllAbove first ms → AllAbove first (put k d ms)
above-put first k d no_members less all = (less, tt)
above-put first k d (member l e ms) less all = above-put_at (slice_cmp nat_cmp k l) first k l d e ms less all (above-put first k d ms less all.1)

rising-put_at : (o : Ordering) (k l : List ℕ) (d e : Data) (ms : Members) → slice_cmp nat_cmp k l ≡ o → Rising d → RisingMembers (member l e ms) → RisingMembers (put k d ms)
    → RisingMembers (match_ordering o (member k d (member l e ms)) (member l d ms) (member l e (put k d ms)))
rising-put_at Less k l d e ms is r m later = ((is, above_all k l ms is m.0), r, m)
rising-put_at Equal k l d e ms is r m later = (m.0, r, m.2)
rising-put_at Greater k l d e ms is r m later = (above-put l k d ms (nat_list_cmp_total.antisymm l k ∙ ap ordering_reverse is) m.0, m.1, later)

rising-put : (k : List ℕ) (d : Data) (ms : Members) → Rising d → RisingMembers ms → RisingMembers (put k d ms)
rising-put k d no_members r m = (tt, r, tt)
rising-put k d (member l e ms) r m = rising-put_at (slice_cmp nat_cmp k l) k l d e ms refl r m (rising-put k d ms r m.2)

-- ---- what is read

IfSome-map : {A B : Type 0} (P : B → Type 0) (f : A → B) (o : Option A) → IfSome o (λ x. P (f x)) → IfSome (option_map f o) P
IfSome-map P f None h = tt
IfSome-map P f (Some x) h = h

IfSome-then : {A B : Type 0} (P : A → Type 0) (Q : B → Type 0) (f : A → Option B) (o : Option A) → IfSome o P → ((x : A) → P x → IfSome (f x) Q) → IfSome (option_and_then f o) Q
IfSome-then P Q f None h g = tt
IfSome-then P Q f (Some x) h g = g x h

IfSome-any : {A : Type 0} (o : Option A) → IfSome o (λ x. Unit {0})
IfSome-any None = tt
IfSome-any (Some x) = tt

mutual
  of_json-rising : (j : json.Json) → IfSome (of_json j) Rising
  of_json-rising json.null = tt
  of_json-rising (json.boolean b) = tt
  of_json-rising (json.number s) = IfSome-map Rising number (number_of s) (IfSome-any (number_of s))
  of_json-rising (json.string s) = tt
  of_json-rising (json.array js) = IfSome-map Rising array (of_items js) (of_items-rising js)
  of_json-rising (json.object ms) = IfSome-map Rising object (of_members ms no_members) (of_members-rising ms no_members tt)

  of_items-rising : (js : json.Items) → IfSome (of_items js) RisingItems
  of_items-rising json.no_items = tt
  of_items-rising (json.item j js) =
      IfSome-then Rising RisingItems (λ d. option_map (item d) (of_items js)) (of_json j) (of_json-rising j)
      (λ d r. IfSome-map RisingItems (item d) (of_items js) (both d r (of_items js) (of_items-rising js)))
    where
      both : (d : Data) → Rising d → (o : Option Items) → IfSome o RisingItems → IfSome o (λ ds. RisingItems (item d ds))
      both d r None h = tt
      both d r (Some ds) h = (r, h)

  of_members-rising : (ms : json.Members) (found : Members) → RisingMembers found → IfSome (of_members ms found) RisingMembers
  of_members-rising json.no_members found m = m
  of_members-rising (json.member k j ms) found m =
      IfSome-then Rising RisingMembers (λ d. of_members ms (put k d found)) (of_json j) (of_json-rising j) (λ d r. of_members-rising ms (put k d found) (rising-put k d found r m))

-- the text without its conversion
abbrev parsed : List ℕ → Option json.Json
parsed text = option_and_then (λ p. json.if_last p.0 p.1) (json.value max_depth (tokens text))

read-rising : (text : List ℕ) → IfSome (read text) Rising
read-rising text = IfSome-then (λ j. Unit {0}) Rising of_json (parsed text) (IfSome-any (parsed text)) (λ j h. of_json-rising j)

pub spelled-rising : (bytes : List ℕ) → IfSome (spelled bytes) Rising
unfolding spelled
spelled-rising bytes = by (is_utf8 bytes)
  where
    by : (b : Bool) → IfSome (if b then read bytes else None) Rising
    by true = read-rising bytes
    by false = tt

-- what is there, or else a refusal
pub present-rising : {A E : Type 0} (P : A → Type 0) (refusal : E) (o : Option A) (x : A) → IfSome o P → ok_or o refusal ≡ Ok x → P x
present-rising P refusal None x h e = cc
present-rising P refusal (Some y) x h e = subst P (Ok-is y x e) h

pub json_at-rising : (bytes : List ℕ) (d : Data) → json_at bytes ≡ Ok d → Rising d
json_at-rising bytes d e = present-rising Rising (fault_at kinds.NotJson whole) (spelled bytes) d (spelled-rising bytes) (sym (json_is bytes) ∙ e)

-- ---- what is looked up

get_member-rising : (k : List ℕ) (ms : Members) → RisingMembers ms → IfSome (get_member k ms) Rising
get_member-rising k no_members m = tt
get_member-rising k (member l e ms) m = by (slice_cmp nat_cmp k l) (get_member-rising k ms m.2)
  where
    by : (o : Ordering) → IfSome (get_member k ms) Rising → IfSome (match_ordering o (get_member k ms) (Some e) (get_member k ms)) Rising
    by Less h = h
    by Equal h = m.1
    by Greater h = h

pub get-rising : (k : List ℕ) (d : Data) → Rising d → IfSome (get k d) Rising
get-rising k null r = tt
get-rising k (boolean b) r = tt
get-rising k (number n) r = tt
get-rising k (string s) r = tt
get-rising k (array ds) r = tt
get-rising k (object ms) r = get_member-rising k ms r

as_object-rising : (d : Data) → Rising d → IfSome (as_object d) RisingMembers
as_object-rising null r = tt
as_object-rising (boolean b) r = tt
as_object-rising (number n) r = tt
as_object-rising (string s) r = tt
as_object-rising (array ds) r = tt
as_object-rising (object ms) r = r

pub object_or-rising : {E : Type 0} (refusal : E) (d : Data) (ms : Members) → Rising d → object_or refusal d ≡ Ok ms → RisingMembers ms
unfolding object_or
object_or-rising refusal d ms r e = present-rising RisingMembers refusal (as_object d) ms (as_object-rising d r) e

pub members_or-rising : {E : Type 0} (refusal : E) (o : Option Data) (ms : Members) → IfSome o Rising → members_or refusal o ≡ Ok ms → RisingMembers ms
unfolding members_or
members_or-rising refusal None ms h e = subst RisingMembers (Ok-is no_members ms e) tt
members_or-rising refusal (Some d) ms h e = object_or-rising refusal d ms h e

pub present_at-rising : (p : Place) (o : Option Data) (d : Data) → IfSome o Rising → present_at p o ≡ Ok d → Rising d
unfolding present_at
present_at-rising p o d h e = present-rising Rising (fault_at kinds.Shape p) o d h e

pub object_at-rising : (p : Place) (d : Data) (ms : Members) → Rising d → object_at p d ≡ Ok ms → RisingMembers ms
unfolding object_at object_or
object_at-rising p d ms r e = object_or-rising (fault_at kinds.Shape p) d ms r e

pub members_at-rising : (p : Place) (o : Option Data) (ms : Members) → IfSome o Rising → members_at p o ≡ Ok ms → RisingMembers ms
members_at-rising p o ms h e = members_or-rising (fault_at kinds.Shape p) o ms h (sym (members_is p o) ∙ e)

pub each-rising : (ms : Members) → RisingMembers ms → AllMembers (λ k d. Rising d) ms
each-rising no_members m = tt
each-rising (member k d ms) m = (m.1, each-rising ms m.2)

-- ---- how many keys there are

apart : (k : List ℕ) (ms : Members) → AllAbove k ms → AllByRecursion (λ l. bytes_eq k l ≡ false) (keys_of ms)
apart k no_members all = tt
apart k (member l d ms) all = (sym (is_eq-slice_cmp k l) ∙ ap is_eq all.0, apart k ms all.1)

distinct : (ms : Members) → RisingMembers ms → IsDistinct bytes_eq (keys_of ms)
unfolding IsDistinct
distinct no_members m = tt
distinct (member k d ms) m = (apart k ms m.0, distinct ms m.2)

any_from_place : {A : Type 0} (test : A → Bool) (xs : List A) → position_or_len test xs < length xs → list_any test xs ≡ true
any_from_place test [] h = absurd (omega arith)
any_from_place test (x ∷ xs) h = by (test x) h (any_from_place test xs)
  where
    by : (b : Bool) → cond (not b) (1 + position_or_len test xs) 0 < suc (length xs) → (position_or_len test xs < length xs → list_any test xs ≡ true) → (b || list_any test xs) ≡ true
    by true l tail = refl
    by false l tail = tail (omega arith)

-- a name with a number is among the names
pub known-position : (names : List (List ℕ)) (k : List ℕ) (i : ℕ) → position (bytes_eq k) names ≡ Some i → (i < length names) × (is_member bytes_eq names k ≡ true)
known-position names k i e =
    let parts = cond_some (nat_lt (position_or_len (bytes_eq k) names) (length names)) (position_or_len (bytes_eq k) names) i e in
    let within : position_or_len (bytes_eq k) names < length names = ltb-true (position_or_len (bytes_eq k) names) (length names) parts.0 in
    (subst (λ j. j < length names) parts.1 within, any_from_place (bytes_eq k) names within)

-- a property of each of some keys holds of a key among them
among : (P : List ℕ → Type 0) (ks : List (List ℕ)) (q : List ℕ) → AllByRecursion P ks → is_member bytes_eq ks q ≡ true → P q
among P [] q all e = cc
among P (k ∷ ks) q all e = by (bytes_eq q k) refl e (among P ks q all.1)
  where
    by : (b : Bool) → bytes_eq q k ≡ b → (b || is_member bytes_eq ks q) ≡ true → (is_member bytes_eq ks q ≡ true → P q) → P q
    by true same h tail = subst P (sym ((bytes_eq-Decides q k).0 same)) all.0
    by false same h tail = tail h

-- rising keys that are all known are at most as many as the names
pub few_keys : (names : List (List ℕ)) (ms : Members) → RisingMembers ms → AllByRecursion (λ k. is_member bytes_eq names k ≡ true) (keys_of ms) → length (keys_of ms) ≤ length names
few_keys names ms m known = length-le_from_is_member nat_list_eq_equiv (keys_of ms) names (distinct ms m) (λ q e. among (λ k. is_member bytes_eq names k ≡ true) (keys_of ms) q known e)

-- ---- the keys in byte order

pub keys-sorted : (ms : Members) → RisingMembers ms → Sorted (keys_of ms)
unfolding IsStrictlySortedBy
keys-sorted no_members m = tt
keys-sorted (member k d ms) m = (m.0, keys-sorted ms m.2)
