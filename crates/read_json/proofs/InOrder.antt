-- The keys of an object: each stands once, in order.
use Rattle.std.proofs.Common.{◌≡◌, suc, length, List, [], ◌∷◌, ◌++◌, map, String, Global, string_bytes, string_cmp, bytes_eq, Less, is_eq, false, refl, sym, ap, ◌∙◌}
use Rattle.std.proofs.lemmas.Cmp.{nat_list_cmp_total}
use Rattle.std.proofs.lemmas.Map.Text.{is_eq-slice_cmp}
use Rattle.std.specs.List.{AllByRecursion, list_any}
use Rattle.std.specs.List.Sorted.{IsStrictlySortedBy}
use Rattle.std.specs.Map as entries
use Rattle.std.specs.Ordering.{ordering_reverse}
use Rattle.serde_json.specs.Data.{Members, no_members, member}
use Rattle.serde_json.specs.Events.{members_len}
use Rattle.serde_json.specs.View.{members_view}
use Rattle.serde_json.proofs.Views.{Entry, items_len-items_view, members_len-members_view}
use Rattle.read_json.specs.Fields.{keys_of}

pub length-keys_of : (ms : Members) → length (keys_of ms) ≡ members_len ms
length-keys_of no_members = refl
length-keys_of (member k d ms) = ap suc (length-keys_of ms)

-- how many items, members and keys there are
pub ruleset counts = (items_len-items_view, members_len-members_view, length-keys_of)

pub keys_of-members_view : (es : List Entry) → keys_of (members_view es) ≡ map string_bytes (entries.keys_of es)
keys_of-members_view [] = refl
keys_of-members_view (e ∷ es) = ap (λ ks. string_bytes e.0 ∷ ks) (keys_of-members_view es)

above : (front : List (String Global)) (first key : String Global) (left : List (String Global)) → AllByRecursion (λ y. string_cmp first y ≡ Less) (front ++ key ∷ left) → string_cmp first key ≡ Less
above [] first key left h = h.0
above (x ∷ front) first key left h = above front first key left h.1

apart : (first key : String Global) → string_cmp first key ≡ Less → bytes_eq (string_bytes key) (string_bytes first) ≡ false
apart first key h =
    sym (is_eq-slice_cmp (string_bytes key) (string_bytes first)) ∙ ap is_eq (nat_list_cmp_total.antisymm (string_bytes key) (string_bytes first) ∙ ap ordering_reverse h)

-- a key is not among those before it
pub new_key : (front : List (String Global)) (key : String Global) (left : List (String Global)) → IsStrictlySortedBy string_cmp (front ++ key ∷ left)
    → list_any (bytes_eq (string_bytes key)) (map string_bytes front) ≡ false
unfolding IsStrictlySortedBy
new_key [] key left h = refl
new_key (first ∷ front) key left h = rw (apart first key (above front first key left h.0)) (new_key front key left h.1)
