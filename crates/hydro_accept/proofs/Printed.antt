-- The text of a fair value is read as that value.
use Rattle.std.proofs.Common.{◌≡◌, ℕ, zero, suc, ◌<◌, ◌≤◌, pos, negsuc, List, [], ◌∷◌, ◌++◌, Bool, true, false, get_or, Some, Ok, option_map, decimal, IsUtf8, Greater, nat_cmp, refl, sym, ap, ◌∙◌, arith, append-nil}
use Rattle.std.specs.Cmp.Lexicographic.{slice_cmp}
use Rattle.std.specs.Fmt.{signed_decimal}
use Rattle.std.specs.Ordering.{ordering_reverse}
use Rattle.std.proofs.lemmas.Cmp.{nat_list_cmp_total}
use Rattle.std.proofs.lemmas.Fmt.{IsAscii-decimal, IsAscii-signed}
use Rattle.std.proofs.lemmas.Str.{is_utf8-from_IsUtf8, IsUtf8-append, IsUtf8-from_ascii}
use Rattle.json.specs.Lex.{tokens}
use Rattle.json.specs.Json as json
use Rattle.json.specs.Tree as tree
use Rattle.json.specs.Tree.{json_tokens}
use Rattle.json.proofs.Printed.Decimals.{IsNumber-decimal, IsNumber-signed_decimal}
use Rattle.json.proofs.Printed.Tokens.{tokens-print}
use Rattle.json.proofs.Printed.Trees.{value-json_tokens, ArePrintable-json_tokens}
use Rattle.json.proofs.Printed.Utf8.{IsUtf8-quoted, IsUtf8-boolean}
use Rattle.serde_json.specs.Data.{Num, unsigned, negative, float, Data, null, boolean, number, string, array, object, Items, no_items, item, Members, no_members, member, put, depth, items_depth, members_depth}
use Rattle.serde_json.specs.Read.{number_of, of_json, of_items, of_members, read}
use Rattle.serde_json.specs.Written.{number_text, outline, items_outline, members_outline, compact_text, items_text, members_text, comma_if}
use Rattle.serde_json.proofs.Numbers.{number_of-decimal, number_of-negative}
use Rattle.serde_json.proofs.Texts.{print-outline}
use Rattle.read_json.specs.Fields.{json_at}
use Rattle.hydro_form.proofs.Newline.{tokens-newline}
use Rattle.hydro_accept.specs.Fair.{IsWholeNumber, AllAbove, Fair, FairItems, FairMembers}

-- ---- numbers

whole_read : (n : Num) → IsWholeNumber n → number_of (number_text n) ≡ Some n
whole_read (unsigned n) h = number_of-decimal n h
whole_read (negative (pos n)) h = absurd h
whole_read (negative (negsuc n)) h = number_of-negative n h
whole_read (float x) h = absurd h

-- ---- members go in one after another

abbrev joined : Members → Members → Members
joined no_members ms = ms
joined (member k d tail) ms = member k d (joined tail ms)

-- each key of the first is below each of the second
abbrev AllBelow : Members → Members → Type 0
AllBelow no_members ms = Unit {0}
AllBelow (member k d tail) ms = AllAbove k ms × AllBelow tail ms

put_last : (found : Members) (k : List ℕ) (d : Data) (ms : Members) → AllBelow found (member k d ms) → put k d found ≡ joined found (member k d no_members)
put_last no_members k d ms h = refl
put_last (member l e found) k d ms h =
    let above : slice_cmp nat_cmp k l ≡ Greater = nat_list_cmp_total.antisymm k l ∙ ap ordering_reverse h.0.0 in
    rw above (ap (member l e) (put_last found k d ms h.1))

below_joined : (found : Members) (k : List ℕ) (d : Data) (ms : Members) → AllBelow found (member k d ms) → AllAbove k ms → AllBelow (joined found (member k d no_members)) ms
below_joined no_members k d ms h above = (above, tt)
below_joined (member l e found) k d ms h above = (h.0.1, below_joined found k d ms h.1 above)

joined_more : (found : Members) (k : List ℕ) (d : Data) (ms : Members) → joined (joined found (member k d no_members)) ms ≡ joined found (member k d ms)
joined_more no_members k d ms = refl
joined_more (member l e found) k d ms = ap (member l e) (joined_more found k d ms)

mutual
  value_back : (d : Data) → Fair d → of_json (outline d) ≡ Some d
  value_back null h = refl
  value_back (boolean b) h = refl
  value_back (number n) h = ap (option_map number) (whole_read n h)
  value_back (string s) h = refl
  value_back (array ds) h = ap (option_map array) (items_back ds h)
  value_back (object ms) h = ap (option_map object) (members_back no_members ms tt h)

  items_back : (ds : Items) → FairItems ds → of_items (items_outline ds) ≡ Some ds
  items_back no_items h = refl
  items_back (item d ds) h = rw (value_back d h.0, items_back ds h.1) refl

  members_back : (found ms : Members) → AllBelow found ms → FairMembers ms → of_members (members_outline ms) found ≡ Some (joined found ms)
  members_back found no_members below h = ap Some (joined_nothing found)
    where
      joined_nothing : (found : Members) → found ≡ joined found no_members
      joined_nothing no_members = refl
      joined_nothing (member l e tail) = ap (member l e) (joined_nothing tail)
  members_back found (member k d ms) below h =
      rw (value_back d h.2, put_last found k d ms below) (members_back (joined found (member k d no_members)) ms (below_joined found k d ms below h.1) h.3 ∙ ap Some (joined_more found k d ms))

-- ---- what is printed

mutual
  numbers_fair : (d : Data) → Fair d → tree.HasNumbers (outline d)
  numbers_fair null h = tt
  numbers_fair (boolean b) h = tt
  numbers_fair (number (unsigned n)) h = IsNumber-decimal n h
  numbers_fair (number (negative (pos n))) h = absurd h
  numbers_fair (number (negative (negsuc n))) h = IsNumber-signed_decimal (negsuc n) h
  numbers_fair (number (float x)) h = absurd h
  numbers_fair (string s) h = tt
  numbers_fair (array ds) h = items_fair ds h
  numbers_fair (object ms) h = members_fair ms h

  items_fair : (ds : Items) → FairItems ds → tree.ItemsHaveNumbers (items_outline ds)
  items_fair no_items h = tt
  items_fair (item d ds) h = (numbers_fair d h.0, items_fair ds h.1)

  members_fair : (ms : Members) → FairMembers ms → tree.MembersHaveNumbers (members_outline ms)
  members_fair no_members h = tt
  members_fair (member k d ms) h = (numbers_fair d h.2, members_fair ms h.3)

mutual
  depth_same : (d : Data) → tree.depth (outline d) ≡ depth d
  depth_same null = refl
  depth_same (boolean b) = refl
  depth_same (number n) = refl
  depth_same (string s) = refl
  depth_same (array ds) = ap suc (items_same ds)
  depth_same (object ms) = ap suc (members_same ms)

  items_same : (ds : Items) → tree.items_depth (items_outline ds) ≡ items_depth ds
  items_same no_items = refl
  items_same (item d ds) = rw (depth_same d, items_same ds) refl

  members_same : (ms : Members) → tree.members_depth (members_outline ms) ≡ members_depth ms
  members_same no_members = refl
  members_same (member k d ms) = rw (depth_same d, members_same ms) refl

-- ---- UTF-8

ascii_one : (x : ℕ) → x < 128 → IsUtf8 (x ∷ [])
ascii_one x h = IsUtf8-from_ascii (x ∷ []) (λ i. at i)
  where
    at : (i : ℕ) → get_or (x ∷ []) i 0 < 128
    at zero = h
    at (suc i) = omega arith

whole_utf8 : (n : Num) → IsWholeNumber n → IsUtf8 (number_text n)
whole_utf8 (unsigned n) h = IsUtf8-from_ascii (decimal n) (IsAscii-decimal n h)
whole_utf8 (negative (pos n)) h = absurd h
whole_utf8 (negative (negsuc n)) h = IsUtf8-from_ascii (signed_decimal (negsuc n)) (IsAscii-signed (negsuc n) h)
whole_utf8 (float x) h = absurd h

comma_utf8 : (b : Bool) → IsUtf8 (comma_if b)
comma_utf8 true = ascii_one 44 (omega arith)
comma_utf8 false = IsUtf8-from_ascii [] (λ i. omega arith)

mutual
  text_utf8 : (d : Data) → Fair d → IsUtf8 (compact_text d)
  text_utf8 null h = IsUtf8-append (110 ∷ 117 ∷ []) (108 ∷ 108 ∷ []) (IsUtf8-append (110 ∷ []) (117 ∷ []) (ascii_one 110 (omega arith)) (ascii_one 117 (omega arith))) (IsUtf8-append (108 ∷ []) (108 ∷ []) (ascii_one 108 (omega arith)) (ascii_one 108 (omega arith)))
  text_utf8 (boolean b) h = IsUtf8-boolean b
  text_utf8 (number n) h = whole_utf8 n h
  text_utf8 (string s) h = IsUtf8-quoted s h
  text_utf8 (array ds) h = IsUtf8-append (91 ∷ []) (items_text false ds) (ascii_one 91 (omega arith)) (items_utf8 false ds h)
  text_utf8 (object ms) h = IsUtf8-append (123 ∷ []) (members_text false ms) (ascii_one 123 (omega arith)) (members_utf8 false ms h)

  items_utf8 : (b : Bool) (ds : Items) → FairItems ds → IsUtf8 (items_text b ds)
  items_utf8 b no_items h = ascii_one 93 (omega arith)
  items_utf8 b (item d ds) h = IsUtf8-append (comma_if b) _ (comma_utf8 b) (IsUtf8-append (compact_text d) _ (text_utf8 d h.0) (items_utf8 true ds h.1))

  members_utf8 : (b : Bool) (ms : Members) → FairMembers ms → IsUtf8 (members_text b ms)
  members_utf8 b no_members h = ascii_one 125 (omega arith)
  members_utf8 b (member k d ms) h =
      IsUtf8-append (comma_if b) _ (comma_utf8 b)
      (IsUtf8-append _ _ (IsUtf8-quoted k h.0) (IsUtf8-append (58 ∷ []) _ (ascii_one 58 (omega arith)) (IsUtf8-append (compact_text d) _ (text_utf8 d h.2) (members_utf8 true ms h.3))))

-- ---- the whole text

tokens_back : (d : Data) → Fair d → tokens (compact_text d ++ 10 ∷ []) ≡ json_tokens (outline d)
tokens_back d h =
    let printable = ArePrintable-json_tokens (outline d) (numbers_fair d h) in
    ap (λ (t : List ℕ). tokens (t ++ 10 ∷ [])) (sym (print-outline d)) ∙ tokens-newline (json_tokens (outline d)) printable ∙ tokens-print (json_tokens (outline d)) printable

read_back : (d : Data) → Fair d → depth d ≤ 127 → read (compact_text d ++ 10 ∷ []) ≡ Some d
read_back d h shallow =
    let levels : tree.depth (outline d) ≤ 127 = omega (arith, depth_same d) in
    let parsed = ap (json.value 127) (tokens_back d h ∙ sym (append-nil (json_tokens (outline d)))) ∙ value-json_tokens (outline d) 127 [] levels in
    rw parsed (value_back d h)

pub text_read : (d : Data) → Fair d → depth d ≤ 127 → json_at (compact_text d ++ 10 ∷ []) ≡ Ok d
unfolding json_at
text_read d h shallow =
    rw (is_utf8-from_IsUtf8 (compact_text d ++ 10 ∷ []) (IsUtf8-append (compact_text d) (10 ∷ []) (text_utf8 d h) (ascii_one 10 (omega arith))), read_back d h shallow) refl
