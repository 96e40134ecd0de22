-- A newline after a printed text gives no token.
use Rattle.std.proofs.Common.{◌≡◌, ℕ, Bool, true, false, cond, ◌&&◌, List, [], ◌∷◌, ◌++◌, Some, option_and_then, refl, sym, ap, ap₂, subst, ◌∙◌, append_assoc, append-nil}
use Rattle.json.specs.Token.{Token, begin_object, end_object, begin_array, end_array, key, string, number, boolean, null, bad}
use Rattle.json.specs.Word.{ends_word, word}
use Rattle.json.specs.Lex.{Lexeme, token, comma, colon, string_token, lex, between, fresh, punctuate, tokens}
use Rattle.json.specs.Print.{escape, quoted, token_text, begins, ends, separator, print_from, print, IsPrintable, ArePrintable, ArePrintableOrBad}
use Rattle.json.specs.Json as json
use Rattle.json.specs.Json.{Json, Items, Members}
use Rattle.json.specs.Tree.{json_tokens, items_tokens, members_tokens}
use Rattle.json.proofs.Numbered.{ArePrintableOrBad-tokens}
use Rattle.json.proofs.Printed.Strings.{content-escape, lex-escape}
use Rattle.json.proofs.Printed.Numbers.{lex-number, in_word-ended}
use Rattle.serde_json.specs.Data.{Data}
use Rattle.serde_json.specs.Read.{of_json, max_depth, read}

abbrev newline : List ℕ
newline = 10 ∷ []

-- the lexemes of a token
abbrev token_lexemes : Token → List Lexeme
token_lexemes begin_object = token begin_object ∷ []
token_lexemes end_object = token end_object ∷ []
token_lexemes begin_array = token begin_array ∷ []
token_lexemes end_array = token end_array ∷ []
token_lexemes (key s) = token (string s) ∷ colon ∷ []
token_lexemes (string s) = token (string s) ∷ []
token_lexemes (number s) = token (number s) ∷ []
token_lexemes (boolean b) = token (boolean b) ∷ []
token_lexemes null = token null ∷ []
token_lexemes bad = []

ended : (ts : List Token) → ends_word (print_from true ts) ≡ true
unfolding print_from
ended [] = refl
ended (begin_object ∷ ts) = refl
ended (end_object ∷ ts) = refl
ended (begin_array ∷ ts) = refl
ended (end_array ∷ ts) = refl
ended (key s ∷ ts) = refl
ended (string s ∷ ts) = refl
ended (number s ∷ ts) = refl
ended (boolean b ∷ ts) = refl
ended (null ∷ ts) = refl
ended (bad ∷ ts) = refl

ended_newline : (ts : List Token) → ends_word (print_from true ts ++ newline) ≡ true
unfolding print_from
ended_newline [] = refl
ended_newline (begin_object ∷ ts) = refl
ended_newline (end_object ∷ ts) = refl
ended_newline (begin_array ∷ ts) = refl
ended_newline (end_array ∷ ts) = refl
ended_newline (key s ∷ ts) = refl
ended_newline (string s ∷ ts) = refl
ended_newline (number s ∷ ts) = refl
ended_newline (boolean b ∷ ts) = refl
ended_newline (null ∷ ts) = refl
ended_newline (bad ∷ ts) = refl

lex-quoted : (s r : List ℕ) → lex between (quoted s ++ r) ≡ token (string s) ∷ lex between r
unfolding lex
lex-quoted s r = ap (λ l. lex between (34 ∷ l)) (append_assoc (escape s) (34 ∷ []) r) ∙ ap₂ (λ o l. token (string_token o) ∷ l) (content-escape s r) (lex-escape s r)

lex-token : (t : Token) (r : List ℕ) → IsPrintable t → (ends t ≡ true → ends_word r ≡ true) → lex between (token_text t ++ r) ≡ token_lexemes t ++ lex between r
unfolding lex word
lex-token begin_object r h ends = refl
lex-token end_object r h ends = refl
lex-token begin_array r h ends = refl
lex-token end_array r h ends = refl
lex-token (key s) r h ends = ap (lex between) (append_assoc (quoted s) (58 ∷ []) r) ∙ lex-quoted s (58 ∷ r)
lex-token (string s) r h ends = lex-quoted s r
lex-token (number s) r h ends = lex-number s r h (ends refl)
lex-token (boolean true) r h ends = ap₂ (λ b l. token (cond b (boolean true) bad) ∷ l) (ends refl) (in_word-ended r (ends refl))
lex-token (boolean false) r h ends = ap₂ (λ b l. token (cond b (boolean false) bad) ∷ l) (ends refl) (in_word-ended r (ends refl))
lex-token null r h ends = ap₂ (λ b l. token (cond b null bad) ∷ l) (ends refl) (in_word-ended r (ends refl))
lex-token bad r h ends = absurd h

lex-separator : (b : Bool) (r : List ℕ) → lex between (cond b (44 ∷ []) [] ++ r) ≡ cond b (comma ∷ []) [] ++ lex between r
unfolding lex
lex-separator true r = refl
lex-separator false r = refl

-- the lexemes of the first token, and those of what follows it
first_of_all : (c : Bool) (t : Token) (r : List ℕ) → IsPrintable t → (ends t ≡ true → ends_word r ≡ true)
    → lex between (separator c t ++ (token_text t ++ r)) ≡ cond (c && begins t) (comma ∷ []) [] ++ (token_lexemes t ++ lex between r)
first_of_all c t r h ends = lex-separator (c && begins t) (token_text t ++ r) ∙ ap (λ l. cond (c && begins t) (comma ∷ []) [] ++ l) (lex-token t r h ends)

lex-newline : (c : Bool) (ts : List Token) → ArePrintable ts → lex between (print_from c ts ++ newline) ≡ lex between (print_from c ts)
unfolding lex print_from ArePrintable
lex-newline c [] h = refl
lex-newline c (t ∷ ts) h =
    let tail = print_from (ends t) ts in
    ap (lex between) (append_assoc (separator c t) (token_text t ++ tail) newline ∙ ap (λ l. separator c t ++ l) (append_assoc (token_text t) tail newline))
    ∙ first_of_all c t (tail ++ newline) h.0 (λ e. ap (λ b. ends_word (print_from b ts ++ newline)) e ∙ ended_newline ts)
    ∙ ap (λ l. cond (c && begins t) (comma ∷ []) [] ++ (token_lexemes t ++ l)) (lex-newline (ends t) ts h.1)
    ∙ sym (first_of_all c t tail h.0 (λ e. ap (λ b. ends_word (print_from b ts)) e ∙ ended ts))

pub tokens-newline : (ts : List Token) → ArePrintable ts → tokens (print ts ++ newline) ≡ tokens (print ts)
tokens-newline ts h = ap (punctuate fresh) (lex-newline false ts h)

-- ---- tokens of a value that were read can be printed

joined : (ts us : List Token) → ArePrintable ts → ArePrintable us → ArePrintable (ts ++ us)
unfolding ArePrintable
joined [] us h k = k
joined (t ∷ ts) us h k = (h.0, joined ts us h.1 k)

mutual
  unfolding ArePrintable

  of_value : (j : Json) (tail : List Token) → ArePrintableOrBad (json_tokens j ++ tail) → ArePrintable (json_tokens j) × ArePrintableOrBad tail
  of_value json.null tail h = ((tt, tt), h.1)
  of_value (json.boolean b) tail h = ((tt, tt), h.1)
  of_value (json.number s) tail h = ((h.0, tt), h.1)
  of_value (json.string s) tail h = ((tt, tt), h.1)
  of_value (json.array js) tail h = let r = of_items js tail h.1 in ((tt, r.0), r.1)
  of_value (json.object ms) tail h = let r = of_members ms tail h.1 in ((tt, r.0), r.1)

  of_items : (js : Items) (tail : List Token) → ArePrintableOrBad (items_tokens js ++ tail) → ArePrintable (items_tokens js) × ArePrintableOrBad tail
  of_items json.no_items tail h = ((tt, tt), h.1)
  of_items (json.item j js) tail h =
      let r = of_value j (items_tokens js ++ tail) (subst ArePrintableOrBad (append_assoc (json_tokens j) (items_tokens js) tail) h) in
      let s = of_items js tail r.1 in
      (joined (json_tokens j) (items_tokens js) r.0 s.0, s.1)

  of_members : (ms : Members) (tail : List Token) → ArePrintableOrBad (members_tokens ms ++ tail) → ArePrintable (members_tokens ms) × ArePrintableOrBad tail
  of_members json.no_members tail h = ((tt, tt), h.1)
  of_members (json.member k j ms) tail h =
      let r = of_value j (members_tokens ms ++ tail) (subst ArePrintableOrBad (append_assoc (json_tokens j) (members_tokens ms) tail) h.1) in
      let s = of_members ms tail r.1 in
      ((tt, joined (json_tokens j) (members_tokens ms) r.0 s.0), s.1)

printable : (text : List ℕ) (j : Json) → tokens text ≡ json_tokens j → ArePrintable (tokens text)
printable text j e =
    subst ArePrintable (sym e) (of_value j [] (subst ArePrintableOrBad (e ∙ sym (append-nil (json_tokens j))) (ArePrintableOrBad-tokens text))).0

pub read-newline : (text : List ℕ) (j : Json) (d : Data) → text ≡ print (tokens text) → tokens text ≡ json_tokens j → read text ≡ Some d → read (text ++ newline) ≡ Some d
read-newline text j d compact e h =
    let same : tokens (text ++ newline) ≡ tokens text =
    ap (λ (t : List ℕ). tokens (t ++ newline)) compact ∙ tokens-newline (tokens text) (printable text j e) ∙ ap tokens (sym compact) in
    ap (λ (ts : List Token). option_and_then of_json (option_and_then (λ p. json.if_last p.0 p.1) (json.value max_depth ts))) same ∙ h
