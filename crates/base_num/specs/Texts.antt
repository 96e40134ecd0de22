-- The texts of names, and appending to a text.
use Rattle.std.specs.Prelude.{◌≡◌, ℕ, ◌+◌, ◌/◌, ◌%◌, ◌==◌, List, [], ◌∷◌, ◌++◌, codes, Result, ⊤, MatchResult, nat_lt, if◌then◌else◌}
use Rattle.std.specs.List.{flat_map}

-- the piece was added at the end, or nothing changed
abbrev pub Adds : {E : Type 0} → List ℕ → List ℕ → Result ⊤ E → List ℕ → Type 0
Adds old new result piece = MatchResult result (λ _. new ≡ old ++ piece) (λ _. new ≡ old)

-- a hexadecimal digit, `0` to `9` and `a` to `f`
abbrev pub digit_of : ℕ → ℕ
digit_of n = if nat_lt n 10 then 48 + n else 87 + n

-- A byte of a name inside quotation marks: the quotation mark (34), the backslash (92), backspace (8),
-- form feed (12), newline (10), carriage return (13) and tab (9) by a backslash and a sign of their
-- own, each other control character by its number, and every other byte as it is.
unfoldable pub escaped : ℕ → List ℕ
escaped b =
    if b == 34 then codes "\\\"" else (
    if b == 92 then codes "\\\\" else (
    if b == 8 then codes "\\b" else (
    if b == 12 then codes "\\f" else (
    if b == 10 then codes "\\n" else (
    if b == 13 then codes "\\r" else (
    if b == 9 then codes "\\t" else (
    if nat_lt b 32 then codes "\\u00" ++ digit_of (b / 16) ∷ digit_of (b % 16) ∷ [] else b ∷ [])))))))

-- a name as a JSON string
abbrev pub json_string : List ℕ → List ℕ
json_string name = codes "\"" ++ flat_map escaped name ++ codes "\""
