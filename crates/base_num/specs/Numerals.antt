-- Numerals: how a whole number is written in decimal digits.
use Rattle.std.specs.Prelude.{ℕ, ◌^◌, ◌==◌, Bool, false, not, ◌&&◌, ◌||◌, length, List, [], ◌∷◌, Option, Some, None, nat_lt, if◌then◌else◌}
use Rattle.std.specs.Char.{is_ascii_digit}
use Rattle.std.specs.List.{list_all}
use Rattle.std.specs.Str.Parse.{digits_value}

-- one or more digits, with no leading 0 but in the word `0`
abbrev pub is_numeral : List ℕ → Bool
is_numeral [] = false
is_numeral (first ∷ tail) = list_all is_ascii_digit (first ∷ tail) && (not (first == 48) || length tail == 0)

-- the number below 2^64 that a numeral spells
unfoldable pub number_of : List ℕ → Option ℕ
number_of word = if is_numeral word && nat_lt (digits_value 10 word) (2 ^ 64) then Some (digits_value 10 word) else None
