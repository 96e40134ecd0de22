-- Numerals are the decimal texts of numbers.
use Rattle.std.proofs.Common.{◌≡◌, ℕ, ◌^◌, ◌<◌, true, List, [], ◌∷◌, length, get_or, Option, Some, None, Result, Ok, Err, arith, rules, decimal, zero, suc, ap, sym, ◌∙◌, ◌≢◌, MatchOption}
use Rattle.std.specs.Char.{is_ascii_digit}
use Rattle.std.specs.List.{list_all}
use Rattle.std.specs.Result.{result_ok}
use Rattle.std.specs.Str.Parse.{digits_value, ParsesUnsigned}
use Rattle.std.proofs.lemmas.Bool.Decides.{nat_tests}
use Rattle.std.proofs.lemmas.Fmt.{decimal_is_IsNumeral, decimal-digits_value, decimal_digit, first_decimal}
use Rattle.std.proofs.lemmas.Str.Parse.{IsNumeralModel, numerals_by_value, parse_digits}
use Rattle.base_num.specs.Numerals.{is_numeral, number_of}

-- the words of digits, and the numbers that they spell
own : IsNumeralModel (λ ds. list_all is_ascii_digit ds ≡ true) (digits_value 10)
own = numerals_by_value _ (search rules)

-- a numeral has digits alone, at least one, and a leading 0 only where it has one digit
record IsNumeral (word : List ℕ) : Type 0 where
  pub digits : list_all is_ascii_digit word ≡ true
  pub some : 0 < length word
  pub lead : get_or word 0 0 ≡ 48 → length word ≡ 1

parts : (word : List ℕ) → is_numeral word ≡ true → IsNumeral word
parts [] h = cc
parts (first ∷ tail) h = record { digits = grind (arith, nat_tests, h); some = omega arith; lead = λ zero. grind (arith, nat_tests, h) }

whole : (word : List ℕ) → IsNumeral word → is_numeral word ≡ true
whole [] h = absurd (omega arith)
whole (first ∷ tail) h = grind (arith, nat_tests, h.digits, h.lead)

-- the value that `parse` gives of a numeral
pub parsed : {E : Type 0} (word : List ℕ) (r : Result ℕ E) → ParsesUnsigned 64 10 word r → is_numeral word ≡ true → result_ok r ≡ number_of word
unfolding number_of
parsed {E} word (Ok n) h numeral = let q = parse_digits own {E = E} 64 word (Ok n) h (parts word numeral).digits in grind (arith, nat_tests, numeral)
parsed {E} word (Err e) h numeral = let q = parse_digits own {E = E} 64 word (Err e) h (parts word numeral).digits in grind (arith, nat_tests, numeral, q, (parts word numeral).some)

-- a word that is read is a numeral below 2^64, and is read as its value
read_parts : (word : List ℕ) (n : ℕ) → number_of word ≡ Some n → (is_numeral word ≡ true) × (digits_value 10 word < 2 ^ 64) × (n ≡ digits_value 10 word)
unfolding number_of
read_parts word n read = grind (arith, nat_tests, read)

-- the decimal text of the number that a word is read as is the word
text_is : (word : List ℕ) (n : ℕ) → number_of word ≡ Some n → decimal n ≡ word
text_is word n read =
    let r = read_parts word n read in
    let p = parts word r.0 in
    ap decimal r.2 ∙ decimal-digits_value own word p.digits p.some p.lead r.1

-- only `0` begins with a 0
lead-decimal : (n : ℕ) → n < 2 ^ 64 → get_or (decimal n) 0 0 ≡ 48 → length (decimal n) ≡ 1
lead-decimal zero small h = ap length (decimal_digit 0 (omega arith))
lead-decimal (suc n) small h = absurd (omega (arith, first_decimal (suc n) (omega arith) small))

-- the decimal text of a number is read as the number
number_of-decimal : (n : ℕ) → n < 2 ^ 64 → number_of (decimal n) ≡ Some n
unfolding number_of
number_of-decimal n small =
    let k = decimal_is_IsNumeral n small in
    let numeral = whole (decimal n) (record { digits = own.from (decimal n) k.0.1; some = k.0.0; lead = lead-decimal n small }) in
    grind (arith, nat_tests, numeral, k.1)

-- a reading is exact: Some of the number whose decimal text the word is, None where it is none's
pub exact : (word : List ℕ) (r : Option ℕ) → r ≡ number_of word → MatchOption r ((n : ℕ) → n < 2 ^ 64 → decimal n ≢ word) (λ n. decimal n ≡ word)
exact word (Some n) is = text_is word n (sym is)
exact word None is = λ n small e. let d = number_of-decimal n small in let same = ap number_of e in cc
