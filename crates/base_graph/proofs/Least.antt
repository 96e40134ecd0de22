-- The least number that passes a test, as a loop over the numbers finds it, and tables of a test's values.
use Rattle.std.proofs.Common.{◌≡◌, ℕ, suc, ◌+◌, ◌-◌, ◌<◌, ◌≤◌, Bool, true, false, cond, List, length, get_or, map, Option, Some, None, zero-add, ap, sym, ◌∙◌, arith}
use Rattle.std.proofs.lemmas.List.FromFn.{length-map-range_with_len, get_or-map-range_with_len}
use Rattle.std.specs.List.{find, range_with_len}
use Rattle.base_graph.specs.Paths.{numbers}

-- of the numbers from i on below n
abbrev pub least_from : (ℕ → Bool) → ℕ → ℕ → Option ℕ
least_from test i n = find test (range_with_len i (n - i))

pub least_all : (test : ℕ → Bool) (n : ℕ) → least_from test 0 n ≡ find test (numbers n)
least_all test n =
    let e : n - 0 ≡ n = omega arith in
    ap (λ k. find test (range_with_len 0 k)) e

least_next : (test : ℕ → Bool) (i n : ℕ) → i < n → least_from test i n ≡ cond (test i) (Some i) (least_from test (i + 1) n)
least_next test i n l =
    let e : n - i ≡ suc (n - (i + 1)) = omega arith in
    ap (λ k. find test (range_with_len i k)) e

pub least_here : (test : ℕ → Bool) (i n : ℕ) (whole : Option ℕ) → i < n → least_from test i n ≡ whole → test i ≡ true → Some i ≡ whole
least_here test i n whole l e h = sym (ap (λ b. cond b (Some i) (least_from test (i + 1) n)) h) ∙ sym (least_next test i n l) ∙ e

pub least_later : (test : ℕ → Bool) (i n : ℕ) (whole : Option ℕ) → i < n → least_from test i n ≡ whole → test i ≡ false → least_from test (i + 1) n ≡ whole
least_later test i n whole l e h = sym (ap (λ b. cond b (Some i) (least_from test (i + 1) n)) h) ∙ sym (least_next test i n l) ∙ e

pub least_none : (test : ℕ → Bool) (i n : ℕ) (whole : Option ℕ) → n ≤ i → least_from test i n ≡ whole → None ≡ whole
least_none test i n whole l e =
    let none : n - i ≡ 0 = omega arith in
    sym (ap (λ k. find test (range_with_len i k)) none) ∙ e

pub table_length : (test : ℕ → Bool) (n : ℕ) (table : List Bool) → table ≡ map test (numbers n) → length table ≡ n
table_length test n table e = ap length e ∙ length-map-range_with_len test 0 n

pub table_at : (test : ℕ → Bool) (n : ℕ) (table : List Bool) (i : ℕ) → table ≡ map test (numbers n) → i < n → get_or table i false ≡ test i
table_at test n table i e l = ap (λ t. get_or t i false) e ∙ get_or-map-range_with_len test 0 n i i false l (zero-add i)

pub ruleset least = (least_all, least_here, least_later, least_none)

pub ruleset tables = (table_length, table_at)
