-- The formulas that bound training grow with the number of iterations, and keep records short.
use Rattle.std.proofs.Common.{◌≡◌, ◌∙◌, ℕ, suc, ◌+◌, ◌*◌, ◌<◌, ◌≤◌, ◌^◌, Bool, true, false, List, [], ◌∷◌, length, Option, Some, None, Ok, if◌then◌else◌, nat_lt, refl, ap, arith}
use Rattle.std.specs.List.{sum_by}
use Rattle.std.proofs.lemmas.Bool.Decides.{nat_tests}
use Rattle.std.proofs.lemmas.List.Sums.{sum_by-cons}
use Rattle.std.proofs.Math.Nat.{mul-le-mul_left, mul-le-mul_right}
use Rattle.problem.specs.declared.parts.Node.{Node}
use Rattle.problem.specs.declared.parts.ProblemParts.{ProblemParts}
use Rattle.problem.specs.declared.formulas.TooMuch.{TooMuch}
use Rattle.problem.specs.Formulas.{above, or_then, cut_numbers, dictionary, first_dictionary, step_bytes, record_bytes, too_much, row_count, decision_count}
use Rattle.problem.specs.Parts.{own_subproblem}
use Rattle.problem.specs.Validated.{Validated, is_validated}
use Rattle.theory.specs.declared.cut.Cut.{Cut}
use Rattle.theory.specs.Pools.{pool}
use Rattle.cut_pool.specs.AtNodes.{PoolsFit}
use Rattle.lp_program.specs.Solving.{Solving}
use Rattle.journal_record.specs.Spelling.{spell}
use Rattle.journal_record.proofs.Lengths.{text_length}
use Rattle.plan_train.specs.Stepping.{Stepped, training_step}
use Rattle.plan_train.proofs.Written.{IsIteration, is_iteration}

-- a value within its limit
within_limit : (which limit value : ℕ) → above which limit value ≡ None → value ≤ limit
within_limit which limit value e = by (record { which = which; value = value }) (nat_lt limit value) refl e
  where
    by : (t : TooMuch) (b : Bool) → nat_lt limit value ≡ b → (if b then Some t else None) ≡ None → value ≤ limit
    by t true is e = absurd cc
    by t false is e = grind (arith, nat_tests)

not_above : (which limit value : ℕ) → value ≤ limit → above which limit value ≡ None
not_above which limit value h =
    let below : nat_lt limit value ≡ false = grind (arith, nat_tests) in
    rw below refl

still_below : (which limit less more : ℕ) → less ≤ more → above which limit more ≡ None → above which limit less ≡ None
still_below which limit less more h e = not_above which limit less (omega (arith, h, within_limit which limit more e))

both_none : (a b : Option TooMuch) → or_then a b ≡ None → (a ≡ None) × (b ≡ None)
both_none None b e = (refl, e)
both_none (Some t) b e = absurd cc

none_none : (a b : Option TooMuch) → a ≡ None → b ≡ None → or_then a b ≡ None
none_none a b e f = ap (λ (x : Option TooMuch). or_then x b) e ∙ f

-- each formula grows with the cuts
cut_numbers_rise : (p : Validated) (i j : ℕ) → i ≤ j → cut_numbers p i ≤ cut_numbers p j
cut_numbers_rise p i j h = mul-le-mul_right (length p.parts.states + 1) (mul-le-mul_right p.longest h)

dictionary_rises : (parts : ProblemParts) (i j : ℕ) (n : Node) → i ≤ j → dictionary parts i n ≤ dictionary parts j n
dictionary_rises parts i j n h =
    let successors : (i + 1) * length n.successors ≤ (j + 1) * length n.successors = mul-le-mul_right (length n.successors) (one_more i j h) in
    mul-le-mul_right (decision_count (own_subproblem parts n) + length n.successors) (more (row_count (own_subproblem parts n)) ((i + 1) * length n.successors) ((j + 1) * length n.successors) successors)
  where
    one_more : (i j : ℕ) → i ≤ j → i + 1 ≤ j + 1
    one_more i j h = omega (arith, h)

    more : (r a b : ℕ) → a ≤ b → r + a ≤ r + b
    more r a b h = omega (arith, h)

dictionaries_none : (parts : ProblemParts) (i j : ℕ) (ns : List Node) → i ≤ j → first_dictionary parts j ns ≡ None → first_dictionary parts i ns ≡ None
dictionaries_none parts i j [] h e = refl
dictionaries_none parts i j (n ∷ ns) h e =
    let b = both_none (above 2 (2 ^ 22) (dictionary parts j n)) (first_dictionary parts j ns) e in
    none_none (above 2 (2 ^ 22) (dictionary parts i n)) (first_dictionary parts i ns) (still_below 2 (2 ^ 22) (dictionary parts i n) (dictionary parts j n) (dictionary_rises parts i j n h) b.0) (dictionaries_none parts i j ns h b.1)

step_bytes_rise : (parts : ProblemParts) (i j : ℕ) (n : Node) → i ≤ j → step_bytes parts i n ≤ step_bytes parts j n
step_bytes_rise parts i j n h =
    let successors : length n.successors * (4 + 12 * (i + 1)) ≤ length n.successors * (4 + 12 * (j + 1)) = mul-le-mul_left (length n.successors) (pairs i j h) in
    two (length n.weights * (8 * row_count (own_subproblem parts n) + length n.successors * (4 + 12 * (i + 1)))) (length n.weights * (8 * row_count (own_subproblem parts n) + length n.successors * (4 + 12 * (j + 1))))
    (mul-le-mul_left (length n.weights) (more (8 * row_count (own_subproblem parts n)) (length n.successors * (4 + 12 * (i + 1))) (length n.successors * (4 + 12 * (j + 1))) successors))
  where
    pairs : (i j : ℕ) → i ≤ j → 4 + 12 * (i + 1) ≤ 4 + 12 * (j + 1)
    pairs i j h = omega (arith, h)

    more : (r a b : ℕ) → a ≤ b → r + a ≤ r + b
    more r a b h = omega (arith, h)

    two : (a b : ℕ) → a ≤ b → 2 + a ≤ 2 + b
    two a b h = omega (arith, h)

all_bytes_rise : (parts : ProblemParts) (i j : ℕ) (ns : List Node) → i ≤ j → sum_by (step_bytes parts i) ns ≤ sum_by (step_bytes parts j) ns
all_bytes_rise parts i j [] h = omega arith
all_bytes_rise parts i j (n ∷ ns) h = omega (arith, sum_by-cons (step_bytes parts i) n ns, sum_by-cons (step_bytes parts j) n ns, step_bytes_rise parts i j n h, all_bytes_rise parts i j ns h)

record_bytes_rise : (parts : ProblemParts) (i j batch : ℕ) → i ≤ j → record_bytes parts i batch ≤ record_bytes parts j batch
record_bytes_rise parts i j batch h = mul-le-mul_left batch (ten (sum_by (step_bytes parts i) parts.nodes) (sum_by (step_bytes parts j) parts.nodes) (all_bytes_rise parts i j parts.nodes h))
  where
    ten : (a b : ℕ) → a ≤ b → 10 + a ≤ 10 + b
    ten a b h = omega (arith, h)

-- Formulas that are kept for some number of iterations are kept for fewer.
pub too_much-fewer : (p : Validated) (k count batch : ℕ) → k ≤ count → too_much p count batch ≡ None → too_much p k batch ≡ None
unfolding too_much
too_much-fewer p k count batch h e =
    let cuts : k * batch ≤ count * batch = mul-le-mul_right batch h in
    let a = both_none (above 1 (2 ^ 24) (cut_numbers p (count * batch))) (or_then (first_dictionary p.parts (count * batch) p.parts.nodes) (above 3 (2 ^ 26) (record_bytes p.parts (count * batch) batch))) e in
    let b = both_none (first_dictionary p.parts (count * batch) p.parts.nodes) (above 3 (2 ^ 26) (record_bytes p.parts (count * batch) batch)) a.1 in
    none_none (above 1 (2 ^ 24) (cut_numbers p (k * batch))) (or_then (first_dictionary p.parts (k * batch) p.parts.nodes) (above 3 (2 ^ 26) (record_bytes p.parts (k * batch) batch)))
    (still_below 1 (2 ^ 24) (cut_numbers p (k * batch)) (cut_numbers p (count * batch)) (cut_numbers_rise p (k * batch) (count * batch) cuts) a.0)
    (none_none (first_dictionary p.parts (k * batch) p.parts.nodes) (above 3 (2 ^ 26) (record_bytes p.parts (k * batch) batch))
    (dictionaries_none p.parts (k * batch) (count * batch) p.parts.nodes cuts b.0)
    (still_below 3 (2 ^ 26) (record_bytes p.parts (k * batch) batch) (record_bytes p.parts (count * batch) batch) (record_bytes_rise p.parts (k * batch) (count * batch) batch cuts) b.1))

record_within : (p : Validated) (k batch : ℕ) → too_much p k batch ≡ None → record_bytes p.parts (k * batch) batch ≤ 2 ^ 26
unfolding too_much
record_within p k batch e =
    let a = both_none (above 1 (2 ^ 24) (cut_numbers p (k * batch))) (or_then (first_dictionary p.parts (k * batch) p.parts.nodes) (above 3 (2 ^ 26) (record_bytes p.parts (k * batch) batch))) e in
    let b = both_none (first_dictionary p.parts (k * batch) p.parts.nodes) (above 3 (2 ^ 26) (record_bytes p.parts (k * batch) batch)) a.1 in
    within_limit 3 (2 ^ 26) (record_bytes p.parts (k * batch) batch) b.1

-- An iteration, the (j + 1)-th, over pools that have the base cut and at most one for each path before: what it leaves,
-- and the bytes of its record.
pub record IsRecorded (p : Validated) (batch j : ℕ) (pools : List (List Cut)) (s : Stepped) : Type 0 where
  pub iteration : IsIteration p (suc j) batch (suc j * batch + 1) pools s
  pub short : length (spell s.entries) ≤ 2 ^ 26

pub is_recorded : {Start Chain : Type 0} (v : Solving Start Chain) (p : Validated) → is_validated p ≡ true → (pools : List (List Cut)) (seed batch j count : ℕ) (s : Stepped) → PoolsFit p pools → ((m : ℕ) → length (pool pools m) ≤ 1 + j * batch)
    → suc j ≤ count → count ≤ 2000 → batch ≤ 64 → too_much p count batch ≡ None → training_step v p pools seed batch (suc j) ≡ Ok s → IsRecorded p batch j pools s
is_recorded v p validated pools seed batch j count s fit few now last paths kept e =
    let here : suc j * batch ≤ 2000 * batch = mul-le-mul_right batch (at_most now last) in
    let i = is_iteration v p validated pools seed batch (suc j) (1 + j * batch) (suc j * batch + 1) s fit few (grows j batch) (small (suc j * batch) batch here paths) (omega (arith, now, last)) e in
    record {
      iteration = i;
      short = chain (text_length p (suc j * batch) batch s.entries validated (counted i.written.counted) i.written.each i.pairs) (record_within p (suc j) batch (too_much-fewer p (suc j) count batch now kept));
    }
  where
    at_most : {a b c : ℕ} → a ≤ b → b ≤ c → a ≤ c
    at_most h i = omega (arith, h, i)

    chain : {a b c : ℕ} → a ≤ b → b ≤ c → a ≤ c
    chain h i = omega (arith, h, i)

    counted : {a b : ℕ} → a ≡ b → a ≤ b
    counted h = omega (arith, h)

    grows : (j batch : ℕ) → 1 + j * batch + batch ≤ suc j * batch + 1
    grows j batch = omega arith

    small : (n batch : ℕ) → n ≤ 2000 * batch → batch ≤ 64 → n + 1 < 2 ^ 32
    small n batch h k = omega (arith, h, k)
