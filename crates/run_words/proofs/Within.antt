-- The numbers of a command are in their ranges.
use Rattle.std.proofs.Common.{◌≡◌, refl, ℕ, ◌≤◌, Bool, true, false, ◌&&◌, if◌then◌else◌, List, [], ◌∷◌, length, Option, Some, None, IfSome, arith}
use Rattle.std.specs.Prelude.{◌==◌, nat_le, option_and_then, codes}
use Rattle.std.proofs.lemmas.Bool.Decides.{nat_tests}
use Rattle.std.specs.Str.{bytes_eq}
use Rattle.base_num.specs.Numerals.{number_of}
use Rattle.run_words.specs.declared.command.Command.{Command}
use Rattle.run_words.specs.declared.command.Command.TheVariants.{Base, Train, Check, Simulate, Validate, Gen, Evaluate, Hydro, Robust}
use Rattle.run_words.specs.Commands.{if_within, number_within, alone, if_named, on_journal, train_by, train_in_batches, train, simulate_by, simulate, gen_by, gen, command_by, command_of}
use Rattle.run_words.specs.Traits.{IsWithin}

either : {A : Type 0} (P : A → Type 0) (b : Bool) (x y : Option A) → IfSome x P → IfSome y P → IfSome (if b then x else y) P
either P true x y h k = h
either P false x y h k = k

and_then : {A B : Type 0} (P : A → Type 0) (Q : B → Type 0) (x : Option A) (f : A → Option B) → IfSome x P → ((a : A) → P a → IfSome (f a) Q) → IfSome (option_and_then f x) Q
and_then P Q None f h k = tt
and_then P Q (Some a) f h k = k a h

anything : {A : Type 0} (x : Option A) → IfSome x (λ _. Unit {0})
anything None = tt
anything (Some a) = tt

inside : (least most n : ℕ) (b : Bool) → (nat_le least n && nat_le n most) ≡ b → IfSome (if b then Some n else None) (λ k. (least ≤ k) × (k ≤ most))
inside least most n true e = (grind (arith, nat_tests), grind (arith, nat_tests))
inside least most n false e = tt

number_in : (least most : ℕ) (word : List ℕ) → IfSome (number_within least most word) (λ k. (least ≤ k) × (k ≤ most))
unfolding number_within
number_in least most word = and_then (λ _. Unit {0}) (λ k. (least ≤ k) × (k ≤ most)) (number_of word) (if_within least most) (anything (number_of word)) (λ n u. inside least most n (nat_le least n && nat_le n most) refl)

named : (journal : List ℕ) (c : Option Command) → IfSome c IsWithin → IfSome (if_named journal c) IsWithin
named journal c h = either IsWithin (length journal == 0) None c tt h

train-by : (seed count : List ℕ) (batch : Option ℕ) → IfSome batch (λ b. (1 ≤ b) × (b ≤ 64)) → IfSome (train_by seed count batch) IsWithin
unfolding train_by
train-by seed count batch h = and_then (λ _. Unit {0}) IsWithin (number_of seed) (λ s. option_and_then (λ n. Some (Train s n batch)) (number_within 0 2000 count)) (anything (number_of seed)) (λ s u.
    and_then (λ k. (0 ≤ k) × (k ≤ 2000)) IsWithin (number_within 0 2000 count) (λ n. Some (Train s n batch)) (number_in 0 2000 count) (λ n e. (e.1, h)))

train-batches : (seed count batch : List ℕ) → IfSome (train_in_batches seed count batch) IsWithin
unfolding train_in_batches
train-batches seed count batch = and_then (λ k. (1 ≤ k) × (k ≤ 64)) IsWithin (number_within 1 64 batch) (λ b. train_by seed count (Some b)) (number_in 1 64 batch) (λ b h. train-by seed count (Some b) h)

train-words : (ws : List (List ℕ)) → IfSome (train ws) IsWithin
train-words [] = tt
train-words (j ∷ []) = tt
train-words (j ∷ (s ∷ [])) = tt
train-words (j ∷ (s ∷ (c ∷ []))) = named j (train_by s c None) (train-by s c None tt)
train-words (j ∷ (s ∷ (c ∷ (b ∷ [])))) = named j (train_in_batches s c b) (train-batches s c b)
train-words (j ∷ (s ∷ (c ∷ (b ∷ (w ∷ ws))))) = tt

simulate-by : (seed count : List ℕ) → IfSome (simulate_by seed count) IsWithin
unfolding simulate_by
simulate-by seed count = and_then (λ _. Unit {0}) IsWithin (number_of seed) (λ s. option_and_then (λ n. Some (Simulate s n)) (number_within 0 1000 count)) (anything (number_of seed)) (λ s u.
    and_then (λ k. (0 ≤ k) × (k ≤ 1000)) IsWithin (number_within 0 1000 count) (λ n. Some (Simulate s n)) (number_in 0 1000 count) (λ n e. e.1))

simulate-words : (ws : List (List ℕ)) → IfSome (simulate ws) IsWithin
simulate-words [] = tt
simulate-words (j ∷ []) = tt
simulate-words (j ∷ (s ∷ [])) = tt
simulate-words (j ∷ (s ∷ (c ∷ []))) = named j (simulate_by s c) (simulate-by s c)
simulate-words (j ∷ (s ∷ (c ∷ (w ∷ ws)))) = tt

gen-by : (seed stages reservoirs : List ℕ) → IfSome (gen_by seed stages reservoirs) IsWithin
unfolding gen_by
gen-by seed stages reservoirs = and_then (λ _. Unit {0}) IsWithin (number_of seed) (λ s. option_and_then (λ t. option_and_then (λ r. Some (Gen s t r)) (number_within 1 10 reservoirs)) (number_within 1 500 stages)) (anything (number_of seed)) (λ s u.
    and_then (λ k. (1 ≤ k) × (k ≤ 500)) IsWithin (number_within 1 500 stages) (λ t. option_and_then (λ r. Some (Gen s t r)) (number_within 1 10 reservoirs)) (number_in 1 500 stages) (λ t e.
    and_then (λ k. (1 ≤ k) × (k ≤ 10)) IsWithin (number_within 1 10 reservoirs) (λ r. Some (Gen s t r)) (number_in 1 10 reservoirs) (λ r f. (e.0, e.1, f.0, f.1))))

gen-words : (ws : List (List ℕ)) → IfSome (gen ws) IsWithin
gen-words [] = tt
gen-words (s ∷ []) = tt
gen-words (s ∷ (t ∷ [])) = tt
gen-words (s ∷ (t ∷ (r ∷ []))) = gen-by s t r
gen-words (s ∷ (t ∷ (r ∷ (w ∷ ws)))) = tt

alone-words : (c : Command) (ws : List (List ℕ)) → IsWithin c → IfSome (alone c ws) IsWithin
alone-words c [] h = h
alone-words c (w ∷ ws) h = tt

journal-words : (c : Command) (ws : List (List ℕ)) → IsWithin c → IfSome (on_journal c ws) IsWithin
journal-words c [] h = tt
journal-words c (j ∷ []) h = named j (Some c) h
journal-words c (j ∷ (w ∷ ws)) h = tt

pub by-word : (word : List ℕ) (ws : List (List ℕ)) → IfSome (command_by word ws) IsWithin
unfolding command_by
by-word word ws =
    let r8 : Option Command = if bytes_eq word (codes "robust") then on_journal Robust ws else None in
    let h8 : IfSome r8 IsWithin = either IsWithin (bytes_eq word (codes "robust")) (on_journal Robust ws) None (journal-words Robust ws tt) tt in
    let r7 : Option Command = if bytes_eq word (codes "hydro") then alone Hydro ws else r8 in
    let h7 : IfSome r7 IsWithin = either IsWithin (bytes_eq word (codes "hydro")) (alone Hydro ws) r8 (alone-words Hydro ws tt) h8 in
    let r6 : Option Command = if bytes_eq word (codes "evaluate") then on_journal Evaluate ws else r7 in
    let h6 : IfSome r6 IsWithin = either IsWithin (bytes_eq word (codes "evaluate")) (on_journal Evaluate ws) r7 (journal-words Evaluate ws tt) h7 in
    let r5 : Option Command = if bytes_eq word (codes "gen") then gen ws else r6 in
    let h5 : IfSome r5 IsWithin = either IsWithin (bytes_eq word (codes "gen")) (gen ws) r6 (gen-words ws) h6 in
    let r4 : Option Command = if bytes_eq word (codes "validate") then on_journal Validate ws else r5 in
    let h4 : IfSome r4 IsWithin = either IsWithin (bytes_eq word (codes "validate")) (on_journal Validate ws) r5 (journal-words Validate ws tt) h5 in
    let r3 : Option Command = if bytes_eq word (codes "simulate") then simulate ws else r4 in
    let h3 : IfSome r3 IsWithin = either IsWithin (bytes_eq word (codes "simulate")) (simulate ws) r4 (simulate-words ws) h4 in
    let r2 : Option Command = if bytes_eq word (codes "check") then on_journal Check ws else r3 in
    let h2 : IfSome r2 IsWithin = either IsWithin (bytes_eq word (codes "check")) (on_journal Check ws) r3 (journal-words Check ws tt) h3 in
    let r1 : Option Command = if bytes_eq word (codes "train") then train ws else r2 in
    let h1 : IfSome r1 IsWithin = either IsWithin (bytes_eq word (codes "train")) (train ws) r2 (train-words ws) h2 in
    let r0 : Option Command = if bytes_eq word (codes "base") then alone Base ws else r1 in
    let h0 : IfSome r0 IsWithin = either IsWithin (bytes_eq word (codes "base")) (alone Base ws) r1 (alone-words Base ws tt) h1 in
    h0

pub numbers_within : (ws : List (List ℕ)) → IfSome (command_of ws) IsWithin
unfolding command_of
numbers_within [] = tt
numbers_within (w ∷ ws) = by-word w ws
