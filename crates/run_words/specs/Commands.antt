-- The words of the command line, as their bytes, and the commands that they ask for.
use Rattle.std.specs.Prelude.{ℕ, ◌&&◌, ◌==◌, List, [], ◌∷◌, length, map, codes, string_bytes, String, Option, Some, None, option_and_then, nat_le, if◌then◌else◌}
use Rattle.std.specs.declared.alloc.Global.{Global}
use Rattle.std.specs.Str.{bytes_eq}
use Rattle.base_num.specs.Numerals.{number_of}
use Rattle.run_words.specs.declared.command.Command.{Command}
use Rattle.run_words.specs.declared.command.Command.TheVariants.{Base, Train, Check, Simulate, Validate, Gen, Evaluate, Hydro, Robust}

-- the number, where it is from `least` to `most`
abbrev pub if_within : ℕ → ℕ → ℕ → Option ℕ
if_within least most n = if nat_le least n && nat_le n most then Some n else None

-- the number that the word spells, from `least` to `most`
unfoldable pub number_within : ℕ → ℕ → List ℕ → Option ℕ
number_within least most word = option_and_then (if_within least most) (number_of word)

-- a command without further words
abbrev pub alone : Command → List (List ℕ) → Option Command
alone c [] = Some c
alone c (w ∷ ws) = None

-- where the word names a journal: it is not empty
abbrev pub if_named : List ℕ → Option Command → Option Command
if_named journal c = if length journal == 0 then None else c

-- JOURNAL
abbrev pub on_journal : Command → List (List ℕ) → Option Command
on_journal c [] = None
on_journal c (journal ∷ []) = if_named journal (Some c)
on_journal c (journal ∷ (w ∷ ws)) = None

-- SEED COUNT, and perhaps BATCH
unfoldable pub train_by : List ℕ → List ℕ → Option ℕ → Option Command
train_by seed count batch =
    option_and_then (λ s. option_and_then (λ n. Some (Train s n batch)) (number_within 0 2000 count)) (number_of seed)

unfoldable pub train_in_batches : List ℕ → List ℕ → List ℕ → Option Command
train_in_batches seed count batch = option_and_then (λ b. train_by seed count (Some b)) (number_within 1 64 batch)

-- JOURNAL SEED COUNT, or JOURNAL SEED COUNT BATCH
abbrev pub train : List (List ℕ) → Option Command
train (journal ∷ (seed ∷ (count ∷ []))) = if_named journal (train_by seed count None)
train (journal ∷ (seed ∷ (count ∷ (batch ∷ [])))) = if_named journal (train_in_batches seed count batch)
train ws = None

-- JOURNAL SEED COUNT
unfoldable pub simulate_by : List ℕ → List ℕ → Option Command
simulate_by seed count = option_and_then (λ s. option_and_then (λ n. Some (Simulate s n)) (number_within 0 1000 count)) (number_of seed)

abbrev pub simulate : List (List ℕ) → Option Command
simulate (journal ∷ (seed ∷ (count ∷ []))) = if_named journal (simulate_by seed count)
simulate ws = None

-- SEED STAGES RESERVOIRS
unfoldable pub gen_by : List ℕ → List ℕ → List ℕ → Option Command
gen_by seed stages reservoirs =
    option_and_then (λ s. option_and_then (λ t. option_and_then (λ r. Some (Gen s t r)) (number_within 1 10 reservoirs)) (number_within 1 500 stages)) (number_of seed)

abbrev pub gen : List (List ℕ) → Option Command
gen (seed ∷ (stages ∷ (reservoirs ∷ []))) = gen_by seed stages reservoirs
gen ws = None

-- the command of a first word and the words behind it
unfoldable pub command_by : List ℕ → List (List ℕ) → Option Command
command_by word ws =
    if bytes_eq word (codes "base") then alone Base ws
    else if bytes_eq word (codes "train") then train ws
    else if bytes_eq word (codes "check") then on_journal Check ws
    else if bytes_eq word (codes "simulate") then simulate ws
    else if bytes_eq word (codes "validate") then on_journal Validate ws
    else if bytes_eq word (codes "gen") then gen ws
    else if bytes_eq word (codes "evaluate") then on_journal Evaluate ws
    else if bytes_eq word (codes "hydro") then alone Hydro ws
    else if bytes_eq word (codes "robust") then on_journal Robust ws
    else None

-- the command that the words are, none where they are of none of its forms
unfoldable pub command_of : List (List ℕ) → Option Command
command_of [] = None
command_of (word ∷ ws) = command_by word ws

-- the words as their bytes
abbrev pub texts : List (String Global) → List (List ℕ)
texts words = map string_bytes words
