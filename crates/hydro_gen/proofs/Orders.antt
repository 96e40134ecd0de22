-- The names of nodes and of reservoirs' quantities rise with their numbers.
use Rattle.std.proofs.Common.{◌≡◌, ℕ, ◌+◌, ◌/◌, ◌<◌, ◌≤◌, List, [], ◌∷◌, Less, Greater, nat_cmp, refl, ◌∙◌, arith}
use Rattle.std.specs.Cmp.Lexicographic.{slice_cmp}
use Rattle.std.proofs.lemmas.Bool.{cases_lt}
use Rattle.serde_json.specs.Data.{Data, Members, no_members, member, put}
use Rattle.hydro_form.specs.Listed.{members_from}
use Rattle.hydro_form.proofs.Counted.{put_next}
use Rattle.hydro_form.proofs.Orders.{first_less, later_less, two_digits, three_digits, above_from_below}
use Rattle.hydro_form.specs.Listed.{digit}
use Rattle.hydro_gen.specs.Names.{reservoir_name, generated_node_name, stage_number, kind_of}

pub reservoirs_rise : (letter j k : ℕ) → j < k → k < 10 → slice_cmp nat_cmp (reservoir_name (letter ∷ []) j) (reservoir_name (letter ∷ []) k) ≡ Less
unfolding reservoir_name
reservoirs_rise letter j k h few =
    later_less letter letter (digit ((j + 1) / 10) ∷ digit (j + 1) ∷ []) (digit ((k + 1) / 10) ∷ digit (k + 1) ∷ []) refl
    (two_digits (digit ((j + 1) / 10)) (digit (j + 1)) (digit ((k + 1) / 10)) (digit (k + 1)) (cases_lt _ _) (omega arith) (λ e. omega arith))

-- the last digits of s and t, where their other digits are the same
tail_rise : (s t x y : ℕ) → s ≤ t → t < 1000 → (s ≡ t → x < y) → digit (t / 100) ≤ digit (s / 100) → digit (t / 10) ≤ digit (s / 10) → digit t ≤ digit s → s ≡ t
tail_rise s t x y h few later e1 e2 e3 = omega arith

digits_rise : (s t x y : ℕ) → s ≤ t → t < 1000 → x < 10 → y < 10 → (s ≡ t → x < y)
    → slice_cmp nat_cmp (digit (s / 100) ∷ digit (s / 10) ∷ digit s ∷ 119 ∷ digit x ∷ []) (digit (t / 100) ∷ digit (t / 10) ∷ digit t ∷ 119 ∷ digit y ∷ []) ≡ Less
digits_rise s t x y h few fx fy later =
    three_digits (digit (s / 100)) (digit (s / 10)) (digit s) (digit (t / 100)) (digit (t / 10)) (digit t) (119 ∷ digit x ∷ []) (119 ∷ digit y ∷ [])
    (cases_lt _ _) (cases_lt _ _) (cases_lt _ _) (omega arith) (λ e. omega arith) (λ e f. omega arith)
    (λ e1 e2 e3. let l : x < y = later (tail_rise s t x y h few later e1 e2 e3) in later_less 119 119 (digit x ∷ []) (digit y ∷ []) refl (first_less (digit x) (digit y) [] [] (omega arith)))

pub nodes_rise : (i j : ℕ) → i < j → j < 1000 → slice_cmp nat_cmp (generated_node_name i) (generated_node_name j) ≡ Less
unfolding generated_node_name
nodes_rise i j h few =
    later_less 115 115 (digit (stage_number i / 100) ∷ digit (stage_number i / 10) ∷ digit (stage_number i) ∷ 119 ∷ digit (kind_of i) ∷ [])
    (digit (stage_number j / 100) ∷ digit (stage_number j / 10) ∷ digit (stage_number j) ∷ 119 ∷ digit (kind_of j) ∷ []) refl
    (digits_rise (stage_number i) (stage_number j) (kind_of i) (kind_of j) (omega arith) (omega arith) (omega arith) (omega arith) (λ e. omega arith))

pub reservoir_above : (letter j k : ℕ) → j < k → k < 10 → slice_cmp nat_cmp (reservoir_name (letter ∷ []) k) (reservoir_name (letter ∷ []) j) ≡ Greater
reservoir_above letter j k h few = above_from_below (reservoir_name (letter ∷ []) j) (reservoir_name (letter ∷ []) k) (reservoirs_rise letter j k h few)

pub node_above : (i j : ℕ) → i < j → j < 1000 → slice_cmp nat_cmp (generated_node_name j) (generated_node_name i) ≡ Greater
node_above i j h few = above_from_below (generated_node_name i) (generated_node_name j) (nodes_rise i j h few)

pub wet_last : (i : ℕ) (d e : Data) → i + 1 < 1000 → put (generated_node_name (i + 1)) e (put (generated_node_name i) d no_members) ≡ member (generated_node_name i) d (member (generated_node_name (i + 1)) e no_members)
wet_last i d e few = rw (node_above i (i + 1) (omega arith) few)

pub reservoir_grown : (letter : ℕ) (value : ℕ → Data) (n : ℕ) (old new : Members) (k : List ℕ) (d : Data) → n < 10 → new ≡ put k d old → k ≡ reservoir_name (letter ∷ []) n → d ≡ value n
    → old ≡ members_from (reservoir_name (letter ∷ [])) value 0 n → new ≡ members_from (reservoir_name (letter ∷ [])) value 0 (n + 1)
reservoir_grown letter value n old new k d few is key here before =
    is ∙ rw (key, here, before) (put_next (reservoir_name (letter ∷ [])) value n (λ j h. reservoir_above letter j n h few))

pub node_grown : (value : ℕ → Data) (n : ℕ) (old new : Members) (k : List ℕ) (d : Data) → n < 1000 → new ≡ put k d old → k ≡ generated_node_name n → d ≡ value n
    → old ≡ members_from generated_node_name value 0 n → new ≡ members_from generated_node_name value 0 (n + 1)
node_grown value n old new k d few is key here before = is ∙ rw (key, here, before) (put_next generated_node_name value n (λ j h. node_above j n h few))

pub pair_put : (i : ℕ) (d e : Data) (old first both : Members) (k l : List ℕ) (c b : Data) → i + 1 < 1000 → old ≡ no_members → first ≡ put k c old → both ≡ put l b first → k ≡ generated_node_name i → l ≡ generated_node_name (i + 1) → c ≡ d → b ≡ e
    → both ≡ member (generated_node_name i) d (member (generated_node_name (i + 1)) e no_members)
pair_put i d e old first both k l c b few none one two dry wet is_d is_e = two ∙ rw (one, none, dry, wet, is_d, is_e) (wet_last i d e few)
