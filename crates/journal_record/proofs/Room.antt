-- Entries whose text has at most 2^26 bytes have room in its fields.
use Rattle.std.proofs.Common.{◌≡◌, ℕ, ◌+◌, ◌^◌, ◌<◌, ◌≤◌, ◌==◌, true, List, [], ◌∷◌, ◌++◌, length, All, Option, Some, None, arith, ap, ◌∙◌}
use Rattle.std.specs.List.{flat_map, AllByRecursion}
use Rattle.std.specs.Int.{w16, w32, w64, to_be_bytes}
use Rattle.std.proofs.lemmas.List.{length-append}
use Rattle.std.proofs.lemmas.List.Concat.{flat_map-cons}
use Rattle.std.proofs.lemmas.List.Elements.{All-from_recursion}
use Rattle.base_num.proofs.Tests.{and_first, and_second}
use Rattle.problem.specs.Validated.{Validated, is_validated}
use Rattle.theory.specs.declared.cut.Certificate.{Certificate}
use Rattle.cut_pool.specs.declared.entry.Entry.{Entry}
use Rattle.cut_pool.specs.declared.entry.EntryStep.{EntryStep}
use Rattle.journal_record.specs.Spelling.{row_text, pair_text, pairs_text, certificate_text, step_text, entry_text, spell}
use Rattle.journal_record.specs.Shape.{may_stand, is_path_backwards, Writable, CountsFit, NodeFits, StepsFit}
use Rattle.journal_record.proofs.Taken.{is_node}
use Rattle.journal_record.proofs.Again.{IsSmall}
use Rattle.journal_record.proofs.LongestPath.{path_length, is_small}

pub all_weaker : {A : Type 0} (P Q : A → Type 0) → ((x : A) → P x → Q x) → (xs : List A) → AllByRecursion P xs → AllByRecursion Q xs
all_weaker P Q f [] h = tt
all_weaker P Q f (x ∷ xs) h = (f x h.0, all_weaker P Q f xs h.1)

-- each part is no longer than the whole
parts : {A : Type 0} (text : A → List ℕ) (n : ℕ) (xs : List A) → length (flat_map text xs) ≤ n → AllByRecursion (λ x. length (text x) ≤ n) xs
parts text n [] h = tt
parts text n (x ∷ xs) h =
    let e : length (flat_map text (x ∷ xs)) ≡ length (text x) + length (flat_map text xs) = ap length (flat_map-cons text x xs) ∙ length-append (text x) (flat_map text xs) in
    (omega (arith, e, h), parts text n xs (omega (arith, e, h)))

pairs_count : (qs : List (ℕ × ℕ)) → length qs ≤ length (flat_map pair_text qs)
pairs_count [] = omega arith
pairs_count (q ∷ qs) =
    let e : length (flat_map pair_text (q ∷ qs)) ≡ length (pair_text q) + length (flat_map pair_text qs) = ap length (flat_map-cons pair_text q qs) ∙ length-append (pair_text q) (flat_map pair_text qs) in
    let some : 1 ≤ length (pair_text q) = omega (arith, length-append (to_be_bytes w32 q.0) (to_be_bytes w64 q.1)) in
    omega (arith, e, some, pairs_count qs)

pairs_room : (qs : List (ℕ × ℕ)) → length (pairs_text qs) ≤ 2 ^ 26 → length qs < 2 ^ 32
pairs_room qs h = omega (arith, h, length-append (to_be_bytes w32 (length qs)) (flat_map pair_text qs), pairs_count qs)

certificate_room : (c : Certificate) → length (certificate_text c) ≤ 2 ^ 26 → CountsFit c
certificate_room c h =
    let cuts : length (flat_map pairs_text c.cuts) ≤ 2 ^ 26 = omega (arith, h, length-append (flat_map row_text c.rows) (flat_map pairs_text c.cuts)) in
    All-from_recursion (λ (qs : List (ℕ × ℕ)). length qs < 2 ^ 32) c.cuts (all_weaker (λ (qs : List (ℕ × ℕ)). length (pairs_text qs) ≤ 2 ^ 26) (λ qs. length qs < 2 ^ 32) pairs_room c.cuts (parts pairs_text (2 ^ 26) c.cuts cuts))

step_room : (s : EntryStep) → s.node < 2 ^ 16 → length (step_text s) ≤ 2 ^ 26 → NodeFits s
step_room s small h =
    let list : length (flat_map certificate_text s.list) ≤ 2 ^ 26 = omega (arith, h, length-append (to_be_bytes w16 s.node) (flat_map certificate_text s.list)) in
    record {
      node = small;
      counts = All-from_recursion CountsFit s.list (all_weaker (λ (c : Certificate). length (certificate_text c) ≤ 2 ^ 26) CountsFit certificate_room s.list (parts certificate_text (2 ^ 26) s.list list));
    }

steps_room : (p : Validated) → IsSmall p → (before : Option ℕ) (ss : List EntryStep) → is_path_backwards p before ss ≡ true → length (flat_map step_text ss) ≤ 2 ^ 26 → AllByRecursion NodeFits ss
steps_room p small before [] path h = tt
steps_room p small before (s ∷ ss) path h =
    let e : length (flat_map step_text (s ∷ ss)) ≡ length (step_text s) + length (flat_map step_text ss) = ap length (flat_map-cons step_text s ss) ∙ length-append (step_text s) (flat_map step_text ss) in
    let stands : may_stand p before (length ss == 0) s.node ≡ true = and_first (may_stand p before (length ss == 0) s.node) (is_path_backwards p (Some s.node) ss) path in
    let later : is_path_backwards p (Some s.node) ss ≡ true = and_second (may_stand p before (length ss == 0) s.node) (is_path_backwards p (Some s.node) ss) path in
    let known : s.node < length p.parts.nodes = is_node p before (length ss == 0) s.node stands in
    let few : length p.parts.nodes ≤ 2 ^ 16 = small.nodes in
    (step_room s (omega (arith, known, few)) (omega (arith, e, h)), steps_room p small (Some s.node) ss later (omega (arith, e, h)))

pub entry_room : (p : Validated) → is_validated p ≡ true → (e : Entry) → Writable p e → length (entry_text e) ≤ 2 ^ 26 → StepsFit e
entry_room p validated e fits h =
    let count = to_be_bytes w16 (length e.steps) in
    let steps = flat_map step_text e.steps in
    let unanswered = to_be_bytes w32 e.unanswered in
    let iteration = to_be_bytes w32 e.iteration in
    let small : length steps ≤ 2 ^ 26 = omega (arith, h, length-append iteration (unanswered ++ count ++ steps), length-append unanswered (count ++ steps), length-append count steps) in
    let limit : p.longest < 2 ^ 16 = (is_small p validated).longest in
    record {
      count = omega (arith, limit, path_length p validated e.steps fits.path);
      each = All-from_recursion NodeFits e.steps (steps_room p (is_small p validated) None e.steps fits.path small);
    }

-- Entries that a problem can have and whose text has at most 2^26 bytes have room.
pub entries_room : (p : Validated) → is_validated p ≡ true → (es : List Entry) → AllByRecursion (Writable p) es → length (spell es) ≤ 2 ^ 26 → All StepsFit es
entries_room p validated es fits h = All-from_recursion StepsFit es (each es fits (parts entry_text (2 ^ 26) es h))
  where
    each : (xs : List Entry) → AllByRecursion (Writable p) xs → AllByRecursion (λ e. length (entry_text e) ≤ 2 ^ 26) xs → AllByRecursion StepsFit xs
    each [] f k = tt
    each (x ∷ xs) f k = (entry_room p validated x f.0 k.0, each xs f.1 k.1)
