-- A text that is spelled is read again, whatever follows it.
use Rattle.std.proofs.Common.{◌≡◌, ℕ, suc, ◌^◌, ◌<◌, ◌≤◌, ◌==◌, ℤ, Bool, true, ◌&&◌, List, [], ◌∷◌, ◌++◌, length, Option, Some, None, Result, Ok, refl, sym, ap, subst, ◌∙◌, append_assoc, arith}
use Rattle.std.specs.Prelude.{FitsSigned, nat_lt, nat_le}
use Rattle.std.specs.List.{flat_map, AllByRecursion}
use Rattle.std.specs.Int.{w16, w32, w64, to_be_bytes, cast_signed, cast_unsigned}
use Rattle.std.proofs.lemmas.Bool.Decides.{nat_tests}
use Rattle.std.proofs.lemmas.Int.{to_z-of_z}
use Rattle.std.proofs.lemmas.List.{append-nil}
use Rattle.std.proofs.lemmas.List.Concat.{flat_map-cons}
use Rattle.std.proofs.Math.Facts.{Fits-of_z}
use Rattle.base_num.proofs.Tests.{and_first, and_second}
use Rattle.problem.specs.Validated.{Validated}
use Rattle.theory.specs.declared.cut.Certificate.{Certificate}
use Rattle.cut_pool.specs.declared.entry.Entry.{Entry}
use Rattle.cut_pool.specs.declared.entry.EntryStep.{EntryStep}
use Rattle.journal_record.specs.declared.sizes.Sizes.{Sizes}
use Rattle.journal_record.specs.Spelling.{row_text, pair_text, pairs_text, certificate_text, step_text, entry_text, spell}
use Rattle.journal_record.specs.Shape.{sizes_of, may_stand, is_path_backwards, SuitsSizes, StepSuits, Writable, PairFits, PairsFit, CertificateFits, StepFits, EntryFits, IsBatch}
use Rattle.journal_record.specs.Reading.{many, read_row_at, pair_at, pairs_at, certificate_at, entry_node_at, entry_step_at, entry_steps_at, iteration_at, count_at, entry_at, entries_at}
use Rattle.journal_record.proofs.Taken.{is_node}
use Rattle.journal_record.proofs.Fields.{wide16, wide32, wide64, number_again}

pub many_again : {A : Type 0} (field : List ℕ → Result (A × List ℕ) ℕ) (text : A → List ℕ) (P : A → Type 0)
    → ((x : A) (tail : List ℕ) → P x → field (text x ++ tail) ≡ Ok (x, tail))
    → (xs : List A) (tail : List ℕ) → AllByRecursion P xs → many field (length xs) (flat_map text xs ++ tail) ≡ Ok (xs, tail)
unfolding many
many_again field text P each [] tail fits = refl
many_again field text P each (x ∷ xs) tail fits =
    let regrouped : flat_map text (x ∷ xs) ++ tail ≡ text x ++ (flat_map text xs ++ tail) = ap (λ (t : List ℕ). t ++ tail) (flat_map-cons text x xs) ∙ append_assoc (text x) (flat_map text xs) tail in
    ap (many field (suc (length xs))) regrouped ∙ rw (each x (flat_map text xs ++ tail) fits.0, many_again field text P each xs tail fits.1) refl

-- many fields, where the count is told otherwise
many_of : {A : Type 0} (field : List ℕ → Result (A × List ℕ) ℕ) (text : A → List ℕ) (P : A → Type 0)
    → ((x : A) (tail : List ℕ) → P x → field (text x ++ tail) ≡ Ok (x, tail))
    → (n : ℕ) (xs : List A) (tail : List ℕ) → length xs ≡ n → AllByRecursion P xs → many field n (flat_map text xs ++ tail) ≡ Ok (xs, tail)
many_of {A} field text P each n xs tail count fits =
    let found : Result (List A × List ℕ) ℕ = Ok (xs, tail) in
    subst (λ (k : ℕ). many field k (flat_map text xs ++ tail) ≡ found) count (many_again field text P each xs tail fits)

row_again : (z : ℤ) (tail : List ℕ) → FitsSigned w64 z → read_row_at (row_text z ++ tail) ≡ Ok (z, tail)
unfolding read_row_at
row_again z tail fits =
    let back : cast_signed w64 (cast_unsigned w64 z) ≡ z = to_z-of_z w64 z fits in
    let small : cast_unsigned w64 z < 2 ^ 64 = (Fits-of_z fits).fits in
    rw (number_again w64 (2 ^ 64) wide64 (cast_unsigned w64 z) tail small) (ap (λ (y : ℤ). Ok (y, tail)) back)

pair_again : (q : ℕ × ℕ) (tail : List ℕ) → PairFits q → pair_at (pair_text q ++ tail) ≡ Ok (q, tail)
unfolding pair_at
pair_again q tail fits =
    let regrouped : pair_text q ++ tail ≡ to_be_bytes w32 q.0 ++ (to_be_bytes w64 q.1 ++ tail) = append_assoc (to_be_bytes w32 q.0) (to_be_bytes w64 q.1) tail in
    ap pair_at regrouped ∙ rw (number_again w32 (2 ^ 32) wide32 q.0 (to_be_bytes w64 q.1 ++ tail) fits.0, number_again w64 (2 ^ 64) wide64 q.1 tail fits.1) refl

pairs_again : (qs : List (ℕ × ℕ)) (tail : List ℕ) → PairsFit qs → pairs_at (pairs_text qs ++ tail) ≡ Ok (qs, tail)
unfolding pairs_at
pairs_again qs tail fits =
    let regrouped : pairs_text qs ++ tail ≡ to_be_bytes w32 (length qs) ++ (flat_map pair_text qs ++ tail) = append_assoc (to_be_bytes w32 (length qs)) (flat_map pair_text qs) tail in
    ap pairs_at regrouped ∙ rw (number_again w32 (2 ^ 32) wide32 (length qs) (flat_map pair_text qs ++ tail) fits.0) (many_again pair_at pair_text PairFits pair_again qs tail fits.1)

certificate_again : (z : Sizes) (c : Certificate) (tail : List ℕ) → SuitsSizes z c × CertificateFits c → certificate_at z (certificate_text c ++ tail) ≡ Ok (c, tail)
unfolding certificate_at
certificate_again z c tail fits =
    let regrouped : certificate_text c ++ tail ≡ flat_map row_text c.rows ++ (flat_map pairs_text c.cuts ++ tail) = append_assoc (flat_map row_text c.rows) (flat_map pairs_text c.cuts) tail in
    let rows = many_of read_row_at row_text (λ y. FitsSigned w64 y) row_again z.rows c.rows (flat_map pairs_text c.cuts ++ tail) fits.0.rows fits.1.rows in
    let cuts = many_of pairs_at pairs_text PairsFit pairs_again z.successors c.cuts tail fits.0.cuts fits.1.cuts in
    ap (certificate_at z) regrouped ∙ rw (rows, cuts) refl

pub all_both : {A : Type 0} (P Q : A → Type 0) (xs : List A) → AllByRecursion P xs → AllByRecursion Q xs → AllByRecursion (λ x. P x × Q x) xs
all_both P Q [] h k = tt
all_both P Q (x ∷ xs) h k = ((h.0, k.0), all_both P Q xs h.1 k.1)

node_again : (p : Validated) (before : Option ℕ) (last : Bool) (m : ℕ) (tail : List ℕ) → m < 2 ^ 16 → may_stand p before last m ≡ true → entry_node_at p before last (to_be_bytes w16 m ++ tail) ≡ Ok (m, tail)
unfolding entry_node_at
node_again p before last m tail small stands = rw (number_again w16 (2 ^ 16) wide16 m tail small, stands) refl

step_again : (p : Validated) (before : Option ℕ) (last : Bool) (s : EntryStep) (tail : List ℕ) → s.node < 2 ^ 16 → may_stand p before last s.node ≡ true → StepSuits p s → StepFits s → entry_step_at p before last (step_text s ++ tail) ≡ Ok (s, tail)
unfolding entry_step_at
step_again p before last s tail small stands suits fits =
    let z = sizes_of p s.node in
    let regrouped : step_text s ++ tail ≡ to_be_bytes w16 s.node ++ (flat_map certificate_text s.list ++ tail) = append_assoc (to_be_bytes w16 s.node) (flat_map certificate_text s.list) tail in
    let list = many_of (certificate_at z) certificate_text (λ c. SuitsSizes z c × CertificateFits c) (certificate_again z) z.realizations s.list tail suits.count (all_both (SuitsSizes z) CertificateFits s.list suits.each fits) in
    ap (entry_step_at p before last) regrouped ∙ rw (node_again p before last s.node (flat_map certificate_text s.list ++ tail) small stands, list) refl

steps_again : (p : Validated) → length p.parts.nodes ≤ 2 ^ 16 → (before : Option ℕ) (ss : List EntryStep) (tail : List ℕ) → is_path_backwards p before ss ≡ true → AllByRecursion (StepSuits p) ss → AllByRecursion StepFits ss
    → entry_steps_at p before (length ss) (flat_map step_text ss ++ tail) ≡ Ok (ss, tail)
unfolding entry_steps_at
steps_again p few before [] tail path suits fits = refl
steps_again p few before (s ∷ ss) tail path suits fits =
    let stands : may_stand p before (length ss == 0) s.node ≡ true = and_first (may_stand p before (length ss == 0) s.node) (is_path_backwards p (Some s.node) ss) path in
    let later : is_path_backwards p (Some s.node) ss ≡ true = and_second (may_stand p before (length ss == 0) s.node) (is_path_backwards p (Some s.node) ss) path in
    let known : s.node < length p.parts.nodes = is_node p before (length ss == 0) s.node stands in
    let regrouped : flat_map step_text (s ∷ ss) ++ tail ≡ step_text s ++ (flat_map step_text ss ++ tail) = ap (λ (t : List ℕ). t ++ tail) (flat_map-cons step_text s ss) ∙ append_assoc (step_text s) (flat_map step_text ss) tail in
    ap (entry_steps_at p before (suc (length ss))) regrouped
    ∙ rw (step_again p before (length ss == 0) s (flat_map step_text ss ++ tail) (omega arith) stands suits.0 fits.0, steps_again p few (Some s.node) ss tail later suits.1 fits.1) refl

iteration_again : (k : ℕ) (tail : List ℕ) → k < 2 ^ 32 → iteration_at k (to_be_bytes w32 k ++ tail) ≡ Ok (k, tail)
unfolding iteration_at
iteration_again k tail small =
    let same : (k == k) ≡ true = grind (arith, nat_tests) in
    rw (number_again w32 (2 ^ 32) wide32 k tail small, same) refl

count_again : (p : Validated) (n : ℕ) (tail : List ℕ) → p.longest < 2 ^ 16 → 0 < n → n ≤ p.longest → count_at p (to_be_bytes w16 n ++ tail) ≡ Ok (n, tail)
unfolding count_at
count_again p n tail small some few =
    let passes : (nat_lt 0 n && nat_le n p.longest) ≡ true = grind (arith, nat_tests) in
    rw (number_again w16 (2 ^ 16) wide16 n tail (omega arith), passes) refl

-- facts about the sizes of a problem
pub record IsSmall (p : Validated) : Type 0 where
  pub nodes : length p.parts.nodes ≤ 2 ^ 16
  pub longest : p.longest < 2 ^ 16

entry_again : (p : Validated) → IsSmall p → (wanted : ℕ) (e : Entry) (tail : List ℕ) → length e.steps ≤ p.longest → e.iteration ≡ wanted → Writable p e → EntryFits e → entry_at p wanted (entry_text e ++ tail) ≡ Ok (e, tail)
unfolding entry_at
entry_again p small wanted e tail few same suits fits =
    let steps = flat_map step_text e.steps in
    let count = to_be_bytes w16 (length e.steps) in
    let unanswered = to_be_bytes w32 e.unanswered in
    let iteration = to_be_bytes w32 e.iteration in
    let regrouped : entry_text e ++ tail ≡ iteration ++ (unanswered ++ (count ++ (steps ++ tail)))
    = append_assoc iteration (unanswered ++ count ++ steps) tail ∙ ap (λ (t : List ℕ). iteration ++ t) (append_assoc unanswered (count ++ steps) tail ∙ ap (λ (t : List ℕ). unanswered ++ t) (append_assoc count steps tail)) in
    let first : iteration_at wanted (iteration ++ (unanswered ++ (count ++ (steps ++ tail)))) ≡ Ok (e.iteration, unanswered ++ (count ++ (steps ++ tail)))
    = subst (λ (k : ℕ). iteration_at k (iteration ++ (unanswered ++ (count ++ (steps ++ tail)))) ≡ Ok (e.iteration, unanswered ++ (count ++ (steps ++ tail)))) same (iteration_again e.iteration (unanswered ++ (count ++ (steps ++ tail))) fits.iteration) in
    ap (entry_at p wanted) regrouped
    ∙ rw (first, number_again w32 (2 ^ 32) wide32 e.unanswered (count ++ (steps ++ tail)) fits.unanswered, count_again p (length e.steps) (steps ++ tail) small.longest suits.some_step few, steps_again p small.nodes None e.steps tail suits.path suits.steps fits.steps) refl

-- Entries that can be written are read again from their text.
pub entries_again : (p : Validated) → IsSmall p → ((e : Entry) → Writable p e → length e.steps ≤ p.longest) → (wanted count : ℕ) (es : List Entry) → IsBatch p wanted count es → entries_at p wanted count (spell es) ≡ Ok es
unfolding entries_at
entries_again p small few wanted count es batch =
    let all = all_both (λ (e : Entry). e.iteration ≡ wanted) (λ e. Writable p e × EntryFits e) es batch.same (all_both (Writable p) EntryFits es batch.each batch.numbers) in
    let each : (e : Entry) (tail : List ℕ) → (e.iteration ≡ wanted) × (Writable p e × EntryFits e) → entry_at p wanted (entry_text e ++ tail) ≡ Ok (e, tail)
    = λ e tail h. entry_again p small wanted e tail (few e h.1.0) h.0 h.1.0 h.1.1 in
    let read : many (entry_at p wanted) count (spell es) ≡ Ok (es, []) = ap (many (entry_at p wanted) count) (sym (append-nil (spell es))) ∙ many_of (entry_at p wanted) entry_text (λ e. (e.iteration ≡ wanted) × (Writable p e × EntryFits e)) each count es [] batch.counted all in
    rw read refl
