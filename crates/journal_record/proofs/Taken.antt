-- The bytes that are read are the text of the entries.
use Rattle.std.proofs.Common.{◌≡◌, ℕ, zero, suc, ◌^◌, ◌<◌, ◌≤◌, ◌==◌, ℤ, Bool, true, ◌&&◌, ◌||◌, not, cond, List, [], ◌∷◌, ◌++◌, length, Option, Some, None, Result, Ok, Err, refl, sym, ap, subst, ◌∙◌, arith}
use Rattle.std.specs.Prelude.{FitsSigned, nat_lt, nat_le}
use Rattle.std.specs.List.{flat_map, AllByRecursion}
use Rattle.std.specs.Int.{w16, w32, w64, to_be_bytes, cast_signed}
use Rattle.std.proofs.lemmas.Bool.{eqb-true}
use Rattle.std.proofs.lemmas.Bool.Decides.{nat_tests}
use Rattle.std.proofs.lemmas.Int.{of_z-to_z}
use Rattle.std.proofs.lemmas.List.{append-nil, nil_from_length}
use Rattle.std.proofs.lemmas.List.Concat.{flat_map-cons}
use Rattle.base_num.proofs.Tests.{and_first, both}
use borrow.Author.Gap.{read_sfits}
use Rattle.problem.specs.Validated.{Validated}
use Rattle.theory.specs.declared.cut.Certificate.{Certificate}
use Rattle.cut_pool.specs.declared.entry.Entry.{Entry}
use Rattle.cut_pool.specs.declared.entry.EntryStep.{EntryStep}
use Rattle.journal_record.specs.declared.sizes.Sizes.{Sizes}
use Rattle.journal_record.specs.Spelling.{row_text, pair_text, pairs_text, certificate_text, step_text, entry_text, spell}
use Rattle.journal_record.specs.Shape.{sizes_of, leads_on, is_among, may_stand, is_path_backwards, SuitsSizes, StepSuits, Writable, PairFits, PairsFit, CertificateFits, StepFits, EntryFits, IsBatch}
use Rattle.journal_record.specs.Reading.{◌>>=◌, read_number_at, many, read_row_at, pair_at, pairs_at, certificate_at, entry_node_at, entry_step_at, entry_steps_at, iteration_at, count_at, entry_at, entries_at}
use Rattle.journal_record.proofs.Fields.{IsBytes, bind_ok, ok_is, passed_ok, Takes, Takes-nothing, Takes-then, wide16, wide32, wide64, number_takes}

pub many_take : {A : Type 0} (field : List ℕ → Result (A × List ℕ) ℕ) (text : A → List ℕ) (P : A → Type 0)
    → ((bytes : List ℕ) (x : A × List ℕ) → IsBytes bytes → field bytes ≡ Ok x → Takes bytes (text x.0) x.1 × P x.0)
    → (n : ℕ) (bytes : List ℕ) (x : List A × List ℕ) → IsBytes bytes → many field n bytes ≡ Ok x
    → Takes bytes (flat_map text x.0) x.1 × (length x.0 ≡ n) × AllByRecursion P x.0
unfolding many
many_take {A} field text P each zero bytes x fits e =
    subst (λ (y : List A × List ℕ). Takes bytes (flat_map text y.0) y.1 × (length y.0 ≡ 0) × AllByRecursion P y.0) (ok_is ([], bytes) x e) (Takes-nothing bytes fits, refl, tt)
many_take {A} field text P each (suc n) bytes x fits e =
    let a = bind_ok (field bytes) (λ first. many field n first.1 >>= λ others. Ok (first.0 ∷ others.0, others.1)) x e in
    let b = bind_ok (many field n a.0.1) (λ others. Ok (a.0.0 ∷ others.0, others.1)) x a.2 in
    let first = each bytes a.0 fits a.1 in
    let second = many_take field text P each n a.0.1 b.0 first.0.rest_fits b.1 in
    let taken = Takes-then bytes (text a.0.0) a.0.1 (flat_map text b.0.0) b.0.1 first.0 second.0 in
    let made : List A × List ℕ = (a.0.0 ∷ b.0.0, b.0.1) in
    subst (λ (y : List A × List ℕ). Takes bytes (flat_map text y.0) y.1 × (length y.0 ≡ suc n) × AllByRecursion P y.0) (ok_is made x b.2) (rw flat_map-cons taken, ap suc second.1, (first.1, second.2))

row_takes : (bytes : List ℕ) (x : ℤ × List ℕ) → IsBytes bytes → read_row_at bytes ≡ Ok x → Takes bytes (row_text x.0) x.1 × FitsSigned w64 x.0
unfolding read_row_at
row_takes bytes x fits e =
    let a = bind_ok (read_number_at w64 bytes) (λ n. Ok (cast_signed w64 n.0, n.1)) x e in
    let t = number_takes w64 (2 ^ 64) wide64 bytes a.0.0 a.0.1 fits a.1 in
    let made : ℤ × List ℕ = (cast_signed w64 a.0.0, a.0.1) in
    let same : to_be_bytes w64 a.0.0 ≡ row_text (cast_signed w64 a.0.0) = ap (to_be_bytes w64) (sym (of_z-to_z w64 a.0.0 t.1)) in
    subst (λ (y : ℤ × List ℕ). Takes bytes (row_text y.0) y.1 × FitsSigned w64 y.0) (ok_is made x a.2) (subst (λ (text : List ℕ). Takes bytes text a.0.1) same t.0, read_sfits w64 a.0.0)

pair_takes : (bytes : List ℕ) (x : (ℕ × ℕ) × List ℕ) → IsBytes bytes → pair_at bytes ≡ Ok x → Takes bytes (pair_text x.0) x.1 × PairFits x.0
unfolding pair_at
pair_takes bytes x fits e =
    let a = bind_ok (read_number_at w32 bytes) (λ place. read_number_at w64 place.1 >>= λ multiplier. Ok ((place.0, multiplier.0), multiplier.1)) x e in
    let b = bind_ok (read_number_at w64 a.0.1) (λ multiplier. Ok ((a.0.0, multiplier.0), multiplier.1)) x a.2 in
    let s = number_takes w32 (2 ^ 32) wide32 bytes a.0.0 a.0.1 fits a.1 in
    let t = number_takes w64 (2 ^ 64) wide64 a.0.1 b.0.0 b.0.1 s.0.rest_fits b.1 in
    let made : (ℕ × ℕ) × List ℕ = ((a.0.0, b.0.0), b.0.1) in
    subst (λ (y : (ℕ × ℕ) × List ℕ). Takes bytes (pair_text y.0) y.1 × PairFits y.0) (ok_is made x b.2) (Takes-then bytes (to_be_bytes w32 a.0.0) a.0.1 (to_be_bytes w64 b.0.0) b.0.1 s.0 t.0, (s.1, t.1))

pairs_take : (bytes : List ℕ) (x : List (ℕ × ℕ) × List ℕ) → IsBytes bytes → pairs_at bytes ≡ Ok x → Takes bytes (pairs_text x.0) x.1 × PairsFit x.0
unfolding pairs_at
pairs_take bytes x fits e =
    let a = bind_ok (read_number_at w32 bytes) (λ count. many pair_at count.0 count.1) x e in
    let s = number_takes w32 (2 ^ 32) wide32 bytes a.0.0 a.0.1 fits a.1 in
    let t = many_take pair_at pair_text PairFits pair_takes a.0.0 a.0.1 x s.0.rest_fits a.2 in
    let taken = Takes-then bytes (to_be_bytes w32 a.0.0) a.0.1 (flat_map pair_text x.0) x.1 s.0 t.0 in
    (subst (λ (k : ℕ). Takes bytes (to_be_bytes w32 k ++ flat_map pair_text x.0) x.1) (sym t.1) taken, (omega (arith, s.1, t.1), t.2))

certificate_takes : (z : Sizes) (bytes : List ℕ) (x : Certificate × List ℕ) → IsBytes bytes → certificate_at z bytes ≡ Ok x → Takes bytes (certificate_text x.0) x.1 × (SuitsSizes z x.0 × CertificateFits x.0)
unfolding certificate_at
certificate_takes z bytes x fits e =
    let a = bind_ok (many read_row_at z.rows bytes) (λ rows. many pairs_at z.successors rows.1 >>= λ cuts. Ok (record { rows = rows.0; cuts = cuts.0 }, cuts.1)) x e in
    let b = bind_ok (many pairs_at z.successors a.0.1) (λ cuts. Ok (record { rows = a.0.0; cuts = cuts.0 }, cuts.1)) x a.2 in
    let s = many_take read_row_at row_text (λ r. FitsSigned w64 r) row_takes z.rows bytes a.0 fits a.1 in
    let t = many_take pairs_at pairs_text PairsFit pairs_take z.successors a.0.1 b.0 s.0.rest_fits b.1 in
    let made : Certificate × List ℕ = (record { rows = a.0.0; cuts = b.0.0 }, b.0.1) in
    subst (λ (y : Certificate × List ℕ). Takes bytes (certificate_text y.0) y.1 × (SuitsSizes z y.0 × CertificateFits y.0)) (ok_is made x b.2)
    (Takes-then bytes (flat_map row_text a.0.0) a.0.1 (flat_map pairs_text b.0.0) b.0.1 s.0 t.0, (record { rows = s.1; cuts = t.1 }, record { rows = s.2; cuts = t.2 }))

pub both_all : {A : Type 0} (P Q : A → Type 0) (xs : List A) → AllByRecursion (λ x. P x × Q x) xs → AllByRecursion P xs × AllByRecursion Q xs
both_all P Q [] h = (tt, tt)
both_all P Q (x ∷ xs) h = let tail = both_all P Q xs h.1 in ((h.0.0, tail.0), (h.0.1, tail.1))

-- a node that may stand there is one of the nodes
pub is_node : (p : Validated) (before : Option ℕ) (last : Bool) (m : ℕ) → may_stand p before last m ≡ true → m < length p.parts.nodes
is_node p before last m e =
    let first : nat_lt m (length p.parts.nodes) ≡ true = and_first (nat_lt m (length p.parts.nodes)) (leads_on p m before) (and_first (nat_lt m (length p.parts.nodes) && leads_on p m before) (not last || is_among p.parts.root m) e) in
    grind (arith, nat_tests, first)

node_takes : (p : Validated) (before : Option ℕ) (last : Bool) (bytes : List ℕ) (x : ℕ × List ℕ) → IsBytes bytes → entry_node_at p before last bytes ≡ Ok x → Takes bytes (to_be_bytes w16 x.0) x.1 × (may_stand p before last x.0 ≡ true)
unfolding entry_node_at
node_takes p before last bytes x fits e =
    let a = bind_ok (read_number_at w16 bytes) (λ node. cond (may_stand p before last node.0) (Ok node) (Err (length bytes))) x e in
    let g = passed_ok (may_stand p before last a.0.0) (length bytes) a.0 x a.2 in
    let t = number_takes w16 (2 ^ 16) wide16 bytes a.0.0 a.0.1 fits a.1 in
    subst (λ (y : ℕ × List ℕ). Takes bytes (to_be_bytes w16 y.0) y.1 × (may_stand p before last y.0 ≡ true)) g.1 (t.0, g.0)

-- a node that was read is one of the nodes
pub known_node : (p : Validated) (before : Option ℕ) (last : Bool) (bytes : List ℕ) (x : ℕ × List ℕ) → entry_node_at p before last bytes ≡ Ok x → x.0 < length p.parts.nodes
unfolding entry_node_at
known_node p before last bytes x e =
    let a = bind_ok (read_number_at w16 bytes) (λ node. cond (may_stand p before last node.0) (Ok node) (Err (length bytes))) x e in
    let g = passed_ok (may_stand p before last a.0.0) (length bytes) a.0 x a.2 in
    subst (λ (y : ℕ × List ℕ). y.0 < length p.parts.nodes) g.1 (is_node p before last a.0.0 g.0)

step_takes : (p : Validated) (before : Option ℕ) (last : Bool) (bytes : List ℕ) (x : EntryStep × List ℕ) → IsBytes bytes → entry_step_at p before last bytes ≡ Ok x → Takes bytes (step_text x.0) x.1 × (may_stand p before last x.0.node ≡ true) × StepSuits p x.0 × StepFits x.0
unfolding entry_step_at
step_takes p before last bytes x fits e =
    let a = bind_ok (entry_node_at p before last bytes) (λ node. many (certificate_at (sizes_of p node.0)) (sizes_of p node.0).realizations node.1 >>= λ list. Ok (record { node = node.0; list = list.0 }, list.1)) x e in
    let z = sizes_of p a.0.0 in
    let b = bind_ok (many (certificate_at z) z.realizations a.0.1) (λ list. Ok (record { node = a.0.0; list = list.0 }, list.1)) x a.2 in
    let s = node_takes p before last bytes a.0 fits a.1 in
    let t = many_take (certificate_at z) certificate_text (λ c. SuitsSizes z c × CertificateFits c) (certificate_takes z) z.realizations a.0.1 b.0 s.0.rest_fits b.1 in
    let each = both_all (SuitsSizes z) CertificateFits b.0.0 t.2 in
    let made : EntryStep × List ℕ = (record { node = a.0.0; list = b.0.0 }, b.0.1) in
    subst (λ (y : EntryStep × List ℕ). Takes bytes (step_text y.0) y.1 × (may_stand p before last y.0.node ≡ true) × StepSuits p y.0 × StepFits y.0) (ok_is made x b.2)
    (Takes-then bytes (to_be_bytes w16 a.0.0) a.0.1 (flat_map certificate_text b.0.0) b.0.1 s.0 t.0, s.1, record { count = t.1; each = each.0 }, each.1)

steps_take : (p : Validated) (before : Option ℕ) (n : ℕ) (bytes : List ℕ) (x : List EntryStep × List ℕ) → IsBytes bytes → entry_steps_at p before n bytes ≡ Ok x
    → Takes bytes (flat_map step_text x.0) x.1 × (length x.0 ≡ n) × (is_path_backwards p before x.0 ≡ true) × AllByRecursion (StepSuits p) x.0 × AllByRecursion StepFits x.0
unfolding entry_steps_at
steps_take p before zero bytes x fits e =
    subst (λ (y : List EntryStep × List ℕ). Takes bytes (flat_map step_text y.0) y.1 × (length y.0 ≡ 0) × (is_path_backwards p before y.0 ≡ true) × AllByRecursion (StepSuits p) y.0 × AllByRecursion StepFits y.0) (ok_is ([], bytes) x e) (Takes-nothing bytes fits, refl, refl, tt, tt)
steps_take p before (suc n) bytes x fits e =
    let a = bind_ok (entry_step_at p before (n == 0) bytes) (λ first. entry_steps_at p (Some first.0.node) n first.1 >>= λ others. Ok (first.0 ∷ others.0, others.1)) x e in
    let b = bind_ok (entry_steps_at p (Some a.0.0.node) n a.0.1) (λ others. Ok (a.0.0 ∷ others.0, others.1)) x a.2 in
    let first = step_takes p before (n == 0) bytes a.0 fits a.1 in
    let second = steps_take p (Some a.0.0.node) n a.0.1 b.0 first.0.rest_fits b.1 in
    let taken = Takes-then bytes (step_text a.0.0) a.0.1 (flat_map step_text b.0.0) b.0.1 first.0 second.0 in
    let stands : may_stand p before (length b.0.0 == 0) a.0.0.node ≡ true = subst (λ (k : ℕ). may_stand p before (k == 0) a.0.0.node ≡ true) (sym second.1) first.1 in
    let path : is_path_backwards p before (a.0.0 ∷ b.0.0) ≡ true = both (may_stand p before (length b.0.0 == 0) a.0.0.node) (is_path_backwards p (Some a.0.0.node) b.0.0) stands second.2 in
    let made : List EntryStep × List ℕ = (a.0.0 ∷ b.0.0, b.0.1) in
    subst (λ (y : List EntryStep × List ℕ). Takes bytes (flat_map step_text y.0) y.1 × (length y.0 ≡ suc n) × (is_path_backwards p before y.0 ≡ true) × AllByRecursion (StepSuits p) y.0 × AllByRecursion StepFits y.0) (ok_is made x b.2)
    (rw flat_map-cons taken, ap suc second.1, path, (first.2, second.3), (first.3, second.4))

iteration_takes : (wanted : ℕ) (bytes : List ℕ) (x : ℕ × List ℕ) → IsBytes bytes → iteration_at wanted bytes ≡ Ok x → Takes bytes (to_be_bytes w32 x.0) x.1 × (x.0 < 2 ^ 32) × (x.0 ≡ wanted)
unfolding iteration_at
iteration_takes wanted bytes x fits e =
    let a = bind_ok (read_number_at w32 bytes) (λ n. cond (n.0 == wanted) (Ok n) (Err (length bytes))) x e in
    let g = passed_ok (a.0.0 == wanted) (length bytes) a.0 x a.2 in
    let t = number_takes w32 (2 ^ 32) wide32 bytes a.0.0 a.0.1 fits a.1 in
    subst (λ (y : ℕ × List ℕ). Takes bytes (to_be_bytes w32 y.0) y.1 × (y.0 < 2 ^ 32) × (y.0 ≡ wanted)) g.1 (t.0, t.1, eqb-true _ _ g.0)

count_takes : (p : Validated) (bytes : List ℕ) (x : ℕ × List ℕ) → IsBytes bytes → count_at p bytes ≡ Ok x → Takes bytes (to_be_bytes w16 x.0) x.1 × (0 < x.0) × (x.0 ≤ p.longest)
unfolding count_at
count_takes p bytes x fits e =
    let a = bind_ok (read_number_at w16 bytes) (λ n. cond (nat_lt 0 n.0 && nat_le n.0 p.longest) (Ok n) (Err (length bytes))) x e in
    let g = passed_ok (nat_lt 0 a.0.0 && nat_le a.0.0 p.longest) (length bytes) a.0 x a.2 in
    let t = number_takes w16 (2 ^ 16) wide16 bytes a.0.0 a.0.1 fits a.1 in
    let h : (nat_lt 0 a.0.0 && nat_le a.0.0 p.longest) ≡ true = g.0 in
    let some : 0 < a.0.0 = grind (arith, nat_tests, h) in
    let few : a.0.0 ≤ p.longest = grind (arith, nat_tests, h) in
    subst (λ (y : ℕ × List ℕ). Takes bytes (to_be_bytes w16 y.0) y.1 × (0 < y.0) × (y.0 ≤ p.longest)) g.1 (t.0, some, few)

entry_takes : (p : Validated) (wanted : ℕ) (bytes : List ℕ) (x : Entry × List ℕ) → IsBytes bytes → entry_at p wanted bytes ≡ Ok x → Takes bytes (entry_text x.0) x.1 × ((x.0.iteration ≡ wanted) × (Writable p x.0 × EntryFits x.0))
unfolding entry_at
entry_takes p wanted bytes x fits e =
    let a = bind_ok (iteration_at wanted bytes) (λ iteration. read_number_at w32 iteration.1 >>= λ unanswered. count_at p unanswered.1 >>= λ count. entry_steps_at p None count.0 count.1 >>= λ steps. Ok (record { iteration = iteration.0; unanswered = unanswered.0; steps = steps.0 }, steps.1)) x e in
    let b = bind_ok (read_number_at w32 a.0.1) (λ unanswered. count_at p unanswered.1 >>= λ count. entry_steps_at p None count.0 count.1 >>= λ steps. Ok (record { iteration = a.0.0; unanswered = unanswered.0; steps = steps.0 }, steps.1)) x a.2 in
    let c = bind_ok (count_at p b.0.1) (λ count. entry_steps_at p None count.0 count.1 >>= λ steps. Ok (record { iteration = a.0.0; unanswered = b.0.0; steps = steps.0 }, steps.1)) x b.2 in
    let d = bind_ok (entry_steps_at p None c.0.0 c.0.1) (λ steps. Ok (record { iteration = a.0.0; unanswered = b.0.0; steps = steps.0 }, steps.1)) x c.2 in
    let r = iteration_takes wanted bytes a.0 fits a.1 in
    let s = number_takes w32 (2 ^ 32) wide32 a.0.1 b.0.0 b.0.1 r.0.rest_fits b.1 in
    let t = count_takes p b.0.1 c.0 s.0.rest_fits c.1 in
    let u = steps_take p None c.0.0 c.0.1 d.0 t.0.rest_fits d.1 in
    let made : Entry × List ℕ = (record { iteration = a.0.0; unanswered = b.0.0; steps = d.0.0 }, d.0.1) in
    let counted : Takes b.0.1 (to_be_bytes w16 (length d.0.0)) c.0.1 = subst (λ (k : ℕ). Takes b.0.1 (to_be_bytes w16 k) c.0.1) (sym u.1) t.0 in
    let end_text = Takes-then b.0.1 (to_be_bytes w16 (length d.0.0)) c.0.1 (flat_map step_text d.0.0) d.0.1 counted u.0 in
    let later = Takes-then a.0.1 (to_be_bytes w32 b.0.0) b.0.1 (to_be_bytes w16 (length d.0.0) ++ flat_map step_text d.0.0) d.0.1 s.0 end_text in
    let whole = Takes-then bytes (to_be_bytes w32 a.0.0) a.0.1 (to_be_bytes w32 b.0.0 ++ to_be_bytes w16 (length d.0.0) ++ flat_map step_text d.0.0) d.0.1 r.0 later in
    subst (λ (y : Entry × List ℕ). Takes bytes (entry_text y.0) y.1 × ((y.0.iteration ≡ wanted) × (Writable p y.0 × EntryFits y.0))) (ok_is made x d.2)
    (whole, (r.2, (record { some_step = omega (arith, t.1, u.1); path = u.2; steps = u.3 }, record { iteration = r.1; unanswered = s.1; steps = u.4 })))

-- The entries that are read are as many as are wanted, of the iteration, and the bytes are their text.
pub entries_take : (p : Validated) (wanted count : ℕ) (bytes : List ℕ) (es : List Entry) → IsBytes bytes → entries_at p wanted count bytes ≡ Ok es → IsBatch p wanted count es × (bytes ≡ spell es)
unfolding entries_at
entries_take p wanted count bytes es fits e =
    let a = bind_ok (many (entry_at p wanted) count bytes) (λ entries. cond (length entries.1 == 0) (Ok entries.0) (Err (length entries.1))) es e in
    let g = passed_ok (length a.0.1 == 0) (length a.0.1) a.0.0 es a.2 in
    let t = many_take (entry_at p wanted) entry_text (λ x. (x.iteration ≡ wanted) × (Writable p x × EntryFits x)) (entry_takes p wanted) count bytes a.0 fits a.1 in
    let nothing : a.0.1 ≡ [] = nil_from_length a.0.1 (eqb-true _ _ g.0) in
    let whole : bytes ≡ spell a.0.0 = t.0.parts ∙ ap (λ (r : List ℕ). flat_map entry_text a.0.0 ++ r) nothing ∙ append-nil (flat_map entry_text a.0.0) in
    let first = both_all (λ (x : Entry). x.iteration ≡ wanted) (λ x. Writable p x × EntryFits x) a.0.0 t.2 in
    let second = both_all (Writable p) EntryFits a.0.0 first.1 in
    subst (λ (v : List Entry). IsBatch p wanted count v × (bytes ≡ spell v)) g.1 (record { counted = t.1; same = first.0; each = second.0; numbers = second.1 }, whole)
