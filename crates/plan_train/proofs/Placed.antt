-- Records behind records, and where the next one stands.
use Rattle.std.proofs.Common.{◌≡◌, ℕ, zero, suc, ◌+◌, ◌≤◌, ◌<◌, List, [], ◌∷◌, ◌++◌, length, take, drop, get_or, refl, sym, ap, subst, ◌∙◌, append_assoc, length-append, arith}
use Rattle.std.proofs.lemmas.List.{append-nil, length-take}
use Rattle.std.proofs.Math.Seq.{take-append_seam}
use Rattle.std.specs.Int.{w32, to_be_bytes}
use Rattle.cut_pool.specs.declared.entry.Entry.{Entry}
use Rattle.journal_record.specs.Spelling.{spell}
use Rattle.journal_file.specs.Layout.{Title, title_bytes, records, body_of, front, journal}
use Rattle.plan_train.specs.Training.{payloads}
use Rattle.plan_train.specs.Iterating.{behind, EndsClear}

-- records behind records
pub records-append : (ps qs : List (List ℕ)) → records (ps ++ qs) ≡ records ps ++ records qs
unfolding records
records-append [] qs = refl
records-append (p ∷ ps) qs =
    ap (λ (l : List ℕ). 1 ∷ to_be_bytes w32 (length p) ++ p ++ l) (records-append ps qs)
    ∙ ap (λ (l : List ℕ). 1 ∷ l) (sym (append_assoc (to_be_bytes w32 (length p) ++ p) (records ps) (records qs)))

-- one record, with the commit byte behind it
one_record : (p : List ℕ) → records (p ∷ []) ++ 0 ∷ [] ≡ 1 ∷ body_of p
unfolding records body_of
one_record p = ap (λ (l : List ℕ). 1 ∷ l ++ 0 ∷ []) (append-nil (to_be_bytes w32 (length p) ++ p))

-- so many bytes
pub one_length : (p : List ℕ) → length (records (p ∷ [])) ≡ length (body_of p)
one_length p = omega (arith, ap length (one_record p), length-append (records (p ∷ [])) (0 ∷ []))

-- a record more behind others, with the commit byte behind it
pub record_more : (x : List ℕ) (ps : List (List ℕ)) (p : List ℕ) → x ++ records (ps ++ p ∷ []) ++ 0 ∷ [] ≡ (x ++ records ps) ++ 1 ∷ body_of p
record_more x ps p =
    ap (λ (l : List ℕ). x ++ l ++ 0 ∷ []) (records-append ps (p ∷ []))
    ∙ ap (λ (l : List ℕ). l ++ 0 ∷ []) (sym (append_assoc x (records ps) (records (p ∷ []))))
    ∙ append_assoc (x ++ records ps) (records (p ∷ [])) (0 ∷ [])
    ∙ ap (λ (l : List ℕ). (x ++ records ps) ++ l) (one_record p)

pub payloads-append : (xs ys : List (List Entry)) → payloads (xs ++ ys) ≡ payloads xs ++ payloads ys
payloads-append [] ys = refl
payloads-append (x ∷ xs) ys = ap (λ (l : List (List ℕ)). spell x ∷ l) (payloads-append xs ys)

-- the bytes before the commit byte behind more records
pub front-append : (t : Title) (ps qs : List (List ℕ)) → front t (ps ++ qs) ≡ front t ps ++ records qs
front-append t ps qs = ap (λ (l : List ℕ). 1 ∷ title_bytes t ++ l) (records-append ps qs) ∙ ap (λ (l : List ℕ). 1 ∷ l) (sym (append_assoc (title_bytes t) (records ps) (records qs)))

-- where a list goes on with these
pub record Parted {A : Type 0} (tail : A) (j : ℕ) (ps xs : List A) (y : A) : Type 0 where
  pub below : j + length xs < length ps
  pub front : take (j + length xs) ps ≡ take j ps ++ xs
  pub here : get_or ps (j + length xs) tail ≡ y

head_parted : {A : Type 0} (tail : A) (xs : List A) (y : A) (zs : List A) → Parted tail 0 (xs ++ y ∷ zs) xs y
head_parted tail [] y zs = record { below = omega arith; front = refl; here = refl }
head_parted tail (x ∷ xs) y zs =
    let h = head_parted tail xs y zs in
    let e : 0 + suc (length xs) ≡ suc (0 + length xs) = omega arith in
    record { below = omega (arith, h.below); front = rw e (ap (λ l. x ∷ l) h.front); here = rw e h.here }

pub parted : {A : Type 0} (tail : A) (j : ℕ) (ps xs : List A) (y : A) (zs : List A) → j ≤ length ps → drop j ps ≡ xs ++ y ∷ zs → Parted tail j ps xs y
parted tail zero ps xs y zs le is = subst (λ l. Parted tail 0 l xs y) (sym is) (head_parted tail xs y zs)
parted tail (suc j) [] xs y zs le is = absurd (omega (arith, le))
parted tail (suc j) (p ∷ ps) xs y zs le is =
    let h = parted tail j ps xs y zs (omega (arith, le)) is in
    let e : suc j + length xs ≡ suc (j + length xs) = omega arith in
    record { below = omega (arith, h.below); front = rw e (ap (λ l. p ∷ l) h.front); here = rw e h.here }

-- a commit byte of 0 that is the last byte, and what stands before it
pub last_byte : (at : ℕ) (bytes f : List ℕ) → EndsClear at bytes → bytes ≡ f ++ 0 ∷ [] → (at ≡ length f) × (take at bytes ≡ f)
last_byte at bytes f ends is =
    let place : at ≡ length f = omega (arith, ends.0, ap length ends.1, ap length is, length-append (take at bytes) (0 ∷ []), length-take at bytes, length-append f (0 ∷ [])) in
    (place, ap (λ (b : List ℕ). take at b) is ∙ ap (λ (n : ℕ). take n (f ++ 0 ∷ [])) place ∙ take-append_seam f (0 ∷ []))

pub clear_length : (at : ℕ) (bytes : List ℕ) → EndsClear at bytes → length (take at bytes) ≡ at
clear_length at bytes ends = omega (arith, ends.0, length-take at bytes)

-- no record more
pub behind_none : (at : ℕ) (bytes : List ℕ) → EndsClear at bytes → behind at [] bytes ≡ bytes
unfolding records
behind_none at bytes ends = ap (λ (l : List ℕ). l ++ 0 ∷ []) (append-nil (take at bytes)) ∙ sym ends.1

-- the commit byte behind the records stands there
pub behind_ends : (at : ℕ) (bytes : List ℕ) (lists : List (List Entry)) → EndsClear at bytes → EndsClear (at + length (records (payloads lists))) (behind at lists bytes)
behind_ends at bytes lists ends =
    let f : List ℕ = take at bytes ++ records (payloads lists) in
    let l : length f ≡ at + length (records (payloads lists)) = length-append (take at bytes) (records (payloads lists)) ∙ ap (λ (n : ℕ). n + length (records (payloads lists))) (clear_length at bytes ends) in
    (omega (arith, l, length-append f (0 ∷ [])), ap (λ (x : List ℕ). x ++ 0 ∷ []) (sym (take-append_seam f (0 ∷ [])) ∙ ap (λ (n : ℕ). take n (f ++ 0 ∷ [])) l))

-- a record more is put behind them
pub behind_more : (at : ℕ) (bytes : List ℕ) (lists : List (List Entry)) (es : List Entry) (body : List ℕ) → EndsClear at bytes → body ≡ body_of (spell es)
    → take (at + length (records (payloads lists))) (behind at lists bytes) ++ 1 ∷ body ≡ behind at (lists ++ es ∷ []) bytes
behind_more at bytes lists es body ends is =
    let f : List ℕ = take at bytes ++ records (payloads lists) in
    let l : length f ≡ at + length (records (payloads lists)) = length-append (take at bytes) (records (payloads lists)) ∙ ap (λ (n : ℕ). n + length (records (payloads lists))) (clear_length at bytes ends) in
    ap (λ (n : ℕ). take n (f ++ 0 ∷ []) ++ 1 ∷ body) (sym l)
    ∙ ap (λ (x : List ℕ). x ++ 1 ∷ body) (take-append_seam f (0 ∷ []))
    ∙ ap (λ (b : List ℕ). f ++ 1 ∷ b) is
    ∙ sym (record_more (take at bytes) (payloads lists) (spell es))
    ∙ ap (λ (ps : List (List ℕ)). take at bytes ++ records ps ++ 0 ∷ []) (sym (payloads-append lists (es ∷ [])))

pub records_longer : (lists : List (List Entry)) (es : List Entry) → length (records (payloads (lists ++ es ∷ []))) ≡ length (records (payloads lists)) + length (body_of (spell es))
records_longer lists es =
    ap (λ (ps : List (List ℕ)). length (records ps)) (payloads-append lists (es ∷ []))
    ∙ ap length (records-append (payloads lists) (spell es ∷ []))
    ∙ length-append (records (payloads lists)) (records (spell es ∷ []))
    ∙ ap (λ (n : ℕ). length (records (payloads lists)) + n) (one_length (spell es))

-- a journal of the first j payloads, with records behind it, is one of more payloads
pub behind_journal : (t : Title) (ps : List (List ℕ)) (j at : ℕ) (bytes : List ℕ) (lists : List (List Entry)) → EndsClear at bytes → bytes ≡ journal t (take j ps) 0 [] → take (j + length (payloads lists)) ps ≡ take j ps ++ payloads lists
    → behind at lists bytes ≡ journal t (take (j + length (payloads lists)) ps) 0 []
behind_journal t ps j at bytes lists ends is front-is =
    ap (λ (l : List ℕ). l ++ records (payloads lists) ++ 0 ∷ []) (last_byte at bytes (front t (take j ps)) ends is).1
    ∙ ap (λ (l : List ℕ). l ++ 0 ∷ []) (sym (front-append t (take j ps) (payloads lists)))
    ∙ ap (λ (qs : List (List ℕ)). front t qs ++ 0 ∷ []) (sym front-is)
