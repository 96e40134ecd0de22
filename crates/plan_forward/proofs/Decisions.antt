-- Decisions as a loop finds them, and where they lie.
use Rattle.std.proofs.Common.{◌≡◌, ◌∙◌, ℕ, zero, suc, ◌+◌, ◌<◌, ℤ, pos, List, [], ◌∷◌, ◌++◌, length, map, get_or, arith, add-one, refl, ap, ap₂, sym}
use Rattle.std.proofs.lemmas.List.{get_or-map}
use Rattle.base_num.specs.Sums.{entry, table}
use Rattle.problem.specs.declared.parts.Decision.{Decision}
use Rattle.lp_program.specs.declared.fixed.Fx.{Fx}
use Rattle.plan_forward.specs.Deciding.{decision_from_point}

pub table_more : (n : ℕ) (f : ℕ → ℤ) → table (suc n) f ≡ table n f ++ f n ∷ []
table_more zero f = refl
table_more (suc n) f = ap (λ (xs : List ℤ). f 0 ∷ xs) (table_more n (λ j. f (suc j)))

pub length-table : (n : ℕ) (f : ℕ → ℤ) → length (table n f) ≡ n
length-table zero f = refl
length-table (suc n) f = ap suc (length-table n (λ j. f (suc j)))

pub entry-table : (n : ℕ) (f : ℕ → ℤ) (j : ℕ) → j < n → entry (table n f) j ≡ f j
entry-table zero f j h = absurd (omega arith)
entry-table (suc n) f zero h = refl
entry-table (suc n) f (suc j) h = entry-table n (λ k. f (suc k)) j (omega arith)

abbrev pub lows : List Decision → List ℤ
lows ds = map (λ (d : Decision). d.low) ds

abbrev pub highs : List Decision → List ℤ
highs ds = map (λ (d : Decision). d.high) ds

-- the decision j of a list
abbrev pub number_of : List Fx → List Decision → ℕ → ℤ
number_of point ds j = decision_from_point point j (entry (lows ds) j) (entry (highs ds) j)

-- one decision more
pub decision_more : (point : List Fx) (ds : List Decision) (i : ℕ) (d : Decision) (found new : List ℤ) (x : ℤ) → i < length ds → found ≡ table i (number_of point ds) → d ≡ get_or ds i d → x ≡ decision_from_point point i d.low d.high → new ≡ found ++ x ∷ [] → new ≡ table (i + 1) (number_of point ds)
decision_more point ds i d found new x h e is at more =
    let low : d.low ≡ entry (lows ds) i = ap (λ (k : Decision). k.low) is ∙ sym (get_or-map (λ (d : Decision). d.low) ds i d (pos 0) h) in
    let high : d.high ≡ entry (highs ds) i = ap (λ (k : Decision). k.high) is ∙ sym (get_or-map (λ (d : Decision). d.high) ds i d (pos 0) h) in
    rw add-one (more ∙ ap₂ (λ (xs : List ℤ) (y : ℤ). xs ++ y ∷ []) e (at ∙ ap₂ (decision_from_point point i) low high) ∙ sym (table_more i (number_of point ds)))
