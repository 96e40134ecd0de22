-- The greatest values of cuts over a box, with one cut more, and of the first cuts.
use Rattle.std.proofs.Common.{◌≡◌, ◌∙◌, ℕ, suc, ◌+◌, ◌-◌, ◌<◌, ◌≤◌, ℤ, pos, ◌+ℤ◌, List, [], ◌∷◌, ◌++◌, length, take, get_or, ◌⊎◌, inl, inr, Bool, true, false, if◌then◌else◌, All, Option, Some, IfSome, subst, add-one, arith, ap, sym, refl, take_all}
use Rattle.std.proofs.lemmas.List.{length-append, length-take-le, take-append-le, take-take, get_or-take, get_or_push}
use Rattle.std.proofs.lemmas.List.Elements.{All-append, All-cons, All-nil}
use Rattle.std.proofs.Math.ListN.{get_or-append}
use Rattle.std.specs.Int.{int_max}
use lib.IntN.{+ℤ_assoc}
use Rattle.base_num.specs.Sums.{sum_to}
use Rattle.base_num.proofs.Fronts.{sum_more}
use Rattle.base_num.proofs.Order.{le_refl}
use Rattle.theory.specs.declared.cut.Cut.{Cut}
use Rattle.cut_pool.specs.declared.box_maxima.OutBox.{OutBox}
use Rattle.cut_pool.specs.declared.box_maxima.BoxMaximum.{BoxMaximum}
use Rattle.cut_pool.specs.BoxMaxima.{greatest_over, most_over, box_maximum_over, IsBoxMaximum}
use Rattle.cut_pool.proofs.Ends.{former}
use Rattle.cut_pool.proofs.Covered.{last_or_before}

most_more : (boxes : List OutBox) (best : ℤ) (cs : List Cut) (c : Cut) → most_over boxes best (cs ++ c ∷ []) ≡ int_max (most_over boxes best cs) (greatest_over boxes c)
most_more boxes best [] c = refl
most_more boxes best (d ∷ cs) c = most_more boxes (int_max best (greatest_over boxes d)) cs c

-- the greater of the last value and that of a new cut is the greatest of all
greatest_last : (boxes : List OutBox) (cs : List Cut) (c : Cut) (vs : List ℤ) (v : ℤ) → length vs ≡ length cs → ((k : ℕ) → k < length cs → get_or vs k (pos 0) ≡ box_maximum_over boxes (take (suc k) cs)) → (length vs ≡ 0 → v ≡ greatest_over boxes c) → (0 < length vs → v ≡ int_max (get_or vs (length vs - 1) (pos 0)) (greatest_over boxes c)) → v ≡ box_maximum_over boxes (cs ++ c ∷ [])
greatest_last boxes [] c vs v e values first later = first e ∙ sym (former (greatest_over boxes c) (greatest_over boxes c) (le_refl (greatest_over boxes c)))
greatest_last boxes (d ∷ cs) c vs v e values first later =
    let last : length vs - 1 ≡ length cs = omega (arith, e) in
    later (omega (arith, e))
    ∙ ap (λ (z : ℤ). int_max z (greatest_over boxes c)) (ap (λ (n : ℕ). get_or vs n (pos 0)) last ∙ values (length cs) (omega arith) ∙ ap (box_maximum_over boxes) (take_all (suc (length cs)) (d ∷ cs) (omega arith)))
    ∙ sym (most_more boxes (greatest_over boxes d) (d ∷ cs) c)

pub raised : (cs : List Cut) (c : Cut) (old new : BoxMaximum) (v : ℤ) → IsBoxMaximum cs old → new.boxes ≡ old.boxes → new.values.items ≡ old.values.items ++ v ∷ [] → (length old.values.items ≡ 0 → v ≡ greatest_over old.boxes c) → (0 < length old.values.items → v ≡ int_max (get_or old.values.items (length old.values.items - 1) (pos 0)) (greatest_over old.boxes c)) → IsBoxMaximum (cs ++ c ∷ []) new
raised cs c old new v p same put first later = record {
  count = ap length put ∙ omega (arith, length-append old.values.items (v ∷ []), length-append cs (c ∷ []), p.count);
  values = λ k h. rw (same, put) (here k (last_or_before k (length cs) (omega (arith, h, length-append cs (c ∷ [])))));
}
  where
    here : (k : ℕ) → ((k < length cs) ⊎ (k ≡ length cs)) → get_or (old.values.items ++ v ∷ []) k (pos 0) ≡ box_maximum_over old.boxes (take (suc k) (cs ++ c ∷ []))
    here k (inl a) = get_or-append old.values.items (v ∷ []) (pos 0) k (omega (arith, a, p.count)) ∙ p.values k a
        ∙ ap (box_maximum_over old.boxes) (sym (take-append-le (suc k) cs (c ∷ []) (omega (arith, a))))
    here k (inr e) = get_or_push old.values.items v (pos 0) k (p.count ∙ sym e) ∙ greatest_last old.boxes cs c old.values.items v p.count p.values first later
        ∙ ap (box_maximum_over old.boxes) (sym (take_all (suc k) (cs ++ c ∷ []) (omega (arith, e, length-append cs (c ∷ [])))))

-- what is so where a test holds
pub so_where : {A : Type 0} (b : Bool) (x y z : A) → b ≡ true → z ≡ (if b then y else x) → z ≡ y
so_where true x y z h e = e
so_where false x y z h e = cc

-- a value that is read goes behind the others
pub raised_read : (cs : List Cut) (c : Cut) (old new : BoxMaximum) (boxes : List OutBox) (vs : List ℤ) (own v : ℤ) → IsBoxMaximum cs old → new.boxes ≡ old.boxes → new.values.items ≡ old.values.items ++ v ∷ [] → boxes ≡ old.boxes → vs ≡ old.values.items → own ≡ greatest_over boxes c → (length vs ≡ 0 → v ≡ own) → (0 < length vs → v ≡ int_max (get_or vs (length vs - 1) (pos 0)) own) → IsBoxMaximum (cs ++ c ∷ []) new
raised_read cs c old new boxes vs own v p same put el seen is first later =
    let g : own ≡ greatest_over old.boxes c = is ∙ ap (λ (b : List OutBox). greatest_over b c) el in
    raised cs c old new v p same put (rw (seen, g) at first) (rw (seen, g) at later)

-- the box maximum of the first cuts
pub lowered : (cs : List Cut) (n : ℕ) (old new : BoxMaximum) → n ≤ length cs → IsBoxMaximum cs old → new.boxes ≡ old.boxes → new.values.items ≡ take n old.values.items → IsBoxMaximum (take n cs) new
lowered cs n old new few p same put =
    let own : length (take n cs) ≡ n = length-take-le n cs few in
    record {
      count = ap length put ∙ length-take-le n old.values.items (omega (arith, few, p.count)) ∙ sym own;
      values = λ k h. rw (same, put) (get_or-take n old.values.items k (pos 0) (omega (arith, h, own)) ∙ p.values k (omega (arith, h, own, few)) ∙ ap (box_maximum_over old.boxes) (sym (take-take (suc k) n cs (omega (arith, h, own)))));
    }

-- the last value is the greatest of all
whole_is : (cs : List Cut) (p : BoxMaximum) → IsBoxMaximum cs p → 0 < length p.values.items → get_or p.values.items (length p.values.items - 1) (pos 0) ≡ box_maximum_over p.boxes cs
whole_is cs p is some =
    let all : suc (length p.values.items - 1) ≡ length cs = omega (arith, is.count, some) in
    is.values (length p.values.items - 1) (omega (arith, all)) ∙ ap (λ (n : ℕ). box_maximum_over p.boxes (take n cs)) all ∙ ap (box_maximum_over p.boxes) (take_all (length cs) cs (omega arith))

pub last_is : (cs : List Cut) (p : BoxMaximum) (boxes mine : List OutBox) (vs : List ℤ) (v : ℤ) → IsBoxMaximum cs p → mine ≡ p.boxes → mine ≡ boxes → vs ≡ p.values.items → (0 < length vs) × (v ≡ get_or vs (length vs - 1) (pos 0)) → v ≡ box_maximum_over boxes cs
last_is cs p boxes mine vs v is own same seen last =
    last.1 ∙ ap (λ (ws : List ℤ). get_or ws (length ws - 1) (pos 0)) seen ∙ whole_is cs p is (omega (arith, last.0, ap length seen)) ∙ ap (λ (b : List OutBox). box_maximum_over b cs) (sym own ∙ same)

is_some : (cs : List Cut) (found : Option BoxMaximum) (p : BoxMaximum) → IfSome found (IsBoxMaximum cs) → found ≡ Some p → IsBoxMaximum cs p
is_some cs found p is e = rw e at is

-- one box maximum more
pub all_with : (cs ds : List Cut) (ps qs : List BoxMaximum) (found : Option BoxMaximum) (p : BoxMaximum) → ds ≡ cs → All (IsBoxMaximum cs) ps → IfSome found (IsBoxMaximum ds) → found ≡ Some p → qs ≡ ps ++ p ∷ [] → All (IsBoxMaximum cs) qs
all_with cs ds ps qs found p same before is e put =
    let own : IsBoxMaximum cs p = subst (λ (es : List Cut). IsBoxMaximum es p) same (is_some ds found p is e) in
    subst (All (IsBoxMaximum cs)) (sym put) (All-append (IsBoxMaximum cs) ps (p ∷ []) before (All-cons (IsBoxMaximum cs) p [] own (All-nil (IsBoxMaximum cs))))

-- one summand more
pub summand : (a v p r : ℤ) (k : ℕ) (f : ℕ → ℤ) → v ≡ a +ℤ sum_to k f → p ≡ f k → r ≡ v +ℤ p → r ≡ a +ℤ sum_to (k + 1) f
summand a v p r k f e is s =
    rw add-one (s ∙ ap (λ (x : ℤ). x +ℤ p) e ∙ ap (λ (x : ℤ). a +ℤ sum_to k f +ℤ x) is ∙ +ℤ_assoc a (sum_to k f) (f k) ∙ ap (λ (x : ℤ). a +ℤ x) (sym (sum_more k f)))
