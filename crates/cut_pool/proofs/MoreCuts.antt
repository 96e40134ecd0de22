-- Cuts side by side, with one cut more, and cut back.
use Rattle.std.proofs.Common.{◌≡◌, ◌∙◌, ℕ, zero, suc, ◌+◌, ◌*◌, ◌<◌, ◌≤◌, ◌^◌, ℤ, true, List, [], ◌∷◌, ◌++◌, length, take, drop, nat_abs, All, arith, ap, ap₂, sym, refl, take_all}
use Rattle.std.proofs.lemmas.List.{length-append, length-drop, length-map, length-take-le, take-append-le, drop-append-le, drop-take, take-take, take-map, map-append}
use Rattle.std.proofs.lemmas.List.Elements.{All-append, All-cons, All-nil, All-take}
use Rattle.lp_program.specs.PackedCut.{PackedCut, cuts_of, ArePacked}
use Rattle.theory.specs.declared.cut.Cut.{Cut}
use Rattle.cut_pool.specs.FlatCuts.{packed_cut, IsFlat}
use Rattle.cut_pool.specs.declared.flat_cuts.FlatCuts.{FlatCuts}

-- the last of the cuts
pub cuts_of_more : (n : ℕ) (hs bs : List ℤ) (h : ℤ) (own : List ℤ) → length bs ≡ length hs * n → length own ≡ n → cuts_of n (hs ++ h ∷ []) (bs ++ own) ≡ cuts_of n hs bs ++ record { height = h; slopes = own } ∷ []
cuts_of_more n [] [] h own e is = ap (λ (ss : List ℤ). record { height = h; slopes = ss } ∷ []) (take_all n own (omega (arith, is)))
cuts_of_more n [] (b ∷ bs) h own e is = absurd (omega (arith, e))
cuts_of_more n (g ∷ hs) bs h own e is =
    let whole : suc (length hs) * n ≡ n + length hs * n = omega arith in
    let left : length (drop n bs) ≡ length hs * n = omega (arith, e, whole, length-drop n bs) in
    let fits : n ≤ length bs = omega (arith, e, whole) in
    ap₂ (λ (ss : List ℤ) (tail : List PackedCut). record { height = g; slopes = ss } ∷ tail)
    (take-append-le n bs own fits)
    (ap (cuts_of n (hs ++ h ∷ [])) (drop-append-le n bs own fits) ∙ cuts_of_more n hs (drop n bs) h own left is)

pub packed_more : (n : ℕ) (hs bs : List ℤ) (h : ℤ) (own : List ℤ) → ArePacked n hs bs → length hs < 2 ^ 24 → nat_abs h < 2 ^ 100 → length own ≡ n → All (λ s. nat_abs s < 2 ^ 57) own → ArePacked n (hs ++ h ∷ []) (bs ++ own)
packed_more n hs bs h own p room short is small =
    let next : (length hs + 1) * n ≡ length hs * n + n = omega arith in
    record {
      few = omega (arith, room, length-append hs (h ∷ []));
      states = p.states;
      count = length-append bs own ∙ ap₂ (λ (a b : ℕ). a + b) p.count is ∙ sym next ∙ ap (λ (a : ℕ). a * n) (sym (length-append hs (h ∷ [])));
      heights = All-append (λ z. nat_abs z < 2 ^ 100) hs (h ∷ []) p.heights (All-cons (λ z. nat_abs z < 2 ^ 100) h [] short (All-nil (λ z. nat_abs z < 2 ^ 100)));
      slopes = All-append (λ s. nat_abs s < 2 ^ 57) bs own p.slopes small;
    }

-- one cut more
pub more : (cs : List Cut) (c : Cut) (old new : FlatCuts) → IsFlat cs old → old.kept ≡ true → length c.beta ≡ old.states → nat_abs c.alpha < 2 ^ 100 → length old.heights.items < 2 ^ 24 → new.heights.items ≡ old.heights.items ++ c.alpha ∷ [] → new.slopes.items ≡ old.slopes.items ++ c.beta → All (λ s. nat_abs s < 2 ^ 57) c.beta → new.states ≡ old.states → IsFlat (cs ++ c ∷ []) new
more cs c old new flat kept own short room heights slopes small states = record {
  packed = λ _. rw (heights, slopes, states) (packed_more old.states old.heights.items old.slopes.items c.alpha c.beta (flat.packed kept) room short own small);
  same = λ _. rw (heights, slopes, states) (cuts_of_more old.states old.heights.items old.slopes.items c.alpha c.beta (flat.packed kept).count own ∙ ap (λ (ps : List PackedCut). ps ++ packed_cut c ∷ []) (flat.same kept) ∙ sym (map-append packed_cut cs (c ∷ [])));
}

-- lists with one cut more
pub packed_with : (n : ℕ) (hs bs gs ss : List ℤ) (h : ℤ) (own : List ℤ) → ArePacked n hs bs → length hs < 2 ^ 24 → nat_abs h < 2 ^ 100 → length own ≡ n → All (λ s. nat_abs s < 2 ^ 57) own → gs ≡ hs ++ h ∷ [] → ss ≡ bs ++ own → ArePacked n gs ss
packed_with n hs bs gs ss h own p room short is small heights slopes = rw (heights, slopes) (packed_more n hs bs h own p room short is small)

-- the view of contracts of them
pub seen_with : (n : ℕ) (hs bs gs ss : List ℤ) (h : ℤ) (own : List ℤ) (old : List PackedCut) (c : PackedCut) → length bs ≡ length hs * n → length own ≡ n → gs ≡ hs ++ h ∷ [] → ss ≡ bs ++ own → cuts_of n hs bs ≡ old → h ≡ c.height → own ≡ c.slopes → cuts_of n gs ss ≡ old ++ c ∷ []
seen_with n hs bs gs ss h own old c count is heights slopes same eh es =
    let last : record { height = h; slopes = own } ≡ c = ap₂ (λ (x : ℤ) (xs : List ℤ). record { height = x; slopes = xs }) eh es in
    rw (heights, slopes) (cuts_of_more n hs bs h own count is ∙ ap₂ (λ (cs : List PackedCut) (d : PackedCut). cs ++ d ∷ []) same last)

-- the first of the cuts
cuts_of_front : (n k : ℕ) (hs bs : List ℤ) → cuts_of n (take k hs) (take (k * n) bs) ≡ take k (cuts_of n hs bs)
cuts_of_front n zero hs bs = refl
cuts_of_front n (suc k) [] bs = refl
cuts_of_front n (suc k) (h ∷ hs) bs =
    let whole : suc k * n ≡ n + k * n = omega arith in
    ap₂ (λ (ss : List ℤ) (tail : List PackedCut). record { height = h; slopes = ss } ∷ tail)
    (take-take n (suc k * n) bs (omega (arith, whole)))
    (ap (λ (m : ℕ). cuts_of n (take k hs) (drop n (take m bs))) whole ∙ ap (cuts_of n (take k hs)) (drop-take n (k * n) bs) ∙ cuts_of_front n k hs (drop n bs))

pub length_cuts_of : (n : ℕ) (hs bs : List ℤ) → length (cuts_of n hs bs) ≡ length hs
length_cuts_of n [] bs = refl
length_cuts_of n (h ∷ hs) bs = ap suc (length_cuts_of n hs (drop n bs))

pub times_up : (k m n : ℕ) → k ≤ m → k * n ≤ m * n
times_up zero m n h = omega arith
times_up (suc k) zero n h = absurd (omega (arith, h))
times_up (suc k) (suc m) n h = omega (arith, times_up k m n (omega (arith, h)))

packed_front : (n k : ℕ) (hs bs : List ℤ) → ArePacked n hs bs → k ≤ length hs → ArePacked n (take k hs) (take (k * n) bs)
packed_front n k hs bs p h =
    let own : length (take k hs) ≡ k = length-take-le k hs h in
    record {
      few = omega (arith, own, p.few, h);
      states = p.states;
      count = length-take-le (k * n) bs (omega (arith, times_up k (length hs) n h, p.count)) ∙ ap (λ (m : ℕ). m * n) (sym own);
      heights = All-take (λ z. nat_abs z < 2 ^ 100) k hs p.heights;
      slopes = All-take (λ s. nat_abs s < 2 ^ 57) (k * n) bs p.slopes;
    }

-- the cuts are cut back
pub front : (cs : List Cut) (k : ℕ) (old new : FlatCuts) → k ≤ length cs → IsFlat cs old → old.kept ≡ true → new.heights.items ≡ take k old.heights.items → new.slopes.items ≡ take (k * old.states) old.slopes.items → new.states ≡ old.states → IsFlat (take k cs) new
front cs k old new few flat kept heights slopes states =
    let count : length old.heights.items ≡ length cs = sym (length_cuts_of old.states old.heights.items old.slopes.items) ∙ ap length (flat.same kept) ∙ length-map cs packed_cut in
    record {
      packed = λ _. rw (heights, slopes, states) (packed_front old.states k old.heights.items old.slopes.items (flat.packed kept) (omega (arith, few, count)));
      same = λ _. rw (heights, slopes, states) (cuts_of_front old.states k old.heights.items old.slopes.items ∙ ap (take k) (flat.same kept) ∙ take-map packed_cut k cs);
    }
