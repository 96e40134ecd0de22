-- Cuts that cover the others, where one cut more is put behind these, and where cuts are cut back.
use Rattle.std.proofs.Common.{◌≡◌, ◌∙◌, ℕ, ◌<◌, ◌≤◌, ◌+◌, ◌-◌, List, [], ◌∷◌, ◌++◌, length, map, take, get_or, Option, IfSome, ap, sym, subst, refl, arith}
use Rattle.std.proofs.lemmas.List.{length-append, length-map, length-take, map-append, take-map, get_or-take}
use Rattle.std.proofs.lemmas.Option.{IfSome_then}
use Rattle.lp_program.specs.PackedCut.{PackedCut, no_packed_cut}
use Rattle.theory.specs.declared.cut.Cut.{Cut}
use Rattle.cut_pool.specs.declared.active_cuts.Active.{Active}
use Rattle.cut_pool.specs.FlatCuts.{packed_cut}
use Rattle.cut_pool.specs.Active.{AreFirst, IsMarked, IsActive}
use Rattle.cut_pool.specs.SlopeRanges.{AreEndsOfFirst, AreEndsOf}
use Rattle.cut_pool.specs.declared.slope_range.SlopeRange.{SlopeRange}
use Rattle.cut_pool.proofs.SlopeRanges.{among}
use Rattle.cut_pool.proofs.Covered.{first_among, same_with, active_among, are_active}

first_of_more : (cs ds : List Cut) (c : Cut) (a : Active) → ds ≡ cs ++ c ∷ [] → IsActive (map packed_cut cs) a → AreFirst (map packed_cut ds) (length ds - 1) a
first_of_more cs ds c a put is =
    let all : map packed_cut cs ++ packed_cut c ∷ [] ≡ map packed_cut ds = sym (map-append packed_cut cs (c ∷ [])) ∙ ap (map packed_cut) (sym put) in
    let count : length (map packed_cut cs) ≡ length ds - 1 = omega (arith, length-map cs packed_cut, length-append cs (c ∷ []), ap length put) in
    subst (λ (n : ℕ). AreFirst (map packed_cut ds) n a) count (subst (λ (ps : List PackedCut). AreFirst ps (length (map packed_cut cs)) a) all
    (active_among (map packed_cut cs) (map packed_cut cs ++ packed_cut c ∷ []) (length (map packed_cut cs)) a refl (same_with (map packed_cut cs) (packed_cut c)) is))

pub renewed : (cs ds : List Cut) (c : Cut) (old got : Option Active) → got ≡ old → ds ≡ cs ++ c ∷ [] → IfSome old (IsActive (map packed_cut cs)) → IfSome got (AreFirst (map packed_cut ds) (length ds - 1))
renewed cs ds c old got same put is = rw same (IfSome_then old is (λ a here. first_of_more cs ds c a put here))

-- with the last of the cuts all are covered
pub last_taken : (list : List PackedCut) (cs : List Cut) (a : Active) → list ≡ map packed_cut cs → 0 < length cs → AreFirst list ((length cs - 1) + 1) a → IsActive (map packed_cut cs) a
last_taken list cs a same some first =
    are_active (map packed_cut cs) ((length cs - 1) + 1) a (subst (λ (ps : List PackedCut). AreFirst ps ((length cs - 1) + 1) a) same first) (omega (arith, length-map cs packed_cut, some))

-- the mark of cuts that are cut back
pub first_of_fewer : (cs ds : List Cut) (k : ℕ) (a : Active) → ds ≡ take k cs → IsActive (map packed_cut cs) a → IsMarked (map packed_cut ds) a
first_of_fewer cs ds k a put is = λ count.
    let below : a.marked_count ≤ k = omega (arith, count, length-map ds packed_cut, ap length put, length-take k cs) in
    let front : take k (map packed_cut cs) ≡ map packed_cut ds = take-map packed_cut k cs ∙ ap (map packed_cut) (sym put) in
    first_among (map packed_cut cs) (map packed_cut ds) a.lows.items a.highs.items a.marked.items a.marked_count
    (λ i h. sym (get_or-take k (map packed_cut cs) i no_packed_cut (omega (arith, h, below))) ∙ ap (λ (ps : List PackedCut). get_or ps i no_packed_cut) front) is.mark.cover

pub truncated : (cs ds : List Cut) (k : ℕ) (old got : Option Active) → got ≡ old → ds ≡ take k cs → IfSome old (IsActive (map packed_cut cs)) → IfSome got (IsMarked (map packed_cut ds))
truncated cs ds k old got same put is = rw same (IfSome_then old is (λ a here. first_of_fewer cs ds k a put here))

range_of_more : (cs ds : List Cut) (c : Cut) (r : SlopeRange) → ds ≡ cs ++ c ∷ [] → AreEndsOf (map packed_cut cs) r → AreEndsOfFirst (map packed_cut ds) (length ds - 1) r
range_of_more cs ds c r put is =
    let all : map packed_cut cs ++ packed_cut c ∷ [] ≡ map packed_cut ds = sym (map-append packed_cut cs (c ∷ [])) ∙ ap (map packed_cut) (sym put) in
    let count : length (map packed_cut cs) ≡ length ds - 1 = omega (arith, length-map cs packed_cut, length-append cs (c ∷ []), ap length put) in
    subst (λ (n : ℕ). AreEndsOfFirst (map packed_cut ds) n r) count (subst (λ (ps : List PackedCut). AreEndsOfFirst ps (length (map packed_cut cs)) r) all
    (among (map packed_cut cs) (map packed_cut cs ++ packed_cut c ∷ []) (length (map packed_cut cs)) r (same_with (map packed_cut cs) (packed_cut c)) is))

pub widened : (cs ds : List Cut) (c : Cut) (old got : Option SlopeRange) → got ≡ old → ds ≡ cs ++ c ∷ [] → IfSome old (AreEndsOf (map packed_cut cs)) → IfSome got (AreEndsOfFirst (map packed_cut ds) (length ds - 1))
widened cs ds c old got same put is = rw same (IfSome_then old is (λ r here. range_of_more cs ds c r put here))
