-- The realizations of a node by their weights, each with its values and its certificate: one more.
use Rattle.std.proofs.Common.{◌≡◌, ◌+◌, ◌<◌, ℕ, ℤ, List, length, min, get_or, take, zip, refl, ap₂, sym, ◌∙◌, arith}
use Rattle.std.specs.List.{sum_by}
use Rattle.std.proofs.lemmas.Slice.Zip.{get_or-zip, length-zip}
use Rattle.theory.specs.declared.cut.Certificate.{Certificate}
use Rattle.cut_check.proofs.Amounts.{pairs_more, within}

pair_at : (vs : List (List ℤ)) (list : List Certificate) (r : ℕ) (v : List ℤ) (c : Certificate) → r < length vs → r < length list → v ≡ get_or vs r v → c ≡ get_or list r c → (v, c) ≡ get_or (zip vs list) r (v, c)
pair_at vs list r v c h k p q = ap₂ (λ (a : List ℤ) (b : Certificate). (a, b)) p q ∙ sym (get_or-zip vs list r (v, c) h k)

pub counted : (ws : List ℕ) (vs : List (List ℤ)) (list : List Certificate) → length vs ≡ length ws → length list ≡ length ws → length ws ≡ min (length ws) (length (zip vs list))
counted ws vs list e f = let l = length-zip vs list in omega (arith, l, e, f)

-- with the realization r
pub next : (ws : List ℕ) (vs : List (List ℤ)) (list : List Certificate) (r size w : ℕ) (v : List ℤ) (x : Certificate) (f : ℕ × (List ℤ × Certificate) → ℕ) → length vs ≡ length ws → length list ≡ length ws → r < length ws → w ≡ get_or ws r 0 → v ≡ get_or vs r v → x ≡ get_or list r x
    → size ≡ 0 + sum_by f (take r (zip ws (zip vs list))) → (r < length (zip ws (zip vs list))) × (size + f (w, (v, x)) ≡ 0 + sum_by f (take (r + 1) (zip ws (zip vs list))))
next ws vs list r size w v x f same each h own values certificates sum =
    let at : (v, x) ≡ get_or (zip vs list) r (v, x) = pair_at vs list r v x (omega (arith, h, same)) (omega (arith, h, each)) values certificates in
    let long = counted ws vs list same each in (
      within f ws (zip vs list) r 0 size (length ws) w 0 (v, x) (v, x) long h own at sum,
      pairs_more f ws (zip vs list) r 0 size (length ws) w 0 (v, x) (v, x) long h own at sum (size + f (w, (v, x))) refl,
    )
