-- Volumes and water under way, one branch later.
use Rattle.std.proofs.Common.{◌≡◌, ℕ, zero, suc, ◌-◌, ◌<◌, ◌≤◌, ℤ, pos, ◌+ℤ◌, ◌*ℤ◌, List, [], ◌∷◌, drop, Bool, true, false, nat_le, if◌then◌else◌, refl, sym, ap, ap₂, ◌∙◌, arith, le-leb, leb-true}
use Rattle.base_num.specs.Sums.{total, same_place}
use Rattle.base_num.proofs.Sums.{total_ext, total_add}
use Rattle.base_num.proofs.Ring.{ring, var, num, ◌⊕◌, ◌⊗◌}
use Rattle.hydro_read.specs.declared.plants.Plants.{Plants}
use Rattle.hydro_make.specs.Layout.{numbered_reservoir, travel, leads, all_reservoirs}
use Rattle.hydro_make.specs.Rows.{leads_at_once}
use Rattle.hydro_make.specs.Plan.{Moment, Past, released, gained, arrived, volume}
use Rattle.hydro_make.specs.Trees.{left_ago}

-- ---- tests and places

pub above_leb : (a b : ℕ) → b < a → nat_le a b ≡ false
above_leb a b h = by_test (nat_le a b) refl
  where
    by_test : (t : Bool) → nat_le a b ≡ t → t ≡ false
    by_test true e = absurd (omega (arith, leb-true a b e, h))
    by_test false e = refl

pub same_at : (k : ℕ) → same_place k k ≡ pos 1
same_at zero = refl
same_at (suc k) = same_at k

pub same_below : (k n : ℕ) → k < n → same_place k n ≡ pos 0
same_below zero zero h = absurd (omega arith)
same_below zero (suc n) h = refl
same_below (suc k) zero h = absurd (omega arith)
same_below (suc k) (suc n) h = same_below k n (omega arith)

pub if_true : (b : Bool) (x : ℤ) → b ≡ true → (if b then x else pos 0) ≡ x
if_true true x e = refl
if_true false x e = absurd (no e)
  where
    no : false ≡ true → ⊥
    no h = cc

pub if_false : (b : Bool) (x : ℤ) → b ≡ false → (if b then x else pos 0) ≡ pos 0
if_false false x e = refl
if_false true x e = absurd (no e)
  where
    no : true ≡ false → ⊥
    no h = cc

-- ---- what arrives with one branch more

abbrev fresh : ℕ → ℕ → Moment → Past → ℤ
fresh i zero here past = released i here
fresh i (suc n) here past = left_ago i n past

one_ago : (i n : ℕ) (past : Past) → total (released i) (drop n past) ≡ left_ago i n past +ℤ total (released i) (drop (suc n) past)
one_ago i zero [] = refl
one_ago i (suc n) [] = refl
one_ago i zero (m ∷ past) = refl
one_ago i (suc n) (m ∷ past) = one_ago i n past

newly : (i n : ℕ) (here : Moment) (past : Past) → total (released i) (drop n (here ∷ past)) ≡ fresh i n here past +ℤ total (released i) (drop n past)
newly i zero here past = refl
newly i (suc n) here past = one_ago i n past

-- the water that arrives with one branch more, as the row of water has it: at once, or the water that was one stage away
fresh_is : (i n : ℕ) (l : ℤ) (here : Moment) (past : Past) → l *ℤ fresh i n here past ≡ same_place 0 n *ℤ l *ℤ released i here +ℤ (if nat_le 1 n then l *ℤ left_ago i (n - 1) past else pos 0)
fresh_is i zero l here past = ring (l ∷ released i here ∷ []) (var 0 ⊗ var 1) (num (pos 1) ⊗ var 0 ⊗ var 1 ⊕ num (pos 0)) tt
fresh_is i (suc n) l here past =
    let one : suc n - 1 ≡ n = omega arith in
    ring (l ∷ left_ago i n past ∷ released i here ∷ []) (var 0 ⊗ var 1) (num (pos 0) ⊗ var 0 ⊗ var 2 ⊕ var 0 ⊗ var 1) tt
    ∙ ap (λ (z : ℤ). pos 0 *ℤ l *ℤ released i here +ℤ z) (ap (λ (m : ℕ). l *ℤ left_ago i m past) (sym one) ∙ sym (if_true (nat_le 1 (suc n)) (l *ℤ left_ago i (suc n - 1) past) (le-leb 1 (suc n) (omega arith))))

abbrev pub from_ways : Plants → ℕ → Past → ℕ → ℤ
from_ways h j past i = if nat_le 1 (travel h i) then leads h i j *ℤ left_ago i (travel h i - 1) past else pos 0

arrivals : (h : Plants) (j : ℕ) (here : Moment) (past : Past) (i : ℕ) → leads h i j *ℤ arrived h i (here ∷ past) ≡ leads_at_once h i j *ℤ released i here +ℤ from_ways h j past i +ℤ leads h i j *ℤ arrived h i past
arrivals h j here past i =
    let n : ℕ = travel h i in
    ap (λ (z : ℤ). leads h i j *ℤ z) (newly i n here past) ∙ ring (leads h i j ∷ fresh i n here past ∷ arrived h i past ∷ []) (var 0 ⊗ (var 1 ⊕ var 2)) (var 0 ⊗ var 1 ⊕ var 0 ⊗ var 2) tt
    ∙ ap (λ (z : ℤ). z +ℤ leads h i j *ℤ arrived h i past) (fresh_is i n (leads h i j) here past)

-- the volume, one branch later
pub volume_next : (h : Plants) (units j : ℕ) (here : Moment) (past : Past) → volume h units (here ∷ past) j
    ≡ volume h units past j +ℤ gained units j here +ℤ total (λ i. leads_at_once h i j *ℤ released i here) (all_reservoirs h) +ℤ total (from_ways h j past) (all_reservoirs h)
volume_next h units j here past =
    let rs : List ℕ = all_reservoirs h in
    let a : ℕ → ℤ = λ i. leads_at_once h i j *ℤ released i here in
    let old : ℕ → ℤ = λ i. leads h i j *ℤ arrived h i past in
    let first : ℤ = pos units *ℤ (numbered_reservoir h j).initial in
    ap (λ (z : ℤ). first +ℤ (gained units j here +ℤ total (gained units j) past) +ℤ z)
    (total_ext (λ i. leads h i j *ℤ arrived h i (here ∷ past)) (λ i. a i +ℤ from_ways h j past i +ℤ old i) rs (arrivals h j here past)
    ∙ total_add (λ i. a i +ℤ from_ways h j past i) old rs ∙ ap (λ (z : ℤ). z +ℤ total old rs) (total_add a (from_ways h j past) rs))
    ∙ ring (first ∷ gained units j here ∷ total (gained units j) past ∷ total a rs ∷ total (from_ways h j past) rs ∷ total old rs ∷ [])
    (var 0 ⊕ (var 1 ⊕ var 2) ⊕ (var 3 ⊕ var 4 ⊕ var 5)) (var 0 ⊕ var 2 ⊕ var 5 ⊕ var 1 ⊕ var 3 ⊕ var 4) tt

-- the water under way, one branch later: what just left, or what was one stage further away
abbrev pub from_further : ℕ → ℕ → ℕ → Past → ℤ
from_further j n k past = if nat_le (suc k) n then left_ago j (n - suc k) past else pos 0

way_by : (j n k d : ℕ) (here : Moment) (past : Past) → k ≤ n → d ≡ n - k → left_ago j d (here ∷ past) ≡ same_place k n *ℤ released j here +ℤ from_further j n k past
way_by j n k zero here past h e =
    let same : n ≡ k = omega arith in
    sym (ap₂ (λ (x y : ℤ). x *ℤ released j here +ℤ y) (ap (same_place k) same ∙ same_at k) (if_false (nat_le (suc k) n) (left_ago j (n - suc k) past) (above_leb (suc k) n (omega arith)))
    ∙ ring (released j here ∷ []) (num (pos 1) ⊗ var 0 ⊕ num (pos 0)) (var 0) tt)
way_by j n k (suc d) here past h e =
    let one : d ≡ n - suc k = omega arith in
    sym (ap₂ (λ (x y : ℤ). x *ℤ released j here +ℤ y) (same_below k n (omega arith)) (if_true (nat_le (suc k) n) (left_ago j (n - suc k) past) (le-leb (suc k) n (omega arith)) ∙ ap (λ (m : ℕ). left_ago j m past) (sym one))
    ∙ ring (released j here ∷ left_ago j d past ∷ []) (num (pos 0) ⊗ var 0 ⊕ var 1) (var 1) tt)

pub way_next : (j n k : ℕ) (here : Moment) (past : Past) → k ≤ n → left_ago j (n - k) (here ∷ past) ≡ same_place k n *ℤ released j here +ℤ from_further j n k past
way_next j n k here past h = way_by j n k (n - k) here past h refl
