-- Values of cuts that fall with each state, and bounds of them in fewer binary digits.
use Rattle.std.proofs.Common.{◌≡◌, ◌∙◌, ⊎_elim, ℕ, ◌+◌, ◌*◌, ◌^◌, ◌<◌, ◌≤◌, ℤ, pos, negsuc, ◌+ℤ◌, ◌-ℤ◌, ◌*ℤ◌, ◌≤ℤ◌, ◌<ℤ◌, nat_abs, List, [], ◌∷◌, length, drop, get_or, All, arith, ap, ap₂, refl, sym, subst}
use Rattle.std.proofs.lemmas.Bool.{cases_lt}
use Rattle.std.proofs.lemmas.Int.{ints}
use Rattle.std.proofs.lemmas.Nat.{pow-add}
use Rattle.std.proofs.Math.IntN.{pos-*ℤ-pos}
use Rattle.std.proofs.lemmas.List.{drop_more, drop_all, get_or_past}
use Rattle.base_num.specs.Sums.{entry, dot, floor_over}
use Rattle.base_num.proofs.Order.{le_add, le_scale, le_trans, le_refl, floor_at_most}
use Rattle.base_num.proofs.Ring.{ring, var, num, ◌⊕◌, ◌⊗◌}
use Rattle.lp_program.specs.PackedCut.{PackedCut, no_packed_cut}
use Rattle.lp_program.specs.Covering.{value_of, packed_cut_at}
use Rattle.lp_program.specs.Coarse.{AreHeights, AreSteeps}
use Rattle.lp_scan.specs.declared.bounds.Falls.{Falls}
use Rattle.lp_scan.specs.Bounds.{rest_of, AreBounds, AreFalls}

-- a number that is below 0 by more than another, times one that is not below a third
product_below : (slope x : ℤ) (a b : ℕ) → (slope +ℤ pos a) ≤ℤ pos 0 → pos b ≤ℤ x → (slope *ℤ x +ℤ pos a *ℤ pos b) ≤ℤ pos 0
product_below slope (negsuc n) a b h l = absurd (omega (arith, ints, l))
product_below slope (pos n) a b h l =
    let first : (pos a *ℤ pos b) ≤ℤ (pos a *ℤ pos n) = le_scale a (pos b) (pos n) l in
    let turned : slope *ℤ pos n +ℤ pos a *ℤ pos n ≡ pos n *ℤ (slope +ℤ pos a) = ring (slope ∷ pos n ∷ pos a ∷ []) (var 0 ⊗ var 1 ⊕ var 2 ⊗ var 1) (var 1 ⊗ (var 0 ⊕ var 2)) tt in
    let none : pos n *ℤ pos 0 ≡ pos 0 = ring (pos n ∷ []) (var 0 ⊗ num (pos 0)) (num (pos 0)) tt in
    let second : (slope *ℤ pos n +ℤ pos a *ℤ pos n) ≤ℤ pos 0 = subst (λ (z : ℤ). z ≤ℤ pos 0) (sym turned) (subst (λ (z : ℤ). (pos n *ℤ (slope +ℤ pos a)) ≤ℤ z) none (le_scale n (slope +ℤ pos a) (pos 0) h)) in
    le_trans (slope *ℤ pos n +ℤ pos a *ℤ pos b) (slope *ℤ pos n +ℤ pos a *ℤ pos n) (pos 0) (le_add (slope *ℤ pos n) (slope *ℤ pos n) (pos a *ℤ pos b) (pos a *ℤ pos n) (le_refl (slope *ℤ pos n)) first) second

-- the product of numbers without their last binary digits
product_of_parts : (s x i j : ℕ) → pos (s * 2 ^ i) *ℤ pos (x * 2 ^ j) ≡ pos (s * x) *ℤ pos (2 ^ (i + j))
product_of_parts s x i j =
    let e : (s * 2 ^ i) * (x * 2 ^ j) ≡ (s * x) * (2 ^ i * 2 ^ j) = omega arith in
    pos-*ℤ-pos (s * 2 ^ i) (x * 2 ^ j) ∙ ap pos (e ∙ ap (λ (n : ℕ). (s * x) * n) (sym (pow-add 2 i j))) ∙ sym (pos-*ℤ-pos (s * x) (2 ^ (i + j)))

-- a state without its last binary digits is not above it
pub state_below : (state : ℤ) (x j : ℕ) → 0 < 2 ^ j → pos x ≡ floor_over state (2 ^ j) → pos (x * 2 ^ j) ≤ℤ state
state_below state x j p e =
    let turned : pos (x * 2 ^ j) ≡ pos (2 ^ j) *ℤ floor_over state (2 ^ j) = sym (pos-*ℤ-pos x (2 ^ j)) ∙ ring (pos x ∷ pos (2 ^ j) ∷ []) (var 0 ⊗ var 1) (var 1 ⊗ var 0) tt ∙ ap (λ (z : ℤ). pos (2 ^ j) *ℤ z) e in
    subst (λ (z : ℤ). z ≤ℤ state) (sym turned) (floor_at_most state (2 ^ j) p)

-- a number that is not above the sum of two others, counted from a base
raised : (base : ℤ) (a b p : ℕ) → a ≤ b + p → (base +ℤ pos a) ≤ℤ (base +ℤ pos b +ℤ pos p)
raised base a b p h = omega (arith, ints, h)

-- how far a cut falls with a state, of numbers without their last binary digits
pub falls_by : (slope state : ℤ) (s x i j : ℕ) → (slope +ℤ pos (s * 2 ^ i)) ≤ℤ pos 0 → pos (x * 2 ^ j) ≤ℤ state → (slope *ℤ state +ℤ pos (s * x) *ℤ pos (2 ^ (i + j))) ≤ℤ pos 0
falls_by slope state s x i j falls there = subst (λ (z : ℤ). (slope *ℤ state +ℤ z) ≤ℤ pos 0) (product_of_parts s x i j) (product_below slope state (s * 2 ^ i) (x * 2 ^ j) falls there)

-- nothing falls with a state that is not there
pub falls_by_none : (slope state d : ℤ) (s : ℕ) → state ≡ pos 0 → (slope *ℤ state +ℤ pos (s * 0) *ℤ d) ≤ℤ pos 0
falls_by_none slope state d s e =
    let none : s * 0 ≡ 0 = omega arith in
    let sum : slope *ℤ state +ℤ pos (s * 0) *ℤ d ≡ pos 0 = ap₂ (λ (x : ℤ) (n : ℕ). slope *ℤ x +ℤ pos n *ℤ d) e none ∙ ring (slope ∷ d ∷ []) (var 0 ⊗ num (pos 0) ⊕ num (pos 0) ⊗ var 1) (num (pos 0)) tt in
    subst (λ (z : ℤ). z ≤ℤ pos 0) (sym sum) (le_refl (pos 0))

-- how far cuts fall with a state, by their steeps
pub falls_at : (cs : List PackedCut) (xs : List ℤ) (j i e : ℕ) (f : Falls) (steeps : List ℕ) → f.steeps.now ≡ steeps → AreSteeps i cs j steeps → f.state ≤ 2 ^ 16 → pos (f.state * 2 ^ e) ≤ℤ entry xs j → AreFalls (i + e) cs xs j f
falls_at cs xs j i e f steeps same s few there = record {
  count = ap length same ∙ s.count;
  few = few;
  falls = λ k l.
      let one = falls_by (entry (packed_cut_at cs k).slopes j) (entry xs j) (get_or steeps k 0) f.state i e (s.falls k l) there in
      subst (λ (ns : List ℕ). (entry (packed_cut_at cs k).slopes j *ℤ entry xs j +ℤ pos (get_or ns k 0 * f.state) *ℤ pos (2 ^ (i + e))) ≤ℤ pos 0) (sym same) one;
}

-- nothing falls with a state behind all
pub falls_past : (cs : List PackedCut) (xs : List ℤ) (j i shift : ℕ) (f : Falls) (steeps : List ℕ) → f.steeps.now ≡ steeps → AreSteeps i cs 0 steeps → f.state ≡ 0 → length xs ≤ j → AreFalls shift cs xs j f
falls_past cs xs j i shift f steeps same s zero h = record {
  count = ap length same ∙ s.count;
  few = omega (arith, zero);
  falls = λ k l. subst (λ (x : ℕ). (entry (packed_cut_at cs k).slopes j *ℤ entry xs j +ℤ pos (get_or f.steeps.now k 0 * x) *ℤ pos (2 ^ shift)) ≤ℤ pos 0) (sym zero) (falls_by_none (entry (packed_cut_at cs k).slopes j) (entry xs j) (pos (2 ^ shift)) (get_or f.steeps.now k 0) (get_or_past xs j (pos 0) h));
}

-- a bound with one state more, by which a cut changes as a term says
above_step : (value base term : ℤ) (bound next p n : ℕ) (rest tail : ℤ) → (term +ℤ pos p *ℤ pos n) ≤ℤ pos 0 → bound ≤ next + p → rest ≡ term +ℤ tail → value ≤ℤ ((base +ℤ pos bound) *ℤ pos n +ℤ rest) → value ≤ℤ ((base +ℤ pos next) *ℤ pos n +ℤ tail)
above_step value base term bound next p n rest tail below is opened h =
    let d : ℤ = pos n in
    let q : ℤ = pos p in
    let old : ℤ = base +ℤ pos bound in
    let new : ℤ = base +ℤ pos next in
    let times : (d *ℤ old) ≤ℤ (d *ℤ (new +ℤ q)) = le_scale n old (new +ℤ q) (raised base bound next p is) in
    let left : d *ℤ old +ℤ (term +ℤ tail) ≡ old *ℤ d +ℤ (term +ℤ tail) = ring (d ∷ old ∷ term ∷ tail ∷ []) (var 0 ⊗ var 1 ⊕ (var 2 ⊕ var 3)) (var 1 ⊗ var 0 ⊕ (var 2 ⊕ var 3)) tt in
    let right : d *ℤ (new +ℤ q) +ℤ (term +ℤ tail) ≡ (new *ℤ d +ℤ tail) +ℤ (term +ℤ q *ℤ d) = ring (d ∷ new ∷ q ∷ term ∷ tail ∷ []) (var 0 ⊗ (var 1 ⊕ var 2) ⊕ (var 3 ⊕ var 4)) ((var 1 ⊗ var 0 ⊕ var 4) ⊕ (var 3 ⊕ var 2 ⊗ var 0)) tt in
    let least : ℤ = new *ℤ d +ℤ tail in
    let first : (old *ℤ d +ℤ rest) ≤ℤ (least +ℤ (term +ℤ q *ℤ d)) =
    subst (λ (z : ℤ). (old *ℤ d +ℤ z) ≤ℤ (least +ℤ (term +ℤ q *ℤ d))) (sym opened)
    (subst (λ (z : ℤ). z ≤ℤ (least +ℤ (term +ℤ q *ℤ d))) left
    (subst (λ (z : ℤ). (d *ℤ old +ℤ (term +ℤ tail)) ≤ℤ z) right
    (le_add (d *ℤ old) (d *ℤ (new +ℤ q)) (term +ℤ tail) (term +ℤ tail) times (le_refl (term +ℤ tail))))) in
    let end : least +ℤ pos 0 ≡ least = ring (least ∷ []) (var 0 ⊕ num (pos 0)) (var 0) tt in
    let second : (least +ℤ (term +ℤ q *ℤ d)) ≤ℤ least = subst (λ (z : ℤ). (least +ℤ (term +ℤ q *ℤ d)) ≤ℤ z) end (le_add least least (term +ℤ q *ℤ d) (pos 0) (le_refl least) below) in
    le_trans value (old *ℤ d +ℤ rest) least h (le_trans (old *ℤ d +ℤ rest) (least +ℤ (term +ℤ q *ℤ d)) least first second)

-- what no states add
none_left : (ss xs : List ℤ) (j : ℕ) → length xs ≤ j → dot (drop j ss) (drop j xs) ≡ pos 0
none_left ss xs j h = ap (dot (drop j ss)) (drop_all j xs h) ∙ nothing (drop j ss)
  where
    nothing : (us : List ℤ) → dot us [] ≡ pos 0
    nothing [] = refl
    nothing (u ∷ us) = refl

-- what the states from j on add, one state on
rest_more : (ss xs : List ℤ) (j : ℕ) → length ss ≡ length xs → dot (drop j ss) (drop j xs) ≡ entry ss j *ℤ entry xs j +ℤ dot (drop (j + 1) ss) (drop (j + 1) xs)
rest_more ss xs j e = ⊎_elim
    (λ (l : j < length xs). ap₂ (λ (us vs : List ℤ). dot us vs) (drop_more ss j (pos 0) (omega (arith, l, e))) (drop_more xs j (pos 0) l))
    (λ (h : length xs ≤ j).
    let tail = none_left ss xs (j + 1) (omega (arith, h)) in
    none_left ss xs j h ∙ sym (ap₂ (λ (x z : ℤ). entry ss j *ℤ x +ℤ z) (get_or_past xs j (pos 0) h) tail ∙ ring (entry ss j ∷ []) (var 0 ⊗ num (pos 0) ⊕ num (pos 0)) (num (pos 0)) tt))
    (cases_lt j (length xs))

-- bounds of cuts with three states more
pub bounds_more : (cs : List PackedCut) (xs : List ℤ) (old new : List ℕ) (base : ℤ) (shift j : ℕ) (f g h : Falls) → length old ≡ length cs → length new ≡ length old → All (λ (c : PackedCut). length c.slopes ≡ length xs) cs → AreFalls shift cs xs j f → AreFalls shift cs xs (j + 1) g → AreFalls shift cs xs (j + 2) h → ((k : ℕ) → k < length old → get_or old k 0 ≤ get_or new k 0 + get_or h.steeps.now k 0 * h.state + get_or g.steeps.now k 0 * g.state + get_or f.steeps.now k 0 * f.state) → AreBounds shift base cs xs j old → AreBounds shift base cs xs (j + 3) new
bounds_more cs xs old new base shift j f g h all same counts first second third is b = λ k m.
    let within : k < length old = omega (arith, m, same) in
    let at : k < length cs = omega (arith, within, all) in
    let c = packed_cut_at cs k in
    let n : ℕ = get_or new k 0 in
    let p : ℕ = get_or f.steeps.now k 0 * f.state in
    let q : ℕ = get_or g.steeps.now k 0 * g.state in
    let r : ℕ = get_or h.steeps.now k 0 * h.state in
    let many = counts k no_packed_cut at in
    let two : j + 1 + 1 ≡ j + 2 = omega arith in
    let three : j + 2 + 1 ≡ j + 3 = omega arith in
    let once = above_step (value_of c xs) base (entry c.slopes j *ℤ entry xs j) (get_or old k 0) (n + r + q) p (2 ^ shift) _ _ (first.falls k at) (is k within) (rest_more c.slopes xs j many) (b k within) in
    let twice = above_step (value_of c xs) base (entry c.slopes (j + 1) *ℤ entry xs (j + 1)) (n + r + q) (n + r) q (2 ^ shift) _ _ (second.falls k at) (omega arith) (rest_more c.slopes xs (j + 1) many) once in
    let moved = subst (λ (i : ℕ). value_of c xs ≤ℤ ((base +ℤ pos (n + r)) *ℤ pos (2 ^ shift) +ℤ rest_of c xs i)) two twice in
    let thrice = above_step (value_of c xs) base (entry c.slopes (j + 2) *ℤ entry xs (j + 2)) (n + r) n r (2 ^ shift) _ _ (third.falls k at) (omega arith) (rest_more c.slopes xs (j + 2) many) moved in
    subst (λ (i : ℕ). value_of c xs ≤ℤ ((base +ℤ pos n) *ℤ pos (2 ^ shift) +ℤ rest_of c xs i)) three thrice

-- heights bound the values of cuts without what the states add
pub bounds_start : (cs : List PackedCut) (xs : List ℤ) (heights : List ℕ) (shift : ℕ) (base : ℤ) → AreHeights shift base cs heights → AreBounds shift base cs xs 0 heights
bounds_start cs xs heights shift base h = λ k m.
    let at : k < length cs = omega (arith, m, h.count) in
    let c = packed_cut_at cs k in
    le_add (c.height *ℤ pos (2 ^ 24)) ((base +ℤ pos (get_or heights k 0)) *ℤ pos (2 ^ shift)) (dot c.slopes xs) (dot c.slopes xs) (h.above k at) (le_refl (dot c.slopes xs))

-- a bound with all states is one of the value
pub bounds_end : (cs : List PackedCut) (xs : List ℤ) (bounds : List ℕ) (base : ℤ) (shift k : ℕ) → AreBounds shift base cs xs (length xs) bounds → k < length bounds → value_of (packed_cut_at cs k) xs ≤ℤ ((base +ℤ pos (get_or bounds k 0)) *ℤ pos (2 ^ shift))
bounds_end cs xs bounds base shift k b l =
    let top : ℤ = (base +ℤ pos (get_or bounds k 0)) *ℤ pos (2 ^ shift) in
    let end : top +ℤ dot (drop (length xs) (packed_cut_at cs k).slopes) (drop (length xs) xs) ≡ top = ap (λ (z : ℤ). top +ℤ z) (none_left (packed_cut_at cs k).slopes xs (length xs) (omega arith)) ∙ ring (top ∷ []) (var 0 ⊕ num (pos 0)) (var 0) tt in
    subst (λ (z : ℤ). value_of (packed_cut_at cs k) xs ≤ℤ z) end (b k l)

-- a number that is less by one that is above 0
less_by : (a value : ℤ) (d : ℕ) → 0 < d → (a +ℤ pos d) ≤ℤ value → a <ℤ value
less_by a value d p h = omega (arith, ints, p, h)

-- a size is the number itself where that is not below 0
pub of_size : (x : ℤ) (n : ℕ) → pos 0 ≤ℤ x → n ≡ nat_abs x → pos n ≡ x
of_size x n h e = omega (arith, ints, h, e)

-- a number below another one's distance from a base, and one more
one_more : (base f : ℤ) (b l : ℕ) → pos l ≡ f -ℤ base → b < l → (base +ℤ pos b +ℤ pos 1) ≤ℤ f
one_more base f b l e h = omega (arith, ints, e, h)

-- a bound that is below a limit
pub limit_below : (base value : ℤ) (b limit d : ℕ) → 0 < d → pos limit ≡ floor_over value d -ℤ base → b < limit → ((base +ℤ pos b) *ℤ pos d) <ℤ value
limit_below base value b limit d p e h =
    let x : ℤ = base +ℤ pos b in
    let turned : pos d *ℤ (x +ℤ pos 1) ≡ x *ℤ pos d +ℤ pos d = ring (x ∷ pos d ∷ []) (var 1 ⊗ (var 0 ⊕ num (pos 1))) (var 0 ⊗ var 1 ⊕ var 1) tt in
    let scaled : (pos d *ℤ (x +ℤ pos 1)) ≤ℤ value = le_trans (pos d *ℤ (x +ℤ pos 1)) (pos d *ℤ floor_over value d) value (le_scale d (x +ℤ pos 1) (floor_over value d) (one_more base (floor_over value d) b limit e h)) (floor_at_most value d p) in
    less_by (x *ℤ pos d) value d p (subst (λ (z : ℤ). z ≤ℤ value) turned scaled)
