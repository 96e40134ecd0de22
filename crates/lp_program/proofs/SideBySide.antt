-- Cuts side by side, one by one.
use Rattle.std.proofs.Common.{◌≡◌, ◌∙◌, ℕ, zero, suc, ◌+◌, ◌*◌, ◌^◌, ◌<◌, ◌≤◌, ℤ, pos, nat_abs, All, List, [], ◌∷◌, length, take, drop, get_or, refl, ap, sym, arith}
use Rattle.std.proofs.Math.Seq.{drop-nil}
use Rattle.std.proofs.Math.Nat.{mul-le-mul_right}
use Rattle.std.proofs.lemmas.List.{length-take-le, length-drop}
use Rattle.std.proofs.lemmas.List.Elements.{All-take, All-drop}
use Rattle.lp_program.specs.PackedCut.{PackedCut, IsSmallCut, cuts_of, no_packed_cut}

-- as many cuts as heights
pub length-cuts_of : (n : ℕ) (hs bs : List ℤ) → length (cuts_of n hs bs) ≡ length hs
length-cuts_of n [] bs = refl
length-cuts_of n (h ∷ hs) bs = ap suc (length-cuts_of n hs (drop n bs))

pub height_at : (n : ℕ) (hs bs : List ℤ) (k : ℕ) → (get_or (cuts_of n hs bs) k no_packed_cut).height ≡ get_or hs k (pos 0)
height_at n [] bs k = refl
height_at n (h ∷ hs) bs zero = refl
height_at n (h ∷ hs) bs (suc k) = height_at n hs (drop n bs) k

-- the rest after two parts
twice : (m k : ℕ) (bs : List ℤ) → drop k (drop m bs) ≡ drop (m + k) bs
twice zero k bs = let e : k ≡ 0 + k = omega arith in ap (λ (m : ℕ). drop m bs) e
twice (suc m) k [] = drop-nil k ∙ sym (drop-nil (suc m + k))
twice (suc m) k (b ∷ bs) = let e : suc (m + k) ≡ suc m + k = omega arith in twice m k bs ∙ ap (λ (n : ℕ). drop n (b ∷ bs)) e

pub slopes_at : (n : ℕ) (hs bs : List ℤ) (k : ℕ) → k < length hs → (get_or (cuts_of n hs bs) k no_packed_cut).slopes ≡ take n (drop (k * n) bs)
slopes_at n [] bs k l = absurd (omega (arith, l))
slopes_at n (h ∷ hs) bs zero l = let e : 0 ≡ 0 * n = omega arith in ap (λ (m : ℕ). take n (drop m bs)) e
slopes_at n (h ∷ hs) bs (suc k) l =
    let e : n + k * n ≡ suc k * n = omega arith in
    slopes_at n hs (drop n bs) k (omega (arith, l)) ∙ ap (λ (cs : List ℤ). take n cs) (twice n (k * n) bs ∙ ap (λ (m : ℕ). drop m bs) e)

-- the slopes of a cut end within those of all
pub within : (n : ℕ) (hs bs : List ℤ) (k : ℕ) → length bs ≡ length hs * n → k < length hs → k * n + n ≤ length bs
within n hs bs k e l = let more : suc k * n ≤ length hs * n = mul-le-mul_right n (omega (arith, l)) in omega (arith, more, e)

-- each cut has a slope for each state
pub wide : (n : ℕ) (hs bs : List ℤ) (k : ℕ) (d : PackedCut) → length bs ≡ length hs * n → k < length hs → length (get_or (cuts_of n hs bs) k d).slopes ≡ n
wide n [] bs k d e l = absurd (omega (arith, l))
wide n (h ∷ hs) bs zero d e l = length-take-le n bs (omega (arith, e))
wide n (h ∷ hs) bs (suc k) d e l =
    let tail : length (drop n bs) ≡ length hs * n = length-drop n bs ∙ omega (arith, e) in
    wide n hs (drop n bs) k d tail (omega (arith, l))

-- the heights behind the first are small where all are
behind_first : (P : ℤ → Type 0) (h : ℤ) (hs : List ℤ) → All P (h ∷ hs) → All P hs
behind_first P h hs all k d l = all (suc k) d (omega (arith, l))

-- each cut is small
pub all_small : (n : ℕ) (hs bs : List ℤ) (k : ℕ) (d : PackedCut) → All (λ (h : ℤ). nat_abs h < 2 ^ 100) hs → All (λ (s : ℤ). nat_abs s < 2 ^ 57) bs → k < length hs → IsSmallCut (get_or (cuts_of n hs bs) k d)
all_small n [] bs k d heights slopes l = absurd (omega (arith, l))
all_small n (h ∷ hs) bs zero d heights slopes l = record {
  height = heights 0 (pos 0) (omega (arith, l));
  slopes = All-take (λ (s : ℤ). nat_abs s < 2 ^ 57) n bs slopes;
}
all_small n (h ∷ hs) bs (suc k) d heights slopes l =
    all_small n hs (drop n bs) k d (behind_first (λ (h : ℤ). nat_abs h < 2 ^ 100) h hs heights) (All-drop (λ (s : ℤ). nat_abs s < 2 ^ 57) n bs slopes) (omega (arith, l))
