-- The sides that the reader finds hold between them what lies in the set that the file says.
use Rattle.std.proofs.Common.{◌≡◌, ◌↔◌, ℕ, ℤ, pos, ◌+ℤ◌, ◌-ℤ◌, ◌*ℤ◌, ◌≤ℤ◌, List, [], ◌∷◌, Bool, true, false, ◌&&◌, Option, Some, None, Ok, int_le, option_map, codes, bytes_eq, refl, sym, ap, subst, ◌∙◌, arith}
use Rattle.std.specs.Int.{int_min, int_max}
use Rattle.std.specs.Ordering.{int_eq}
use Rattle.std.proofs.lemmas.Bool.Decides.{Decides-int_eq}
use Rattle.std.proofs.lemmas.Bool.{and_from}
use Rattle.std.proofs.lemmas.Int.{ints, clamps}
use Rattle.serde_json.specs.Data.{Data}
use Rattle.base_num.proofs.Ring.{ring, var, ◌⊕◌, ◌⊗◌, ⊖}
use Rattle.base_num.proofs.Order.{le_of_eq, le_trans, le_scale}
use Rattle.base_num.proofs.Tests.{and_first, and_second}
use Rattle.problem.specs.declared.refusal.Place.{Place}
use Rattle.read_json.specs.Fields.{present_at, string_at}
use Rattle.read_json.specs.Limits.{limited_at}
use Rattle.read_json.proofs.Accepted.{then-Ok, Ok-is, unless-Ok, limited_at-is}
use Rattle.read_stage.specs.declared.sides.RowSides.{RowSides}
use Rattle.read_stage.specs.Sides.{ordered_at, side_at, equal_at, greater_at, less_at, interval_at, set_at, greater_of, lesser_of, intersection, shifted_side_at, shifted_at}
use Rattle.read_stage.specs.Said.{IsAboveLow, IsBelowHigh, Between}
use Rattle.read_profile.specs.File.{under, whole_number, set_of, ◌>>=◌}
use Rattle.read_stage.proofs.FileSays.{present-says, whole_number-says, string-says, chosen}

-- z in units of 1/N lies between the sides
abbrev pub Within : ℕ → RowSides → ℤ → Type 0
Within units s z = Between units s.low s.high z

to_le : (a b : ℤ) → int_le a b ≡ true → a ≤ℤ b
to_le a b e = grind (arith, ints)

from_le : (a b : ℤ) → a ≤ℤ b → int_le a b ≡ true
from_le a b h = by (int_le a b) refl
  where
    by : (t : Bool) → int_le a b ≡ t → t ≡ true
    by true e = refl
    by false e = absurd (omega (arith, ints))

not_le : (a b : ℤ) → int_le a b ≡ false → b ≤ℤ a
not_le a b e = omega (arith, ints)

-- a set is said, and it is what lies between the sides
abbrev pub SetSaid : RowSides → Option (ℕ → ℤ → Bool) → Type 0
SetSaid sides o = (s : ℕ → ℤ → Bool) × (o ≡ Some s) × ((units : ℕ) (z : ℤ) → (s units z ≡ true) ↔ Within units sides z)

side-says : (at : Place) (key : List ℕ) (d : Data) (z : ℤ) → side_at at key d ≡ Ok z → under key whole_number d ≡ Some z
unfolding side_at
side-says at key d z e = then-Ok (present_at _ _) _ z e (λ inner is e. rw (present-says _ _ inner is) (whole_number-says at inner z e))

equal-says : (at : Place) (d : Data) (sides : RowSides) → equal_at at d ≡ Ok sides → SetSaid sides (option_map (λ v units z. int_eq z (pos units *ℤ v)) (under (codes "value") whole_number d))
unfolding equal_at
equal-says at d sides e = then-Ok (side_at _ _ _) _ sides e (λ v is e.
    subst (λ t. SetSaid t (option_map (λ v units z. int_eq z (pos units *ℤ v)) (under (codes "value") whole_number d))) (Ok-is _ sides e)
    (rw (side-says at _ d v is) ((λ units z. int_eq z (pos units *ℤ v)), refl, each v)))
  where
    each : (v : ℤ) (units : ℕ) (z : ℤ) → (int_eq z (pos units *ℤ v) ≡ true) ↔ Within units (record { low = Some v; high = Some v }) z
    each v units z = (
      λ h. let same = (Decides-int_eq z (pos units *ℤ v)).0 h in (le_of_eq (pos units *ℤ v) z (sym same), le_of_eq z (pos units *ℤ v) same),
      λ h. (Decides-int_eq z (pos units *ℤ v)).1 (both h.0 h.1),
    )
      where
        both : (pos units *ℤ v) ≤ℤ z → z ≤ℤ (pos units *ℤ v) → z ≡ pos units *ℤ v
        both low high = omega (arith, ints)

greater-says : (at : Place) (d : Data) (sides : RowSides) → greater_at at d ≡ Ok sides → SetSaid sides (option_map (λ l units z. int_le (pos units *ℤ l) z) (under (codes "lower") whole_number d))
unfolding greater_at
greater-says at d sides e = then-Ok (side_at _ _ _) _ sides e (λ l is e.
    subst (λ t. SetSaid t (option_map (λ l units z. int_le (pos units *ℤ l) z) (under (codes "lower") whole_number d))) (Ok-is _ sides e)
    (rw (side-says at _ d l is) ((λ units z. int_le (pos units *ℤ l) z), refl, λ units z. (λ h. (to_le _ _ h, tt), λ h. from_le _ _ h.0))))

less-says : (at : Place) (d : Data) (sides : RowSides) → less_at at d ≡ Ok sides → SetSaid sides (option_map (λ u units z. int_le z (pos units *ℤ u)) (under (codes "upper") whole_number d))
unfolding less_at
less-says at d sides e = then-Ok (side_at _ _ _) _ sides e (λ u is e.
    subst (λ t. SetSaid t (option_map (λ u units z. int_le z (pos units *ℤ u)) (under (codes "upper") whole_number d))) (Ok-is _ sides e)
    (rw (side-says at _ d u is) ((λ units z. int_le z (pos units *ℤ u)), refl, λ units z. (λ h. (tt, to_le _ _ h), λ h. from_le _ _ h.1))))

ordered-is : (at : Place) (s t : RowSides) → ordered_at at s ≡ Ok t → s ≡ t
unfolding ordered_at
ordered-is at s t e = Ok-is s t (unless-Ok _ _ _ at t e).1

interval-says : (at : Place) (d : Data) (sides : RowSides) → interval_at at d ≡ Ok sides
    → SetSaid sides (under (codes "lower") whole_number d >>= λ l. option_map (λ u units z. int_le (pos units *ℤ l) z && int_le z (pos units *ℤ u)) (under (codes "upper") whole_number d))
unfolding interval_at
interval-says at d sides e = then-Ok (side_at _ _ _) _ sides e (λ l is_l e. then-Ok (side_at _ _ _) _ sides e (λ u is_u e.
    subst (λ t. SetSaid t (under (codes "lower") whole_number d >>= λ l. option_map (λ u units z. int_le (pos units *ℤ l) z && int_le z (pos units *ℤ u)) (under (codes "upper") whole_number d))) (ordered-is at _ sides e)
    (rw (side-says at _ d l is_l, side-says at _ d u is_u) (
      (λ units z. int_le (pos units *ℤ l) z && int_le z (pos units *ℤ u)),
      refl,
      λ units z. (
        λ h. (to_le _ _ (and_first (int_le (pos units *ℤ l) z) (int_le z (pos units *ℤ u)) h), to_le _ _ (and_second (int_le (pos units *ℤ l) z) (int_le z (pos units *ℤ u)) h)),
        λ h. and_from (int_le (pos units *ℤ l) z) (int_le z (pos units *ℤ u)) (from_le _ _ h.0) (from_le _ _ h.1),
      ),
    ))))

pub set-says : (at : Place) (d : Data) (sides : RowSides) → set_at at d ≡ Ok sides → SetSaid sides (set_of d)
unfolding set_at set_of
set-says at d sides e =
    then-Ok (present_at _ _) _ sides e (λ inner is_inner e.
    then-Ok (string_at _ _) _ sides e (λ kind is_kind e.
    rw (present-says _ _ inner is_inner, string-says _ inner kind is_kind)
    (chosen (SetSaid sides) (bytes_eq kind (codes "EqualTo")) _ _ sides _ _ e (λ e. equal-says at d sides e) (λ e.
    chosen (SetSaid sides) (bytes_eq kind (codes "GreaterThan")) _ _ sides _ _ e (λ e. greater-says at d sides e) (λ e.
    chosen (SetSaid sides) (bytes_eq kind (codes "LessThan")) _ _ sides _ _ e (λ e. less-says at d sides e) (λ e.
    chosen (SetSaid sides) (bytes_eq kind (codes "Interval")) _ _ sides _ _ e (λ e. interval-says at d sides e) (λ e. absurd cc)))))))

-- a number between both sides is one between their intersection
pub meet-is : (a b : RowSides) (units : ℕ) (z : ℤ) → Within units (intersection a b) z ↔ (Within units a z × Within units b z)
meet-is a b units z = (
  λ h. let l = low a.low b.low in let u = high a.high b.high in (((l.0 h.0).0, (u.0 h.1).0), ((l.0 h.0).1, (u.0 h.1).1)),
  λ h. let l = low a.low b.low in let u = high a.high b.high in (l.1 (h.0.0, h.1.0), u.1 (h.0.1, h.1.1)),
)
  where
    greatest : (x y : ℤ) → ((pos units *ℤ int_max x y) ≤ℤ z) ↔ (((pos units *ℤ x) ≤ℤ z) × ((pos units *ℤ y) ≤ℤ z))
    greatest x y = (
      λ h. (le_trans (pos units *ℤ x) (pos units *ℤ int_max x y) z (le_scale units x (int_max x y) (omega (arith, ints, clamps))) h, le_trans (pos units *ℤ y) (pos units *ℤ int_max x y) z (le_scale units y (int_max x y) (omega (arith, ints, clamps))) h),
      λ h. by (int_le x y) refl h.0 h.1,
    )
      where
        by : (b : Bool) → int_le x y ≡ b → (pos units *ℤ x) ≤ℤ z → (pos units *ℤ y) ≤ℤ z → (pos units *ℤ int_max x y) ≤ℤ z
        by true e p q = subst (λ m. (pos units *ℤ m) ≤ℤ z) (greater x y (to_le x y e)) q
          where
            greater : (x y : ℤ) → x ≤ℤ y → y ≡ int_max x y
            greater x y h = omega (arith, ints, clamps)
        by false e p q = subst (λ m. (pos units *ℤ m) ≤ℤ z) (greater x y (not_le x y e)) p
          where
            greater : (x y : ℤ) → y ≤ℤ x → x ≡ int_max x y
            greater x y h = omega (arith, ints, clamps)

    low : (o p : Option ℤ) → IsAboveLow (greater_of o p) units z ↔ (IsAboveLow o units z × IsAboveLow p units z)
    low None p = (λ h. (tt, h), λ h. h.1)
    low (Some x) None = (λ h. (h, tt), λ h. h.0)
    low (Some x) (Some y) = greatest x y

    least : (x y : ℤ) → (z ≤ℤ (pos units *ℤ int_min x y)) ↔ ((z ≤ℤ (pos units *ℤ x)) × (z ≤ℤ (pos units *ℤ y)))
    least x y = (
      λ h. (le_trans z (pos units *ℤ int_min x y) (pos units *ℤ x) h (le_scale units (int_min x y) x (omega (arith, ints, clamps))), le_trans z (pos units *ℤ int_min x y) (pos units *ℤ y) h (le_scale units (int_min x y) y (omega (arith, ints, clamps)))),
      λ h. by (int_le x y) refl h.0 h.1,
    )
      where
        by : (b : Bool) → int_le x y ≡ b → z ≤ℤ (pos units *ℤ x) → z ≤ℤ (pos units *ℤ y) → z ≤ℤ (pos units *ℤ int_min x y)
        by true e p q = subst (λ m. z ≤ℤ (pos units *ℤ m)) (smaller x y (to_le x y e)) p
          where
            smaller : (x y : ℤ) → x ≤ℤ y → x ≡ int_min x y
            smaller x y h = omega (arith, ints, clamps)
        by false e p q = subst (λ m. z ≤ℤ (pos units *ℤ m)) (smaller x y (not_le x y e)) q
          where
            smaller : (x y : ℤ) → y ≤ℤ x → y ≡ int_min x y
            smaller x y h = omega (arith, ints, clamps)

    high : (o p : Option ℤ) → IsBelowHigh (lesser_of o p) units z ↔ (IsBelowHigh o units z × IsBelowHigh p units z)
    high None p = (λ h. (tt, h), λ h. h.1)
    high (Some x) None = (λ h. (h, tt), λ h. h.0)
    high (Some x) (Some y) = least x y

-- a constant that is moved to the sides
pub shift-is : (at : Place) (k : ℤ) (sides shifted : RowSides) → shifted_at at k sides ≡ Ok shifted → (units : ℕ) (z : ℤ) → Within units sides (z +ℤ pos units *ℤ k) ↔ Within units shifted z
unfolding shifted_at shifted_side_at
shift-is at k sides shifted e units z =
    then-Ok (shifted_side_at _ _ _) _ shifted e (λ low is_low e.
    then-Ok (shifted_side_at _ _ _) _ shifted e (λ high is_high e.
    let l = lower sides.low low is_low in
    let u = upper sides.high high is_high in
    subst (λ t. Within units sides (z +ℤ pos units *ℤ k) ↔ Within units t z) (Ok-is _ shifted e) (λ h. (l.0 h.0, u.0 h.1), λ h. (l.1 h.0, u.1 h.1))))
  where
    tail : (s : ℤ) → pos units *ℤ (s -ℤ k) ≡ pos units *ℤ s -ℤ pos units *ℤ k
    tail s = ring (pos units ∷ s ∷ k ∷ []) (var 0 ⊗ (var 1 ⊕ ⊖ (var 2))) (var 0 ⊗ var 1 ⊕ ⊖ (var 0 ⊗ var 2)) tt

    lower : (o t : Option ℤ) → shifted_side_at at k o ≡ Ok t → IsAboveLow o units (z +ℤ pos units *ℤ k) ↔ IsAboveLow t units z
    lower None t e = subst (λ t. Unit {0} ↔ IsAboveLow t units z) (Ok-is None t e) (λ h. h, λ h. h)
    lower (Some s) t e = then-Ok (limited_at _ _) _ t e (λ r is e.
        let same : s -ℤ k ≡ r = limited_at-is at (s -ℤ k) r is in
        subst (λ t. ((pos units *ℤ s) ≤ℤ (z +ℤ pos units *ℤ k)) ↔ IsAboveLow t units z) (ap Some same ∙ Ok-is (Some r) t e)
        (λ h. let m = tail s in omega (arith, ints, m, h), λ h. let m = tail s in omega (arith, ints, m, h)))

    upper : (o t : Option ℤ) → shifted_side_at at k o ≡ Ok t → IsBelowHigh o units (z +ℤ pos units *ℤ k) ↔ IsBelowHigh t units z
    upper None t e = subst (λ t. Unit {0} ↔ IsBelowHigh t units z) (Ok-is None t e) (λ h. h, λ h. h)
    upper (Some s) t e = then-Ok (limited_at _ _) _ t e (λ r is e.
        let same : s -ℤ k ≡ r = limited_at-is at (s -ℤ k) r is in
        subst (λ t. ((z +ℤ pos units *ℤ k) ≤ℤ (pos units *ℤ s)) ↔ IsBelowHigh t units z) (ap Some same ∙ Ok-is (Some r) t e)
        (λ h. let m = tail s in omega (arith, ints, m, h), λ h. let m = tail s in omega (arith, ints, m, h)))
