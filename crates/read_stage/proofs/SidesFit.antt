-- The sides that are read, met and shifted are small and do not pass each other.
use Rattle.std.proofs.Common.{◌≡◌, ℕ, ℤ, ◌-ℤ◌, ◌≤ℤ◌, List, Bool, true, false, ◌&&◌, cond, Option, Some, None, Result, Ok, int_lt, int_le, bytes_eq, refl, subst, arith}
use Rattle.std.proofs.lemmas.Bool.{and_from}
use Rattle.std.proofs.lemmas.Int.{ints}
use Rattle.serde_json.specs.Data.{Data}
use Rattle.base_num.proofs.Tests.{and_first, and_second}
use Rattle.problem.specs.Limits.{is_small, is_bound, sides_fit}
use Rattle.problem.specs.declared.refusal.Refusal.{Refusal}
use Rattle.problem.specs.declared.refusal.Place.{Place}
use Rattle.read_json.specs.Fields.{present_at, string_at}
use Rattle.read_json.specs.Limits.{limited_at}
use Rattle.read_json.proofs.Accepted.{then-Ok, Ok-is, test-Ok, unless-Ok, either-Ok, whole_at-small, limited_at-small, limited_at-is}
use Rattle.read_stage.specs.declared.sides.RowSides.{RowSides}
use Rattle.read_stage.specs.Sides.{ordered_at, side_at, equal_at, greater_at, less_at, interval_at, set_at, greater_of, lesser_of, intersection, shifted_side_at, shifted_at}

abbrev pub SidesFit : RowSides → Type 0
SidesFit s = sides_fit s.low s.high ≡ true

-- each side that is there is small
pub record AreBounds (s : RowSides) : Type 0 where
  pub low : is_bound s.low ≡ true
  pub high : is_bound s.high ≡ true

le_from : (a b : ℤ) → a ≤ℤ b → int_le a b ≡ true
le_from a b h = by (int_le a b) refl
  where
    by : (t : Bool) → int_le a b ≡ t → t ≡ true
    by true e = refl
    by false e = absurd (omega (arith, ints))

pub le_from_uncrossed : (a b : ℤ) → int_lt b a ≡ false → int_le a b ≡ true
le_from_uncrossed a b e = le_from a b (omega (arith, ints))

-- both sides
pub both_fit : (low high : ℤ) → is_small low ≡ true → is_small high ≡ true → int_le low high ≡ true → sides_fit (Some low) (Some high) ≡ true
both_fit low high l h le = and_from (is_small low && is_small high) (int_le low high) (and_from (is_small low) (is_small high) l h) le

side_at-small : (at : Place) (key : List ℕ) (d : Data) (z : ℤ) → side_at at key d ≡ Ok z → is_small z ≡ true
unfolding side_at
side_at-small at key d z e = then-Ok (present_at _ _) _ z e (λ inner is e. whole_at-small at inner z e)

equal_at-fits : (at : Place) (d : Data) (s : RowSides) → equal_at at d ≡ Ok s → SidesFit s
unfolding equal_at
equal_at-fits at d s e = then-Ok (side_at _ _ _) _ s e (λ v is e. fits v (side_at-small at _ d v is) e)
  where
    fits : (v : ℤ) → is_small v ≡ true → ◌≡◌ {A = Result RowSides Refusal} (Ok (record { low = Some v; high = Some v })) (Ok s) → SidesFit s
    fits v small e = subst SidesFit (Ok-is _ s e) (both_fit v v small small (le_from v v (omega (arith, ints))))

greater_at-fits : (at : Place) (d : Data) (s : RowSides) → greater_at at d ≡ Ok s → SidesFit s
unfolding greater_at
greater_at-fits at d s e = then-Ok (side_at _ _ _) _ s e (λ l is e. subst SidesFit (Ok-is _ s e) (side_at-small at _ d l is))

less_at-fits : (at : Place) (d : Data) (s : RowSides) → less_at at d ≡ Ok s → SidesFit s
unfolding less_at
less_at-fits at d s e = then-Ok (side_at _ _ _) _ s e (λ u is e. subst SidesFit (Ok-is _ s e) (side_at-small at _ d u is))

interval_at-fits : (at : Place) (d : Data) (s : RowSides) → interval_at at d ≡ Ok s → SidesFit s
unfolding interval_at ordered_at
interval_at-fits at d s e =
    then-Ok (side_at _ _ _) _ s e (λ l is_low e.
    then-Ok (side_at _ _ _) _ s e (λ u is_high e.
    let parts = unless-Ok (int_lt u l) _ _ _ s e in
    subst SidesFit (Ok-is _ s parts.1) (both_fit l u (side_at-small at _ d l is_low) (side_at-small at _ d u is_high) (le_from_uncrossed l u parts.0))))

pub set_at-fits : (at : Place) (d : Data) (s : RowSides) → set_at at d ≡ Ok s → SidesFit s
unfolding set_at
set_at-fits at d s e =
    then-Ok (present_at _ _) _ s e (λ inner is e.
    then-Ok (string_at _ _) _ s e (λ kind is e.
    either-Ok (bytes_eq kind _) _ _ s e (λ e. equal_at-fits at d s e) (λ e.
    either-Ok (bytes_eq kind _) _ _ s e (λ e. greater_at-fits at d s e) (λ e.
    either-Ok (bytes_eq kind _) _ _ s e (λ e. less_at-fits at d s e) (λ e. interval_at-fits at d s (test-Ok (bytes_eq kind _) _ _ _ s e).1)))))

-- ---- shifted sides

none_shifted : (at : Place) (c : ℤ) (t : Option ℤ) → shifted_side_at at c None ≡ Ok t → None ≡ t
unfolding shifted_side_at
none_shifted at c t e = Ok-is None t e

some_shifted : {G : Type 0} (at : Place) (c z : ℤ) (t : Option ℤ) → shifted_side_at at c (Some z) ≡ Ok t → ((y : ℤ) → Some y ≡ t → z -ℤ c ≡ y → is_small y ≡ true → G) → G
unfolding shifted_side_at
some_shifted at c z t e go = then-Ok (limited_at _ _) _ t e (λ y is e. go y (Ok-is (Some y) t e) (limited_at-is at _ y is) (limited_at-small at _ y is))

le_shifted : (c l h x y : ℤ) → int_le l h ≡ true → l -ℤ c ≡ x → h -ℤ c ≡ y → int_le x y ≡ true
le_shifted c l h x y le p q = le_from x y (omega (arith, ints))

sides_shifted : (at : Place) (c : ℤ) (low high x y : Option ℤ) → sides_fit low high ≡ true → shifted_side_at at c low ≡ Ok x → shifted_side_at at c high ≡ Ok y → sides_fit x y ≡ true
sides_shifted at c None None x y fits p q = subst (λ l. sides_fit l y ≡ true) (none_shifted at c x p) (subst (λ h. is_bound h ≡ true) (none_shifted at c y q) refl)
sides_shifted at c None (Some h) x y fits p q =
    some_shifted at c h y q (λ b is_y same small. subst (λ l. sides_fit l y ≡ true) (none_shifted at c x p) (subst (λ h. is_bound h ≡ true) is_y small))
sides_shifted at c (Some l) None x y fits p q =
    some_shifted at c l x p (λ a is_x same small. subst (λ o. sides_fit o y ≡ true) is_x (subst (λ h. sides_fit (Some a) h ≡ true) (none_shifted at c y q) small))
sides_shifted at c (Some l) (Some h) x y fits p q =
    let le = and_second (is_small l && is_small h) (int_le l h) fits in
    some_shifted at c l x p (λ a is_x same_x small_x.
    some_shifted at c h y q (λ b is_y same_y small_y.
    subst (λ o. sides_fit o y ≡ true) is_x (subst (λ o. sides_fit (Some a) o ≡ true) is_y (both_fit a b small_x small_y (le_shifted c l h a b le same_x same_y)))))

pub shifted_at-fits : (at : Place) (c : ℤ) (s t : RowSides) → SidesFit s → shifted_at at c s ≡ Ok t → SidesFit t
unfolding shifted_at
shifted_at-fits at c s t fits e =
    then-Ok (shifted_side_at _ _ _) _ t e (λ low is_low e.
    then-Ok (shifted_side_at _ _ _) _ t e (λ high is_high e.
    subst SidesFit (Ok-is _ t e) (sides_shifted at c s.low s.high low high fits is_low is_high)))

-- ---- bounds

fit_bounds : (low high : Option ℤ) → sides_fit low high ≡ true → (is_bound low ≡ true) × (is_bound high ≡ true)
fit_bounds None high e = (refl, e)
fit_bounds (Some l) None e = (e, refl)
fit_bounds (Some l) (Some h) e = let small = and_first (is_small l && is_small h) (int_le l h) e in (and_first (is_small l) (is_small h) small, and_second (is_small l) (is_small h) small)

pub SidesFit-bounds : (s : RowSides) → SidesFit s → AreBounds s
SidesFit-bounds s e = let parts = fit_bounds s.low s.high e in record { low = parts.0; high = parts.1 }

either_small : (b : Bool) (x y : ℤ) → is_small x ≡ true → is_small y ≡ true → is_small (cond b x y) ≡ true
either_small true x y p q = p
either_small false x y p q = q

greater_of-bound : (a b : Option ℤ) → is_bound a ≡ true → is_bound b ≡ true → is_bound (greater_of a b) ≡ true
greater_of-bound None b p q = q
greater_of-bound (Some x) None p q = p
greater_of-bound (Some x) (Some y) p q = either_small (int_lt y x) x y p q

lesser_of-bound : (a b : Option ℤ) → is_bound a ≡ true → is_bound b ≡ true → is_bound (lesser_of a b) ≡ true
lesser_of-bound None b p q = q
lesser_of-bound (Some x) None p q = p
lesser_of-bound (Some x) (Some y) p q = either_small (int_lt y x) y x q p

pub intersection-bounds : (a b : RowSides) → AreBounds a → AreBounds b → AreBounds (intersection a b)
intersection-bounds a b p q = record { low = greater_of-bound a.low b.low p.low q.low; high = lesser_of-bound a.high b.high p.high q.high }
