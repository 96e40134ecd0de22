-- Things with names in a list: their places, and the look-up and the change of one by its name.
use Rattle.std.proofs.Common.{◌≡◌, ℕ, zero, suc, ◌<◌, ℤ, List, [], ◌∷◌, ◌++◌, length, map, slice_get, slice_set, Bool, true, false, cond, Some, Option, unwrap_or, position, bytes_eq, refl, sym, ap, ap₂, subst, ◌∙◌, ◌||◌, arith}
use Rattle.std.specs.List.{AllByRecursion, list_any, position_or_len}
use Rattle.std.proofs.lemmas.Bool.{lt-ltb}
use Rattle.std.proofs.lemmas.List.{length-map}
use Rattle.std.proofs.lemmas.Slice.Eq.{bytes_eq-Decides}
use Rattle.base_num.specs.Sums.{entry}
use Rattle.read_json.proofs.Distinct.{bytes_eq-turned}
use Rattle.hydro_accept.proofs.Pairs.{Pairwise}

pub some_is : {A : Type 0} (x y : A) → Some x ≡ Some y → x ≡ y
some_is x y e = ap (λ o. unwrap_or o x) e

pub map_alike : {A B : Type 0} (f g : A → B) (xs : List A) → AllByRecursion (λ x. f x ≡ g x) xs → map f xs ≡ map g xs
map_alike f g [] all = refl
map_alike f g (x ∷ xs) all = ap₂ ◌∷◌ all.0 (map_alike f g xs all.1)

pub map_ext : {A B : Type 0} (f g : A → B) (xs : List A) → ((x : A) → f x ≡ g x) → map f xs ≡ map g xs
map_ext f g [] h = refl
map_ext f g (x ∷ xs) h = ap₂ ◌∷◌ (h x) (map_ext f g xs h)

pub equal_names : (a : List ℕ) → bytes_eq a a ≡ true
equal_names a = (bytes_eq-Decides a a).1 refl

module _ {A : Type 0} (name : A → List ℕ) where
  abbrev pub same : A → A → Bool
  same x y = bytes_eq (name x) (name y)

  -- no two have one name
  abbrev pub Distinct : List A → Type 0
  Distinct xs = Pairwise (λ x y. same x y ≡ false) xs

  -- where the name of x stands
  abbrev pub place : List A → A → ℕ
  place xs x = position_or_len (bytes_eq (name x)) (map name xs)

  abbrev pub At : List A → ℕ → A → Type 0
  At xs k x = slice_get xs k ≡ Some x

  -- x stands where its name does
  abbrev pub Stands : List A → A → Type 0
  Stands xs x = At xs (place xs x) x

  pub turned : (x y : A) → same x y ≡ false → same y x ≡ false
  turned x y e = bytes_eq-turned (name x) (name y) e

  pub apart_at : (x y : A) (xs : List A) (k : ℕ) → AllByRecursion (λ z. same x z ≡ false) xs → At xs k y → same x y ≡ false
  apart_at x y [] k all at = absurd cc
  apart_at x y (z ∷ xs) zero all at = subst (λ w. same x w ≡ false) (some_is z y at) all.0
  apart_at x y (z ∷ xs) (suc k) all at = apart_at x y xs k all.1 at

  pub place_at : (x : A) (xs : List A) (k : ℕ) → Distinct xs → At xs k x → place xs x ≡ k
  place_at x [] k d at = absurd cc
  place_at x (y ∷ ys) zero d at =
      let here : bytes_eq (name x) (name y) ≡ true = subst (λ w. bytes_eq (name x) (name w) ≡ true) (sym (some_is y x at)) (equal_names (name x)) in
      rw here refl
  place_at x (y ∷ ys) (suc k) d at = rw (turned y x (apart_at y x ys k d.0 at), place_at x ys k d.1 at) (omega arith)

  pub stands : (x : A) (xs : List A) (k : ℕ) → Distinct xs → At xs k x → Stands xs x
  stands x xs k d at = subst (λ j. At xs j x) (sym (place_at x xs k d at)) at

  pub within : (x : A) (xs : List A) (k : ℕ) → At xs k x → k < length xs
  within x [] k at = absurd cc
  within x (y ∷ ys) zero at = omega arith
  within x (y ∷ ys) (suc k) at = let less = within x ys k at in omega arith

  pub known : (x : A) (xs : List A) → Stands xs x → position (bytes_eq (name x)) (map name xs) ≡ Some (place xs x)
  known x xs at = rw (length-map xs name, lt-ltb (place xs x) (length xs) (within x xs (place xs x) at)) refl

  pub found_at : {B : Type 0} (f : A → B) (x : A) (xs : List A) (k : ℕ) → At xs k x → slice_get (map f xs) k ≡ Some (f x)
  found_at f x [] k at = absurd cc
  found_at f x (y ∷ ys) zero at = ap (λ (o : Option A). Some (f (unwrap_or o y))) at
  found_at f x (y ∷ ys) (suc k) at = found_at f x ys k at

  pub entry_at : (f : A → ℤ) (x : A) (xs : List A) (k : ℕ) → At xs k x → entry (map f xs) k ≡ f x
  entry_at f x [] k at = absurd cc
  entry_at f x (y ∷ ys) zero at = ap (λ (o : Option A). f (unwrap_or o y)) at
  entry_at f x (y ∷ ys) (suc k) at = entry_at f x ys k at

  pub unchanged : {B : Type 0} (f g : A → B) (x : A) (xs : List A) → AllByRecursion (λ y. same x y ≡ false) xs → map f xs ≡ map (λ y. cond (same x y) (g y) (f y)) xs
  unchanged f g x [] all = refl
  unchanged f g x (y ∷ ys) all = rw (all.0) (ap (λ zs. f y ∷ zs) (unchanged f g x ys all.1))

  -- the entry of x is changed
  pub changed_at : {B : Type 0} (f g : A → B) (x : A) (xs : List A) (k : ℕ) → Distinct xs → At xs k x → slice_set (map f xs) k (g x) ≡ map (λ y. cond (same x y) (g y) (f y)) xs
  changed_at f g x [] k d at = absurd cc
  changed_at {B} f g x (y ∷ ys) zero d at =
      let e = some_is y x at in
      let here : same x y ≡ true = subst (λ w. bytes_eq (name x) (name w) ≡ true) (sym e) (equal_names (name x)) in
      let tail : AllByRecursion (λ z. same x z ≡ false) ys = subst (λ w. AllByRecursion (λ z. same w z ≡ false) ys) e d.0 in
      rw here (ap₂ ◌∷◌ (ap g (sym e)) (unchanged f g x ys tail))
  changed_at f g x (y ∷ ys) (suc k) d at = rw (turned y x (apart_at y x ys k d.0 at)) (ap (λ zs. f y ∷ zs) (changed_at f g x ys k d.1 at))

  -- two of one name are one
  pub one_of : (x y : A) (xs : List A) → Distinct xs → Stands xs x → Stands xs y → same x y ≡ true → x ≡ y
  one_of x y xs d at to e =
      let names : name x ≡ name y = (bytes_eq-Decides (name x) (name y)).0 e in
      let places : place xs x ≡ place xs y = ap (λ (n : List ℕ). position_or_len (bytes_eq n) (map name xs)) names in
      some_is x y (sym at ∙ ap (slice_get xs) places ∙ to)

  pub distinct_any : (x : A) (found : List (List ℕ)) (y : A) → list_any (bytes_eq (name y)) found ≡ false → same y x ≡ false → list_any (bytes_eq (name y)) (found ++ name x ∷ []) ≡ false
  distinct_any x [] y none e = rw e refl
  distinct_any x (n ∷ ns) y none e = both (bytes_eq (name y) n) (list_any (bytes_eq (name y)) ns) (list_any (bytes_eq (name y)) (ns ++ name x ∷ [])) none (λ z. distinct_any x ns y z e)
    where
      both : (a b c : Bool) → (a || b) ≡ false → (b ≡ false → c ≡ false) → (a || c) ≡ false
      both true b c e f = e
      both false b c e f = f e
