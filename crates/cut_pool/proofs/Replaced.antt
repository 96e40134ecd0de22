-- Lists seen through a function of their elements, where one element was replaced.
use Rattle.std.proofs.Common.{◌≡◌, ◌≢◌, ℕ, ◌<◌, Bool, true, false, if◌then◌else◌, List, [], length, get_or, map, set, ap, sym, subst, ◌∙◌}
use Rattle.std.proofs.lemmas.List.{map-set, get_or-map, get_or-set_same, get_or-set_other, length-map}
use Rattle.std.proofs.Math.Seq.{map-set_same}

module _ {A : Type 0} where
  -- the element x at the place i is replaced by one that looks the same
  pub same : {B : Type 0} (f : A → B) (xs : List A) (i : ℕ) (y x : A) (bs : List B) → map f xs ≡ bs → x ≡ get_or xs i x → f y ≡ f x → map f (set xs i y) ≡ bs
  same f xs i y x bs v e h = map-set_same f xs i y x (h ∙ ap f e) ∙ v

  -- the view of the element x
  pub seen : {C : Type 0} (f : A → List C) (xs : List A) (i : ℕ) (x : A) (bs : List (List C)) → map f xs ≡ bs → x ≡ get_or xs i x → i < length bs → get_or bs i [] ≡ f x
  seen f xs i x bs v e h =
      ap (λ b. get_or b i []) (sym v) ∙ get_or-map f xs i x [] (subst (λ n. i < n) (sym (ap length v) ∙ length-map xs f) h) ∙ ap f (sym e)

  -- the element x is replaced by one that looks like g of what x does
  pub changed : {C : Type 0} (f : A → List C) (g : List C → List C) (xs : List A) (i : ℕ) (y x : A) (bs : List (List C)) → map f xs ≡ bs → x ≡ get_or xs i x → i < length bs → f y ≡ g (f x) → map f (set xs i y) ≡ set bs i (g (get_or bs i []))
  changed f g xs i y x bs v e h w = map-set f xs i y ∙ ap (λ b. set b i (f y)) v ∙ ap (λ c. set bs i c) (w ∙ ap g (sym (seen f xs i x bs v e h)))

  -- the changed list, or the list as it was
  pub changed_if : {C : Type 0} (f : A → List C) (g : List C → List C) (b : Bool) (xs : List A) (i : ℕ) (y x : A) (bs : List (List C)) → map f xs ≡ bs → x ≡ get_or xs i x → i < length bs → f y ≡ (if b then g (f x) else f x) → map f (set xs i y) ≡ (if b then set bs i (g (get_or bs i [])) else bs)
  changed_if f g true xs i y x bs v e h w = changed f g xs i y x bs v e h w
  changed_if f g false xs i y x bs v e h w = same f xs i y x bs v e w

  -- the element at the place i after it was replaced
  pub there : (f : A → ℕ) (xs : List A) (i : ℕ) (y : A) → i < length xs → get_or (map f (set xs i y)) i 0 ≡ f y
  there f xs i y h = ap (λ b. get_or b i 0) (map-set f xs i y) ∙ get_or-set_same (map f xs) i (f y) 0 (subst (λ n. i < n) (sym (length-map xs f)) h)

  -- the place is there
  pub within : {B : Type 0} (f : A → B) (xs : List A) (i : ℕ) (bs : List B) → map f xs ≡ bs → i < length bs → i < length xs
  within f xs i bs v h = subst (λ n. i < n) (sym (ap length v) ∙ length-map xs f) h

  -- the element at the place i before
  pub stood : (f : A → ℕ) (xs : List A) (i : ℕ) (x : A) → x ≡ get_or xs i x → i < length xs → get_or (map f xs) i 0 ≡ f x
  stood f xs i x e h = get_or-map f xs i x 0 h ∙ ap f (sym e)

  -- the element at another place k
  pub elsewhere : (f : A → ℕ) (xs : List A) (i k : ℕ) (y : A) → k ≢ i → get_or (map f (set xs i y)) k 0 ≡ get_or (map f xs) k 0
  elsewhere f xs i k y h = ap (λ b. get_or b k 0) (map-set f xs i y) ∙ get_or-set_other (map f xs) i k (f y) 0 h
