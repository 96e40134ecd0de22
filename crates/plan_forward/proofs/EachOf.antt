-- A function's answers for each item in order: in a loop, and in two parts one after the other.
use Rattle.std.proofs.Common.{◌≡◌, ◌∙◌, ℕ, suc, ◌+◌, ◌<◌, List, [], ◌∷◌, ◌++◌, length, get_or, take, drop, take-append-drop, zip, All, Result, Ok, Err, refl, sym, ap, ap₂, subst}
use Rattle.std.proofs.lemmas.List.{take_more, drop_more}
use Rattle.std.proofs.lemmas.List.Elements.{All-nil, All-cons}
use Rattle.base_num.specs.Steps.{◌>>=◌}
use Rattle.base_num.proofs.Sums.{All_head, All_tail}
use Rattle.plan_forward.specs.Walking.{each_of, in_turn}

none_first : {B E : Type 0} (tail : Result (List B) E) → tail ≡ in_turn (Ok []) tail
none_first (Ok zs) = refl
none_first (Err e) = refl

abbrev ok : {B E : Type 0} → List B → Result (List B) E
ok ys = Ok ys

abbrev refusal : {B E : Type 0} → E → Result (List B) E
refusal e = Err e

ok_same : {B E : Type 0} (xs ys : List B) → ok {E = E} xs ≡ ok ys → xs ≡ ys
ok_same xs ys e = cc

refusal_same : {B E : Type 0} (c d : E) → refusal {B = B} c ≡ refusal d → c ≡ d
refusal_same c d e = cc

one_first : {B E : Type 0} (r : Result B E) (s t : Result (List B) E) → (r >>= λ y. in_turn s t >>= λ zs. Ok (y ∷ zs)) ≡ in_turn (r >>= λ y. s >>= λ zs. Ok (y ∷ zs)) t
one_first (Err e) s t = refl
one_first (Ok y) (Err e) t = refl
one_first (Ok y) (Ok ys) (Err e) = refl
one_first (Ok y) (Ok ys) (Ok zs) = refl

module _ {A B E : Type 0} (f : A → Result B E) where
  -- two parts
  pub each-append : (xs ys : List A) → each_of f (xs ++ ys) ≡ in_turn (each_of f xs) (each_of f ys)
  each-append [] ys = none_first (each_of f ys)
  each-append (x ∷ xs) ys = ap (λ (w : Result (List B) E). f x >>= λ y. w >>= λ zs. Ok (y ∷ zs)) (each-append xs ys) ∙ one_first (f x) (each_of f xs) (each_of f ys)

  pub each-halves : (n : ℕ) (xs : List A) → in_turn (each_of f (take n xs)) (each_of f (drop n xs)) ≡ each_of f xs
  each-halves n xs = sym (each-append (take n xs) (drop n xs)) ∙ ap (each_of f) (take-append-drop n xs)

  one : (x : A) (y : B) → f x ≡ Ok y → each_of f (x ∷ []) ≡ Ok (y ∷ [])
  one x y e = rw e refl

  stopped : (x : A) (xs : List A) (e : E) → f x ≡ Err e → each_of f (x ∷ xs) ≡ Err e
  stopped x xs e is = rw is refl

  -- one more
  pub each_more : (xs : List A) (i : ℕ) (d : A) (ys new : List B) (y : B) → i < length xs → each_of f (take i xs) ≡ Ok ys → f (get_or xs i d) ≡ Ok y → new ≡ ys ++ y ∷ [] → each_of f (take (i + 1) xs) ≡ Ok new
  each_more xs i d ys new y h so_far is more =
      ap (each_of f) (take_more xs i d h) ∙ each-append (take i xs) (get_or xs i d ∷ []) ∙ ap₂ (λ (s t : Result (List B) E). in_turn s t) so_far (one (get_or xs i d) y is) ∙ ap Ok (sym more)

  -- one that refuses
  pub each_stops : (xs : List A) (i : ℕ) (d : A) (ys : List B) (e : E) → i < length xs → each_of f (take i xs) ≡ Ok ys → f (get_or xs i d) ≡ Err e → each_of f xs ≡ Err e
  each_stops xs i d ys e h so_far is =
      sym (each-halves i xs) ∙ ap₂ (λ (s t : Result (List B) E). in_turn s t) so_far (ap (each_of f) (drop_more xs i d h) ∙ stopped (get_or xs i d) (drop (i + 1) xs) e is)

  -- a property of all items with their answers
  pub record Each (P : A → B → Type 0) (xs : List A) (ys : List B) : Type 0 where
    pub count : length ys ≡ length xs
    pub each : All (λ (q : A × B). P q.0 q.1) (zip xs ys)

  module _ (Q : A → Type 0) where
    pub each_holds : (P : A → B → Type 0) → ((x : A) (y : B) → Q x → f x ≡ Ok y → P x y) → (xs : List A) (ys : List B) → All Q xs → each_of f xs ≡ Ok ys → Each P xs ys
    each_holds P h [] ys all e = subst (λ (zs : List B). Each P [] zs) (ok_same [] ys e) (record { count = refl; each = All-nil (λ (q : A × B). P q.0 q.1) })
    each_holds P h (x ∷ xs) ys all e = by (λ zs. each_holds P h xs zs (All_tail Q x xs all)) (f x) refl (each_of f xs) refl
      where
        by : ((zs : List B) → each_of f xs ≡ Ok zs → Each P xs zs) → (r : Result B E) → f x ≡ r → (s : Result (List B) E) → each_of f xs ≡ s → Each P (x ∷ xs) ys
        by tail (Err d) is s ss = absurd (no (sym (stopped x xs d is) ∙ e))
          where
            no : Err d ≡ Ok ys → ⊥
            no g = cc
        by tail (Ok y) is (Err d) ss = absurd (no (sym (both is ss) ∙ e))
          where
            both : f x ≡ Ok y → each_of f xs ≡ Err d → each_of f (x ∷ xs) ≡ Err d
            both a b = rw (a, b) refl

            no : Err d ≡ Ok ys → ⊥
            no g = cc
        by tail (Ok y) is (Ok zs) ss =
            let behind = tail zs ss in
            subst (λ (us : List B). Each P (x ∷ xs) us) (ok_same (y ∷ zs) ys (sym (both is ss) ∙ e)) (record { count = ap suc behind.count; each = All-cons (λ (q : A × B). P q.0 q.1) (x, y) (zip xs zs) (h x y (All_head Q x xs all) is) behind.each })
          where
            both : f x ≡ Ok y → each_of f xs ≡ Ok zs → each_of f (x ∷ xs) ≡ Ok (y ∷ zs)
            both a b = rw (a, b) refl

    -- and of what one refuses with
    pub each_refuses : (D : E → Type 0) → ((x : A) (d : E) → Q x → f x ≡ Err d → D d) → (xs : List A) (d : E) → All Q xs → each_of f xs ≡ Err d → D d
    each_refuses D h [] d all e = absurd (no e)
      where
        no : each_of f [] ≡ Err d → ⊥
        no g = cc
    each_refuses D h (x ∷ xs) d all e = by (each_refuses D h xs d (All_tail Q x xs all)) (f x) refl (each_of f xs) refl
      where
        by : (each_of f xs ≡ Err d → D d) → (r : Result B E) → f x ≡ r → (s : Result (List B) E) → each_of f xs ≡ s → D d
        by tail (Err c) is s ss = subst D (refusal_same {B = B} c d (sym (stopped x xs c is) ∙ e)) (h x c (All_head Q x xs all) is)
        by tail (Ok y) is (Err c) ss = tail (ss ∙ sym (both is ss) ∙ e)
          where
            both : f x ≡ Ok y → each_of f xs ≡ Err c → each_of f (x ∷ xs) ≡ Err c
            both a b = rw (a, b) refl
        by tail (Ok y) is (Ok zs) ss = absurd (no (sym (both is ss) ∙ e))
          where
            both : f x ≡ Ok y → each_of f xs ≡ Ok zs → each_of f (x ∷ xs) ≡ Ok (y ∷ zs)
            both a b = rw (a, b) refl

            no : Ok (y ∷ zs) ≡ Err d → ⊥
            no g = cc
