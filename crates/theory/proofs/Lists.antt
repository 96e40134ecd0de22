-- Properties of the elements of lists that go side by side.
use Rattle.std.proofs.Common.{List, [], ◌∷◌, All, zip}
use Rattle.std.proofs.lemmas.List.Elements.{All-nil, All-cons, All-head, All-tail}

pub All-zip : {A B : Type 0} (P : A → Type 0) (xs : List A) (ys : List B) → All P xs → All (λ (q : A × B). P q.0) (zip xs ys)
All-zip P [] ys h = All-nil (λ q. P q.0)
All-zip P (x ∷ xs) [] h = All-nil (λ q. P q.0)
All-zip P (x ∷ xs) (y ∷ ys) h = All-cons (λ q. P q.0) (x, y) (zip xs ys) (All-head P x xs h) (All-zip P xs ys (All-tail P x xs h))

pub All-both : {A : Type 0} (P R : A → Type 0) (xs : List A) → All P xs → All R xs → All (λ x. P x × R x) xs
All-both P R xs h i = λ k d p. (h k d p, i k d p)
