-- The lines of a list, as a loop writes them.
use Rattle.std.proofs.Common.{◌≡◌, ℕ, suc, ◌+◌, ◌<◌, ◌≤◌, List, ◌∷◌, ◌++◌, drop, length, get_or, refl, sym, ap, ◌∙◌, append_assoc, arith}
use Rattle.std.proofs.lemmas.List.{append-nil, drop_more, drop_all}
use Rattle.policy_report.specs.Lines.{numbered}

-- one item more was written
pub numbered-go : {A : Type 0} (text : ℕ → A → List ℕ) (out total : List ℕ) (xs : List A) (i : ℕ) (x : A) → i < length xs → x ≡ get_or xs i x → out ++ numbered text i (drop i xs) ≡ total
    → (out ++ text i x) ++ numbered text (i + 1) (drop (i + 1) xs) ≡ total
numbered-go {A} text out total xs i x lt is h =
    let here : drop i xs ≡ x ∷ drop (i + 1) xs = drop_more xs i x lt ∙ ap (λ (y : A). y ∷ drop (i + 1) xs) (sym is) in
    let k : i + 1 ≡ suc i = omega arith in
    append_assoc out (text i x) (numbered text (i + 1) (drop (i + 1) xs)) ∙ sym (ap (λ (ys : List A). out ++ numbered text i ys) here ∙ rw k refl) ∙ h

-- all items were written
pub numbered-done : {A : Type 0} (text : ℕ → A → List ℕ) (out total : List ℕ) (xs : List A) (i : ℕ) → length xs ≤ i → out ++ numbered text i (drop i xs) ≡ total → out ≡ total
numbered-done {A} text out total xs i le h = sym (ap (λ (ys : List A). out ++ numbered text i ys) (drop_all i xs le) ∙ append-nil out) ∙ h
