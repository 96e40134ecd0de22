-- The lines of numbers with their names, as a loop writes them.
use Rattle.std.proofs.Common.{◌≡◌, ◌∙◌, ℕ, ◌+◌, ◌<◌, ◌≤◌, ℤ, List, [], ◌∷◌, ◌++◌, drop, length, get_or, min, ◌⊎◌, inl, inr, refl, sym, ap, ap₂, append_assoc, arith}
use Rattle.std.proofs.lemmas.Bool.{cases_lt}
use Rattle.std.proofs.lemmas.List.{append-nil, drop_more, drop_all}
use Rattle.policy_report.specs.Traces.{named_line, named_lines}

module _ {A : Type 0} (what : List ℕ) (name : A → List ℕ) (xs : List A) (zs : List ℤ) where
  -- one number more was written
  pub named-go : (out new total : List ℕ) (i : ℕ) (x : A) (z : ℤ) → i < min (length xs) (length zs) → x ≡ get_or xs i x → z ≡ get_or zs i z → new ≡ out ++ named_line what (name x) z → out ++ named_lines what name (drop i xs) (drop i zs) ≡ total
      → new ++ named_lines what name (drop (i + 1) xs) (drop (i + 1) zs) ≡ total
  named-go out new total i x z lt first second is h =
      let here : drop i xs ≡ x ∷ drop (i + 1) xs = drop_more xs i x (omega (arith, lt)) ∙ ap (λ (y : A). y ∷ drop (i + 1) xs) (sym first) in
      let there : drop i zs ≡ z ∷ drop (i + 1) zs = drop_more zs i z (omega (arith, lt)) ∙ ap (λ (y : ℤ). y ∷ drop (i + 1) zs) (sym second) in
      ap (λ (bs : List ℕ). bs ++ named_lines what name (drop (i + 1) xs) (drop (i + 1) zs)) is
      ∙ append_assoc out (named_line what (name x) z) (named_lines what name (drop (i + 1) xs) (drop (i + 1) zs))
      ∙ sym (ap₂ (λ (ys : List A) (ws : List ℤ). out ++ named_lines what name ys ws) here there) ∙ h

  none : (ys : List A) (ws : List ℤ) → (ys ≡ []) ⊎ (ws ≡ []) → named_lines what name ys ws ≡ []
  none [] ws e = refl
  none (y ∷ ys) [] e = refl
  none (y ∷ ys) (w ∷ ws) (inl e) = absurd (cc)
  none (y ∷ ys) (w ∷ ws) (inr e) = absurd (cc)

  -- all numbers were written
  pub named-done : (out total : List ℕ) (i : ℕ) → min (length xs) (length zs) ≤ i → out ++ named_lines what name (drop i xs) (drop i zs) ≡ total → out ≡ total
  named-done out total i past h = sym (ap (λ (bs : List ℕ). out ++ bs) (none (drop i xs) (drop i zs) (by (cases_lt i (length xs)))) ∙ append-nil out) ∙ h
    where
      by : (i < length xs) ⊎ (length xs ≤ i) → (drop i xs ≡ []) ⊎ (drop i zs ≡ [])
      by (inr le) = inl (drop_all i xs le)
      by (inl lt) = inr (drop_all i zs (omega (arith, past, lt)))
