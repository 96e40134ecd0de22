-- The bytes that a torn write and a cut leave, in parts.
use Rattle.std.proofs.Common.{◌≡◌, ℕ, zero, suc, ◌+◌, ◌≤◌, ◌<◌, List, [], ◌∷◌, ◌++◌, length, get_or, take, drop, refl, sym, ◌∙◌, ap, arith, append_assoc, length-append, take-append-drop}
use Rattle.std.proofs.lemmas.List.{take_at, drop_at, drop_more, take_all, drop_all, append-nil, length-take}
use Rattle.base_device.specs.Disks.{Torn, Cut, written}

-- a shorter front, and a piece of a front
take_less : (m n : ℕ) (l : List ℕ) → m ≤ n → take m (take n l) ≡ take m l
take_less zero n l le = refl
take_less (suc m) zero l le = absurd (omega arith)
take_less (suc m) (suc n) [] le = refl
take_less (suc m) (suc n) (x ∷ l) le = ap (λ (k : List ℕ). x ∷ k) (take_less m n l (omega arith))

pub piece_of_front : (n at m : ℕ) (l : List ℕ) → at + n ≤ m → take n (drop at (take m l)) ≡ take n (drop at l)
piece_of_front n zero m l le = take_less n m l (omega (arith, le))
piece_of_front n (suc at) zero l le = absurd (omega (arith, le))
piece_of_front n (suc at) (suc m) [] le = refl
piece_of_front n (suc at) (suc m) (x ∷ l) le = piece_of_front n at m l (omega (arith, le))

-- the byte behind a front, and what stands behind that
pub byte_behind : (f : List ℕ) (g : ℕ) (tail : List ℕ) (at d : ℕ) → at ≡ length f → get_or (f ++ g ∷ tail) at d ≡ g
byte_behind [] g tail zero d is = refl
byte_behind [] g tail (suc at) d is = absurd (omega (arith, is))
byte_behind (x ∷ f) g tail zero d is = absurd (omega (arith, is))
byte_behind (x ∷ f) g tail (suc at) d is = byte_behind f g tail at d (omega (arith, is))

pub rest_behind : (f : List ℕ) (g : ℕ) (tail : List ℕ) (at : ℕ) → at ≡ length f → drop (at + 1) (f ++ g ∷ tail) ≡ tail
rest_behind f g tail at is =
    ap (λ (l : List ℕ). drop (at + 1) l) (sym (append_assoc f (g ∷ []) tail)) ∙ drop_at (f ++ g ∷ []) tail (at + 1) (omega (arith, is, length-append f (g ∷ [])))

module _ (f : List ℕ) where
  -- a torn byte
  pub torn_byte : (g : ℕ) (tail c : List ℕ) (at : ℕ) → at ≡ length f → Torn at 1 (f ++ g ∷ tail) c → (h : ℕ) × (c ≡ f ++ h ∷ tail)
  torn_byte g tail c at is torn =
      let long : length f < length c = omega (arith, torn.no_shorter, length-append f (g ∷ tail)) in
      let front : take at c ≡ f = torn.before ∙ take_at f (g ∷ tail) at (sym is) in
      let behind = rest_behind f g tail at is in
      let h = get_or c at 0 in
      let back : drop at c ≡ h ∷ tail = drop_more c at 0 (omega (arith, long, is)) ∙ ap (λ (l : List ℕ). h ∷ l) (torn.after ∙ behind) in
      (h, sym (take-append-drop at c) ∙ ap (λ (l : List ℕ). l ++ drop at c) front ∙ ap (λ (l : List ℕ). f ++ l) back)

  -- a torn piece behind the last byte
  pub torn_end : (g : ℕ) (c : List ℕ) (at n : ℕ) → at ≡ length f → Torn (at + 1) n (f ++ g ∷ []) c → (tail : List ℕ) × (c ≡ f ++ g ∷ tail)
  torn_end g c at n is torn =
      let front : take (at + 1) c ≡ f ++ g ∷ [] = torn.before ∙ take_all (at + 1) (f ++ g ∷ []) (omega (arith, is, length-append f (g ∷ []))) in
      (drop (at + 1) c, sym (take-append-drop (at + 1) c) ∙ ap (λ (l : List ℕ). l ++ drop (at + 1) c) front ∙ append_assoc f (g ∷ []) (drop (at + 1) c))

  -- a cut behind a byte
  pub cut_rest : (g : ℕ) (tail c : List ℕ) (at : ℕ) → at ≡ length f → Cut (at + 1) (f ++ g ∷ tail) c → (left : List ℕ) × (c ≡ f ++ g ∷ left)
  cut_rest g tail c at is cut =
      let split : f ++ g ∷ tail ≡ (f ++ g ∷ []) ++ tail = sym (append_assoc f (g ∷ []) tail) in
      let long : at + 1 ≤ length c = omega (arith, cut.no_shorter, is, length-append f (g ∷ tail)) in
      let n = length c in
      let front : take (at + 1) c ≡ f ++ g ∷ [] = ap (λ (l : List ℕ). take (at + 1) l) (sym cut.front) ∙ take_less (at + 1) n (f ++ g ∷ tail) long ∙ ap (λ (l : List ℕ). take (at + 1) l) split ∙ take_at (f ++ g ∷ []) tail (at + 1) (omega (arith, is, length-append f (g ∷ []))) in
      (drop (at + 1) c, sym (take-append-drop (at + 1) c) ∙ ap (λ (l : List ℕ). l ++ drop (at + 1) c) front ∙ append_assoc f (g ∷ []) (drop (at + 1) c))

  -- a byte is written over
  pub written_byte : (g h : ℕ) (tail : List ℕ) (at : ℕ) → at ≡ length f → written (f ++ g ∷ tail) at (h ∷ []) ≡ f ++ h ∷ tail
  written_byte g h tail at is =
      let behind = rest_behind f g tail at is in
      append_assoc (take at (f ++ g ∷ tail)) (h ∷ []) (drop (at + 1) (f ++ g ∷ tail)) ∙ ap (λ (l : List ℕ). l ++ h ∷ drop (at + 1) (f ++ g ∷ tail)) (take_at f (g ∷ tail) at (sym is)) ∙ ap (λ (l : List ℕ). f ++ h ∷ l) behind

  -- a piece is written behind the last byte
  pub written_end : (g : ℕ) (piece : List ℕ) (at : ℕ) → at ≡ length f → written (f ++ g ∷ []) (at + 1) piece ≡ f ++ g ∷ piece
  written_end g piece at is =
      append_assoc (take (at + 1) (f ++ g ∷ [])) piece (drop (at + 1 + length piece) (f ++ g ∷ []))
      ∙ ap (λ (l : List ℕ). l ++ (piece ++ drop (at + 1 + length piece) (f ++ g ∷ []))) (take_all (at + 1) (f ++ g ∷ []) (omega (arith, is, length-append f (g ∷ []))))
      ∙ ap (λ (l : List ℕ). (f ++ g ∷ []) ++ (piece ++ l)) (drop_all (at + 1 + length piece) (f ++ g ∷ []) (omega (arith, is, length-append f (g ∷ []))))
      ∙ ap (λ (l : List ℕ). (f ++ g ∷ []) ++ l) (append-nil piece)
      ∙ append_assoc f (g ∷ []) piece

-- a list in parts round one of its bytes
pub parts_at : {X : Type 0} (bytes : List X) (at : ℕ) (d : X) → at < length bytes → bytes ≡ take at bytes ++ get_or bytes at d ∷ drop (at + 1) bytes
parts_at {X} bytes at d below = sym (take-append-drop at bytes) ∙ ap (λ (l : List X). take at bytes ++ l) (drop_more bytes at d below)

length_front : (bytes : List ℕ) (at : ℕ) → at ≤ length bytes → at ≡ length (take at bytes)
length_front bytes at below = omega (arith, length-take at bytes, below)

-- a byte that is written as it was
pub written_same : (bytes : List ℕ) (at d x : ℕ) → at < length bytes → get_or bytes at d ≡ x → written bytes at (x ∷ []) ≡ bytes
written_same bytes at d x below is =
    append_assoc (take at bytes) (x ∷ []) (drop (at + 1) bytes) ∙ ap (λ (y : ℕ). take at bytes ++ y ∷ drop (at + 1) bytes) (sym is) ∙ sym (parts_at bytes at d below)

-- the last byte is written
pub written_last : (bytes : List ℕ) (at x : ℕ) → length bytes ≤ at + 1 → written bytes at (x ∷ []) ≡ take at bytes ++ x ∷ []
written_last bytes at x short = append_assoc (take at bytes) (x ∷ []) (drop (at + 1) bytes) ∙ ap (λ (l : List ℕ). take at bytes ++ x ∷ l) (drop_all (at + 1) bytes short)

-- a cut behind a written byte
pub cut_behind : (bytes : List ℕ) (at x : ℕ) → at < length bytes → take (at + 1) (written bytes at (x ∷ [])) ≡ take at bytes ++ x ∷ []
cut_behind bytes at x below =
    take_at (take at bytes ++ x ∷ []) (drop (at + 1) bytes) (at + 1) (omega (arith, length_front bytes at (omega (arith, below)), length-append (take at bytes) (x ∷ [])))
