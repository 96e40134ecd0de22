-- Moves that are listed one after another.
use Rattle.std.proofs.Common.{◌≡◌, ◌∙◌, ℕ, Bool, true, false, ℤ, List, [], ◌++◌, if◌then◌else◌, sym, ap, ap₂}
use Rattle.std.proofs.lemmas.List.{append_assoc, append-nil}
use Rattle.base_num.specs.Sums.{Term}
use Rattle.plan_mend.specs.declared.search.Move.{Move}
use Rattle.plan_mend.specs.declared.search.Search.{Search}
use Rattle.plan_mend.specs.Moves.{Frame, directed, reaching, short_of, is_other, moves_by, both_moves}

pub same_amount : (size : ℤ → ℤ → ℕ) (x d d' a a' : ℤ) (n : ℕ) → x ≡ directed d' a' n → n ≡ size d' a' → d' ≡ d → a' ≡ a → x ≡ directed d a (size d a)
same_amount size x d d' a a' n e h p q = e ∙ ap (directed d' a') h ∙ ap₂ (λ (y z : ℤ). directed y z (size y z)) p q

module _ (f : Frame) (deep : Bool) (s : Search) (i : ℕ) (d : ℤ) (t : Term) (old mid : List Move) (first : ℤ) (is : first ≡ directed d t.1 (reaching d t.1)) (begun : mid ≡ old ++ moves_by f deep s i t.0 first) where
  opened : mid ≡ old ++ moves_by f deep s i t.0 (directed d t.1 (reaching d t.1))
  opened = begun ∙ ap (λ (v : ℤ). old ++ moves_by f deep s i t.0 v) is

  pub two_moves : (new : List Move) (second : ℤ) → second ≡ directed d t.1 (short_of d t.1) → is_other (short_of d t.1) (reaching d t.1) ≡ true → new ≡ mid ++ moves_by f deep s i t.0 second → new ≡ old ++ both_moves f deep s i d t
  two_moves new second at other e =
      let one : List Move = moves_by f deep s i t.0 (directed d t.1 (reaching d t.1)) in
      let two : List Move = moves_by f deep s i t.0 (directed d t.1 (short_of d t.1)) in
      e ∙ ap₂ (λ (ms : List Move) (v : ℤ). ms ++ moves_by f deep s i t.0 v) opened at ∙ append_assoc old one two
      ∙ ap (λ (b : Bool). old ++ (one ++ (if b then two else []))) (sym other)

  pub one_move : is_other (short_of d t.1) (reaching d t.1) ≡ false → mid ≡ old ++ both_moves f deep s i d t
  one_move other =
      let one : List Move = moves_by f deep s i t.0 (directed d t.1 (reaching d t.1)) in
      let two : List Move = moves_by f deep s i t.0 (directed d t.1 (short_of d t.1)) in
      opened ∙ ap (λ (ms : List Move). old ++ ms) (sym (append-nil one)) ∙ ap (λ (b : Bool). old ++ (one ++ (if b then two else []))) (sym other)
