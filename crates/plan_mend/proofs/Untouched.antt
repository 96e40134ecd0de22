-- Rows without a term of the decision that moves.
use Rattle.std.proofs.Common.{⊎_elim, ◌≤◌, ◌==◌, ◌||◌, Option, if◌then◌else◌, ◌≡◌, ◌≢◌, ◌∙◌, ℕ, zero, suc, ◌<◌, ◌+◌, ℤ, pos, ◌+ℤ◌, ◌*ℤ◌, int_lt, neg_ℤ, Bool, true, false, ◌&&◌, not, List, [], ◌∷◌, length, get_or, map, refl, ap, ap₂, sym, subst, arith}
use Rattle.std.specs.Int.{int_max}
use Rattle.std.specs.Ordering.{int_eq}
use Rattle.std.proofs.lemmas.Bool.{cases_lt}
use Rattle.std.proofs.lemmas.Bool.Decides.{nat_tests}
use Rattle.std.proofs.lemmas.List.{length-map, get_or_default, get_or-set_other}
use Rattle.base_num.specs.Sums.{Term, entry, at_terms}
use Rattle.problem.specs.declared.parts.Row.{Row}
use Rattle.theory.specs.Problem.{S, Node}
use Rattle.plan_forward.specs.Costing.{below_low, above_high, miss_of}
use Rattle.plan_mend.specs.Moves.{Frame, frame_of, is_met, is_harmed, moved_decision}
use Rattle.plan_mend.specs.Stages.{IsWithout, AreSameBut}

terms_same : (j : ℕ) (u v : List ℤ) (ts : List Term) → AreSameBut j u v → IsWithout j ts → at_terms ts (entry v) ≡ at_terms ts (entry u)
terms_same j u v [] h w = refl
terms_same j u v (t ∷ ts) h w = ap₂ (λ (x y : ℤ). t.1 *ℤ x +ℤ y) (h t.0 (w 0 t (omega arith))) (terms_same j u v ts h (λ i d l. w (suc i) d (omega (arith, l))))

-- a miss by the left side
missed : Option ℤ → Option ℤ → ℤ → ℤ
missed low high left = if int_lt (pos 0) (below_low low left) then below_low low left else neg_ℤ (int_max (above_high high left) (pos 0))

miss_same : (j : ℕ) (u v x values : List ℤ) (row : Row) → AreSameBut j u v → IsWithout j row.decisions → miss_of row v x values ≡ miss_of row u x values
unfolding miss_of missed
miss_same j u v x values row h w = ap (λ (d : ℤ). missed row.low row.high (d +ℤ at_terms row.states (entry x) +ℤ pos S *ℤ at_terms row.randoms (entry values))) (terms_same j u v row.decisions h w)

-- the row at a place
at_row : (n : Node) (j : ℕ) (u v x values : List ℤ) (q : ℕ) (rows : List Row) → AreSameBut j u v → q < length rows → IsWithout j (get_or (map (λ (row : Row). row.decisions) rows) q []) → entry (map (λ (row : Row). miss_of row v x values) rows) q ≡ entry (map (λ (row : Row). miss_of row u x values) rows) q
at_row n j u v x values q [] h l w = refl
at_row n j u v x values zero (row ∷ rows) h l w = miss_same j u v x values row h w
at_row n j u v x values (suc q) (row ∷ rows) h l w = at_row n j u v x values q rows h (omega (arith, l)) w

pub untouched_miss : (n : Node) (values x u v : List ℤ) (j q : ℕ) → AreSameBut j u v → q < length (frame_of n values x).rows → IsWithout j (get_or (frame_of n values x).rows q []) → (frame_of n values x).miss v q ≡ (frame_of n values x).miss u q
untouched_miss n values x u v j q h l w = at_row n j u v x values q n.rows h (let c = length-map n.rows (λ (row : Row). row.decisions) in omega (arith, l, c)) w

none_both : (b : Bool) → false ≡ b && not b
none_both true = refl
none_both false = refl

-- a row that is met as before is not harmed for the sake of another
pub unharmed : (f : Frame) (i : ℕ) (before after : List ℤ) (q : ℕ) → (q == i) ≡ false → f.miss after q ≡ f.miss before q → false ≡ is_harmed f i before after q
unharmed f i before after q other same =
    none_both (is_met f before q)
    ∙ ap₂ (λ (o : Bool) (z : ℤ). (o || is_met f before q) && not (int_eq z (pos 0))) (sym other) (sym same)

-- decisions of which one moved
pub moved_same : (u v : List ℤ) (j : ℕ) (amount : ℤ) → v ≡ moved_decision u j amount → AreSameBut j u v
moved_same u v j amount e k n = ap (λ (w : List ℤ). entry w k) e ∙ get_or-set_other u j k (entry u j +ℤ amount) (pos 0) n

-- terms that were looked at without finding the decision
pub without_more : (at : ℕ) (ts : List Term) (k : ℕ) → k < length ts → ((j : ℕ) (d : Term) → j < k → (get_or ts j d).0 ≢ at) → (get_or ts k (0, pos 0)).0 ≢ at → (j : ℕ) (d : Term) → j < k + 1 → (get_or ts j d).0 ≢ at
without_more at ts k l h p j d m = ⊎_elim (λ (a : j < k). h j d a) (λ (a : k ≤ j). let e : k ≡ j = omega (arith, a, m) in subst (λ (i : ℕ). (get_or ts i d).0 ≢ at) e (subst (λ (t : Term). t.0 ≢ at) (get_or_default ts k (0, pos 0) d l) p)) (cases_lt j k)

pub not_same : (q i : ℕ) → q ≢ i → (q == i) ≡ false
not_same q i h = grind (arith, nat_tests, h)

pub never : (A : Type 0) (q i : ℕ) → q ≡ i → (q == i) ≡ false → A
never A q i h e = absurd (grind (arith, nat_tests, h, e))
