-- Cuts in the columns of their successors.
use Rattle.std.proofs.Common.{◌≡◌, ◌∙◌, ⊎_elim, ℕ, suc, ◌+◌, ◌<◌, ◌≤◌, ℤ, Bool, true, false, cond, List, [], ◌∷◌, length, drop, length-drop, replicate, get_or, slice_set, Option, Some, None, IfSome, All, arith, ap, sym, subst}
use Rattle.std.proofs.lemmas.Bool.{cases_lt}
use Rattle.std.proofs.lemmas.List.{get_or_past}
use Rattle.std.proofs.lemmas.List.Elements.{All-set, All-replicate, All-drop}
use Rattle.lp_program.specs.declared.programs.LpRow.{LpRow}
use Rattle.lp_program.specs.declared.programs.Program.{Program}
use Rattle.lp_program.specs.Proper.{IsProper, AreRising}
use Rattle.lp_scale.specs.Walks.{walk}
use Rattle.lp_scale.specs.Waiting.{last_column, waits, waits_in}
use Rattle.lp_scale.proofs.Cuts.{last_inside}
use Rattle.lp_scan.specs.Values.{Valued, is_value_greater, greater_valued, greatest_in, greatest_step, greatest_cuts, cut_row_value, IsCutRow, AreBestCuts}

pub waits_at : (ws : List Bool) (r : LpRow) (j : ℕ) (b : Bool) → last_column r.terms ≡ Some j → get_or ws j false ≡ b → waits ws r ≡ b
unfolding waits
waits_at ws r j b e g = ap (waits_in ws) e ∙ g

-- a step at a cut that waits
pub step_in : (ws : List Bool) (xs : List ℤ) (i : ℕ) (bests : List (Option Valued)) (r : LpRow) (j : ℕ) → last_column r.terms ≡ Some j → waits ws r ≡ true → greatest_step ws xs i bests r ≡ slice_set bests j (greater_valued (get_or bests j None) (i, cut_row_value xs r))
unfolding greatest_step
step_in ws xs i bests r j e w =
    let v : Valued = (i, cut_row_value xs r) in
    ap (λ (b : Bool). cond b (greatest_in bests (last_column r.terms) v) bests) w ∙ ap (λ (o : Option ℕ). greatest_in bests o v) e

pub step_waits : (ws : List Bool) (xs : List ℤ) (i : ℕ) (bests : List (Option Valued)) (r : LpRow) (j : ℕ) → last_column r.terms ≡ Some j → waits ws r ≡ true → is_value_greater (get_or bests j None) (cut_row_value xs r) ≡ true → greatest_step ws xs i bests r ≡ slice_set bests j (Some (i, cut_row_value xs r))
unfolding greatest_step
step_waits ws xs i bests r j e w g =
    let v : Valued = (i, cut_row_value xs r) in
    ap (λ (b : Bool). cond b (greatest_in bests (last_column r.terms) v) bests) w
    ∙ ap (λ (o : Option ℕ). greatest_in bests o v) e
    ∙ ap (λ (b : Bool). slice_set bests j (cond b (Some v) (get_or bests j None))) g

pub step_rests : (ws : List Bool) (xs : List ℤ) (i : ℕ) (bests : List (Option Valued)) (r : LpRow) → waits ws r ≡ false → greatest_step ws xs i bests r ≡ bests
unfolding greatest_step
step_rests ws xs i bests r w = ap (λ (b : Bool). cond b (greatest_in bests (last_column r.terms) (i, cut_row_value xs r)) bests) w

abbrev IsKept : Program → Option Valued → Type 0
IsKept lp b = IfSome b (λ v. IsCutRow lp v.0)

read_kept : (lp : Program) (bests : List (Option Valued)) (j : ℕ) → AreBestCuts lp bests → IsKept lp (get_or bests j None)
read_kept lp bests j h = ⊎_elim (λ (a : j < length bests). h j None a) (λ (a : length bests ≤ j). subst (IsKept lp) (sym (get_or_past bests j None a)) tt) (cases_lt j (length bests))

greater_kept : (lp : Program) (b : Bool) (old : Option Valued) (v : Valued) → IsCutRow lp v.0 → IsKept lp old → IsKept lp (cond b (Some v) old)
greater_kept lp true old v c k = c
greater_kept lp false old v c k = k

in_kept : (lp : Program) (bests : List (Option Valued)) (o : Option ℕ) (v : Valued) → IsCutRow lp v.0 → AreBestCuts lp bests → AreBestCuts lp (greatest_in bests o v)
in_kept lp bests None v c h = h
in_kept lp bests (Some j) v c h = All-set (IsKept lp) bests j (greater_valued (get_or bests j None) v) (greater_kept lp (is_value_greater (get_or bests j None) v.1) (get_or bests j None) v c (read_kept lp bests j h)) h

-- a step keeps that each that is greatest is none or a cut
step_kept : (lp : Program) (ws : List Bool) (xs : List ℤ) (i : ℕ) (bests : List (Option Valued)) (r : LpRow) → IsCutRow lp i → AreBestCuts lp bests → AreBestCuts lp (greatest_step ws xs i bests r)
unfolding greatest_step
step_kept lp ws xs i bests r c h = by (waits ws r)
  where
    by : (b : Bool) → AreBestCuts lp (cond b (greatest_in bests (last_column r.terms) (i, cut_row_value xs r)) bests)
    by true = in_kept lp bests (last_column r.terms) (i, cut_row_value xs r) c h
    by false = h

all_kept : (lp : Program) (ws : List Bool) (xs : List ℤ) (i : ℕ) (bests : List (Option Valued)) (rs : List LpRow) → lp.own ≤ i → i + length rs ≤ length lp.rows → AreBestCuts lp bests → AreBestCuts lp (walk (λ (i : ℕ) bests (r : LpRow). greatest_step ws xs i bests r) i bests rs)
all_kept lp ws xs i bests [] o n h = h
all_kept lp ws xs i bests (r ∷ rs) o n h =
    all_kept lp ws xs (suc i) (greatest_step ws xs i bests r) rs (omega (arith, o)) (omega (arith, n)) (step_kept lp ws xs i bests r (record { behind = o; there = omega (arith, n) }) h)

pub greatest_kept : (lp : Program) (ws : List Bool) (xs : List ℤ) → lp.own ≤ length lp.rows → AreBestCuts lp (greatest_cuts lp ws xs)
unfolding greatest_cuts
greatest_kept lp ws xs o =
    let none : Option Valued = None in
    all_kept lp ws xs lp.own (replicate (length lp.columns) none) (drop lp.own lp.rows) (omega arith) (omega (arith, o, length-drop lp.own lp.rows)) (All-replicate (IsKept lp) (length lp.columns) none tt)

-- the successors of a program's cuts have columns
pub cuts_inside : (lp : Program) (cuts : List LpRow) (n : ℕ) → IsProper lp → cuts ≡ drop lp.own lp.rows → n ≡ length lp.columns → All (λ (r : LpRow). IfSome (last_column r.terms) (λ j. j < n)) cuts
cuts_inside lp cuts n p e m =
    let rising = All-drop (λ (r : LpRow). AreRising 0 (length lp.columns) r.terms) lp.own lp.rows p.terms in
    let inside : All (λ (r : LpRow). IfSome (last_column r.terms) (λ j. j < length lp.columns)) (drop lp.own lp.rows) = λ k d l. last_inside 0 (length lp.columns) (get_or (drop lp.own lp.rows) k d).terms (rising k d l) in
    subst (λ (k : ℕ). All (λ (r : LpRow). IfSome (last_column r.terms) (λ j. j < k)) cuts) (sym m)
    (subst (All (λ (r : LpRow). IfSome (last_column r.terms) (λ j. j < length lp.columns))) (sym e) inside)
