-- Tables fit programs.
use Rattle.std.proofs.Common.{◌≡◌, Result, Ok, Err, IfOk, ℕ, suc, ◌+◌, ◌<◌, ◌≤◌, Bool, true, false, cond, List, [], ◌∷◌, length, length-append, Some, All, arith, ap, sym, subst, ◌∙◌}
use Rattle.std.proofs.lemmas.List.Elements.{All-push, All-nil}
use Rattle.lp_program.specs.declared.programs.LpRow.{LpRow}
use Rattle.lp_program.specs.declared.programs.Program.{Program}
use Rattle.lp_table.specs.declared.table.CutRows.{CutRows}
use Rattle.lp_table.specs.declared.table.WarmTable.{WarmTable}
use Rattle.lp_table.specs.Shape.{IsTable}
use Rattle.base_num.proofs.Each.{some_same}
use Rattle.lp_scale.specs.Walks.{run, GivesWalked}
use Rattle.lp_scale.specs.Scaling.{AreSmall}
use Rattle.lp_scale.specs.Appending.{appended_cut}
use Rattle.lp_scale.specs.Waiting.{waits}
use Rattle.lp_scale.specs.Widening.{with_waiting, put_cut, put_cuts, widened_columns}
use Rattle.lp_scale.specs.Fitting.{Suits, AreNarrow, Fits}
use Rattle.lp_scale.proofs.Counts.{and_then_some, cut_more, widened_rows}
use Rattle.lp_scale.proofs.Shapes.{gives_true}

-- a row for each own row and for some of the cuts, of which those that wait are narrow
pub record HasCuts (lp : Program) (t : WarmTable) : Type 0 where
  pub rows : length t.rows ≡ lp.own + length t.cuts.rows
  pub cuts : All (λ i. (lp.own ≤ i) × (i < length lp.rows)) t.cuts.rows
  pub narrow : AreNarrow lp t.cuts.waiting

cut_has : (lp : Program) (i : ℕ) (r : LpRow) (t u : WarmTable) → appended_cut i r t ≡ Some u → lp.own ≤ i → i < length lp.rows → HasCuts lp t → HasCuts lp u
cut_has lp i r t u h a b f =
    let m = cut_more i r t u h in
    record {
      rows = omega (arith, m.rows, f.rows, ap (λ (xs : List ℕ). length xs) m.cuts, length-append t.cuts.rows (i ∷ []));
      cuts = subst (All (λ i. (lp.own ≤ i) × (i < length lp.rows))) (sym m.cuts) (All-push (λ (i : ℕ). (lp.own ≤ i) × (i < length lp.rows)) t.cuts.rows i f.cuts (a, b));
      narrow = subst (AreNarrow lp) (sym m.waiting) f.narrow;
    }

put_has : (b : Bool) (lp : Program) (i : ℕ) (r : LpRow) (t u : WarmTable) → cond b (Some t) (appended_cut i r t) ≡ Some u → lp.own ≤ i → i < length lp.rows → HasCuts lp t → HasCuts lp u
put_has true lp i r t u h a b f = subst (HasCuts lp) (some_same h) f
put_has false lp i r t u h a b f = cut_has lp i r t u h a b f

puts_have : (lp : Program) (ws : List Bool) (i : ℕ) (cuts : List LpRow) (t u : WarmTable) → run (put_cut ws) i cuts t ≡ Some u → lp.own ≤ i → i + length cuts ≤ length lp.rows → HasCuts lp t → HasCuts lp u
puts_have lp ws i [] t u h a b f = subst (HasCuts lp) (some_same h) f
puts_have lp ws i (r ∷ cuts) t u h a b f =
    let p = and_then_some (run (put_cut ws) (suc i) cuts) (put_cut ws i r t) u h in
    let one = put_has (waits ws r) lp i r t p.0 p.1 a (omega arith) f in
    puts_have lp ws (suc i) cuts p.0 u p.2 (omega arith) (omega arith) one

-- a table of the own part, with the columns of successors
pub own_has : (lp : Program) (ws : List Bool) (t u : WarmTable) → widened_columns lp t ≡ Some u → Suits t lp → AreNarrow lp ws → HasCuts lp (with_waiting ws u)
own_has lp ws t u h s n =
    let r = widened_rows lp t u h in
    let none : u.cuts.rows ≡ [] = ap (λ (c : CutRows). c.rows) r.cuts ∙ s.cuts in
    record {
      rows = omega (arith, r.rows, s.rows, ap (λ (xs : List ℕ). length xs) none);
      cuts = subst (All (λ (i : ℕ). (lp.own ≤ i) × (i < length lp.rows))) (sym none) (All-nil (λ (i : ℕ). (lp.own ≤ i) × (i < length lp.rows)));
      narrow = n;
    }

fits_by : (lp : Program) (t : WarmTable) → IsTable t → AreSmall 1000 t.scales → length lp.columns ≡ length t.costs → HasCuts lp t → Fits t lp
fits_by lp t w m c f = record { table = w; small = m; columns = c; rows = f.rows; cuts = f.cuts; narrow = f.narrow }

-- a table that a program fits fits it with one of its cuts more
pub cut_fits : (lp : Program) (i : ℕ) (r : LpRow) (t u : WarmTable) → appended_cut i r t ≡ Some u → lp.own ≤ i → i < length lp.rows → IsTable u → AreSmall 1000 u.scales → length u.costs ≡ length t.costs → Fits t lp → Fits u lp
cut_fits lp i r t u h a b w m c f = fits_by lp u w m (f.columns ∙ sym c) (cut_has lp i r t u h a b (record { rows = f.rows; cuts = f.cuts; narrow = f.narrow }))

-- a table that has some cuts, with more of them
pub put_fits : {E : Type 0} (r : Result Bool E) (lp : Program) (ws : List Bool) (i : ℕ) (cuts : List LpRow) (t u : WarmTable) → IfOk r (λ made. GivesWalked made (put_cuts ws i cuts t) u) → IfOk r (λ made. made ≡ true → IsTable u)
    → IfOk r (λ made. made ≡ true → AreSmall 1000 u.scales) → IfOk r (λ made. made ≡ true → length u.costs ≡ length t.costs) → lp.own ≤ i → i + length cuts ≤ length lp.rows → length lp.columns ≡ length t.costs → HasCuts lp t
    → IfOk r (λ made. made ≡ true → Fits u lp)
put_fits (Err e) lp ws i cuts t u v w m c a b n f = tt
put_fits (Ok made) lp ws i cuts t u v w m c a b n f = λ h. fits_by lp u (w h) (m h) (n ∙ sym (c h)) (puts_have lp ws i cuts t u (gives_true made (put_cuts ws i cuts t) u h v) a b f)
