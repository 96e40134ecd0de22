-- Tables that suit or fit a program suit or fit others.
use Rattle.std.proofs.Common.{◌≡◌, ◌<◌, ◌≤◌, ◌+◌, ℕ, Bool, true, List, [], ◌∷◌, map, drop, drop_of_length-le, length, All, Option, Some, None, Result, Ok, Err, IfOk, IfSome, arith, refl, ap, sym, subst, ◌∙◌}
use Rattle.std.proofs.lemmas.List.{length-map}
use Rattle.std.proofs.lemmas.List.Elements.{All-nil, All-head}
use Rattle.lp_program.specs.declared.programs.Column.{Column}
use Rattle.lp_program.specs.declared.programs.LpRow.{LpRow}
use Rattle.lp_program.specs.declared.programs.Program.{Program}
use Rattle.lp_program.specs.Proper.{IsReference, Extends, IsLike, terms_of}
use Rattle.lp_table.specs.declared.table.WarmTable.{WarmTable}
use Rattle.lp_scale.specs.Exponents.{reach_of}
use Rattle.lp_scale.specs.Scaling.{AreSmall}
use Rattle.lp_scale.specs.Waiting.{is_narrow, waits}
use Rattle.lp_scale.specs.Fitting.{Suits, AreNarrow, Fits}
use Rattle.lp_scale.proofs.Shapes.{small_more}

suits_more : (t : WarmTable) (lp other : Program) → Suits t lp → Extends lp other → Suits t other
suits_more t lp other s e = record { table = s.table; small = s.small; columns = e.count ∙ s.columns; rows = e.own ∙ s.rows; cuts = s.cuts }

pub suits_others : (start : Option WarmTable) (lp other : Program) → IfSome start (λ t. Suits t lp) → Extends lp other → IfSome start (λ t. Suits t other)
suits_others None lp other s e = tt
suits_others (Some t) lp other s e = suits_more t lp other s e

pub start_suits : {E : Type 0} (r : Result (Option WarmTable) E) (lp : Program) → IfOk r (λ start. IfSome start (λ t. Suits t lp)) → IfOk r (λ start. (other : Program) → Extends lp other → IfSome start (λ t. Suits t other))
start_suits (Ok start) lp s = λ other e. suits_others start lp other s e
start_suits (Err e) lp s = tt

rows_like : (xs ys : List LpRow) → terms_of xs ≡ terms_of ys → length xs ≡ length ys
rows_like xs ys h = sym (length-map xs (λ (r : LpRow). r.terms)) ∙ ap length h ∙ length-map ys (λ (r : LpRow). r.terms)

-- cuts that can be compared in columns
abbrev CanWait : List Column → List Bool → List LpRow → Type 0
CanWait columns ws cuts = All (λ (r : LpRow). waits ws r ≡ true → is_narrow (map reach_of columns) r ≡ true) cuts

narrow_like : (lp other : Program) (ws : List Bool) → IsLike lp other → AreNarrow lp ws → AreNarrow other ws
narrow_like lp other ws e n = subst (CanWait other.columns ws) e.cuts (subst (λ (cs : List Column). CanWait cs ws (drop lp.own lp.rows)) e.columns n)

fits_more : (t : WarmTable) (lp other : Program) → Fits t lp → IsLike lp other → Fits t other
fits_more t lp other f e = record {
  table = f.table;
  small = f.small;
  columns = sym (ap length e.columns) ∙ f.columns;
  rows = f.rows ∙ ap (λ (n : ℕ). n + length t.cuts.rows) e.own;
  cuts = subst (λ (n : ℕ). All (λ (i : ℕ). (n ≤ i) × (i < length other.rows)) t.cuts.rows) e.own (subst (λ (m : ℕ). All (λ (i : ℕ). (lp.own ≤ i) × (i < m)) t.cuts.rows) (rows_like lp.rows other.rows e.terms) f.cuts);
  narrow = narrow_like lp other t.cuts.waiting e f.narrow;
}

pub fits_others : (chain : Option WarmTable) (lp other : Program) → IfSome chain (λ t. Fits t lp) → IsLike lp other → IfSome chain (λ t. Fits t other)
fits_others None lp other f e = tt
fits_others (Some t) lp other f e = fits_more t lp other f e

-- a program without cuts has none that wait
pub no_cuts : (lp : Program) → lp.own ≡ length lp.rows → drop lp.own lp.rows ≡ []
no_cuts lp h = drop_of_length-le lp.rows (omega (arith, h))

-- a program of own rows alone
pub reference_fits : (lp : Program) (t : WarmTable) → IsReference lp → Suits t lp → Fits t lp
reference_fits lp t r s = record {
  table = s.table;
  small = small_more 512 1000 t.scales (omega arith) s.small;
  columns = s.columns;
  rows = omega (arith, s.rows, ap length s.cuts);
  cuts = subst (All (λ (i : ℕ). (lp.own ≤ i) × (i < length lp.rows))) (sym s.cuts) (All-nil (λ (i : ℕ). (lp.own ≤ i) × (i < length lp.rows)));
  narrow = subst (CanWait lp.columns t.cuts.waiting) (sym (no_cuts lp r.own)) (All-nil (λ (c : LpRow). waits t.cuts.waiting c ≡ true → is_narrow (map reach_of lp.columns) c ≡ true));
}

none_between : (low high : ℕ) (xs : List ℕ) → low ≡ high → All (λ (i : ℕ). (low ≤ i) × (i < high)) xs → xs ≡ []
none_between low high [] e h = refl
none_between low high (x ∷ xs) e h = let a = All-head (λ (i : ℕ). (low ≤ i) × (i < high)) x xs h in absurd (omega (arith, a.0, a.1, e))

-- a table that fits a program of own rows alone has rows of no cuts
pub no_rows_in : (lp : Program) (t : WarmTable) → lp.own ≡ length lp.rows → Fits t lp → t.cuts.rows ≡ []
no_rows_in lp t r f = none_between lp.own (length lp.rows) t.cuts.rows r f.cuts

-- turns keep the scales
pub ready_suits : (lp : Program) (old new : WarmTable) → IsReference lp → Suits old lp → Fits new lp → new.scales ≡ old.scales → Suits new lp
ready_suits lp old new r s f e = record {
  table = f.table;
  small = subst (AreSmall 512) (sym e) s.small;
  columns = f.columns;
  rows = omega (arith, f.rows, ap length (no_rows_in lp new r.own f));
  cuts = no_rows_in lp new r.own f;
}
