-- The rows of tables, and the cuts that they are of.
use Rattle.std.proofs.Common.{◌≡◌, ℕ, suc, ◌+◌, ℤ, ◌+ℤ◌, List, [], ◌∷◌, ◌++◌, length, length-append, drop, Option, Some, None, arith, refl, ap, sym, ◌∙◌}
use Rattle.std.specs.Option.{option_map, option_and_then}
use Rattle.lp_program.specs.declared.programs.Column.{Column}
use Rattle.lp_program.specs.declared.programs.LpRow.{LpRow}
use Rattle.lp_program.specs.declared.programs.Program.{Program}
use Rattle.lp_table.specs.declared.table.CutRows.{CutRows}
use Rattle.lp_table.specs.declared.table.WarmTable.{WarmTable}
use Rattle.base_num.proofs.Each.{map_some, some_same}
use Rattle.lp_scale.specs.Walks.{run}
use Rattle.lp_scale.specs.Scaling.{with_column, column_step, blank_of, standing_table, columns_table}
use Rattle.lp_scale.specs.Appending.{scaled_sides, scaled_terms, row_scale, with_appended_row, with_cut, appended_row, appended_cut, appended}
use Rattle.lp_scale.specs.Widening.{rescaled, widened_columns}

pub and_then_some : {A B : Type 0} (f : A → Option B) (o : Option A) (y : B) → option_and_then f o ≡ Some y → (x : A) × (o ≡ Some x) × (f x ≡ Some y)
and_then_some f None y h = absurd (cc)
and_then_some f (Some x) y h = (x, refl, h)

-- so many rows more, and the same cuts
pub record HasMore (n : ℕ) (t u : WarmTable) : Type 0 where
  pub rows : length u.rows ≡ length t.rows + n
  pub cuts : u.cuts ≡ t.cuts

row_more : (r : LpRow) (t u : WarmTable) → appended_row r t ≡ Some u → HasMore 1 t u
unfolding appended_row
row_more r t u h =
    let e : ℤ = row_scale t.scales.columns r.terms in
    let a = and_then_some (λ ts. option_map (λ s. with_appended_row e ts s t) (scaled_sides (e +ℤ t.scales.values) r)) (scaled_terms t.scales.columns e r.terms) u h in
    let b = map_some (λ s. with_appended_row e a.0 s t) (scaled_sides (e +ℤ t.scales.values) r) u a.2 in
    record {
      rows = sym (ap (λ (s : WarmTable). length s.rows) b.2) ∙ length-append t.rows (a.0 ∷ []);
      cuts = sym (ap (λ (s : WarmTable). s.cuts) b.2);
    }

rows_more : (rs : List LpRow) (j : ℕ) (t u : WarmTable) → run (λ i r s. appended_row r s) j rs t ≡ Some u → HasMore (length rs) t u
rows_more [] j t u h = record { rows = sym (ap (λ (s : WarmTable). length s.rows) (some_same h)) ∙ omega arith; cuts = sym (ap (λ (s : WarmTable). s.cuts) (some_same h)) }
rows_more (r ∷ rs) j t u h =
    let a = and_then_some (run (λ i q s. appended_row q s) (suc j) rs) (appended_row r t) u h in
    let one = row_more r t a.0 a.1 in
    let tail = rows_more rs (suc j) a.0 u a.2 in
    record { rows = omega (arith, one.rows, tail.rows); cuts = tail.cuts ∙ one.cuts }

-- the row of a cut more
pub record HasCut (i : ℕ) (t u : WarmTable) : Type 0 where
  pub rows : length u.rows ≡ length t.rows + 1
  pub cuts : u.cuts.rows ≡ t.cuts.rows ++ i ∷ []
  pub waiting : u.cuts.waiting ≡ t.cuts.waiting

pub cut_more : (i : ℕ) (r : LpRow) (t u : WarmTable) → appended_cut i r t ≡ Some u → HasCut i t u
unfolding appended_cut
cut_more i r t u h =
    let a = map_some (with_cut i) (appended_row r t) u h in
    let one = row_more r t a.0 a.1 in
    record {
      rows = sym (ap (λ (s : WarmTable). length s.rows) a.2) ∙ one.rows;
      cuts = sym (ap (λ (s : WarmTable). s.cuts.rows) a.2) ∙ ap (λ (c : CutRows). c.rows ++ i ∷ []) one.cuts;
      waiting = sym (ap (λ (s : WarmTable). s.cuts.waiting) a.2) ∙ ap (λ (c : CutRows). c.waiting) one.cuts;
    }

-- a table with as many rows, and the same cuts
pub record HasRows (t u : WarmTable) : Type 0 where
  pub rows : length u.rows ≡ length t.rows
  pub cuts : u.cuts ≡ t.cuts

column_rows : (j : ℕ) (c : Column) (t u : WarmTable) → column_step j c t ≡ Some u → HasRows t u
unfolding column_step
column_rows j c t u h =
    let p = map_some (λ s. with_column j s t) _ u h in
    record { rows = sym (ap (λ (s : WarmTable). length s.rows) p.2); cuts = sym (ap (λ (s : WarmTable). s.cuts) p.2) }

columns_rows : (cs : List Column) (j : ℕ) (t u : WarmTable) → run column_step j cs t ≡ Some u → HasRows t u
columns_rows [] j t u h = record { rows = sym (ap (λ (s : WarmTable). length s.rows) (some_same h)); cuts = sym (ap (λ (s : WarmTable). s.cuts) (some_same h)) }
columns_rows (c ∷ cs) j t u h =
    let a = and_then_some (run column_step (suc j) cs) (column_step j c t) u h in
    let one = column_rows j c t a.0 a.1 in
    let tail = columns_rows cs (suc j) a.0 u a.2 in
    record { rows = tail.rows ∙ one.rows; cuts = tail.cuts ∙ one.cuts }

pub widened_rows : (lp : Program) (t u : WarmTable) → widened_columns lp t ≡ Some u → HasRows t u
unfolding widened_columns rescaled
widened_rows lp t u h =
    let successors : List Column = drop lp.decisions lp.columns in
    let r = columns_rows successors lp.decisions (rescaled lp.decisions successors (drop lp.own lp.rows) t) u h in
    record { rows = r.rows; cuts = r.cuts }

-- so many rows, and no cuts
pub record HasOwn (n : ℕ) (u : WarmTable) : Type 0 where
  pub rows : length u.rows ≡ n
  pub cuts : u.cuts.rows ≡ []

no_rows : (n : ℕ) (decisions : List Column) (rows : List LpRow) (u : WarmTable) → columns_table n decisions rows ≡ Some u → HasOwn 0 u
unfolding columns_table blank_of
no_rows n decisions rows u h =
    let p = map_some standing_table (run column_step 0 decisions (blank_of n decisions rows)) u h in
    let c = columns_rows decisions 0 (blank_of n decisions rows) p.0 p.1 in
    record {
      rows = sym (ap (λ (s : WarmTable). length s.rows) p.2) ∙ c.rows;
      cuts = sym (ap (λ (s : WarmTable). s.cuts.rows) p.2) ∙ ap (λ (c : CutRows). c.rows) c.cuts;
    }

-- the first table
pub own_rows : (n : ℕ) (decisions : List Column) (rows own : List LpRow) (t u : WarmTable) → columns_table n decisions rows ≡ Some t → appended own t ≡ Some u → HasOwn (length own) u
own_rows n decisions rows own t u h k =
    let none = no_rows n decisions rows t h in
    let more = rows_more own 0 t u k in
    record { rows = omega (arith, none.rows, more.rows); cuts = ap (λ (c : CutRows). c.rows) more.cuts ∙ none.cuts }
