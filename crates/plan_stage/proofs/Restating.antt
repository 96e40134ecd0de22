-- Stage problems whose own rows get other sides, one after another.
use Rattle.std.proofs.Common.{◌≡◌, ◌∙◌, ℕ, suc, ◌+◌, ◌<◌, ◌^◌, ℤ, pos, ◌-ℤ◌, ◌*ℤ◌, Option, List, [], ◌∷◌, ◌++◌, length, map, take, drop, get_or, set, ap, ap₂, refl, sym, subst, arith}
use Rattle.std.specs.Option.{option_map}
use Rattle.base_num.specs.Sums.{at_terms, entry}
use Rattle.std.proofs.lemmas.List.{length-set}
use Rattle.problem.specs.declared.parts.Row.{Row}
use Rattle.lp_program.specs.declared.fixed.Fx.{Fx}
use Rattle.lp_program.specs.declared.programs.LpRow.{LpRow}
use Rattle.lp_program.specs.declared.programs.Program.{Program}
use Rattle.lp_program.specs.Numbers.{number}
use Rattle.lp_program.specs.StageLps.{no_row, with_sides}
use Rattle.plan_stage.specs.Stage.{whole_fixed, side_at_state, own_row}
use Rattle.plan_stage.proofs.Seams.{set_next, next_is, next_stays}

module _ (lp new : Program) (i : ℕ) (low high : Option Fx) (is : new ≡ with_sides i low high lp) where
  -- all but the rows stays
  pub rest_stays : (first : Program) → lp ≡ record first { rows = lp.rows } → new ≡ record first { rows = new.rows }
  rest_stays first e =
      let rows : List LpRow = (with_sides i low high lp).rows in
      is
      ∙ ap (λ (p : Program). record p { rows = rows }) e
      ∙ ap (λ (rs : List LpRow). record first { rows = rs }) (sym (ap (λ (p : Program). p.rows) is))

  -- there are as many rows
  pub count_stays : (first : Program) → length lp.rows ≡ length first.rows → length new.rows ≡ length first.rows
  count_stays first e = ap (λ (p : Program). length p.rows) is ∙ length-set lp.rows i (record (get_or lp.rows i no_row) { low = low; high = high }) ∙ e

-- one row more has its sides
pub next_restated : (values state before now : List ℤ) (rows : List Row) (i : ℕ) (row : Row) (lp new : Program) (cuts : List LpRow) → i < length rows → row ≡ get_or rows i row
    → new ≡ with_sides i (option_map (side_at_state values state row) row.low) (option_map (side_at_state values state row) row.high) lp
    → lp.rows ≡ map (own_row values state) (take i rows) ++ (map (own_row before now) (drop i rows) ++ cuts)
    → new.rows ≡ map (own_row values state) (take (i + 1) rows) ++ (map (own_row before now) (drop (i + 1) rows) ++ cuts)
next_restated values state before now rows i row lp new cuts inside here is stood =
    let former : List LpRow = map (own_row values state) (take i rows) ++ (map (own_row before now) (drop i rows) ++ cuts) in
    let low : Option Fx = option_map (side_at_state values state row) row.low in
    let high : Option Fx = option_map (side_at_state values state row) row.high in
    let stands : get_or former i no_row ≡ own_row before now row = next_is (own_row values state) (own_row before now) rows i row no_row cuts inside ∙ ap (own_row before now) (sym here) in
    let next : suc i ≡ i + 1 = omega arith in
    ap (λ (p : Program). p.rows) is
    ∙ ap (λ (rs : List LpRow). set rs i (record (get_or rs i no_row) { low = low; high = high })) stood
    ∙ ap (λ (r : LpRow). set former i (record r { low = low; high = high })) stands
    ∙ ap (λ (r : Row). set former i (own_row values state r)) here
    ∙ set_next (own_row values state) (own_row before now) rows i row cuts inside
    ∙ ap (λ (k : ℕ). map (own_row values state) (take k rows) ++ (map (own_row before now) (drop k rows) ++ cuts)) next

-- the sum of no terms
at_none : (terms : List (ℕ × ℤ)) (f g : ℕ → ℤ) → length terms ≡ 0 → at_terms terms f ≡ at_terms terms g
at_none [] f g h = refl
at_none (t ∷ ts) f g h = absurd (omega (arith, h))

-- a row where its states and its random variables come to these
abbrev own_row_of : ℤ → ℤ → Row → LpRow
own_row_of x y row =
    record { low = option_map (λ side. number (pos (2 ^ 32) *ℤ side -ℤ pos 256 *ℤ x -ℤ pos (2 ^ 32) *ℤ y)) row.low; high = option_map (λ side. number (pos (2 ^ 32) *ℤ side -ℤ pos 256 *ℤ x -ℤ pos (2 ^ 32) *ℤ y)) row.high; terms = map (λ (t : ℕ × ℤ). (t.0, whole_fixed t.1)) row.decisions }

-- a row whose sides go with neither values nor states
fixed_row : (values state before now : List ℤ) (row : Row) → (length row.states ≡ 0) × (length row.randoms ≡ 0) → own_row values state row ≡ own_row before now row
fixed_row values state before now row none =
    ap₂ (λ (x y : ℤ). own_row_of x y row) (at_none row.states (entry state) (entry now) none.0) (at_none row.randoms (entry values) (entry before) none.1)

-- one row more, whose sides stay
pub next_kept : (values state before now : List ℤ) (rows : List Row) (i : ℕ) (row : Row) (lp : Program) (cuts : List LpRow) → i < length rows → row ≡ get_or rows i row
    → (length row.states ≡ 0) × (length row.randoms ≡ 0)
    → lp.rows ≡ map (own_row values state) (take i rows) ++ (map (own_row before now) (drop i rows) ++ cuts)
    → lp.rows ≡ map (own_row values state) (take (i + 1) rows) ++ (map (own_row before now) (drop (i + 1) rows) ++ cuts)
next_kept values state before now rows i row lp cuts inside here none stood =
    let same : own_row values state (get_or rows i row) ≡ own_row before now (get_or rows i row) = subst (λ (r : Row). own_row values state r ≡ own_row before now r) here (fixed_row values state before now row none) in
    let next : suc i ≡ i + 1 = omega arith in
    stood
    ∙ next_stays (own_row values state) (own_row before now) rows i row cuts inside same
    ∙ ap (λ (k : ℕ). map (own_row values state) (take k rows) ++ (map (own_row before now) (drop k rows) ++ cuts)) next
