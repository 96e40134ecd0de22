-- Cuts that are narrow have values in 128 bits at the points of a table.
use Rattle.std.proofs.Common.{◌≡◌, ◌∙◌, ℕ, zero, suc, ◌+◌, ◌-◌, ◌^◌, ◌<◌, ◌≤◌, pos, ◌-ℤ◌, nat_abs, FitsSigned, Bool, true, false, cond, ◌&&◌, nat_le, List, [], ◌∷◌, length, map, drop, get_or, Option, Some, None, IfSome, All, arith, refl, ap, sym, subst}
use Rattle.std.specs.List.{list_all, AllPass}
use Rattle.std.specs.Option.{option_map, option_and_then}
use Rattle.std.specs.Int.{w64}
use Rattle.std.proofs.lemmas.Bool.Decides.{nat_tests}
use Rattle.std.proofs.lemmas.List.{get_or-map, length-map, length-take}
use Rattle.std.proofs.lemmas.List.Elements.{All-take, All-drop}
use Rattle.std.proofs.lemmas.List.Sums.{AllPass-from_list_all}
use Rattle.base_num.specs.Sums.{entry}
use Rattle.lp_program.specs.declared.fixed.Fx.{Fx}
use Rattle.lp_program.specs.declared.programs.Column.{Column}
use Rattle.lp_program.specs.declared.programs.LpRow.{LpRow}
use Rattle.lp_program.specs.declared.programs.Program.{Program}
use Rattle.lp_program.specs.Proper.{IsProper, AreRising}
use Rattle.base_num.specs.Each.{each_from}
use Rattle.base_num.proofs.Each.{map_some, some_same, each_length}
use Rattle.lp_table.specs.declared.table.WarmTable.{WarmTable}
use Rattle.lp_table.specs.Numbers.{bits_of, shift_of}
use Rattle.lp_scale.specs.Exponents.{ColumnTerm, reach_of}
use Rattle.lp_scale.specs.Waiting.{slopes_of, is_short, is_short_side, is_narrow}
use Rattle.lp_scale.specs.Fitting.{AreNarrow}
use Rattle.lp_price.specs.Found.{place_of_variable, rounded, clamped_value, basic_point, point_by, point_value_at, points_of}
use Rattle.lp_scan.specs.Values.{state_number, IsValueWithin, AreWaitingCutsWithin}
use Rattle.lp_scan.proofs.Digits.{below_bits, box_small, clamped_small, state_fits}

and_then_some : {A B : Type 0} (f : A → Option B) (o : Option A) (y : B) → option_and_then f o ≡ Some y → (x : A) × (o ≡ Some x) × (f x ≡ Some y)
and_then_some f None y h = absurd (cc)
and_then_some f (Some x) y h = (x, refl, h)

-- the result of one entry
each_at : {A B : Type 0} (f : ℕ → A → Option B) (k : ℕ) (xs : List A) (ys : List B) (j : ℕ) (d : A) (e : B) → each_from f k xs ≡ Some ys → j < length xs → f (k + j) (get_or xs j d) ≡ Some (get_or ys j e)
each_at f k [] ys j d e h l = absurd (omega (arith, l))
each_at f k (x ∷ xs) ys zero d e h l =
    let first = and_then_some (λ y. option_map (λ zs. y ∷ zs) (each_from f (suc k) xs)) (f k x) ys h in
    let tail = map_some (λ zs. first.0 ∷ zs) (each_from f (suc k) xs) ys first.2 in
    let n : k + 0 ≡ k = omega arith in
    ap (λ (i : ℕ). f i x) n ∙ first.1 ∙ ap (λ zs. Some (get_or zs 0 e)) tail.2
each_at f k (x ∷ xs) ys (suc j) d e h l =
    let first = and_then_some (λ y. option_map (λ zs. y ∷ zs) (each_from f (suc k) xs)) (f k x) ys h in
    let tail = map_some (λ zs. first.0 ∷ zs) (each_from f (suc k) xs) ys first.2 in
    let n : k + suc j ≡ suc k + j = omega arith in
    ap (λ (i : ℕ). f i (get_or xs j d)) n ∙ each_at f (suc k) xs tail.0 j d e tail.1 (omega (arith, l)) ∙ ap (λ zs. Some (get_or zs (suc j) e)) tail.2

-- the value of a column is in its box
point_small : (t : WarmTable) (v : ℕ) (c : Column) (x : Fx) → reach_of c ≤ 71 → point_value_at t v c ≡ Some x → nat_abs x.0 < 2 ^ 71
unfolding basic_point
point_small t v c x r h = by (place_of_variable t v) h
  where
    box : (nat_abs c.low.0 < 2 ^ 71) × (nat_abs c.high.0 < 2 ^ 71)
    box = box_small c r

    bound : (b : Bool) → nat_abs (cond b c.high c.low).0 < 2 ^ 71
    bound true = box.1
    bound false = box.0

    by : (o : Option ℕ) → point_by t v c o ≡ Some x → nat_abs x.0 < 2 ^ 71
    by None k =
        let m = map_some (clamped_value c) (option_and_then rounded (shift_of (entry t.values v) (entry t.scales.columns v -ℤ t.scales.values))) x k in
        subst (λ (y : Fx). nat_abs y.0 < 2 ^ 71) m.2 (clamped_small c m.0 (2 ^ 71) box.0 box.1)
    by (Some j) k = subst (λ (y : Fx). nat_abs y.0 < 2 ^ 71) (some_same k) (bound (get_or t.basis.high j false))

abbrev zero_column : Column
zero_column = record { low = record { 0 = pos 0 }; high = record { 0 = pos 0 }; cost = record { 0 = pos 0 } }

-- a state that a slope of a narrow cut meets
state_small : (t : WarmTable) (lp : Program) (ps : List Fx) (j : ℕ) → points_of t lp ≡ Some ps → j < length lp.columns → get_or (map reach_of lp.columns) j 0 ≤ 71 → FitsSigned w64 (entry (map state_number ps) j)
unfolding points_of
state_small t lp ps j h l r =
    let zero_fx : Fx = record { 0 = pos 0 } in
    let c : Column = get_or lp.columns j zero_column in
    let n : length ps ≡ length lp.columns = each_length (point_value_at t) 0 lp.columns ps h in
    let x : Fx = get_or ps j zero_fx in
    let start : j ≡ 0 + j = omega arith in
    let p : point_value_at t j c ≡ Some x = ap (λ (i : ℕ). point_value_at t i c) start ∙ each_at (point_value_at t) 0 lp.columns ps j zero_column zero_fx h l in
    let reach : reach_of c ≤ 71 = subst (λ (k : ℕ). k ≤ 71) (get_or-map reach_of lp.columns j zero_column 0 l) r in
    subst (FitsSigned w64) (sym (get_or-map state_number ps j zero_fx (pos 0) (subst (λ (k : ℕ). j < k) (sym n) l))) (state_fits x (point_small t j c x reach p))

rising_inside : (least n : ℕ) (ts : List ColumnTerm) → AreRising least n ts → All (λ (t : ColumnTerm). t.0 < n) ts
rising_inside least n [] h k d p = absurd (omega (arith, p))
rising_inside least n (t ∷ ts) h zero d p = h.1
rising_inside least n (t ∷ ts) h (suc k) d p = rising_inside (suc t.0) n ts h.2 k d (omega (arith, p))

side_small : (o : Option Fx) → is_short_side o ≡ true → IfSome o (λ x. nat_abs x.0 < 2 ^ 108)
side_small None h = tt
side_small (Some x) h = below_bits x.0 108 (grind (arith, nat_tests, h)) (omega arith)

and_parts : (a b : Bool) → (a && b) ≡ true → (a ≡ true) × (b ≡ true)
and_parts true b h = (refl, h)
and_parts false b h = absurd (cc)

row_within : (t : WarmTable) (lp : Program) (ps : List Fx) (r : LpRow) → points_of t lp ≡ Some ps → AreRising 0 (length lp.columns) r.terms → is_narrow (map reach_of lp.columns) r ≡ true → length ps ≡ length lp.columns → IsValueWithin (map state_number ps) r
unfolding is_narrow
row_within t lp ps r h rising narrow n =
    let rs : List ℕ = map reach_of lp.columns in
    let a = and_parts (is_short_side r.low && nat_le (length r.terms) 51) (list_all (is_short rs) (slopes_of r.terms)) narrow in
    let b = and_parts (is_short_side r.low) (nat_le (length r.terms) 51) a.0 in
    let few : length r.terms ≤ 51 = grind (arith, nat_tests, b.1) in
    let short : AllPass (is_short rs) (slopes_of r.terms) = AllPass-from_list_all (is_short rs) (slopes_of r.terms) a.1 in
    let inside : All (λ (s : ColumnTerm). s.0 < length lp.columns) (slopes_of r.terms) = All-take (λ (s : ColumnTerm). s.0 < length lp.columns) (length r.terms - 1) r.terms (rising_inside 0 (length lp.columns) r.terms rising) in
    let count : length (map state_number ps) ≡ length lp.columns = length-map ps state_number ∙ n in
    record {
      low = side_small r.low b.0;
      few = omega (arith, few, length-take (length r.terms - 1) r.terms);
      slopes = λ k d l.
          let s : ColumnTerm = get_or (slopes_of r.terms) k d in
          let i : s.0 < length lp.columns = inside k d l in
          let q = and_parts (nat_le (bits_of s.1.0) 65) (nat_le (get_or rs s.0 0) 71) (short k d l) in
          record {
            there = subst (λ (m : ℕ). s.0 < m) (sym count) i;
            slope = below_bits s.1.0 65 (grind (arith, nat_tests, q.0)) (omega arith);
            state = state_small t lp ps s.0 h i (grind (arith, nat_tests, q.1));
          };
    }

pub rows_within : (t : WarmTable) (lp : Program) (ps : List Fx) (ws : List Bool) → points_of t lp ≡ Some ps → IsProper lp → AreNarrow lp ws → AreWaitingCutsWithin ws (map state_number ps) lp
unfolding points_of
rows_within t lp ps ws h proper narrow k d l w =
    let rising = All-drop (λ (r : LpRow). AreRising 0 (length lp.columns) r.terms) lp.own lp.rows proper.terms in
    row_within t lp ps (get_or (drop lp.own lp.rows) k d) h (rising k d l) (narrow k d l w) (each_length (point_value_at t) 0 lp.columns ps h)
