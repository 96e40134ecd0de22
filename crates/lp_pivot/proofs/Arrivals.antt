-- The values of a table's point, step by step, while all else of the table stays.
use Rattle.std.proofs.Common.{◌≡◌, ◌∙◌, ◌+◌, ◌<◌, ℕ, zero, suc, ℤ, Bool, false, not, List, [], ◌∷◌, length, map, take, drop, get_or, slice_set, Option, Some, None, All, arith, refl, ap, ap₂, sym, subst}
use Rattle.std.specs.Option.{option_map, option_and_then}
use Rattle.std.proofs.lemmas.List.{drop_more}
use Rattle.lp_table.specs.declared.table.WarmTable.{WarmTable}
use Rattle.lp_table.specs.SameParts.{with_values}
use Rattle.lp_table.specs.Updates.{GivesNew}
use Rattle.base_num.specs.Each.{each_from}
use Rattle.lp_pivot.specs.Move.{span_at, steps_of, carried, put_at_bound, passed, reached_values, arrived_values, moved_along}

-- values kept twice
pub kept_twice : (t s u : WarmTable) → s ≡ with_values t s.values → u ≡ with_values s u.values → u ≡ with_values t u.values
kept_twice t s u e f = f ∙ ap (λ (w : WarmTable). with_values w u.values) e

module _ (t s : WarmTable) (same : s ≡ with_values t s.values) where
  pub put_same : (high : Bool) (v : ℕ) (x : List ℤ) → put_at_bound s high v x ≡ put_at_bound t high v x
  unfolding put_at_bound
  put_same high v x = ap (λ (u : WarmTable). put_at_bound u high v x) same

  pub reached_same : (high : Bool) (v : ℕ) (q : ℤ) (x : List ℤ) → reached_values s high v q x ≡ reached_values t high v q x
  unfolding reached_values
  reached_same high v q x = ap (λ (u : WarmTable). reached_values u high v q x) same

  pub high_same : (j : ℕ) → get_or s.basis.high j false ≡ get_or t.basis.high j false
  high_same j = ap (λ (u : WarmTable). get_or u.basis.high j false) same

  pub variable_same : (j : ℕ) → get_or s.basis.nonbasic j 0 ≡ get_or t.basis.nonbasic j 0
  variable_same j = ap (λ (u : WarmTable). get_or u.basis.nonbasic j 0) same

  pub passed_same : (flips : List ℕ) (x : List ℤ) → passed s flips x ≡ passed t flips x
  passed_same [] x = refl
  passed_same (j ∷ js) x =
      passed_same js (put_at_bound s (not (get_or s.basis.high j false)) (get_or s.basis.nonbasic j 0) x)
      ∙ ap (passed t js) (put_same (not (get_or s.basis.high j false)) (get_or s.basis.nonbasic j 0) x ∙ ap₂ (λ (b : Bool) (v : ℕ). put_at_bound t (not b) v x) (high_same j) (variable_same j))

  arrived_same : (v : ℕ) (above : Bool) (e : ℕ) (q : ℤ) (flips : List ℕ) (x : List ℤ) → arrived_values s v above e q flips x ≡ arrived_values t v above e q flips x
  unfolding arrived_values
  arrived_same v above e q flips x =
      arrived_more ((reached_values s (get_or s.basis.high e false) (get_or s.basis.nonbasic e 0) q) (passed s flips x))
      ∙ ap (option_map (put_at_bound t above v))
      (reached_same (get_or s.basis.high e false) (get_or s.basis.nonbasic e 0) q (passed s flips x)
      ∙ ap (reached_values t (get_or s.basis.high e false) (get_or s.basis.nonbasic e 0) q) (passed_same flips x)
      ∙ ap₂ (λ (b : Bool) (u : ℕ). reached_values t b u q (passed t flips x)) (high_same e) (variable_same e))
    where
      arrived_more : (found : Option (List ℤ)) → option_map (put_at_bound s above v) found ≡ option_map (put_at_bound t above v) found
      arrived_more None = refl
      arrived_more (Some y) = ap Some (put_same above v y)

  -- the values of the basic columns, and then of the others
  pub moved_by_steps : (v : ℕ) (above : Bool) (e : ℕ) (flips : List ℕ) (q : ℤ) (steps : List (ℕ × ℤ)) (r : Bool) (x : List ℤ) → steps ≡ steps_of t e q flips → each_from (carried t.basis.places t.lines v steps) 0 t.values ≡ Some s.values → GivesNew r (arrived_values s v above e q flips s.values) x → GivesNew r (moved_along t v above e flips q) x
  unfolding moved_along
  moved_by_steps v above e flips q steps r x same_steps c g =
      let whole : moved_along t v above e flips q ≡ arrived_values s v above e q flips s.values =
      ap (λ (ss : List (ℕ × ℤ)). option_and_then (arrived_values t v above e q flips) (each_from (carried t.basis.places t.lines v ss) 0 t.values)) (sym same_steps) ∙ ap (option_and_then (arrived_values t v above e q flips)) c ∙ sym (arrived_same v above e q flips s.values) in
      subst (λ (o : Option (List ℤ)). GivesNew r o x) (sym whole) g

  -- one flip more
  pub pass_step : (flips : List ℕ) (x : List ℤ) (k : ℕ) → k < length flips → x ≡ put_at_bound s (not (get_or s.basis.high (get_or flips k 0) false)) (get_or s.basis.nonbasic (get_or flips k 0) 0) s.values → passed t flips t.values ≡ passed t (drop k flips) s.values → passed t flips t.values ≡ passed t (drop (k + 1) flips) x
  pass_step flips x k h e w =
      let j = get_or flips k 0 in
      let p : x ≡ put_at_bound t (not (get_or t.basis.high j false)) (get_or t.basis.nonbasic j 0) s.values =
      e ∙ put_same (not (get_or s.basis.high j false)) (get_or s.basis.nonbasic j 0) s.values ∙ ap₂ (λ (b : Bool) (v : ℕ). put_at_bound t (not b) v s.values) (high_same j) (variable_same j) in
      w ∙ ap (λ (js : List ℕ). passed t js s.values) (drop_more flips k 0 h) ∙ ap (passed t (drop (k + 1) flips)) (sym p)

-- the entering variable, after the flips, and the leaving one
module _ (t s : WarmTable) (v : ℕ) (above : Bool) (e : ℕ) (q : ℤ) (flips : List ℕ) (same : s ≡ with_values t s.values) (flew : s.values ≡ passed t flips t.values) where
  reaches : (whole : Option (List ℤ)) → reached_values s (get_or s.basis.high e false) (get_or s.basis.nonbasic e 0) q s.values ≡ whole → arrived_values t v above e q flips t.values ≡ option_map (put_at_bound t above v) whole
  unfolding arrived_values
  reaches whole r =
      ap (option_map (put_at_bound t above v)) (ap (reached_values t (get_or t.basis.high e false) (get_or t.basis.nonbasic e 0) q) (sym flew)
      ∙ ap₂ (λ (b : Bool) (u : ℕ). reached_values t b u q s.values) (sym (high_same t s same e)) (sym (variable_same t s same e))
      ∙ sym (reached_same t s same (get_or s.basis.high e false) (get_or s.basis.nonbasic e 0) q s.values) ∙ r)

  pub arrived_none : reached_values s (get_or s.basis.high e false) (get_or s.basis.nonbasic e 0) q s.values ≡ None → arrived_values t v above e q flips t.values ≡ None
  arrived_none r = reaches None r

  pub arrived_some : (u : WarmTable) (x : List ℤ) → u ≡ with_values s u.values → reached_values s (get_or s.basis.high e false) (get_or s.basis.nonbasic e 0) q s.values ≡ Some u.values → x ≡ put_at_bound u above v u.values → arrived_values t v above e q flips t.values ≡ Some x
  arrived_some u x kept r p = reaches (Some u.values) r ∙ ap Some (sym (put_same t u (kept_twice t s u same kept) above v u.values) ∙ sym p)

-- the first of a list that changes
pub take_first : {A : Type 0} (xs : List A) (y : A) → 0 < length xs → take 1 (slice_set xs 0 y) ≡ y ∷ []
take_first [] y h = absurd (omega arith)
take_first (x ∷ xs) y h = refl

flips_inside : (t : WarmTable) (n : ℕ) (flips : List ℕ) → All (λ (j : ℕ). j < n) flips → All (λ (s : ℕ × ℤ). s.0 < n) (map (λ (j : ℕ). (j, span_at t j)) flips)
flips_inside t n [] h k d p = absurd (omega arith)
flips_inside t n (j ∷ js) h zero d p = h zero 0 (omega arith)
flips_inside t n (j ∷ js) h (suc k) d p = flips_inside t n js (λ (i : ℕ) (a : ℕ) (b : i < length js). h (suc i) a (omega (arith, b))) k d (omega (arith, p))

inside : (t : WarmTable) (n e : ℕ) (q : ℤ) (flips : List ℕ) → e < n → All (λ (j : ℕ). j < n) flips → All (λ (s : ℕ × ℤ). s.0 < n) (steps_of t e q flips)
inside t n e q flips h a zero d p = h
inside t n e q flips h a (suc k) d p = flips_inside t n flips a k d (omega (arith, p))

-- the places of the steps are there
pub steps_inside : (t : WarmTable) (m e : ℕ) (q : ℤ) (flips : List ℕ) (steps : List (ℕ × ℤ)) → m ≡ length t.costs → steps ≡ steps_of t e q flips → e < length t.costs → All (λ (j : ℕ). j < length t.costs) flips → All (λ (s : ℕ × ℤ). s.0 < m) steps
steps_inside t m e q flips steps same as_steps h a =
    subst (λ (n : ℕ). All (λ (s : ℕ × ℤ). s.0 < n) steps) (sym same) (subst (All (λ (s : ℕ × ℤ). s.0 < length t.costs)) (sym as_steps) (inside t (length t.costs) e q flips h a))
