-- Duals of rows as a list, and pairs of rows that rise.
use Rattle.std.proofs.Common.{◌≡◌, ◌∙◌, ℕ, zero, suc, ◌+◌, ◌-◌, ◌<◌, ◌≤◌, ℤ, pos, int_lt, not, Bool, true, false, nat_lt, ◌==◌, ◌&&◌, List, [], ◌∷◌, ◌++◌, length, take, get_or, set, replicate, slice_get, if◌then◌else◌, refl, ap, ap₂, sym, subst, arith}
use Rattle.std.specs.List.{insert}
use Rattle.std.proofs.lemmas.Bool.Decides.{nat_tests}
use Rattle.std.proofs.lemmas.Int.{ints}
use Rattle.std.proofs.lemmas.List.{length-append, length-set, get_or_append_left, get_or-append_right, get_or_past, get_or-set_same, get_or-set_other, set-append_left, ext_get_or, take_more}
use Rattle.lp_program.specs.declared.fixed.Fx.{Fx}
use Rattle.lp_program.specs.Numbers.{zero_fx}
use Rattle.lp_program.specs.Duals.{dual_among, spread, joined, RiseWithin, AreDuals, is_zero, with_dual, with_pair, place_of, is_of}

pub same_true : (a b : ℕ) → a ≡ b → (a == b) ≡ true
same_true a b e = grind (arith, nat_tests)

pub same_false : (a b : ℕ) → (a ≡ b → ⊥) → (a == b) ≡ false
same_false a b h = grind (arith, nat_tests)

pub are_same : (a b : ℕ) → (a == b) ≡ true → a ≡ b
are_same a b h = grind (arith, nat_tests)

pub not_same : (a b : ℕ) → (a == b) ≡ false → a ≡ b → ⊥
not_same a b h e = grind (arith, nat_tests)

pub is_below : (a b : ℕ) → nat_lt a b ≡ true → a < b
is_below a b h = grind (arith, nat_tests)

pub not_below : (a b : ℕ) → nat_lt a b ≡ false → b ≤ a
not_below a b h = grind (arith, nat_tests)

no : false ≡ true → ⊥
no e = cc

pub zero_is : (f : Fx) → is_zero f ≡ true → f ≡ zero_fx
zero_is f h = ap (λ (z : ℤ). record { 0 = z }) (by (int_lt (pos 0) f.0) refl (int_lt f.0 (pos 0)) refl h)
  where
    by : (t : Bool) → int_lt (pos 0) f.0 ≡ t → (s : Bool) → int_lt f.0 (pos 0) ≡ s → (not t && not s) ≡ true → f.0 ≡ pos 0
    by true d s e g = absurd (no g)
    by false d true e g = absurd (no g)
    by false d false e g = omega (arith, ints)

-- the first pair is of the row, or of another
pub at_first : (p : ℕ × Fx) (ps : List (ℕ × Fx)) (i : ℕ) → p.0 ≡ i → dual_among (p ∷ ps) i ≡ p.1
at_first p ps i e = ap (λ (t : Bool). if t then p.1 else dual_among ps i) (same_true p.0 i e)

pub past_first : (p : ℕ × Fx) (ps : List (ℕ × Fx)) (i : ℕ) → (p.0 ≡ i → ⊥) → dual_among (p ∷ ps) i ≡ dual_among ps i
past_first p ps i n = ap (λ (t : Bool). if t then p.1 else dual_among ps i) (same_false p.0 i n)

-- no pair is of a row before the first, or behind the last
pub none_before : (low high : ℕ) (ps : List (ℕ × Fx)) (i : ℕ) → RiseWithin low high ps → i < low → dual_among ps i ≡ zero_fx
none_before low high [] i h l = refl
none_before low high (p ∷ ps) i h l = past_first p ps i (λ e. absurd (omega (arith, h.0, l, e))) ∙ none_before (suc p.0) high ps i h.2 (omega (arith, h.0, l))

none_beyond : (low high : ℕ) (ps : List (ℕ × Fx)) (i : ℕ) → RiseWithin low high ps → high ≤ i → dual_among ps i ≡ zero_fx
none_beyond low high [] i h l = refl
none_beyond low high (p ∷ ps) i h l = past_first p ps i (λ e. absurd (omega (arith, h.1, l, e))) ∙ none_beyond (suc p.0) high ps i h.2 l

length-spread : (ps : List (ℕ × Fx)) (i n : ℕ) → length (spread ps i n) ≡ n
length-spread ps i zero = refl
length-spread ps i (suc n) = ap suc (length-spread ps (suc i) n)

get_or-spread : (ps : List (ℕ × Fx)) (i n j : ℕ) → j < n → get_or (spread ps i n) j zero_fx ≡ dual_among ps (i + j)
get_or-spread ps i zero j h = absurd (omega (arith, h))
get_or-spread ps i (suc n) zero h = let e : i ≡ i + 0 = omega arith in ap (dual_among ps) e
get_or-spread ps i (suc n) (suc j) h = let e : suc i + j ≡ i + suc j = omega arith in get_or-spread ps (suc i) n j (omega (arith, h)) ∙ ap (dual_among ps) e

spread_none : (i n : ℕ) → spread [] i n ≡ replicate n zero_fx
spread_none i zero = refl
spread_none i (suc n) = ap (λ (fs : List Fx). zero_fx ∷ fs) (spread_none (suc i) n)

pub padded_is : (first : List Fx) (ps : List (ℕ × Fx)) (rows n : ℕ) → ps ≡ [] → n - length first ≡ rows - length first → joined first ps n ≡ first ++ replicate (rows - length first) zero_fx
padded_is first ps rows n none e =
    ap (λ (qs : List (ℕ × Fx)). joined first qs n) none
    ∙ ap (λ (fs : List Fx). first ++ fs) (spread_none (length first) (n - length first) ∙ ap (λ (m : ℕ). replicate m zero_fx) e)

pub zeros_is : (first : List Fx) (ps : List (ℕ × Fx)) (rows : ℕ) → first ≡ [] → ps ≡ [] → joined first ps rows ≡ replicate rows zero_fx
zeros_is first ps rows e none =
    let whole : rows - 0 ≡ rows = omega arith in
    ap₂ (λ (fs : List Fx) (qs : List (ℕ × Fx)). joined fs qs rows) e none ∙ spread_none 0 (rows - 0) ∙ ap (λ (m : ℕ). replicate m zero_fx) whole

module _ (first : List Fx) (ps : List (ℕ × Fx)) (n : ℕ) where
  pub length-joined : length first ≤ n → length (joined first ps n) ≡ n
  length-joined h = length-append first (spread ps (length first) (n - length first)) ∙ omega (arith, h, length-spread ps (length first) (n - length first))

  pub joined_first : (i : ℕ) → i < length first → get_or (joined first ps n) i zero_fx ≡ get_or first i zero_fx
  joined_first i h = get_or_append_left first (spread ps (length first) (n - length first)) zero_fx i h

  joined_other : (i : ℕ) → length first ≤ i → i < n → get_or (joined first ps n) i zero_fx ≡ dual_among ps i
  joined_other i h l =
      let e : length first + (i - length first) ≡ i = omega (arith, h) in
      get_or-append_right first (spread ps (length first) (n - length first)) (length first) i zero_fx refl h
      ∙ get_or-spread ps (length first) (n - length first) (i - length first) (omega (arith, h, l)) ∙ ap (dual_among ps) e

  pub joined_at : AreDuals first ps n → (i : ℕ) → length first ≤ i → get_or (joined first ps n) i zero_fx ≡ dual_among ps i
  joined_at a i h = by (nat_lt i n) refl
    where
      by : (t : Bool) → nat_lt i n ≡ t → get_or (joined first ps n) i zero_fx ≡ dual_among ps i
      by true e = joined_other i h (is_below i n e)
      by false e =
          get_or_past (joined first ps n) i zero_fx (omega (arith, length-joined a.count, not_below i n e))
          ∙ sym (none_beyond (length first) n ps i a.rise (not_below i n e))

-- one dual more of a list
pub one_dual_more : (all found new : List Fx) (i : ℕ) (x : Fx) → i < length all → found ≡ take i all → x ≡ get_or all i zero_fx → new ≡ found ++ x ∷ [] → new ≡ take (i + 1) all
one_dual_more all found new i x h e at n =
    n ∙ ap (λ (fs : List Fx). fs ++ x ∷ []) e ∙ ap (λ (y : Fx). take i all ++ y ∷ []) at ∙ sym (take_more all i zero_fx h)

-- a pair in the place of one of the same row
pub placed_there : (k : ℕ) (f : Fx) (ps : List (ℕ × Fx)) → is_of k (slice_get ps (place_of k ps)) ≡ true → set ps (place_of k ps) (k, f) ≡ with_pair k f ps
placed_there k f [] h = absurd (cc)
placed_there k f (p ∷ ps) h = by (placed_there k f ps) (nat_lt p.0 k) h
  where
    by : (is_of k (slice_get ps (place_of k ps)) ≡ true → set ps (place_of k ps) (k, f) ≡ with_pair k f ps) → (t : Bool) → is_of k (slice_get (p ∷ ps) (if t then suc (place_of k ps) else 0)) ≡ true
        → set (p ∷ ps) (if t then suc (place_of k ps) else 0) (k, f) ≡ (if t then p ∷ with_pair k f ps else (if p.0 == k then (k, f) ∷ ps else with_dual k f (p ∷ ps)))
    by behind true g = ap (λ (qs : List (ℕ × Fx)). p ∷ qs) (behind g)
    by behind false g = sym (ap (λ (t : Bool). if t then (k, f) ∷ ps else with_dual k f (p ∷ ps)) g)

before_either : (p : ℕ × Fx) (t : Bool) (xs ys : List (ℕ × Fx)) → p ∷ (if t then xs else ys) ≡ (if t then p ∷ xs else p ∷ ys)
before_either p true xs ys = refl
before_either p false xs ys = refl

-- a pair of a row that had none
pub placed_new : (k : ℕ) (f : Fx) (ps : List (ℕ × Fx)) → is_of k (slice_get ps (place_of k ps)) ≡ false → with_pair k f ps ≡ (if is_zero f then ps else insert ps (place_of k ps) (k, f))
placed_new k f [] h = refl
placed_new k f (p ∷ ps) h = by (placed_new k f ps) (nat_lt p.0 k) h
  where
    by : (is_of k (slice_get ps (place_of k ps)) ≡ false → with_pair k f ps ≡ (if is_zero f then ps else insert ps (place_of k ps) (k, f))) → (t : Bool) → is_of k (slice_get (p ∷ ps) (if t then suc (place_of k ps) else 0)) ≡ false
        → (if t then p ∷ with_pair k f ps else (if p.0 == k then (k, f) ∷ ps else with_dual k f (p ∷ ps))) ≡ (if is_zero f then p ∷ ps else insert (p ∷ ps) (if t then suc (place_of k ps) else 0) (k, f))
    by behind true g = ap (λ (qs : List (ℕ × Fx)). p ∷ qs) (behind g) ∙ before_either p (is_zero f) ps (insert ps (place_of k ps) (k, f))
    by behind false g = ap (λ (t : Bool). if t then (k, f) ∷ ps else with_dual k f (p ∷ ps)) g

-- with a pair of row k: its dual there, and elsewhere as before
module _ (k : ℕ) (f : Fx) where
  among_with_dual : (ps : List (ℕ × Fx)) → dual_among ps k ≡ zero_fx → dual_among (with_dual k f ps) k ≡ f
  among_with_dual ps none = by (is_zero f) refl
    where
      by : (t : Bool) → is_zero f ≡ t → dual_among (if t then ps else (k, f) ∷ ps) k ≡ f
      by true e = none ∙ sym (zero_is f e)
      by false e = at_first (k, f) ps k refl

  with_dual_elsewhere : (ps : List (ℕ × Fx)) (i : ℕ) → (k ≡ i → ⊥) → dual_among (with_dual k f ps) i ≡ dual_among ps i
  with_dual_elsewhere ps i n = by (is_zero f)
    where
      by : (t : Bool) → dual_among (if t then ps else (k, f) ∷ ps) i ≡ dual_among ps i
      by true = refl
      by false = past_first (k, f) ps i n

  pair_same : (low high : ℕ) (ps : List (ℕ × Fx)) → RiseWithin low high ps → dual_among (with_pair k f ps) k ≡ f
  pair_same low high [] h = among_with_dual [] refl
  pair_same low high (p ∷ ps) h = by (pair_same (suc p.0) high ps h.2) (nat_lt p.0 k) refl (p.0 == k) refl
    where
      by : dual_among (with_pair k f ps) k ≡ f → (t : Bool) → nat_lt p.0 k ≡ t → (s : Bool) → (p.0 == k) ≡ s
          → dual_among (if t then p ∷ with_pair k f ps else (if s then (k, f) ∷ ps else with_dual k f (p ∷ ps))) k ≡ f
      by behind true e s g = past_first p (with_pair k f ps) k (λ same. absurd (omega (arith, is_below p.0 k e, same))) ∙ behind
      by behind false e true g = at_first (k, f) ps k refl
      by behind false e false g =
          among_with_dual (p ∷ ps) (past_first p ps k (not_same p.0 k g) ∙ none_before (suc p.0) high ps k h.2 (omega (arith, not_below p.0 k e)))

  pair_elsewhere : (ps : List (ℕ × Fx)) (i : ℕ) → (k ≡ i → ⊥) → dual_among (with_pair k f ps) i ≡ dual_among ps i
  pair_elsewhere [] i n = with_dual_elsewhere [] i n
  pair_elsewhere (p ∷ ps) i n = by (pair_elsewhere ps i n) (nat_lt p.0 k) (p.0 == k) refl
    where
      by : dual_among (with_pair k f ps) i ≡ dual_among ps i → (t s : Bool) → (p.0 == k) ≡ s
          → dual_among (if t then p ∷ with_pair k f ps else (if s then (k, f) ∷ ps else with_dual k f (p ∷ ps))) i ≡ dual_among (p ∷ ps) i
      by behind true s g = ap (λ (x : Fx). if p.0 == i then p.1 else x) behind
      by behind false true g = past_first (k, f) ps i n ∙ sym (past_first p ps i (λ e. n (sym (are_same p.0 k g) ∙ e)))
      by behind false false g = with_dual_elsewhere (p ∷ ps) i n

  rise_with_dual : (low high : ℕ) (ps : List (ℕ × Fx)) → low ≤ k → k < high → RiseWithin (suc k) high ps → RiseWithin low high ps → RiseWithin low high (with_dual k f ps)
  rise_with_dual low high ps l r behind h = by (is_zero f)
    where
      by : (t : Bool) → RiseWithin low high (if t then ps else (k, f) ∷ ps)
      by true = h
      by false = (l, r, behind)

  pub rise_with_pair : (low high : ℕ) (ps : List (ℕ × Fx)) → low ≤ k → k < high → RiseWithin low high ps → RiseWithin low high (with_pair k f ps)
  rise_with_pair low high [] l r h = rise_with_dual low high [] l r h h
  rise_with_pair low high (p ∷ ps) l r h = by (λ later. rise_with_pair (suc p.0) high ps later r h.2) (nat_lt p.0 k) refl (p.0 == k) refl
    where
      by : (suc p.0 ≤ k → RiseWithin (suc p.0) high (with_pair k f ps)) → (t : Bool) → nat_lt p.0 k ≡ t → (s : Bool) → (p.0 == k) ≡ s
          → RiseWithin low high (if t then p ∷ with_pair k f ps else (if s then (k, f) ∷ ps else with_dual k f (p ∷ ps)))
      by behind true e s g = (h.0, h.1, behind (omega (arith, is_below p.0 k e)))
      by behind false e true g = (l, r, subst (λ (j : ℕ). RiseWithin (suc j) high ps) (are_same p.0 k g) h.2)
      by behind false e false g =
          let apart : p.0 ≡ k → ⊥ = not_same p.0 k g in
          let above : suc k ≤ p.0 = grind (arith, not_below p.0 k e, apart) in
          rise_with_dual low high (p ∷ ps) l r (above, h.1, h.2) h

-- another dual of a row
module _ (first : List Fx) (ps : List (ℕ × Fx)) (n k : ℕ) (f : Fx) (a : AreDuals first ps n) where
  pub set_first : k < length first → joined (set first k f) ps n ≡ set (joined first ps n) k f
  set_first h =
      ap (λ (m : ℕ). set first k f ++ spread ps m (n - m)) (length-set first k f)
      ∙ sym (set-append_left first (spread ps (length first) (n - length first)) k f h)

  pub still_duals : length first ≤ k → k < n → AreDuals first (with_pair k f ps) n
  still_duals h l = record { count = a.count; rise = rise_with_pair k f (length first) n ps h l a.rise }

  pub set_other : length first ≤ k → k < n → joined first (with_pair k f ps) n ≡ set (joined first ps n) k f
  set_other h l = ext_get_or zero_fx (joined first (with_pair k f ps) n) (set (joined first ps n) k f) long each
    where
      new : AreDuals first (with_pair k f ps) n
      new = still_duals h l

      all : length (joined first ps n) ≡ n
      all = length-joined first ps n a.count

      long : length (joined first (with_pair k f ps) n) ≡ length (set (joined first ps n) k f)
      long = length-joined first (with_pair k f ps) n a.count ∙ sym (length-set (joined first ps n) k f ∙ all)

      here : get_or (joined first (with_pair k f ps) n) k zero_fx ≡ get_or (set (joined first ps n) k f) k zero_fx
      here =
          joined_at first (with_pair k f ps) n new k h ∙ pair_same k f (length first) n ps a.rise
          ∙ sym (get_or-set_same (joined first ps n) k f zero_fx (omega (arith, all, l)))

      elsewhere : (i : ℕ) → (k ≡ i → ⊥) → (t : Bool) → nat_lt i (length first) ≡ t → get_or (joined first (with_pair k f ps) n) i zero_fx ≡ get_or (joined first ps n) i zero_fx
      elsewhere i apart true e = joined_first first (with_pair k f ps) n i (is_below i (length first) e) ∙ sym (joined_first first ps n i (is_below i (length first) e))
      elsewhere i apart false e =
          joined_at first (with_pair k f ps) n new i (not_below i (length first) e) ∙ pair_elsewhere k f ps i apart
          ∙ sym (joined_at first ps n a i (not_below i (length first) e))

      one : (i : ℕ) (t : Bool) → (k == i) ≡ t → get_or (joined first (with_pair k f ps) n) i zero_fx ≡ get_or (set (joined first ps n) k f) i zero_fx
      one i true e = subst (λ (j : ℕ). get_or (joined first (with_pair k f ps) n) j zero_fx ≡ get_or (set (joined first ps n) k f) j zero_fx) (are_same k i e) here
      one i false e =
          elsewhere i (not_same k i e) (nat_lt i (length first)) refl
          ∙ sym (get_or-set_other (joined first ps n) k i f zero_fx (λ same. not_same k i e (sym same)))

      each : (i : ℕ) → i < length (joined first (with_pair k f ps) n) → get_or (joined first (with_pair k f ps) n) i zero_fx ≡ get_or (set (joined first ps n) k f) i zero_fx
      each i within = one i (k == i) refl

  -- where memory was there, and where it was refused
  pub put_duals : (t : Bool) (new : List (ℕ × Fx)) → length first ≤ k → k < n → new ≡ (if t then with_pair k f ps else ps) → AreDuals first new n
  put_duals true new h l e = subst (λ (qs : List (ℕ × Fx)). AreDuals first qs n) (sym e) (still_duals h l)
  put_duals false new h l e = subst (λ (qs : List (ℕ × Fx)). AreDuals first qs n) (sym e) a

  pub put_value : (t : Bool) (new : List (ℕ × Fx)) → length first ≤ k → k < n → new ≡ (if t then with_pair k f ps else ps) → joined first new n ≡ (if t then set (joined first ps n) k f else joined first ps n)
  put_value true new h l e = ap (λ (qs : List (ℕ × Fx)). joined first qs n) e ∙ set_other h l
  put_value false new h l e = ap (λ (qs : List (ℕ × Fx)). joined first qs n) e

-- where a pair is put
module _ (k : ℕ) (f : Fx) (ps : List (ℕ × Fx)) (at : ℕ) (is : at ≡ place_of k ps) where
  pub put_there : is_of k (slice_get ps at) ≡ true → set ps at (k, f) ≡ with_pair k f ps
  put_there h = ap (λ (i : ℕ). set ps i (k, f)) is ∙ placed_there k f ps (sym (ap (λ (i : ℕ). is_of k (slice_get ps i)) is) ∙ h)

  new_pair : is_of k (slice_get ps at) ≡ false → with_pair k f ps ≡ (if is_zero f then ps else insert ps at (k, f))
  new_pair h =
      placed_new k f ps (sym (ap (λ (i : ℕ). is_of k (slice_get ps i)) is) ∙ h)
      ∙ ap (λ (i : ℕ). if is_zero f then ps else insert ps i (k, f)) (sym is)

  pub put_nothing : is_of k (slice_get ps at) ≡ false → is_zero f ≡ true → ps ≡ with_pair k f ps
  put_nothing h z = sym (new_pair h ∙ ap (λ (t : Bool). if t then ps else insert ps at (k, f)) z)

  pub put_new : (new : List (ℕ × Fx)) → is_of k (slice_get ps at) ≡ false → is_zero f ≡ false → new ≡ insert ps at (k, f) → new ≡ with_pair k f ps
  put_new new h z e = e ∙ sym (new_pair h ∙ ap (λ (t : Bool). if t then ps else insert ps at (k, f)) z)
