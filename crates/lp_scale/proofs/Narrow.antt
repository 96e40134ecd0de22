-- Cuts that wait are narrow.
use Rattle.std.proofs.Common.{◌≡◌, ℕ, zero, suc, Bool, true, false, cond, List, [], ◌∷◌, map, drop, length, replicate, get_or, slice_set, Option, Some, None, All, refl}
use Rattle.std.proofs.lemmas.List.Elements.{All-nil, All-cons}
use Rattle.lp_program.specs.declared.programs.LpRow.{LpRow}
use Rattle.lp_program.specs.declared.programs.Program.{Program}
use Rattle.lp_scale.specs.Walks.{walk}
use Rattle.lp_scale.specs.Exponents.{reach_of}
use Rattle.lp_scale.specs.Waiting.{last_column, is_narrow, closed, closed_by, successors_of, waiting_of, waits_in, waits}
use Rattle.lp_scale.specs.Fitting.{AreNarrow}

-- the walk over cuts from number i on
abbrev after : List ℕ → ℕ → List Bool → List LpRow → List Bool
after rs i ws cuts = walk (λ (i : ℕ) ws (r : LpRow). closed_by rs ws r) i ws cuts

cleared_elsewhere : (ws : List Bool) (k j : ℕ) → get_or (slice_set ws k false) j false ≡ true → get_or ws j false ≡ true
cleared_elsewhere [] k j h = h
cleared_elsewhere (w ∷ ws) zero zero h = absurd (cc)
cleared_elsewhere (w ∷ ws) zero (suc j) h = h
cleared_elsewhere (w ∷ ws) (suc k) zero h = h
cleared_elsewhere (w ∷ ws) (suc k) (suc j) h = cleared_elsewhere ws k j h

cleared_here : (ws : List Bool) (k : ℕ) → get_or (slice_set ws k false) k false ≡ false
cleared_here [] k = refl
cleared_here (w ∷ ws) zero = refl
cleared_here (w ∷ ws) (suc k) = cleared_here ws k

closed_was : (ws : List Bool) (o : Option ℕ) (j : ℕ) → get_or (closed ws o) j false ≡ true → get_or ws j false ≡ true
closed_was ws None j h = h
closed_was ws (Some k) j h = cleared_elsewhere ws k j h

either_was : (b : Bool) (ws : List Bool) (o : Option ℕ) (j : ℕ) → get_or (cond b ws (closed ws o)) j false ≡ true → get_or ws j false ≡ true
either_was true ws o j h = h
either_was false ws o j h = closed_was ws o j h

-- a column that waits after some cuts waited before
waited : (rs : List ℕ) (i : ℕ) (ws : List Bool) (cuts : List LpRow) (j : ℕ) → get_or (after rs i ws cuts) j false ≡ true → get_or ws j false ≡ true
waited rs i ws [] j h = h
waited rs i ws (r ∷ cuts) j h = either_was (is_narrow rs r) ws (last_column r.terms) j (waited rs (suc i) (closed_by rs ws r) cuts j h)

-- a row after which its column still waits is narrow
narrow_one : (b : Bool) (rs : List ℕ) (i : ℕ) (ws : List Bool) (cuts : List LpRow) (o : Option ℕ) → waits_in (after rs i (cond b ws (closed ws o)) cuts) o ≡ true → b ≡ true
narrow_one true rs i ws cuts o h = refl
narrow_one false rs i ws cuts None h = absurd (cc)
narrow_one false rs i ws cuts (Some j) h = let a = waited rs i (slice_set ws j false) cuts j h in let b = cleared_here ws j in absurd (cc)

narrow_all : (rs : List ℕ) (i : ℕ) (ws : List Bool) (cuts : List LpRow) → All (λ (r : LpRow). waits (after rs i ws cuts) r ≡ true → is_narrow rs r ≡ true) cuts
unfolding waits
narrow_all rs i ws [] = All-nil (λ (r : LpRow). waits ws r ≡ true → is_narrow rs r ≡ true)
narrow_all rs i ws (r ∷ cuts) =
    All-cons (λ (q : LpRow). waits (after rs i ws (r ∷ cuts)) q ≡ true → is_narrow rs q ≡ true) r cuts
    (narrow_one (is_narrow rs r) rs (suc i) ws cuts (last_column r.terms))
    (narrow_all rs (suc i) (closed_by rs ws r) cuts)

pub waiting_narrow : (lp : Program) → AreNarrow lp (waiting_of lp)
unfolding waiting_of
waiting_narrow lp = narrow_all (map reach_of lp.columns) 0 (successors_of lp.decisions (length lp.columns)) (drop lp.own lp.rows)

none_waits : (n j : ℕ) → get_or (replicate n false) j false ≡ false
none_waits zero j = refl
none_waits (suc n) zero = refl
none_waits (suc n) (suc j) = none_waits n j

not_waiting : (n : ℕ) (o : Option ℕ) → waits_in (replicate n false) o ≡ false
not_waiting n None = refl
not_waiting n (Some j) = none_waits n j

none_narrow : (n : ℕ) (rs : List ℕ) (cuts : List LpRow) → All (λ (r : LpRow). waits (replicate n false) r ≡ true → is_narrow rs r ≡ true) cuts
unfolding waits
none_narrow n rs [] = All-nil (λ (r : LpRow). waits (replicate n false) r ≡ true → is_narrow rs r ≡ true)
none_narrow n rs (r ∷ cuts) =
    All-cons (λ (q : LpRow). waits (replicate n false) q ≡ true → is_narrow rs q ≡ true) r cuts
    (λ h. let e = not_waiting n (last_column r.terms) in absurd (cc))
    (none_narrow n rs cuts)

-- where no cut waits
pub full_narrow : (lp : Program) (n : ℕ) → AreNarrow lp (replicate n false)
full_narrow lp n = none_narrow n (map reach_of lp.columns) (drop lp.own lp.rows)
