-- The cuts of a list of certificates with given weights: when there is one, that it fits, and the part that no weight changes.
use Rattle.std.proofs.Common.{◌≡◌, ℕ, suc, ◌<◌, ◌==◌, true, false, ℤ, List, [], ◌∷◌, length, min, map, All, IfOk, IfSome, IsSome, Option, Some, None, Result, Ok, Err, if◌then◌else◌, arith, refl, ap, sym, subst, ◌∙◌, zip}
use Rattle.std.specs.Prelude.{is_none, is_some, slice_get}
use Rattle.std.specs.Option.{option_map}
use Rattle.std.proofs.lemmas.List.Elements.{All-cons, All-nil}
use Rattle.base_num.proofs.Sums.{All_head, All_tail}
use Rattle.problem.specs.declared.parts.Node as nodes
use Rattle.problem.specs.declared.parts.Subproblem.{Subproblem}
use Rattle.problem.specs.Validated.{Validated, is_validated, subproblem_of}
use Rattle.theory.specs.declared.cut.Cut.{Cut}
use Rattle.theory.specs.declared.cut.Certificate.{Certificate}
use Rattle.theory.specs.Problem.{Realization, Node, node_at, with_weights, reweighted}
use Rattle.theory.specs.View.{node_of, problem_of}
use Rattle.theory.specs.CutOf.{cut_of}
use Rattle.theory.specs.Fit.{CutFits}
use Rattle.theory.specs.Range.{range_of}
use Rattle.theory.proofs.ValidatedPremises.{shaped-validated, narrow-validated}
use Rattle.theory.proofs.SizeToFit.{size_to_fit_given}
use Rattle.cut_make.specs.declared.fault.CertFault.{CertFault}
use Rattle.cut_make.specs.declared.fault.CertFault.TheVariants.{Shape, Range}
use Rattle.cut_check.specs.declared.reweighting.shares.Share.{Share}
use Rattle.cut_make.specs.Acceptance.{or_then_fault, is_shaped, first_unshaped, shape_fault, sign_fault, successors_fault, certificates_fault, right_fault, fault_of}
use Rattle.cut_make.specs.Reweighting.{Weighs, cut_with}
use Rattle.cut_check.specs.Shares.{SharesAt, SharesOf}
use Rattle.cut_check.proofs.Accepted.{none-or_then_fault, shaped-shape_fault, fault-right, fault-size, size-fault_of}
use Rattle.cut_make.proofs.GivenNode.{realizations-given}
use Rattle.cut_make.proofs.ValidatedCuttable.{given_weight}

-- a property that follows for the value of a result
pub if_ok : {A E : Type 0} (P Q : A → Type 0) (r : Result A E) → ((x : A) → P x → Q x) → IfOk r P → IfOk r Q
if_ok P Q (Ok x) f h = f x h
if_ok P Q (Err e) f h = tt

-- weights change no fault before the size
module _ (pools : List (List Cut)) (ws : List ℕ) (k : Node) where
  unshaped-given : (r : ℕ) (list : List Certificate) → first_unshaped (with_weights ws k) r list ≡ first_unshaped k r list
  unshaped-given r [] = refl
  unshaped-given r (c ∷ cs) = ap (λ (o : Option CertFault). if is_shaped k c then o else Some (Shape r)) (unshaped-given (suc r) cs)

  certificates-given : (r : ℕ) (list : List Certificate) → certificates_fault pools (with_weights ws k) r list ≡ certificates_fault pools k r list
  certificates-given r [] = refl
  certificates-given r (c ∷ cs) = ap (λ (o : Option CertFault). or_then_fault (sign_fault r 0 (zip k.rows c.rows)) (or_then_fault (successors_fault pools r 0 (zip k.successors c.cuts)) o)) (certificates-given (suc r) cs)

  length-given : (ws : List ℕ) (rs : List Realization) → length ws ≡ length rs → length (reweighted ws rs) ≡ length rs
  length-given [] [] e = refl
  length-given [] (r ∷ rs) e = absurd (omega arith)
  length-given (w ∷ ws) [] e = absurd (omega arith)
  length-given (w ∷ ws) (r ∷ rs) e = ap suc (length-given ws rs (omega arith))

  pub right-given : (list : List Certificate) → length ws ≡ length k.realizations → right_fault pools (with_weights ws k) list ≡ right_fault pools k list
  right-given list e =
      ap (λ (o : Option CertFault). or_then_fault (if length list == length (with_weights ws k).realizations then o else Some (Shape (min (length list) (length (with_weights ws k).realizations)))) (certificates_fault pools (with_weights ws k) 0 list)) (unshaped-given 0 list)
      ∙ ap (λ (n : ℕ). or_then_fault (if length list == n then first_unshaped k 0 list else Some (Shape (min (length list) n))) (certificates_fault pools (with_weights ws k) 0 list)) (length-given ws k.realizations e)
      ∙ ap (λ (o : Option CertFault). or_then_fault (shape_fault k list) o) (certificates-given 0 list)

-- one certificate for each weight
pub right_count : (pools : List (List Cut)) (n : nodes.Node) (s : Subproblem) (low high : List ℤ) (ws : List ℕ) (list : List Certificate) → length ws ≡ length n.weights → length n.values ≡ length n.weights
    → right_fault pools (with_weights ws (node_of n s low high)) list ≡ None → length list ≡ length ws
right_count pools n s low high ws list e f right =
    let k : Node = with_weights ws (node_of n s low high) in
    (shaped-shape_fault k list (none-or_then_fault (shape_fault k list) (certificates_fault pools k 0 list) right).0).0 ∙ realizations-given n s low high ws e f

pub none_of : (o : Option ℕ) → is_some o ≡ false → o ≡ None
none_of None e = refl
none_of (Some r) e = absurd cc

-- when there is a cut
module _ (pools : List (List Cut)) (k : Node) (list : List Certificate) (ws : List ℕ) where
  cut_none : (f : CertFault) → fault_of pools (with_weights ws k) list ≡ Some f → None ≡ cut_with pools k list ws
  unfolding cut_with
  cut_none f e = sym (ap (λ (o : Option CertFault). if is_none o then Some (cut_of pools (with_weights ws k) list) else None) e)

  pub cut_some : (cut : Cut) → fault_of pools (with_weights ws k) list ≡ None → cut ≡ cut_of pools (with_weights ws k) list → Some cut ≡ cut_with pools k list ws
  unfolding cut_with
  cut_some cut e is = ap Some is ∙ sym (ap (λ (o : Option CertFault). if is_none o then Some (cut_of pools (with_weights ws k) list) else None) e)

  -- none where something else than the size is at fault
  pub cut_wrong : length ws ≡ length k.realizations → IsSome (right_fault pools k list) → None ≡ cut_with pools k list ws
  cut_wrong e h = by (right_fault pools k list) refl h
    where
      by : (o : Option CertFault) → right_fault pools k list ≡ o → IsSome o → None ≡ cut_with pools k list ws
      by None is i = absurd (no i)
        where
          no : (let o : Option CertFault = None in IsSome o) → ⊥
          no i = cc
      by (Some f) is i = cut_none f (fault-right pools (with_weights ws k) list f (right-given pools ws k list e ∙ is))

  module _ (right : right_fault pools (with_weights ws k) list ≡ None) where
    -- or where the size passes its range
    pub cut_passed : (r : ℕ) → range_of pools (with_weights ws k) list ≡ Some r → None ≡ cut_with pools k list ws
    cut_passed r e = cut_none (Range r) (fault-size pools (with_weights ws k) list right ∙ ap (option_map Range) e)

    pub cut_beyond : (o : Option ℕ) → o ≡ range_of pools (with_weights ws k) list → is_some o ≡ true → None ≡ cut_with pools k list ws
    cut_beyond None e h = absurd cc
    cut_beyond (Some r) e h = cut_passed r (sym e)

    pub accepted : range_of pools (with_weights ws k) list ≡ None → fault_of pools (with_weights ws k) list ≡ None
    accepted e = fault-size pools (with_weights ws k) list right ∙ ap (option_map Range) e

-- a cut fits
module _ (p : Validated) (m : ℕ) (e : is_validated p ≡ true) (h : m < length p.parts.nodes) (pools : List (List Cut)) (list : List Certificate) where
  abbrev here : Node
  here = node_at (problem_of p) m

  cut_fits : (ws : List ℕ) → Weighs here ws → IfSome (cut_with pools here list ws) (CutFits here)
  unfolding cut_with
  cut_fits ws w = by (fault_of pools (with_weights ws here) list) refl
    where
      by : (o : Option CertFault) → fault_of pools (with_weights ws here) list ≡ o → IfSome (if is_none o then Some (cut_of pools (with_weights ws here) list) else None) (CutFits here)
      by None is =
          size_to_fit_given pools ws here list (shaped-validated p m e h).successors (given_weight p m ws e h w.count w.positive) (narrow-validated p m e h) (size-fault_of pools (with_weights ws here) list is)
      by (Some f) is = tt

  pub cuts_fit : (lists : List (List ℕ)) → All (Weighs here) lists → All (λ (cut : Option Cut). IfSome cut (CutFits here)) (map (cut_with pools here list) lists)
  cuts_fit [] w = All-nil (λ (cut : Option Cut). IfSome cut (CutFits here))
  cuts_fit (ws ∷ lists) w =
      All-cons (λ (cut : Option Cut). IfSome cut (CutFits here)) (cut_with pools here list ws) (map (cut_with pools here list) lists) (cut_fits ws (All_head (Weighs here) ws lists w)) (cuts_fit lists (All_tail (Weighs here) ws lists w))

-- shares by whatever parts a problem gives out
same_of : {A : Type 0} (o : Option A) (x y : A) → o ≡ Some x → o ≡ Some y → x ≡ y
same_of {A = A} o x y e f = some_same x y (sym e ∙ f)
  where
    some_same : (x y : A) → (let o : Option A = Some x in o ≡ Some y) → x ≡ y
    some_same x y h = cc

pub shares_by_parts : (p : Validated) (m : ℕ) (pools : List (List Cut)) (list : List Certificate) (n : nodes.Node) (s : Subproblem) (low high : List ℤ) → slice_get p.parts.nodes m ≡ Some n → subproblem_of p m ≡ Some s → slice_get p.lo m ≡ Some low → slice_get p.hi m ≡ Some high
    → (shares : Option (List Share)) → SharesOf pools n s low high (node_at (problem_of p) m) list shares → SharesAt p m pools list shares
shares_by_parts p m pools list n s low high en es el eh shares h = λ n' s' low' high' fn fs fl fh.
    let k : Node = node_at (problem_of p) m in
    subst (λ (x : List ℤ). SharesOf pools n' s' low' x k list shares) (same_of (slice_get p.hi m) high high' eh fh)
    (subst (λ (x : List ℤ). SharesOf pools n' s' x high k list shares) (same_of (slice_get p.lo m) low low' el fl)
    (subst (λ (x : Subproblem). SharesOf pools n' x low high k list shares) (same_of (subproblem_of p m) s s' es fs)
    (subst (λ (x : nodes.Node). SharesOf pools x s low high k list shares) (same_of (slice_get p.parts.nodes m) n n' en fn) h)))
