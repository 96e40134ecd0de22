-- The size and the cut of a list of certificates by given weights, from its shares.
use Rattle.std.proofs.Common.{◌≡◌, ℕ, zero, suc, ◌+◌, ◌-◌, ◌*◌, ◌^◌, ◌<◌, ◌≤◌, ℤ, pos, ◌+ℤ◌, ◌*ℤ◌, ◌≤ℤ◌, true, List, [], ◌∷◌, ◌++◌, length, get_or, take, zip, min, arith, refl, ap, sym, subst, ◌∙◌, ⊎_elim}
use mir.Syntax.{w128}
use Rattle.std.specs.Int.{int_wrap}
use Rattle.std.specs.List.{sum_by}
use Rattle.std.proofs.lemmas.Bool.{cases_lt}
use Rattle.std.proofs.lemmas.Int.{ints}
use Rattle.std.proofs.lemmas.List.{get_or_append_left, get_or_push, get_or_default, length-append, length-map}
use Rattle.base_num.specs.Sums.{total}
use Rattle.problem.specs.declared.parts.Decision.{Decision}
use Rattle.problem.specs.declared.parts.Node as nodes
use Rattle.problem.specs.declared.parts.Subproblem.{Subproblem}
use Rattle.problem.specs.Limits.{subproblem_fits}
use Rattle.theory.specs.declared.cut.Cut.{Cut}
use Rattle.theory.specs.declared.cut.Certificate.{Certificate}
use Rattle.theory.specs.Problem.{Realization, Node, with_weights}
use Rattle.theory.specs.View.{node_of}
use Rattle.theory.specs.CutOf.{scale, alpha_at}
use Rattle.theory.specs.Size.{magnitude, reach}
use Rattle.cut_check.specs.declared.reweighting.shares.Share.{Share}
use Rattle.cut_make.specs.Congruent.{Congruent}
use Rattle.cut_make.specs.Parts.{lows, highs, Limited, ReducedFit}
use Rattle.cut_check.specs.Shares.{IsShare, Shares}
use Rattle.cut_make.specs.Sized.{Sized}
use Rattle.cut_make.specs.SizeByTerms.{certificate_amount, weighted_amount}
use Rattle.cut_make.proofs.Congruence.{sum_step, same_add, same_times}
use Rattle.cut_make.proofs.InSize.{reduced_of_terms}
use Rattle.cut_check.proofs.Realizations.{next}
use Rattle.cut_check.proofs.SizeWhole.{stage_is}
use Rattle.cut_make.proofs.Viewed.{reduced-node_of, alpha-node_of}
use Rattle.cut_make.proofs.Weighted.{weighted_inside, weighted_at}

-- the reduced costs of a certificate whose terms are in range
pub reduced_of_amount : (pools : List (List Cut)) (n : nodes.Node) (s : Subproblem) (low high values : List ℤ) (c : Certificate) → subproblem_fits (length low) s ≡ true → length n.successor_weights ≡ length n.successors
    → certificate_amount n s low high pools (values, c) < 2 ^ 127 → ReducedFit (scale (node_of n s [] [])) pools n s c
unfolding node_of
reduced_of_amount pools n s low high values c fits successors small = λ j h.
    let m : Node = node_of n s low high in
    subst (λ (d : ℤ). (reach (lows s) (highs s) j *ℤ magnitude d) ≤ℤ pos (2 ^ 127 - 1)) (reduced-node_of n s low high pools c successors j)
    (reduced_of_terms pools m values c (subst (λ (z : ℤ). z ≤ℤ pos (2 ^ 127 - 1)) (sym (stage_is pools n s low high values c fits successors)) (below (certificate_amount n s low high pools (values, c)) small)) j
    (subst (λ (k : ℕ). j < k) (sym (length-map s.decisions (λ (d : Decision). d.cost))) h))
  where
    below : (a : ℕ) → a < 2 ^ 127 → pos a ≤ℤ pos (2 ^ 127 - 1)
    below a h = omega (arith, ints)

-- the shares of the first realizations
module _ (pools : List (List Cut)) (n : nodes.Node) (s : Subproblem) (low high : List ℤ) (list : List Certificate) where
  abbrev pub Each : List Share → Type 0
  Each found = (r : ℕ) (x : Share) (v : List ℤ) (c : Certificate) → r < length found → IsShare pools n s low high (get_or n.values r v) (get_or list r c) (get_or found r x)

  pub each_more : (found : List Share) (r : ℕ) (share : Share) → length found ≡ r → ((v : List ℤ) (c : Certificate) → IsShare pools n s low high (get_or n.values r v) (get_or list r c) share) → Each found → Each (found ++ share ∷ [])
  each_more found r share count here each = λ i x v c h.
      ⊎_elim
      (λ (l : i < length found). subst (IsShare pools n s low high (get_or n.values i v) (get_or list i c)) (sym (get_or_append_left found (share ∷ []) x i l)) (each i x v c l))
      (λ (l : length found ≤ i).
      let e : i ≡ r = omega (arith, length-append found (share ∷ []), h, l, count) in
      subst (λ (k : ℕ). IsShare pools n s low high (get_or n.values k v) (get_or list k c) (get_or (found ++ share ∷ []) k x)) (sym e)
      (subst (IsShare pools n s low high (get_or n.values r v) (get_or list r c)) (sym (get_or_push found share x r count)) (here v c)))
      (cases_lt i (length found))

abbrev no_certificate : Certificate
no_certificate = record { rows = []; cuts = [] }

-- a realization more in the sums by weights
module _ (pools : List (List Cut)) (n : nodes.Node) (s : Subproblem) (low high : List ℤ) (ws : List ℕ) (list : List Certificate) (shares : List Share) (limits : Limited n s) (sized : Sized pools n s low ws) (count : length shares ≡ length ws)
    (of : Shares pools n s low high list shares) where
  pub listed : length list ≡ length ws
  listed = sym of.count ∙ count

  module _ (r : ℕ) (h : r < length ws) where
    -- as it is read
    abbrev pub share : Share
    share = get_or shares r (record { size = 0; constant = pos 0 })

    abbrev values : List ℤ
    values = get_or n.values r []

    abbrev certificate : Certificate
    certificate = get_or list r no_certificate

    abbrev pub amount : ℕ
    amount = certificate_amount n s low high pools (values, certificate)

    own : IsShare pools n s low high values certificate share
    own = of.each r (record { size = 0; constant = pos 0 }) [] no_certificate (subst (λ (k : ℕ). r < k) (sym count) h)

    pub own_size : share.size ≡ min amount (2 ^ 127)
    own_size = own.size

    pub next_size : (size w : ℕ) → w ≡ get_or ws r 0 → size ≡ 0 + sum_by (weighted_amount n s low high pools) (take r (zip ws (zip n.values list)))
        → (r < length (zip ws (zip n.values list))) × (size + w * amount ≡ 0 + sum_by (weighted_amount n s low high pools) (take (r + 1) (zip ws (zip n.values list))))
    next_size size w e sum =
        next ws n.values list r size w values certificate (weighted_amount n s low high pools) (sized.values ∙ sym sized.count) listed h e (get_or_default n.values r [] values (omega (arith, h, sized.count, sized.values)))
        (get_or_default list r no_certificate certificate (omega (arith, h, listed))) sum

    in_range : (size w : ℕ) → w ≡ get_or ws r 0 → size + w * amount < 2 ^ 127 → share.size < 2 ^ 127
    in_range size w e small = least share.size amount (w * amount) size own_size (once w amount (subst (λ (k : ℕ). 1 ≤ k) (sym e) (sized.positive r 0 h))) small
      where
        once : (w a : ℕ) → 1 ≤ w → a ≤ w * a
        once zero a h = absurd (omega arith)
        once (suc w) a h = omega arith

        least : (s a b z : ℕ) → s ≡ min a (2 ^ 127) → a ≤ b → z + b < 2 ^ 127 → s < 2 ^ 127
        least s a b z i l k = omega arith

    pub next_constant : (size w : ℕ) (constant sum : ℤ) → w ≡ get_or ws r 0 → size + w * amount < 2 ^ 127
        → Congruent constant (total (λ (q : Realization × Certificate). pos q.0.weight *ℤ alpha_at pools (with_weights ws (node_of n s [] [])) q.0.values q.1) (take r (zip (with_weights ws (node_of n s [] [])).realizations list)))
        → Congruent sum (constant +ℤ pos w *ℤ share.constant)
        → Congruent sum (total (λ (q : Realization × Certificate). pos q.0.weight *ℤ alpha_at pools (with_weights ws (node_of n s [] [])) q.0.values q.1) (take (r + 1) (zip (with_weights ws (node_of n s [] [])).realizations list)))
    unfolding node_of
    next_constant size w constant sum e small so_far more =
        let m : Node = with_weights ws (node_of n s [] []) in
        let d : Realization × Certificate = (record { weight = 0; values = [] }, no_certificate) in
        let f : Realization × Certificate → ℤ = λ (q : Realization × Certificate). pos q.0.weight *ℤ alpha_at pools m q.0.values q.1 in
        let each : length list ≡ length n.weights = listed ∙ sized.count in
        let here : get_or (zip m.realizations list) r d ≡ (record { weight = get_or ws r 0; values = values }, certificate) = weighted_at ws n.weights n.values list sized.count limits.values each r d h in
        let alpha : Congruent share.constant (alpha_at pools m values certificate) = own.constant (in_range size w e small) ∙ ap (int_wrap w128) (sym (alpha-node_of n s [] [] pools certificate limits.successors values)) in
        sum_step f (zip m.realizations list) r d constant sum (pos w *ℤ alpha_at pools m values certificate) (weighted_inside ws n.weights n.values list sized.count limits.values each r h) so_far
        (more ∙ same_add constant (pos w *ℤ share.constant) constant (pos w *ℤ alpha_at pools m values certificate) refl (same_times (pos w) share.constant (pos w) (alpha_at pools m values certificate) refl alpha))
        (ap (λ (k : ℕ). int_wrap w128 (pos k *ℤ alpha_at pools m values certificate)) e ∙ ap (λ (q : Realization × Certificate). int_wrap w128 (f q)) (sym here))
