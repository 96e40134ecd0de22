-- The report of risk cuts is sound line by line.
use Rattle.std.proofs.Common.{◌≡◌, ◌≢◌, ◌∙◌, ℕ, suc, ◌+◌, ℤ, pos, List, [], ◌∷◌, ◌++◌, All, codes, get_or, true, Ok, refl, sym, ap, subst, arith}
use Rattle.std.specs.List.{flat_map}
use Rattle.std.proofs.lemmas.List.{append-nil}
use Rattle.std.proofs.lemmas.List.Elements.{All-nil, All-tail}
use Rattle.problem.specs.Validated.{Validated}
use Rattle.theory.specs.declared.cut.Cut.{Cut}
use Rattle.theory.specs.Bound.{bound}
use Rattle.theory.specs.Pools.{pool}
use Rattle.theory.specs.Problem.{Problem}
use Rattle.theory.specs.View.{problem_of}
use Rattle.policy_report.specs.Lines.{numbered}
use Rattle.policy_report.specs.Report.{cut_words, head_text, word}
use Rattle.policy_report.specs.SoundLines.{Claims, Line, Lines, claims_of, first_word}
use Rattle.policy_report.proofs.SoundLines.{Good, good_append, good_head, good_line, printable, printable-append, word_printable}
use Rattle.policy_robust.specs.declared.alternatives.Alternatives.{Alternatives}
use Rattle.policy_robust.specs.Alternatives.{alternatives_of}
use Rattle.policy_robust.specs.Report.{node_risk_cuts, risk_cut_line, risk_cut_lines, robust_text, worst_line}
use Rattle.run_program.specs.SoundText.{IsWorst, RiskCutHolds, WorstHolds}

words_printable : (zs : List ℤ) → printable (flat_map word zs) ≡ true
words_printable [] = refl
words_printable (z ∷ zs) = printable-append (word z) (flat_map word zs) (word_printable z) (words_printable zs)

risk_cuts_printable : (c : Cut) → printable (cut_words c) ≡ true
risk_cuts_printable c = printable-append (word c.alpha) (flat_map word c.beta) (word_printable c.alpha) (words_printable c.beta)

module _ (c : Claims) where
  no : (a b : ℕ) (w : List ℕ) → get_or w 0 0 ≡ a → a ≢ b → (v : List ℕ) → get_or v 0 0 ≡ b → w ≡ v → ⊥
  no a b w e n v f h = n (sym e ∙ ap (λ u. get_or u 0 0) h ∙ f)

  good_risk_cut : (m k : ℕ) (risk_cut : Cut) → c.risk_cuts m risk_cut → Good c (risk_cut_line m k risk_cut)
  good_risk_cut m k risk_cut h =
      let node : List ℕ = codes "plane" ++ word (pos m) in
      let line : List ℕ = node ++ word (pos k) ++ cut_words risk_cut in
      good_line c line (printable-append (node ++ word (pos k)) (cut_words risk_cut) (printable-append node (word (pos k)) (printable-append (codes "plane") (word (pos m)) refl (word_printable (pos m))) (word_printable (pos k))) (risk_cuts_printable risk_cut))
      (record {
        cut = λ e. absurd (no 112 99 (first_word line) refl (omega arith) (codes "cut") refl e);
        bound = λ e. absurd (no 112 98 (first_word line) refl (omega arith) (codes "bound") refl e);
        iteration = λ e. absurd (no 112 105 (first_word line) refl (omega arith) (codes "iteration") refl e);
        upper = λ e. absurd (no 112 117 (first_word line) refl (omega arith) (codes "upper") refl e);
        risk_cut = λ e. record { node = m; place = k; cut = risk_cut; is = refl; claimed = h };
        worst = λ e. absurd (no 112 119 (first_word line) refl (omega arith) (codes "worst") refl e);
      })

  good_risk_cuts : (m k : ℕ) (risk_cuts : List Cut) → All (c.risk_cuts m) risk_cuts → Good c (numbered (risk_cut_line m) k risk_cuts)
  good_risk_cuts m k [] h = λ tail r. r
  good_risk_cuts m k (x ∷ xs) h = good_append c (risk_cut_line m k x) (numbered (risk_cut_line m) (suc k) xs) (good_risk_cut m k x (h 0 x (omega arith))) (good_risk_cuts m (suc k) xs (All-tail (c.risk_cuts m) x xs h))

  good_lists : (m : ℕ) (lists : List (List Cut)) → ((k : ℕ) → All (c.risk_cuts (m + k)) (get_or lists k [])) → Good c (numbered node_risk_cuts m lists)
  good_lists m [] h = λ tail r. r
  good_lists m (risk_cuts ∷ lists) h =
      let first : All (c.risk_cuts m) risk_cuts = subst (λ (k : ℕ). All (c.risk_cuts k) risk_cuts) (omega arith) (h 0) in
      let tail : (k : ℕ) → All (c.risk_cuts (suc m + k)) (get_or lists k []) = λ k. subst (λ (i : ℕ). All (c.risk_cuts i) (get_or lists k [])) (omega arith) (h (suc k)) in
      good_append c (node_risk_cuts m risk_cuts) (numbered node_risk_cuts (suc m) lists) (good_risk_cuts m 0 risk_cuts first) (good_lists (suc m) lists tail)

  good_worst : (b : ℤ) → c.worsts b → Good c (worst_line b)
  good_worst b h =
      let line : List ℕ = codes "worst" ++ word b in
      good_line c line (printable-append (codes "worst") (word b) refl (word_printable b))
      (record {
        cut = λ e. absurd (no 119 99 (first_word line) refl (omega arith) (codes "cut") refl e);
        bound = λ e. absurd (no 119 98 (first_word line) refl (omega arith) (codes "bound") refl e);
        iteration = λ e. absurd (no 119 105 (first_word line) refl (omega arith) (codes "iteration") refl e);
        upper = λ e. absurd (no 119 117 (first_word line) refl (omega arith) (codes "upper") refl e);
        risk_cut = λ e. absurd (no 119 112 (first_word line) refl (omega arith) (codes "plane") refl e);
        worst = λ e. record { number = b; is = refl; claimed = h };
      })

-- the report of risk cuts is sound line by line, and has no line of a cut or a bound
pub sound_risk_cuts : (bytes : List ℕ) (p : Validated) (x : Alternatives) (risk_cuts : List (List Cut)) → alternatives_of p bytes ≡ Ok x → IsWorst (problem_of p) x risk_cuts
    → Lines (claims_of (problem_of p) (RiskCutHolds bytes p) (WorstHolds bytes p)) (robust_text p risk_cuts)
unfolding robust_text
sound_risk_cuts bytes p x risk_cuts is worst =
    let q : Problem = problem_of p in
    let c : Claims = claims_of q (RiskCutHolds bytes p) (WorstHolds bytes p) in
    let front : List ℕ = head_text p.parts ++ risk_cut_lines risk_cuts in
    let here : (k : ℕ) → All (c.risk_cuts k) (pool risk_cuts k) = λ k i d l. (x, is, worst.holds k i d l) in
    let each : (k : ℕ) → All (c.risk_cuts (0 + k)) (get_or risk_cuts k []) = λ k. subst (λ (i : ℕ). All (c.risk_cuts i) (pool risk_cuts k)) (omega arith) (here k) in
    let good = good_append c front (worst_line (bound q risk_cuts)) (good_append c (head_text p.parts) (risk_cut_lines risk_cuts) (good_head c p.parts) (good_lists c 0 risk_cuts each)) (good_worst c (bound q risk_cuts) (x, is, worst.under)) in
    subst (Lines c) (append-nil (front ++ worst_line (bound q risk_cuts))) (good [] (All-nil (Line c)))
