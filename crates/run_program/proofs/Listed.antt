-- The outcome of a task that reads the weights that a problem lists, and the risk cuts that they give.
use Rattle.std.proofs.Common.{◌≡◌, ◌∙◌, ℕ, true, List, Option, Some, None, IfSome, Result, Ok, Err, refl, sym, ap, subst}
use Rattle.sha2.specs.Sha256.{sha256}
use Rattle.read_json.specs.Steps.{◌>>=◌}
use Rattle.problem.specs.declared.refusal.Refusal.{Refusal}
use Rattle.problem.specs.Validated.{Validated, is_validated}
use Rattle.theory.specs.declared.cut.Cut.{Cut}
use Rattle.theory.specs.Pools.{Sound}
use Rattle.theory.specs.View.{problem_of}
use Rattle.cut_pool.specs.AtNodes.{PoolsFit}
use Rattle.cut_pool.specs.declared.entry.Entry.{Entry}
use Rattle.journal_file.specs.Causes.{DiskCause}
use Rattle.journal_load.specs.Load.{Outcome, load_of}
use Rattle.journal_load.specs.Refusals.{LoadFails}
use Rattle.journal_load.specs.declared.refusal.LoadFault.{LoadFault}
use Rattle.journal_load.specs.declared.refusal.LoadFault.TheVariants as faults
use Rattle.lp_program.specs.Solving.{Solving}
use Rattle.policy_robust.specs.declared.alternatives.Alternatives.{Alternatives}
use Rattle.policy_robust.specs.Alternatives.{alternatives_of}
use Rattle.policy_robust.specs.declared.risk_cuts.RobustFault.{RobustFault}
use Rattle.policy_robust.specs.declared.risk_cuts.RobustFault.TheVariants as stops
use Rattle.policy_robust.specs.RiskCuts.{RiskStops, risk_cuts_of}
use Rattle.policy_robust.specs.Report.{robust_text}
use Rattle.run_program.specs.Causes.{Lacks}
use Rattle.run_program.specs.Outcome.{Reports, WithBase, based_at, problem_with_alternatives_at, or_refused, or_status, report_at, report_by, report_risk_cuts, robust_for, status_of_fault, with_alternatives, worst_for}
use Rattle.run_program.specs.SoundText.{IsSoundReport, IsWorst}
use Rattle.run_program.specs.Listing.{status_of_risk_cuts}
use Rattle.run_program.specs.declared.status.Status.{Status}
use Rattle.run_program.specs.declared.status.Status.TheVariants.{ProblemRefused, JournalRefused, TooMuch, Range}
use Rattle.run_words.specs.declared.command.Command.TheVariants.{Robust}
use Rattle.run_program.proofs.Checks.{bound_under}

if_told : (told : Option (List ℕ)) (P Q : List ℕ → Type 0) → ((kept : List ℕ) → P kept → Q kept) → IfSome told P → IfSome told Q
if_told None P Q f h = tt
if_told (Some kept) P Q f h = f kept h

-- refused by the weights that it lists, or before
pub robust_refused : {Start Chain : Type 0} (v : Solving Start Chain) (bytes kept : List ℕ) (r : Refusal) → problem_with_alternatives_at bytes ≡ Err r → (or_refused (based_at bytes) >>= report_by v Robust bytes kept) ≡ Err (ProblemRefused r)
unfolding problem_with_alternatives_at robust_for
robust_refused v bytes kept r h = each (based_at bytes) h
  where
    listed : (b : WithBase) (x : Result Alternatives Refusal) → (x >>= λ y. let l : Result (WithBase × Alternatives) Refusal = Ok (b, y) in l) ≡ Err r → (or_refused x >>= λ y. worst_for bytes b y kept) ≡ Err (ProblemRefused r)
    listed b (Ok y) e = absurd cc
    listed b (Err q) e = cc

    each : (b : Result WithBase Refusal) → (b >>= with_alternatives bytes) ≡ Err r → (or_refused b >>= report_by v Robust bytes kept) ≡ Err (ProblemRefused r)
    each (Ok b) e = listed b (alternatives_of b.problem bytes) e
    each (Err q) e = cc

module _ {Start Chain : Type 0} (v : Solving Start Chain) (told : Option (List ℕ)) (bytes : List ℕ) (b : WithBase) (based : based_at bytes ≡ Ok b) where
  -- the weights that the problem lists are refused
  pub lists_refused : (r : Refusal) → alternatives_of b.problem bytes ≡ Err r → problem_with_alternatives_at bytes ≡ Err r
  unfolding problem_with_alternatives_at
  lists_refused r e = ap (λ x. x >>= with_alternatives bytes) based ∙ ap (λ y. y >>= λ x. Ok (b, x)) e

  module _ (x : Alternatives) (listed : alternatives_of b.problem bytes ≡ Ok x) where
    by_lists : (kept : List ℕ) → report_at v Robust bytes kept ≡ worst_for bytes b x kept
    unfolding report_at robust_for
    by_lists kept = ap (λ r. or_refused r >>= report_by v Robust bytes kept) based ∙ ap (λ r. or_refused r >>= λ y. worst_for bytes b y kept) listed

    -- what the journal gives, with its entries
    abbrev given : List ℕ → Result (Outcome × List (List Entry)) LoadFault
    given kept = load_of b.problem b.pools (sha256 bytes) None None kept

    reports : (outcome : Result (List ℕ) Status) → IfSome told (λ kept. worst_for bytes b x kept ≡ outcome) → Reports v Robust told bytes outcome
    reports outcome has = λ kept reads. by_lists kept ∙ subst (λ (o : Option (List ℕ)). IfSome o (λ k. worst_for bytes b x k ≡ outcome)) reads has

    not_given : (kept : List ℕ) (f : LoadFault) → given kept ≡ Err f → worst_for bytes b x kept ≡ Err (status_of_fault f)
    unfolding worst_for
    not_given kept f e = ap (λ r. or_status r >>= λ l. report_risk_cuts b.problem (risk_cuts_of b.problem x l.1)) e

    risk_cuts_given : (kept : List ℕ) (o : Outcome × List (List Entry)) → given kept ≡ Ok o → worst_for bytes b x kept ≡ report_risk_cuts b.problem (risk_cuts_of b.problem x o.1)
    unfolding worst_for
    risk_cuts_given kept o e = ap (λ r. or_status r >>= λ l. report_risk_cuts b.problem (risk_cuts_of b.problem x l.1)) e

    -- a journal that is not loaded
    pub not_kept : {X : Type 0} (disk disk_now : ℕ) (f : LoadFault) → DiskCause disk disk_now (let l : Result X LoadFault = Err f in l ≡ Err faults.DiskFault) → IfSome told (λ kept. LoadFails f (given kept)) → Lacks v Robust told disk disk_now bytes (status_of_fault f)
    not_kept disk disk_now (faults.Refused r) cause has = (tt, reports (Err (JournalRefused r)) (if_told told (λ kept. LoadFails (faults.Refused r) (given kept)) (λ kept. worst_for bytes b x kept ≡ Err (JournalRefused r)) (λ kept e. not_given kept (faults.Refused r) e) has))
    not_kept disk disk_now (faults.TooMuch t) cause has = (tt, reports (Err (TooMuch t)) (if_told told (λ kept. LoadFails (faults.TooMuch t) (given kept)) (λ kept. worst_for bytes b x kept ≡ Err (TooMuch t)) (λ kept e. not_given kept (faults.TooMuch t) e) has))
    not_kept disk disk_now faults.DiskFault cause has = (tt, cause.failed refl)
    not_kept disk disk_now faults.Memory cause has = cause.otherwise (λ e. cc)

    module _ (o : Outcome × List (List Entry)) (has : IfSome told (λ kept. given kept ≡ Ok o)) where
      after : (outcome : Result (List ℕ) Status) → report_risk_cuts b.problem (risk_cuts_of b.problem x o.1) ≡ outcome → Reports v Robust told bytes outcome
      after outcome e = reports outcome (if_told told (λ kept. given kept ≡ Ok o) (λ kept. worst_for bytes b x kept ≡ outcome) (λ kept g. risk_cuts_given kept o g ∙ e) has)

      -- no list of weights gives a risk cut
      pub no_risk_cuts : (disk disk_now : ℕ) (f : RobustFault) → RiskStops f (risk_cuts_of b.problem x o.1) → disk_now ≡ disk → Lacks v Robust told disk disk_now bytes (status_of_risk_cuts f)
      no_risk_cuts disk disk_now (stops.Range k m r) e stayed = (tt, after (Err (Range k m r)) (ap (report_risk_cuts b.problem) e))
      no_risk_cuts disk disk_now stops.Memory e stayed = stayed

      -- the report of risk cuts
      pub risk_cuts_reported : (risk_cuts : List (List Cut)) (text : List ℕ) → risk_cuts_of b.problem x o.1 ≡ Ok risk_cuts → text ≡ robust_text b.problem risk_cuts → Reports v Robust told bytes (Ok text)
      risk_cuts_reported risk_cuts text e is = after (Ok text) (ap (report_risk_cuts b.problem) e ∙ ap (λ (t : List ℕ). Ok t) (sym is))

pub risk_cuts_sound : (bytes : List ℕ) (p : Validated) (pools : List (List Cut)) (x : Alternatives) (risk_cuts : List (List Cut)) (text : List ℕ) → is_validated p ≡ true → PoolsFit p pools → Sound (problem_of p) pools → alternatives_of p bytes ≡ Ok x → IsWorst (problem_of p) x risk_cuts → text ≡ robust_text p risk_cuts → IsSoundReport Robust bytes p pools text
risk_cuts_sound bytes p pools x risk_cuts text e fit sound listed worst is = record {
  is = (x, risk_cuts, listed, is, worst);
  cuts = sound;
  bound = bound_under p pools e fit sound;
}
