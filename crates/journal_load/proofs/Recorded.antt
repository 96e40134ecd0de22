-- Properties that stay when a record is added.
use Rattle.std.proofs.Common.{◌≡◌, ℕ, suc, ◌+◌, ◌*◌, ◌≤◌, ◌<◌, ◌^◌, true, List, [], ◌∷◌, ◌++◌, length, Ok, ap, subst, ◌∙◌, length-append, arith}
use Rattle.std.specs.List.{AllByRecursion, sum_by}
use Rattle.std.proofs.lemmas.List.Elements.{All-push}
use Rattle.std.proofs.lemmas.List.Sums.{sum_by-cons}
use Rattle.problem.specs.Validated.{Validated, is_validated}
use Rattle.theory.specs.declared.cut.Cut.{Cut}
use Rattle.theory.specs.Pools.{Sound}
use Rattle.theory.specs.Bound.{bound, Under}
use Rattle.theory.specs.View.{problem_of}
use Rattle.theory.proofs.BoundBelow.{sound_bound}
use Rattle.theory.proofs.ValidatedPremises.{root_shaped-validated}
use Rattle.cut_pool.specs.AtNodes.{PoolsFit}
use Rattle.cut_pool.specs.declared.entry.Entry.{Entry}
use Rattle.cut_pool.proofs.Weighted.{have_cuts-fit}
use Rattle.journal_record.specs.Shape.{Writable, EntryFits, IsBatch}
use Rattle.journal_record.specs.Backwards.{IsPathFromRoot, nodes_back}
use Rattle.journal_record.proofs.PathsBackwards.{path_from_backwards}
use Rattle.journal_record.proofs.Room.{all_weaker}
use Rattle.journal_load.specs.Cuts.{entries_added}
use Rattle.journal_load.specs.Records.{Found, fresh_found, record_added, lists_added}
use Rattle.journal_load.specs.Accepted.{IsRecord, Accepted, IsSound}
use Rattle.journal_load.proofs.Binding.{bind_ok, bind_on, same_ok}
use Rattle.journal_load.proofs.Adding.{entries_fit, entries_sound, entries_count}

-- the numbers of unanswered solves that entries state
few_unanswered : (es : List Entry) → AllByRecursion EntryFits es → sum_by (λ (e : Entry). e.unanswered) es ≤ length es * 2 ^ 32
few_unanswered [] fits = omega arith
few_unanswered (e ∷ es) fits = omega (arith, fits.0.unanswered, few_unanswered es fits.1, sum_by-cons (λ (x : Entry). x.unanswered) e es)

-- a record more
module _ (p : Validated) (validated : is_validated p ≡ true) (batch i : ℕ) (es : List Entry) (is_batch : IsBatch p (suc i) batch es) (few : batch ≤ 64) where
  with_pools : (found : Found) (pools : List (List Cut)) → IsSound p batch i found → entries_added p found.pools es ≡ Ok pools
      → IsSound p batch (suc i) (record { pools = pools; bounds = found.bounds ++ bound (problem_of p) pools ∷ []; unanswered = found.unanswered + sum_by (λ (e : Entry). e.unanswered) es })
  with_pools found pools s added =
      let fit : PoolsFit p pools = entries_fit p validated found.pools pools es is_batch.each s.fit added in
      let sound : Sound (problem_of p) pools = entries_sound p validated found.pools pools es is_batch.each s.sound added in
      let under = sound_bound (problem_of p) pools (root_shaped-validated p validated) (have_cuts-fit p pools validated fit) sound in
      record {
        sound = sound;
        fit = fit;
        under = All-push (Under (problem_of p)) found.bounds (bound (problem_of p) pools) s.under under;
        count = omega (arith, length-append found.bounds (bound (problem_of p) pools ∷ []), s.count);
        cuts = λ m. omega (arith, entries_count p validated found.pools pools es m is_batch.each added, s.cuts m, is_batch.counted);
        unanswered = omega (arith, few_unanswered es is_batch.numbers, is_batch.counted, few, s.unanswered);
      }

  pub record_sound : (found next : Found) → IsSound p batch i found → record_added p found es ≡ Ok next → IsSound p batch (suc i) next
  unfolding record_added
  record_sound found next s e =
      let b = bind_ok (entries_added p found.pools es) (λ pools. Ok (record { pools = pools; bounds = found.bounds ++ bound (problem_of p) pools ∷ []; unanswered = found.unanswered + sum_by (λ (e : Entry). e.unanswered) es })) next e in
      subst (IsSound p batch (suc i)) (same_ok _ next b.2) (with_pools found b.0 s b.1)

  pub is_record : IsRecord p es
  is_record = record {
    few = omega (arith, is_batch.counted, few);
    paths = all_weaker (Writable p) (λ (e : Entry). IsPathFromRoot p (nodes_back e.steps)) (λ e w. path_from_backwards p e.steps w.some_step w.path) es is_batch.each;
  }

-- lists of entries with one more
pub lists_more : (p : Validated) (found a b : Found) (lists : List (List Entry)) (es : List Entry) → lists_added p found lists ≡ Ok a → record_added p a es ≡ Ok b → lists_added p found (lists ++ es ∷ []) ≡ Ok b
unfolding lists_added
lists_more p found a b [] es e h =
    let same : found ≡ a = same_ok found a e in
    bind_on (record_added p found es) b (λ next. Ok next) (ap (λ (f : Found). record_added p f es) same ∙ h)
lists_more p found a b (x ∷ lists) es e h =
    let c = bind_ok (record_added p found x) (λ next. lists_added p next lists) a e in
    bind_on (record_added p found x) c.0 (λ next. lists_added p next (lists ++ es ∷ [])) c.1 ∙ lists_more p c.0 a b lists es c.2 h

all_more : {A : Type 0} (P : A → Type 0) (xs : List A) (x : A) → AllByRecursion P xs → P x → AllByRecursion P (xs ++ x ∷ [])
all_more P [] x all has = (has, tt)
all_more P (y ∷ xs) x all has = (all.0, all_more P xs x all.1 has)

pub accepted_more : (p : Validated) (base : List (List Cut)) (lists : List (List Entry)) (es : List Entry) (found next : Found) → length lists < 2000 → Accepted p base lists found → IsRecord p es → record_added p found es ≡ Ok next → Accepted p base (lists ++ es ∷ []) next
accepted_more p base lists es found next few a is e = record {
  few = omega (arith, length-append lists (es ∷ []), few);
  records = all_more (IsRecord p) lists es a.records is;
  added = lists_more p (fresh_found base) found next lists es a.added e;
}
