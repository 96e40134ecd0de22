-- Outcomes of loading: the definition from the head on, and the properties of each outcome.
use Rattle.std.proofs.Common.{◌≡◌, ◌⊎◌, ℕ, ◌+◌, ◌*◌, ◌≤◌, ◌^◌, List, [], length, Option, Some, Result, Ok, Err, refl, sym, ap, subst, ◌∙◌, arith}
use Rattle.std.proofs.Math.Logic.{⊎_elim}
use Rattle.base_num.specs.Steps.{◌>>=◌}
use Rattle.problem.specs.Validated.{Validated}
use Rattle.theory.specs.declared.cut.Cut.{Cut}
use Rattle.theory.specs.Pools.{pool}
use Rattle.cut_pool.specs.declared.entry.Entry.{Entry}
use Rattle.journal_file.specs.declared.head.Head.{Head}
use Rattle.journal_file.specs.declared.head.Head.TheVariants.{Uncommitted, Committed}
use Rattle.journal_file.specs.declared.head.HeadFault.{HeadFault}
use Rattle.journal_file.specs.declared.head.HeadFault.TheVariants as heads
use Rattle.journal_file.specs.Head.{head_of}
use Rattle.journal_load.specs.declared.loaded.Loaded.{Loaded}
use Rattle.journal_load.specs.declared.records.End.{End}
use Rattle.journal_load.specs.declared.refusal.LoadFault.{LoadFault}
use Rattle.journal_load.specs.declared.refusal.LoadFault.TheVariants as faults
use Rattle.journal_load.specs.Refusals.{of_head, with_fault, LoadFails, LoadGives}
use Rattle.journal_load.specs.Records.{fresh_found, Ended, EndsAs, records_at}
use Rattle.journal_load.specs.Load.{Outcome, LoadsAs, committed, uncommitted, first_commit_byte, found_in, load_from, load_of, load_records, outcome_of, seen_outcome, title_asked}
use Rattle.journal_load.specs.Accepted.{IsSafe, IsSound}
use Rattle.journal_load.proofs.Binding.{bind_on, fails_on}

pub safe_from : (p : Validated) (l : Loaded) (i : ℕ) → i ≤ 2000 → IsSound p l.batch i (found_in l) → ((l.version ≡ 1) × (l.batch ≡ 1)) ⊎ ((l.version ≡ 2) × (1 ≤ l.batch) × (l.batch ≤ 64)) → l.end ≤ 2 ^ 38 → IsSafe p l
safe_from p l i most s version near = record {
  sound = s.sound;
  fit = s.fit;
  under = s.under;
  few = omega (arith, s.count, most);
  cuts = λ m. subst (λ (k : ℕ). length (pool l.pools.lists m) ≤ 1 + k * l.batch) (sym s.count) (s.cuts m);
  version = version;
  end = near;
  unanswered = omega (arith, s.unanswered, most);
}

-- from the records on
module _ (p : Validated) (base : List (List Cut)) (bytes : List ℕ) (version batch first : ℕ) (at : first ≡ first_commit_byte version) where
  abbrev to_outcome : Ended → Result (Outcome × List (List Entry)) LoadFault
  to_outcome e = Ok (committed version batch e, e.lists)

  pub committed_fails : (fault : LoadFault) → LoadFails fault (records_at p batch bytes 2000 first (fresh_found base) []) → LoadFails fault (load_records p base bytes version batch)
  unfolding load_records
  committed_fails fault e = fails_on fault (records_at p batch bytes 2000 (first_commit_byte version) (fresh_found base) []) to_outcome (subst (λ (n : ℕ). LoadFails fault (records_at p batch bytes 2000 n (fresh_found base) [])) at e)

  committed_as : (e : Ended) → records_at p batch bytes 2000 first (fresh_found base) [] ≡ Ok e → load_records p base bytes version batch ≡ Ok (committed version batch e, e.lists)
  unfolding load_records
  committed_as e h = bind_on (records_at p batch bytes 2000 (first_commit_byte version) (fresh_found base) []) e to_outcome (ap (λ (n : ℕ). records_at p batch bytes 2000 n (fresh_found base) []) (sym at) ∙ h)

  pub committed_loads : (kept : Option (List (List Entry))) (e : End) (l : Loaded) → seen_outcome l ≡ committed version batch (record { found = found_in l; lists = []; end = e.end; tail = e.tail })
      → EndsAs kept (found_in l) (Ok e) (records_at p batch bytes 2000 first (fresh_found base) []) → LoadsAs kept (Ok l) (load_records p base bytes version batch)
  committed_loads kept e l same ends = (ends.0, ends.1, committed_as (record { found = found_in l; lists = ends.0; end = e.end; tail = e.tail }) ends.2 ∙ ap (λ (o : Outcome). Ok (o, ends.0)) (sym same))

abbrev pub a_head : Head → Result Head HeadFault
a_head h = Ok h

abbrev pub no_head : HeadFault → Result Head HeadFault
no_head f = Err f

-- from the head on
module _ (p : Validated) (base : List (List Cut)) (digest : List ℕ) (seed batch : Option ℕ) (bytes : List ℕ) where
  abbrev to_load : Result Head HeadFault → Result (Outcome × List (List Entry)) LoadFault
  to_load h = with_fault of_head h >>= load_from p base digest seed batch bytes

  pub head_bad : (f : HeadFault) → (no_head f ≡ head_of bytes) ⊎ (no_head f ≡ no_head heads.DiskFault) → LoadFails (of_head f) (load_of p base digest seed batch bytes)
  unfolding load_of
  head_bad heads.NotAJournal is = ⊎_elim (λ e. ap to_load (sym e)) (λ e. absurd cc) is
  head_bad (heads.OtherVersion v) is = ⊎_elim (λ e. ap to_load (sym e)) (λ e. absurd cc) is
  head_bad (heads.Short place) is = ⊎_elim (λ e. ap to_load (sym e)) (λ e. absurd cc) is
  head_bad heads.DiskFault is = tt
  head_bad (heads.BadBatch b) is = ⊎_elim (λ e. ap to_load (sym e)) (λ e. absurd cc) is

  pub head_good : (h : Head) → (a_head h ≡ head_of bytes) ⊎ (a_head h ≡ no_head heads.DiskFault) → load_of p base digest seed batch bytes ≡ load_from p base digest seed batch bytes h
  unfolding load_of
  head_good h is = ⊎_elim (λ e. ap to_load (sym e)) (λ e. absurd cc) is

  pub uncommitted_from : (n : ℕ) → load_from p base digest seed batch bytes (Uncommitted n) ≡ Ok (uncommitted base batch, [])
  unfolding load_from
  uncommitted_from n = refl

  pub title_bad : (fault : LoadFault) (version own paths : ℕ) (kept : List ℕ) → LoadFails fault (title_asked digest seed batch kept own paths) → LoadFails fault (load_from p base digest seed batch bytes (Committed version kept own paths))
  unfolding load_from
  title_bad fault version own paths kept e = fails_on fault (title_asked digest seed batch kept own paths) (λ title. load_records p base bytes version paths) e

  pub title_good : (version own paths : ℕ) (kept : List ℕ) → title_asked digest seed batch kept own paths ≡ Ok tt → load_from p base digest seed batch bytes (Committed version kept own paths) ≡ load_records p base bytes version paths
  unfolding load_from
  title_good version own paths kept e = bind_on (title_asked digest seed batch kept own paths) tt (λ title. load_records p base bytes version paths) e

-- without the entries, and with all that were kept
pub forgets : (kept : Option (List (List Entry))) (result : Result Loaded LoadFault) (load : Result (Outcome × List (List Entry)) LoadFault) → LoadsAs kept result load → LoadGives seen_outcome result (outcome_of load)
forgets kept (Ok l) load has = ap outcome_of has.2
forgets kept (Err fault) load has = without fault load has
  where
    without : (fault : LoadFault) (load : Result (Outcome × List (List Entry)) LoadFault) → LoadFails fault load → LoadFails fault (outcome_of load)
    without (faults.Refused why) load e = ap outcome_of e
    without (faults.TooMuch t) load e = ap outcome_of e
    without faults.DiskFault load e = tt
    without faults.Memory load e = tt

pub keeps_all : (kept : List (List Entry)) (result : Result Loaded LoadFault) (load : Result (Outcome × List (List Entry)) LoadFault) → LoadsAs (Some kept) result load → LoadGives (λ l. (seen_outcome l, kept)) result load
keeps_all kept (Ok l) load has = has.2 ∙ ap (λ (lists : List (List Entry)). Ok (seen_outcome l, lists)) (sym has.1)
keeps_all kept (Err fault) load has = has
