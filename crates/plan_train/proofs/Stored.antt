-- A loaded outcome stands in the journal's bytes.
use Rattle.std.proofs.Common.{◌≡◌, ℕ, ◌<◌, Bool, true, false, List, [], Option, Some, None, IfSome, Result, Ok, Err, All, ◌==◌, if◌then◌else◌, refl, sym, subst, arith}
use Rattle.std.specs.Str.{bytes_eq}
use Rattle.std.proofs.lemmas.Bool.Decides.{nat_tests}
use Rattle.std.proofs.lemmas.List.Elements.{recursion_from_All}
use Rattle.std.proofs.lemmas.Slice.Eq.{bytes_eq-Decides}
use Rattle.base_num.specs.Steps.{◌>>=◌}
use Rattle.problem.specs.Validated.{Validated}
use Rattle.theory.specs.declared.cut.Cut.{Cut}
use Rattle.cut_pool.specs.declared.entry.Entry.{Entry}
use Rattle.journal_record.proofs.Fields.{IsBytes, bytes_from_All}
use Rattle.journal_file.specs.declared.head.Head.{Head}
use Rattle.journal_file.specs.declared.head.Head.TheVariants as heads
use Rattle.journal_file.specs.declared.head.HeadFault.{HeadFault}
use Rattle.journal_file.specs.Head.{head_of}
use Rattle.journal_file.specs.Layout.{Title}
use Rattle.journal_load.specs.declared.refusal.LoadFault.{LoadFault}
use Rattle.journal_load.specs.declared.refusal.LoadFault.TheVariants.{Refused}
use Rattle.journal_load.specs.declared.refusal.JournalRefusal.TheVariants.{OtherProblem, OtherSeed, OtherBatch}
use Rattle.journal_load.specs.Refusals.{of_head, with_fault}
use Rattle.journal_load.specs.Records.{Ended, fresh_found, records_at}
use Rattle.journal_load.specs.Load.{Outcome, committed, uncommitted, first_commit_byte, same_problem, same_seed, same_batch, title_asked, load_records, load_from, load_of}
use Rattle.journal_load.proofs.Binding.{bind_ok}
use Rattle.plan_train.specs.Stored.{IsStored, StandsThere}
use Rattle.plan_train.proofs.HeadBack.{HeadIs, head_gives}
use Rattle.plan_train.proofs.ReadBack.{ends_there}
use Rattle.plan_train.proofs.Answered.{same_ok}

abbrev fine : Result (Unit {0}) LoadFault
fine = Ok tt

-- an asked digest, seed or batch is the journal's own
problem_is : (digest kept : List ℕ) → same_problem digest kept ≡ Ok tt → kept ≡ digest
problem_is digest kept e = by (bytes_eq kept digest) refl e
  where
    by : (b : Bool) → bytes_eq kept digest ≡ b → (if b then fine else Err (Refused (OtherProblem kept digest))) ≡ fine → kept ≡ digest
    by true is e = (bytes_eq-Decides kept digest).0 is
    by false is e = absurd cc

seed_is : (asked : Option ℕ) (own : ℕ) → same_seed asked own ≡ Ok tt → IfSome asked (λ s. s ≡ own)
seed_is None own e = tt
seed_is (Some s) own e = by (own == s) refl e
  where
    by : (b : Bool) → (own == s) ≡ b → (if b then fine else Err (Refused (OtherSeed own s))) ≡ fine → s ≡ own
    by true is e = grind (arith, nat_tests, is)
    by false is e = absurd cc

batch_is : (asked : Option ℕ) (own : ℕ) → same_batch asked own ≡ Ok tt → IfSome asked (λ b. b ≡ own)
batch_is None own e = tt
batch_is (Some s) own e = by (own == s) refl e
  where
    by : (b : Bool) → (own == s) ≡ b → (if b then fine else Err (Refused (OtherBatch own s))) ≡ fine → s ≡ own
    by true is e = grind (arith, nat_tests, is)
    by false is e = absurd cc

title_is : (digest kept : List ℕ) (seed asked : Option ℕ) (own paths : ℕ) → title_asked digest seed asked kept own paths ≡ Ok tt → (kept ≡ digest) × IfSome seed (λ s. s ≡ own) × IfSome asked (λ b. b ≡ paths)
unfolding title_asked
title_is digest kept seed asked own paths e =
    let a = bind_ok (same_problem digest kept) (λ problem. same_seed seed own >>= λ seed'. same_batch asked paths) tt e in
    let b = bind_ok (same_seed seed own) (λ seed'. same_batch asked paths) tt a.2 in
    (problem_is digest kept a.1, seed_is seed own b.1, batch_is asked paths b.2)

abbrev as_committed : ℕ → ℕ → Ended → Result (Outcome × List (List Entry)) LoadFault
as_committed version paths e = Ok (committed version paths e, e.lists)

module _ (p : Validated) (base : List (List Cut)) (digest : List ℕ) (seed asked : Option ℕ) (bytes : List ℕ) (fits : IsBytes bytes) where
  abbrev There : Outcome → List (List Entry) → Type 0
  There o lists = StandsThere base digest seed asked bytes o lists

  not_true : false ≡ true → ⊥
  not_true e = cc

  -- not committed
  stands_uncommitted : (n : ℕ) → head_of bytes ≡ Ok (heads.Uncommitted n) → There (uncommitted base asked) []
  stands_uncommitted n head = record {
    committed = λ e. absurd (not_true e);
    uncommitted = λ e. record { none = refl; head = (head_gives bytes fits (heads.Uncommitted n) head).0; outcome = refl };
  }

  -- committed
  stored : (version own paths : ℕ) (kept : List ℕ) (e : Ended) → head_of bytes ≡ Ok (heads.Committed version kept own paths) → (kept ≡ digest) × IfSome seed (λ s. s ≡ own) × IfSome asked (λ b. b ≡ paths)
      → records_at p paths bytes 2000 (first_commit_byte version) (fresh_found base) [] ≡ Ok e → IsStored digest seed asked bytes (committed version paths e) e.lists own
  stored version own paths kept e head named read =
      let t : Title = record { version = version; digest = kept; seed = own; batch = paths } in
      let h : HeadIs bytes t = head_gives bytes fits (heads.Committed version kept own paths) head in
      let there = ends_there p paths t bytes fits 2000 (first_commit_byte version) (fresh_found base) [] e h.stands read in
      subst (λ (d : List ℕ). IsStored d seed asked bytes (committed version paths e) e.lists own) named.0
      (record { title = h.title; same_seed = named.1; same_batch = named.2; stands = there.stands; clear = there.clear; tail = there.tail })

  stands_committed : (version own paths : ℕ) (kept : List ℕ) (e : Ended) → head_of bytes ≡ Ok (heads.Committed version kept own paths) → (kept ≡ digest) × IfSome seed (λ s. s ≡ own) × IfSome asked (λ b. b ≡ paths)
      → records_at p paths bytes 2000 (first_commit_byte version) (fresh_found base) [] ≡ Ok e → There (committed version paths e) e.lists
  stands_committed version own paths kept e head named read = record {
    committed = λ is. (own, stored version own paths kept e head named read);
    uncommitted = λ is. absurd (not_true (sym is));
  }

  as_loaded : (o o' : Outcome) (lists lists' : List (List Entry)) → ◌≡◌ {A = Result (Outcome × List (List Entry)) LoadFault} (Ok (o, lists)) (Ok (o', lists')) → There o lists → There o' lists'
  as_loaded o o' lists lists' e h = subst (λ (q : Outcome × List (List Entry)). There q.0 q.1) (same_ok (o, lists) (o', lists') e) h

  from_records : (version own paths : ℕ) (kept : List ℕ) (o : Outcome) (lists : List (List Entry)) → head_of bytes ≡ Ok (heads.Committed version kept own paths) → (kept ≡ digest) × IfSome seed (λ s. s ≡ own) × IfSome asked (λ b. b ≡ paths)
      → load_records p base bytes version paths ≡ Ok (o, lists) → There o lists
  unfolding load_records
  from_records version own paths kept o lists head named e = by (records_at p paths bytes 2000 (first_commit_byte version) (fresh_found base) []) refl e
    where
      by : (r : Result Ended LoadFault) → records_at p paths bytes 2000 (first_commit_byte version) (fresh_found base) [] ≡ r → (r >>= as_committed version paths) ≡ Ok (o, lists) → There o lists
      by (Ok x) is w = as_loaded (committed version paths x) o x.lists lists w (stands_committed version own paths kept x head named is)
      by (Err f) is w = absurd cc

  from_head : (h : Head) (o : Outcome) (lists : List (List Entry)) → head_of bytes ≡ Ok h → load_from p base digest seed asked bytes h ≡ Ok (o, lists) → There o lists
  unfolding load_from
  from_head (heads.Uncommitted n) o lists head e = as_loaded (uncommitted base asked) o [] lists e (stands_uncommitted n head)
  from_head (heads.Committed version kept own paths) o lists head e = by (title_asked digest seed asked kept own paths) refl e
    where
      by : (r : Result (Unit {0}) LoadFault) → title_asked digest seed asked kept own paths ≡ r → (r >>= λ title. load_records p base bytes version paths) ≡ Ok (o, lists) → There o lists
      by (Ok u) is w = from_records version own paths kept o lists head (title_is digest kept seed asked own paths is) w
      by (Err f) is w = absurd cc

  from_load : (o : Outcome) (lists : List (List Entry)) → load_of p base digest seed asked bytes ≡ Ok (o, lists) → There o lists
  unfolding load_of
  from_load o lists e = by (head_of bytes) refl e
    where
      by : (r : Result Head HeadFault) → head_of bytes ≡ r → (with_fault of_head r >>= load_from p base digest seed asked bytes) ≡ Ok (o, lists) → There o lists
      by (Ok h) is w = from_head h o lists is w
      by (Err f) is w = absurd cc

-- A loaded outcome stands in the journal's bytes.
pub stands_there : (p : Validated) (base : List (List Cut)) (digest : List ℕ) (seed asked : Option ℕ) (bytes : List ℕ) (o : Outcome) (lists : List (List Entry)) → All (λ b. b < 256) bytes → load_of p base digest seed asked bytes ≡ Ok (o, lists) → StandsThere base digest seed asked bytes o lists
stands_there p base digest seed asked bytes o lists small e = from_load p base digest seed asked bytes (bytes_from_All bytes (recursion_from_All (λ b. b < 256) bytes small)) o lists e
