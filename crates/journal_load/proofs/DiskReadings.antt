-- Readings over a disk, whether it tells its bytes or not.
use Rattle.std.proofs.Common.{◌≡◌, ℕ, suc, ◌+◌, List, length, Option, IfSome, Result, Ok, Err, ◌⊎◌, refl, sym, ap, subst, ◌∙◌, rules}
use Rattle.std.proofs.Math.Logic.{⊎_elim}
use Rattle.base_num.specs.Steps.{◌>>=◌}
use Rattle.base_device.specs.Disks.{Store, Stays}
pub use Rattle.journal_file.proofs.DiskBytes.{told, known}
use Rattle.problem.specs.Validated.{Validated}
use Rattle.problem.specs.Formulas.{too_much}
use Rattle.cut_pool.specs.declared.entry.Entry.{Entry}
use Rattle.journal_record.specs.Reading.{read_batch}
use Rattle.journal_record.specs.declared.fault.EntryFault.TheVariants.{Bad}
use Rattle.journal_file.specs.declared.commit_byte.CommitByte.{CommitByte}
use Rattle.journal_file.specs.declared.commit_byte.CommitByteFault.{CommitByteFault}
use Rattle.journal_file.specs.declared.commit_byte.CommitByteFault.TheVariants as commit_bytes
use Rattle.journal_file.specs.CommitBytes.{commit_byte_of, payload_of}
use Rattle.journal_load.specs.declared.refusal.LoadFault.{LoadFault}
use Rattle.journal_load.specs.Refusals.{of_commit_byte, of_payload, of_entries, with_fault, within_formula, LoadFails}
use Rattle.journal_load.specs.Records.{Found, rest_behind, rest_at, record_entries_at, record_added, record_at}
use Rattle.journal_load.proofs.Binding.{bind_on, fails_on, fails_as}

-- a property of the bytes that are told holds of the same bytes
pub same_bytes : (P : List ℕ → Type 0) (r s : Option (List ℕ)) → s ≡ r → IfSome s P → IfSome r P
same_bytes P r s same has = subst (λ o. IfSome o P) same has

-- a disk that is only read
pub stays_same : (s : Store) → Stays s s
stays_same s = record { reads = refl; images = λ c. search rules; moment = refl; since = λ t c. search rules }

pub stays_on : (a b c : Store) → Stays a b → Stays b c → Stays a c
stays_on a b c first then = record {
  reads = then.reads ∙ first.reads;
  images = λ x. (λ i. (first.images x).0 ((then.images x).0 i), λ i. (then.images x).1 ((first.images x).1 i));
  moment = then.moment ∙ first.moment;
  since = λ t x. (λ i. (first.since t x).0 ((then.since t x).0 i), λ i. (then.since t x).1 ((first.since t x).1 i));
}

-- the commit byte
abbrev pub a_commit_byte : CommitByte → Result CommitByte CommitByteFault
a_commit_byte commit_byte = Ok commit_byte

abbrev pub no_commit_byte : CommitByteFault → Result CommitByte CommitByteFault
no_commit_byte f = Err f

pub commit_byte_bad : (bytes : List ℕ) (at : ℕ) (f : CommitByteFault) → (no_commit_byte f ≡ commit_byte_of bytes at) ⊎ (no_commit_byte f ≡ no_commit_byte commit_bytes.DiskFault) → LoadFails (of_commit_byte f) (rest_at bytes at)
unfolding rest_at
commit_byte_bad bytes at (commit_bytes.Short place) is = ⊎_elim (λ e. ap (λ (g : Result CommitByte CommitByteFault). with_fault of_commit_byte g >>= λ x. Ok (rest_behind x)) (sym e)) (λ e. absurd cc) is
commit_byte_bad bytes at commit_bytes.DiskFault is = tt

pub commit_byte_good : (bytes : List ℕ) (at : ℕ) (commit_byte : CommitByte) (tail : Option ℕ) → (a_commit_byte commit_byte ≡ commit_byte_of bytes at) ⊎ (a_commit_byte commit_byte ≡ no_commit_byte commit_bytes.DiskFault) → rest_behind commit_byte ≡ tail → rest_at bytes at ≡ Ok tail
unfolding rest_at
commit_byte_good bytes at commit_byte tail is same = ⊎_elim (λ e. ap (λ (g : Result CommitByte CommitByteFault). with_fault of_commit_byte g >>= λ x. Ok (rest_behind x)) (sym e) ∙ ap (λ (r : Option ℕ). Ok r) same) (λ e. absurd cc) is

-- the entries
module _ (p : Validated) (batch k at : ℕ) (bytes : List ℕ) where
  abbrev after_payload : List ℕ → Result (List Entry × ℕ) LoadFault
  after_payload payload = with_fault (λ place. of_entries k (Bad place)) (read_batch p k batch payload) >>= λ entries. Ok (entries, at + 5 + length payload)

  abbrev after_formulas : Unit {0} → Result (List Entry × ℕ) LoadFault
  after_formulas u = with_fault (of_payload k) (payload_of bytes at) >>= after_payload

  pub formulas_bad : (fault : LoadFault) → LoadFails fault (within_formula (too_much p k batch)) → LoadFails fault (record_entries_at p batch bytes k at)
  unfolding record_entries_at
  formulas_bad fault e = fails_on fault (within_formula (too_much p k batch)) after_formulas e

  module _ (fine : within_formula (too_much p k batch) ≡ Ok tt) where
    split : record_entries_at p batch bytes k at ≡ after_formulas tt
    unfolding record_entries_at
    split = bind_on (within_formula (too_much p k batch)) tt after_formulas fine

    pub payload_bad : (fault : LoadFault) → LoadFails fault (with_fault (of_payload k) (payload_of bytes at)) → LoadFails fault (record_entries_at p batch bytes k at)
    payload_bad fault e = fails_as fault (after_formulas tt) (record_entries_at p batch bytes k at) (sym split) (fails_on fault (with_fault (of_payload k) (payload_of bytes at)) after_payload e)

    module _ (payload : List ℕ) (read : with_fault (of_payload k) (payload_of bytes at) ≡ Ok payload) where
      there : record_entries_at p batch bytes k at ≡ after_payload payload
      there = split ∙ bind_on (with_fault (of_payload k) (payload_of bytes at)) payload after_payload read

      pub entries_bad : (fault : LoadFault) → LoadFails fault (with_fault (λ place. of_entries k (Bad place)) (read_batch p k batch payload)) → LoadFails fault (record_entries_at p batch bytes k at)
      entries_bad fault e = fails_as fault (after_payload payload) (record_entries_at p batch bytes k at) (sym there) (fails_on fault (with_fault (λ place. of_entries k (Bad place)) (read_batch p k batch payload)) (λ entries. Ok (entries, at + 5 + length payload)) e)

      pub entries_read : (es : List Entry) (next : ℕ) → with_fault (λ place. of_entries k (Bad place)) (read_batch p k batch payload) ≡ Ok es → next ≡ at + 5 + length payload → record_entries_at p batch bytes k at ≡ Ok (es, next)
      entries_read es next e is =
          there ∙ bind_on (with_fault (λ place. of_entries k (Bad place)) (read_batch p k batch payload)) es (λ entries. Ok (entries, at + 5 + length payload)) e ∙ ap (λ (n : ℕ). Ok (es, n)) (sym is)

-- a record
module _ (p : Validated) (batch : ℕ) (bytes : List ℕ) (at : ℕ) (found : Found) where
  abbrev after_read : List Entry × ℕ → Result (List Entry × ℕ × Found) LoadFault
  after_read read = record_added p found read.0 >>= λ next. Ok (read.0, read.1, next)

  pub record_unread : (fault : LoadFault) → LoadFails fault (record_entries_at p batch bytes (suc (length found.bounds)) at) → LoadFails fault (record_at p batch bytes at found)
  unfolding record_at
  record_unread fault e = fails_on fault (record_entries_at p batch bytes (suc (length found.bounds)) at) after_read e

  module _ (es : List Entry) (next : ℕ) (read : record_entries_at p batch bytes (suc (length found.bounds)) at ≡ Ok (es, next)) where
    split_record : record_at p batch bytes at found ≡ after_read (es, next)
    unfolding record_at
    split_record = bind_on (record_entries_at p batch bytes (suc (length found.bounds)) at) (es, next) after_read read

    pub record_bad : (fault : LoadFault) → LoadFails fault (record_added p found es) → LoadFails fault (record_at p batch bytes at found)
    record_bad fault e = fails_as fault (after_read (es, next)) (record_at p batch bytes at found) (sym split_record) (fails_on fault (record_added p found es) (λ f. Ok (es, next, f)) e)

    pub record_read : (more : Found) → record_added p found es ≡ Ok more → record_at p batch bytes at found ≡ Ok (es, next, more)
    record_read more e = split_record ∙ bind_on (record_added p found es) more (λ f. Ok (es, next, f)) e
