-- The words that say why a journal is refused, and which formula passes its limit.
use Rattle.std.specs.Prelude.{ℕ, List, ◌++◌, codes}
use Rattle.hex.specs.Hex.{encode_lower}
use Rattle.cut_make.specs.declared.fault.CertFault.{CertFault}
use Rattle.cut_make.specs.declared.fault.CertFault.TheVariants.{Shape, Sign, Cutless, Sum, Range}
use Rattle.problem.specs.declared.formulas.TooMuch.{TooMuch}
use Rattle.journal_load.specs.declared.refusal.JournalRefusal.{JournalRefusal}
use Rattle.journal_load.specs.declared.refusal.JournalRefusal.TheVariants.{NotAJournal, OtherVersion, OtherProblem, OtherSeed, Short, TooMany, BadLength, BadRecord, BadCertificate, OtherBatch, BadBatch}
use Rattle.run_program.specs.RefusalLines.{refusal_word}

-- two words of text with a number behind each
abbrev pub numbered_words : List ℕ → ℕ → List ℕ → ℕ → List ℕ
numbered_words first n second m = first ++ refusal_word n ++ second ++ refusal_word m

-- the fault's name and its numbers
unfoldable pub fault_text : CertFault → List ℕ
fault_text (Shape r) = codes "Shape" ++ refusal_word r
fault_text (Sign r i) = codes "Sign" ++ refusal_word r ++ refusal_word i
fault_text (Cutless r s k) = codes "Cutless" ++ refusal_word r ++ refusal_word s ++ refusal_word k
fault_text (Sum r s) = codes "Sum" ++ refusal_word r ++ refusal_word s
fault_text (Range r) = codes "Range" ++ refusal_word r

-- two digests
unfoldable pub digests_text : List ℕ → List ℕ → List ℕ
digests_text kept asked = codes "OtherProblem kept " ++ encode_lower kept ++ codes " asked " ++ encode_lower asked

-- the iteration and the node
unfoldable pub certificate_place : ℕ → ℕ → List ℕ
certificate_place k m = numbered_words (codes "BadCertificate iteration") k (codes " node") m

unfoldable pub certificate_fault_text : ℕ → ℕ → CertFault → List ℕ
certificate_fault_text k m fault = certificate_place k m ++ codes " " ++ fault_text fault

-- the refusal's name and its numbers
unfoldable pub refusal_words : JournalRefusal → List ℕ
refusal_words NotAJournal = codes "NotAJournal"
refusal_words (OtherVersion version) = codes "OtherVersion" ++ refusal_word version
refusal_words (OtherProblem kept asked) = digests_text kept asked
refusal_words (OtherSeed kept asked) = numbered_words (codes "OtherSeed kept") kept (codes " asked") asked
refusal_words (Short place) = codes "Short at" ++ refusal_word place
refusal_words TooMany = codes "TooMany"
refusal_words (BadLength k length) = numbered_words (codes "BadLength iteration") k (codes " length") length
refusal_words (BadRecord k place) = numbered_words (codes "BadRecord iteration") k (codes " at") place
refusal_words (BadCertificate k m fault) = certificate_fault_text k m fault
refusal_words (OtherBatch kept asked) = numbered_words (codes "OtherBatch kept") kept (codes " asked") asked
refusal_words (BadBatch batch) = codes "BadBatch" ++ refusal_word batch

unfoldable pub journal_refused : List ℕ
journal_refused = codes "journal refused: "

unfoldable pub journal_refusal_text : JournalRefusal → List ℕ
journal_refusal_text r = journal_refused ++ refusal_words r

-- the formula's number, and what it gives
unfoldable pub too_much_text : TooMuch → List ℕ
too_much_text t = numbered_words (codes "too much: formula") t.which (codes " gives") t.value
