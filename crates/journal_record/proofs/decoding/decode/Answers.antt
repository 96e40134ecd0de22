use Rattle.std.proofs.Common.{ap, sym, ◌∙◌, ◌≡◌, get_or, [], ◌∷◌}
use Rattle.std.specs.Prelude.{List, Result, Ok, ℕ}
use Rattle.std.proofs.lemmas.Result.{err_from_is_err_and}
use Rattle.cut_pool.specs.declared.entry.Entry.{Entry}
use Rattle.journal_record.proofs.Fields.{ok_is}
use Rattle.journal_record.proofs.Whole.{still_fails}
use Rattle.journal_record.proofs.decoding.decode.Goals as goal

abbrev the_one : Entry → Result Entry ℕ
the_one x = Ok x

pub returns-in_err-list-clause-again : goal.returns-in_err-list-clause-again
returns-in_err-list-clause-again c entry batch e =
    let p = err_from_is_err_and c.from_residual.result c.from_residual.ensures.1 in
    rw (p.1, p.2) (still_fails (λ (x : List Entry). x) (λ (x : Entry). x) c.in_err-list.field-0.0 (entry ∷ []) entry (c.in_err-list.ensures.again (entry ∷ []) batch e))

pub returns-clause-again : goal.returns-clause-again
returns-clause-again c entry batch e =
    let same : entry ∷ [] ≡ c.in_ok-list.list = ok_is (entry ∷ []) c.in_ok-list.list (c.in_ok-list.ensures.again (entry ∷ []) batch e) in
    let first : c.remove.result ≡ entry = c.remove.ensures.value ∙ ap (λ (xs : List Entry). get_or xs 0 c.remove.result) (c.into_vec-entries.ensures ∙ sym same) in
    ap (λ (x : Entry). the_one x) (sym first)
