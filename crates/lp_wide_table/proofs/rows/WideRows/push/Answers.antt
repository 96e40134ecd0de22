use Rattle.std.proofs.Common.{◌++◌, ◌∷◌, [], ℕ, ℤ, List, length, arith, ap, ap₂, sym, subst, ◌∙◌}
use Rattle.std.proofs.lemmas.List.{length-append}
use Rattle.lp_table.specs.Ends.{AreEnds, rows_by}
use Rattle.lp_table.proofs.ByEnds.{ends_more, row_more}
use Rattle.lp_wide_table.proofs.rows.WideRows.push.Goals as goal

pub invariant_of-self-2 : goal.invariant_of-self-2
invariant_of-self-2 c =
    let terms = c.in_ok-extend_from_slice.ensures.items in
    let ends = c.in_ok-push.ensures.items ∙ ap (λ (es : List ℕ). es ++ length c.as_slice.result.now ∷ []) c.in_ok-reserve.ensures.items in
    let end = ap length c.as_slice.ensures.value in
    subst (λ (es : List ℕ). AreEnds 0 es (length c.extend_from_slice.new.self.items)) (sym (ends ∙ ap (λ (e : ℕ). c.self.inside.ends.items ++ e ∷ []) end))
    (ends_more 0 (length c.self.inside.terms.items) (length c.extend_from_slice.new.self.items) c.self.inside.ends.items c.self.invariant (omega (arith, ap length terms, length-append c.self.inside.terms.items c.args.terms.now)))

pub returns : goal.returns
returns c =
    let terms = c.in_ok-extend_from_slice.ensures.items in
    let ends = c.in_ok-push.ensures.items ∙ ap (λ (es : List ℕ). es ++ length c.as_slice.result.now ∷ []) c.in_ok-reserve.ensures.items in
    ap₂ (λ (xs : List (ℕ × ℤ)) (es : List ℕ). rows_by 0 xs es) terms ends
    ∙ row_more 0 (length c.as_slice.result.now) c.self.inside.terms.items c.args.terms.now c.self.inside.ends.items c.self.invariant (ap length c.as_slice.ensures.value ∙ ap length terms ∙ length-append c.self.inside.terms.items c.args.terms.now)
    ∙ ap (λ (rs : List (List (ℕ × ℤ))). rs ++ c.args.terms.now ∷ []) c.self.view_is
