-- One certificate more without a fault.
use Rattle.std.proofs.Common.{◌≡◌, ℕ, ◌+◌, ◌<◌, List, ◌∷◌, length, zip, drop, get_or, None, refl, suc, add-one, sym, ap, ap₂, ◌∙◌}
use Rattle.std.proofs.lemmas.List.{drop_more}
use Rattle.problem.specs.declared.parts.Row.{Row}
use Rattle.theory.specs.declared.cut.Cut.{Cut}
use Rattle.theory.specs.declared.cut.Certificate.{Certificate}
use Rattle.theory.specs.Problem.{Successor, Node}
use Rattle.cut_make.specs.Acceptance.{or_then_fault, sign_fault, successors_fault, certificates_fault}
use Rattle.cut_check.proofs.Accepted.{none-or_then_fault}

pub certificates_more : (pools : List (List Cut)) (n : Node) (rows : List Row) (successors : List Successor) (r : ℕ) (list : List Certificate) (c : Certificate) → n.rows ≡ rows → n.successors ≡ successors → r < length list → c ≡ get_or list r c
    → or_then_fault (sign_fault r 0 (zip rows c.rows)) (successors_fault pools r 0 (zip successors c.cuts)) ≡ None → certificates_fault pools n (r + 1) (drop (r + 1) list) ≡ certificates_fault pools n r (drop r list)
certificates_more pools n rows successors r list c er el h is none =
    let here : or_then_fault (sign_fault r 0 (zip n.rows c.rows)) (successors_fault pools r 0 (zip n.successors c.cuts)) ≡ None = ap₂ (λ (rs : List Row) (ls : List Successor). or_then_fault (sign_fault r 0 (zip rs c.rows)) (successors_fault pools r 0 (zip ls c.cuts))) er el ∙ none in
    let t = none-or_then_fault (sign_fault r 0 (zip n.rows c.rows)) (successors_fault pools r 0 (zip n.successors c.cuts)) here in
    let tail : certificates_fault pools n r (c ∷ drop (r + 1) list) ≡ certificates_fault pools n (suc r) (drop (r + 1) list) = rw (t.0, t.1) refl in
    sym (ap (certificates_fault pools n r) (drop_more list r c h ∙ ap (λ (d : Certificate). d ∷ drop (r + 1) list) (sym is)) ∙ tail ∙ ap (λ (k : ℕ). certificates_fault pools n k (drop (r + 1) list)) (sym (add-one r)))
