use Rattle.std.proofs.Common.{◌≡◌, List, ℕ, ◌-◌, ◌++◌, ◌∙◌, ap, arith, min, length, take, drop, length-drop, rules}
use Rattle.std.proofs.lemmas.List.{take_rest, length-replicate}
use Rattle.base_device.specs.Faultless.{FrontDisk, read_of}
use Rattle.base_device.proofs.Zeros.{drop_inside, over_zeros}
use Rattle.base_device.proofs.faultless.FaultlessDiskDisk.read_at.Goals as goal

-- The copied bytes are those kept from the place on, over zeros.
pub returns-clause-value : goal.returns-clause-value
returns-clause-value c =
    let kept = c.self.inside.kept.items in
    let n = length c.args.into.now in
    let front = drop c.args.at kept in
    let start = c.min-start.result in
    let held : c.len.result ≡ length kept = search rules in
    let place : start ≡ min c.args.at (length kept) = omega (arith, held, c.min-start.ensures) in
    let from : take (length c.deref.result.now - start) (drop start c.deref.result.now) ≡ front =
    take_rest c.deref.result.now start ∙ ap (λ (l : List ℕ). drop start l) c.deref.ensures.value ∙ ap (λ k. drop k kept) place ∙ drop_inside c.args.at kept in
    let zeros : length c.fill.new.bytes ≡ n = ap (λ (l : List ℕ). length l) c.fill.ensures ∙ length-replicate {A = ℕ} n 0 in
    let count : c.copy.result ≡ min n (length front) =
    omega (arith, c.copy.ensures.count, ap (λ (l : List ℕ). length l) from, zeros, held, c.len.type_inv, length-drop c.args.at kept) in
    c.copy.ensures.copied
    ∙ ap (λ (l : List ℕ). take c.copy.result l ++ drop c.copy.result c.fill.new.bytes) from
    ∙ ap (λ (l : List ℕ). take c.copy.result front ++ drop c.copy.result l) c.fill.ensures
    ∙ over_zeros front n c.copy.result count
    ∙ ap (λ (d : FrontDisk). read_of d c.args.at n) c.self.view_is
