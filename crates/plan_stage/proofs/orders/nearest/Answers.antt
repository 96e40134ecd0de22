use Rattle.std.proofs.Common.{◌≡◌, ◌<◌, true, Bool, List, ℕ, [], length, nat_lt, if◌then◌else◌, get_or, sym, ap, subst, ◌∙◌, arith, rules}
use Rattle.std.proofs.lemmas.Bool.Decides.{nat_tests}
use Rattle.std.proofs.lemmas.List.{length-map, get_or-map, get_or_default}
use Rattle.plan_stage.specs.Orders.{distance, distances}
use Rattle.plan_stage.proofs.NearBy.{Looked, looked}
use Rattle.plan_stage.proofs.orders.nearest.Goals as goal
use Rattle.plan_stage.proofs.orders.nearest.Goals.{then-k-eq0, else-k-eq0, then-nearer, else-nearer}

pub loop-k-preserved : goal.loop-k-preserved
loop-k-preserved c =
    let ds : List ℕ = distances c.args.values.now c.args.from.now c.args.left.now in
    let k = c.loop-k.k in
    let far = c.distance-far.result in
    let one : ℕ → ℕ = λ i. distance c.args.from.now (get_or c.args.values.now i []) in
    let within : k < length c.args.left.now = search rules in
    let inside : k < length ds = omega (arith, within, length-map c.args.left.now one) in
    let here : far ≡ get_or ds k 0 = c.distance-far.ensures ∙ ap (λ ys. distance c.args.from.now ys) (c.as_slice.ensures ∙ c.index-values-left.is ∙ get_or_default c.args.values.now (get_or c.args.left.now k 0) c.index-values-left.result [] (c.requires.known k 0 within)) ∙ sym (get_or-map one c.args.left.now k 0 0 within) in
    let first : k ≡ 0 → c.if-k-eq0.nearer ≡ true = elim c.if-k-eq0.branch [ then-k-eq0 w ↦ (λ e. grind (arith, nat_tests, w.nearer-is, e)) | else-k-eq0 w ↦ (λ e. grind (arith, nat_tests, w.nearer-is, w.if-k-eq0.false, e)) ] in
    let later : 0 < k → c.if-k-eq0.nearer ≡ nat_lt far c.loop-k.least = elim c.if-k-eq0.branch [ then-k-eq0 w ↦ (λ h. grind (arith, h, w.if-k-eq0.true)) | else-k-eq0 w ↦ (λ h. w.nearer-is) ] in
    let place_of : Bool → ℕ = λ b. if b then k else c.loop-k.place in
    let least_of : Bool → ℕ = λ b. if b then far else c.loop-k.least in
    let t = looked ds k far c.loop-k.place c.loop-k.least c.if-k-eq0.nearer inside here c.loop-k.invariant.value c.loop-k.invariant.least c.loop-k.invariant.there first later in
    let place_is : place_of c.if-k-eq0.nearer ≡ c.if-nearer.place = elim c.if-nearer.branch [ then-nearer w ↦ (ap place_of w.if-nearer.true ∙ sym w.place-is) | else-nearer w ↦ (ap place_of w.if-nearer.false ∙ sym w.place-is) ] in
    let least_is : least_of c.if-k-eq0.nearer ≡ c.if-nearer.least = elim c.if-nearer.branch [ then-nearer w ↦ (ap least_of w.if-nearer.true ∙ sym w.least-is) | else-nearer w ↦ (ap least_of w.if-nearer.false ∙ sym w.least-is) ] in
    let found : Looked ds k c.if-nearer.place c.if-nearer.least = subst (λ p. Looked ds k p c.if-nearer.least) place_is (subst (λ m. Looked ds k (place_of c.if-k-eq0.nearer) m) least_is t) in
    record { value = found.value; least = λ h. found.least_is; there = λ h. found.there }
