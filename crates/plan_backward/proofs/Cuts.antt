-- The cut of settled certificates, and pools with it.
use Rattle.std.proofs.Common.{◌≡◌, ℕ, zero, suc, Ok, ◌-◌, ◌<◌, ℤ, true, List, [], ◌∷◌, ◌++◌, length, take, All, refl, ap, sym, subst, ◌∙◌, arith}
use Rattle.std.proofs.Common.{length-append}
use Rattle.std.proofs.Math.Seq.{take-append_seam}
use Rattle.std.proofs.lemmas.List.{length-set}
use Rattle.std.proofs.lemmas.List.Elements.{All-push}
use Rattle.problem.specs.Validated.{Validated, is_validated}
use Rattle.theory.specs.declared.cut.Cut.{Cut}
use Rattle.theory.specs.declared.cut.Certificate.{Certificate}
use Rattle.theory.specs.Certificates.{Right, RightAt}
use Rattle.theory.specs.Problem.{Node, Problem, node_at}
use Rattle.theory.specs.View.{problem_of}
use Rattle.theory.specs.Fit.{CutFits, Fit}
use Rattle.theory.specs.Pools.{pool, push}
use Rattle.theory.proofs.Appending.{push_at, kept_some}
use Rattle.cut_pool.specs.AtNodes.{PoolsFit}
use Rattle.lp_program.specs.declared.programs.Answer.{Answer}
use Rattle.plan_answer.proofs.SettledNode.{have_cuts}
use Rattle.plan_answer.proofs.SettledRight.{settled_list_right}
use Rattle.lp_program.specs.Solving.{Solving}
use Rattle.plan_backward.specs.declared.certified.Certified.{Certified}
use Rattle.plan_stage.specs.Orders.{node_values_at}
use Rattle.plan_backward.specs.Certifying.{answers_at, certified}
use Rattle.plan_backward.specs.Sweeping.{popped}
use Rattle.plan_backward.proofs.Certificates.{InPlaces, counted_answers_at, each_in_place}
use Rattle.plan_backward.proofs.NodeValues.{values_here}
use Rattle.plan_backward.proofs.Placed.{all_in_places, length-in_places, length-order_at}

-- with a cut that fits
pub fit_push : (p : Problem) (count : ℕ) (pools : List (List Cut)) (m : ℕ) (c : Cut) → Fit p count pools → CutFits (node_at p m) c → Fit p count (push pools m c)
fit_push p count pools m c f fits = record {
  lists = length-set pools m (pool pools m ++ c ∷ []) ∙ f.lists;
  some = λ k h. kept_some pools m k c (f.some k h);
  cuts = λ k h. push_at pools m k c (All (CutFits (node_at p k))) (f.cuts k h) (λ e. subst (λ (j : ℕ). All (CutFits (node_at p j)) (pool pools m ++ c ∷ [])) (sym e) (All-push (CutFits (node_at p m)) (pool pools m) c (f.cuts m (subst (λ (j : ℕ). j < count) e h)) fits));
}

-- and with the last cut taken back
last_off : (cs : List Cut) (c : Cut) → take (length (cs ++ c ∷ []) - 1) (cs ++ c ∷ []) ≡ cs
last_off cs c =
    let count : length (cs ++ c ∷ []) - 1 ≡ length cs = omega (arith, length-append cs (c ∷ [])) in
    ap (λ (k : ℕ). take k (cs ++ c ∷ [])) count ∙ take-append_seam cs (c ∷ [])

pub popped-push : (pools : List (List Cut)) (m : ℕ) (c : Cut) → popped (push pools m c) m ≡ pools
popped-push [] m c = refl
popped-push (cs ∷ tail) zero c = ap (λ (ds : List Cut). ds ∷ tail) (last_off cs c)
popped-push (cs ∷ tail) (suc m) c = ap (λ (more : List (List Cut)). cs ∷ more) (popped-push tail m c)

-- settled certificates are right
pub settled_list : {Start Chain : Type 0} (v : Solving Start Chain) (p : Validated) (pools : List (List Cut)) (k m : ℕ) (state : List ℤ) (found : Certified) → is_validated p ≡ true → m < length p.parts.nodes → PoolsFit p pools
    → certified v p pools k m state ≡ Ok found → Right pools (node_at (problem_of p) m) found.list
settled_list v p pools k m state found e h fit is =
    let n : Node = node_at (problem_of p) m in
    let xs : List Answer = answers_at v p pools m state in
    let values : List (List ℤ) = node_values_at p.parts m in
    let at : InPlaces v p pools k m state found = each_in_place v p pools k m state found is in
    let solved : List Certificate = at.solved.list in
    let realizations = (values_here p m e h).count in
    let right : Right pools n solved = subst (λ (l : List Certificate). Right pools n l) (sym at.order.settled) (settled_list_right pools n xs (have_cuts p m pools e h fit) (counted_answers_at v p pools m state ∙ length-order_at p.parts m ∙ realizations)) in
    subst (λ (f : Certified). Right pools n f.list) (sym at.placed_is)
    (record {
      count = length-in_places values solved at.order.count ∙ realizations;
      each = all_in_places values solved at.order.count (RightAt pools n) right.each;
    })
