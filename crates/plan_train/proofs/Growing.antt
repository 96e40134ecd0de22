-- Sweeps leave the cuts of each node in front of the new ones.
use Rattle.std.proofs.Common.{◌≡◌, ℕ, zero, suc, ◌+◌, ◌≤◌, ℤ, List, [], ◌∷◌, ◌++◌, length, take, map, get_or, zip, Ok, refl, sym, ap, subst, ◌∙◌, append_assoc, arith}
use Rattle.std.proofs.Math.Seq.{take-append_seam}
use Rattle.std.proofs.lemmas.List.{append-nil, ext_get_or}
use Rattle.problem.specs.Validated.{Validated}
use Rattle.theory.specs.declared.cut.Cut.{Cut}
use Rattle.theory.specs.Pools.{pool, push}
use Rattle.theory.proofs.Appending.{push_at}
use Rattle.lp_program.specs.Solving.{Solving}
use Rattle.plan_draw.specs.declared.steps.PathStep.{PathStep}
use Rattle.plan_backward.specs.Sweeping.{Swept, made_at, with_made, step_back, backwards, swept}
use Rattle.plan_train.specs.Growing.{ExtendsPools}
use Rattle.journal_load.proofs.Binding.{bind_ok}
use Rattle.plan_train.proofs.Answered.{same_ok}

-- the first list stands in front of the second
abbrev pub Begins : List Cut → List Cut → Type 0
Begins xs ys = (tail : List Cut) × (ys ≡ xs ++ tail)

begins_itself : (xs : List Cut) → Begins xs xs
begins_itself xs = ([], sym (append-nil xs))

begins_more : (xs ys : List Cut) (c : Cut) → Begins xs ys → Begins xs (ys ++ c ∷ [])
begins_more xs ys c b = (b.0 ++ c ∷ [], ap (λ (zs : List Cut). zs ++ c ∷ []) b.1 ∙ append_assoc xs b.0 (c ∷ []))

-- so it does at each node
abbrev pub AllBegin : List (List Cut) → List (List Cut) → Type 0
AllBegin old new = (m : ℕ) → Begins (pool old m) (pool new m)

begin-push : (old mid : List (List Cut)) (m : ℕ) (c : Cut) → AllBegin old mid → AllBegin old (push mid m c)
begin-push old mid m c b k = push_at mid m k c (λ (cs : List Cut). Begins (pool old k) cs) (b k) (λ e. subst (λ (j : ℕ). Begins (pool old j) (pool mid m ++ c ∷ [])) (sym e) (begins_more (pool old m) (pool mid m) c (b m)))

begin-step : {Start Chain : Type 0} (v : Solving Start Chain) (p : Validated) (k : ℕ) (old : List (List Cut)) (before after : Swept) (visit : PathStep × List ℤ) → step_back v p k before visit ≡ Ok after → AllBegin old before.pools → AllBegin old after.pools
unfolding step_back
begin-step v p k old before after visit h b =
    let parts = bind_ok (made_at v p before.pools k visit.0.node visit.1) (λ made. Ok (with_made before visit.0.node made)) after h in
    subst (λ (s : Swept). AllBegin old s.pools) (same_ok (with_made before visit.0.node parts.0) after parts.2) (begin-push old before.pools visit.0.node parts.0.1 b)

begin-backwards : {Start Chain : Type 0} (v : Solving Start Chain) (p : Validated) (k : ℕ) (visits : List (PathStep × List ℤ)) (start after : Swept) → backwards (step_back v p k) visits start ≡ Ok after → AllBegin start.pools after.pools
begin-backwards v p k [] start after h = subst (λ (s : Swept). AllBegin start.pools s.pools) (same_ok start after h) (λ m. begins_itself (pool start.pools m))
begin-backwards v p k (q ∷ qs) start after h =
    let parts = bind_ok (backwards (step_back v p k) qs start) (λ before. step_back v p k before q) after h in
    begin-step v p k start.pools parts.0 after q parts.2 (begin-backwards v p k qs start parts.0 parts.1)

-- a sweep leaves each node's cuts in front
pub begin-swept : {Start Chain : Type 0} (v : Solving Start Chain) (p : Validated) (pools : List (List Cut)) (k : ℕ) (path : List PathStep) (states : List (List ℤ)) (unanswered : ℕ) (after : Swept) → swept v p pools k path states unanswered ≡ Ok after → AllBegin pools after.pools
unfolding swept
begin-swept v p pools k path states unanswered after h = begin-backwards v p k (zip path states) (record { pools = pools; steps = []; unanswered = unanswered }) after h

-- pools that are extended by nothing
pub extends_nothing : (pools : List (List Cut)) (most : ℕ) → ExtendsPools most pools pools
extends_nothing pools most = record { count = refl; front = λ m. begins_itself (pool pools m); few = λ m. omega arith }

-- extended once and again
pub extends_then : (i j : ℕ) (old mid new : List (List Cut)) → ExtendsPools i old mid → ExtendsPools j mid new → ExtendsPools (i + j) old new
extends_then i j old mid new a b = record {
  count = b.count ∙ a.count;
  front = λ m. ((a.front m).0 ++ (b.front m).0, (b.front m).1 ∙ ap (λ (cs : List Cut). cs ++ (b.front m).0) (a.front m).1 ∙ append_assoc (pool old m) (a.front m).0 (b.front m).0);
  few = λ m. omega (arith, a.few m, b.few m);
}

-- cut back to as many cuts as there were, the pools are as before
pub cut_back-extended : (most : ℕ) (old mid new : List (List Cut)) (counts : List ℕ) → counts ≡ map (λ (cuts : List Cut). length cuts) old → ExtendsPools most old mid → length new ≡ length mid → ((m : ℕ) → pool new m ≡ take (get_or counts m 0) (pool mid m)) → new ≡ old
cut_back-extended most old mid new counts is x count cuts =
    ext_get_or [] new old (count ∙ x.count) (λ m h. cuts m ∙ ap (λ n. take n (pool mid m)) (ap (λ ns. get_or ns m 0) is ∙ counted old m) ∙ ap (λ (cs : List Cut). take (length (pool old m)) cs) (x.front m).1 ∙ take-append_seam (pool old m) (x.front m).0)
  where
    counted : (lists : List (List Cut)) (m : ℕ) → get_or (map (λ (cuts : List Cut). length cuts) lists) m 0 ≡ length (pool lists m)
    counted [] m = refl
    counted (cs ∷ lists) zero = refl
    counted (cs ∷ lists) (suc m) = counted lists m

-- a sweep extends the pools
pub extends_swept : {Start Chain : Type 0} (v : Solving Start Chain) (p : Validated) (pools new : List (List Cut)) (k : ℕ) (path : List PathStep) (states : List (List ℤ)) (unanswered : ℕ) (after : Swept) → swept v p pools k path states unanswered ≡ Ok after → after.pools ≡ new
    → length new ≡ length pools → ((m : ℕ) → length (pool new m) ≤ length (pool pools m) + 1) → ExtendsPools 1 pools new
extends_swept v p pools new k path states unanswered after h is count few = record {
  count = count;
  front = subst (AllBegin pools) is (begin-swept v p pools k path states unanswered after h);
  few = few;
}

pub extends_wider : (i j : ℕ) (old new : List (List Cut)) → i ≤ j → ExtendsPools i old new → ExtendsPools j old new
extends_wider i j old new h x = record { count = x.count; front = x.front; few = λ m. omega (arith, h, x.few m) }
