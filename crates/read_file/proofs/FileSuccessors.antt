-- Successors, with their weights and the weight with which the horizon ends.
use Rattle.std.proofs.Common.{◌≡◌, ℕ, pos, List, [], ◌∷◌, ◌++◌, Option, Some, None, Ok, Result, int_lt, position, bytes_eq, unsigned_abs, refl, ap, subst}
use Rattle.serde_json.specs.Data.{Data, Members}
use Rattle.problem.specs.declared.refusal.Part.{Part}
use Rattle.problem.specs.declared.refusal.Place.{Place}
use Rattle.problem.specs.declared.refusal.Refusal.{Refusal}
use Rattle.problem.specs.declared.refusal.RefusalKind.TheVariants as kinds
use Rattle.read_json.specs.Fields.{place, whole_at, weight_at}
use Rattle.read_json.specs.Limits.{known_at}
use Rattle.read_json.proofs.Accepted.{then-Ok, Ok-is, unless-Ok, known_at-Ok}
use Rattle.read_profile.specs.File.{FileSuccessor, natural, or_absent, each_member, successor_of}
use Rattle.read_stage.proofs.FileSays.{whole_number-says}
use Rattle.read_stage.proofs.FileEach.{walk_members-says}
use Rattle.read_file.specs.declared.successors.Successors.{Successors}
use Rattle.read_file.specs.Successors.{no_successors, successor_at, read_successors_at}
use Rattle.read_file.specs.Nodes.{stop_at}
use Rattle.read_file.specs.Said.{Together, SuccessorSaid}
use Rattle.read_file.proofs.FileWeights.{natural-says, weight-says}
use Rattle.read_file.proofs.FileFound.{known-name}

pub together-push : {A B C : Type 0} (P : A → B → C → Type 0) (xs : List A) (ys : List B) (zs : List C) (x : A) (y : B) (z : C) → Together P xs ys zs → P x y z → Together P (xs ++ x ∷ []) (ys ++ y ∷ []) (zs ++ z ∷ [])
together-push P [] [] [] x y z all p = (p, tt)
together-push P [] [] (c ∷ cs) x y z all p = absurd all
together-push P [] (b ∷ bs) zs x y z all p = absurd all
together-push P (a ∷ tail) [] zs x y z all p = absurd all
together-push P (a ∷ tail) (b ∷ bs) [] x y z all p = absurd all
together-push P (a ∷ tail) (b ∷ bs) (c ∷ cs) x y z all p = (all.0, together-push P tail bs cs x y z all.1 p)

-- successors by their numbers are those by their names
abbrev pub SuccessorsSaid : List (List ℕ) → Successors → List FileSuccessor → Type 0
SuccessorsSaid names found ls = Together (SuccessorSaid names) ls found.nodes found.weights

successor-says : (p : Place) (names : List (List ℕ)) (found next : Successors) (k : List ℕ) (d : Data) (done : List FileSuccessor) → successor_at p names found k d ≡ Ok next → SuccessorsSaid names found done
    → (l : FileSuccessor) × (successor_of k d ≡ Some l) × SuccessorsSaid names next (done ++ l ∷ [])
unfolding successor_at
successor-says p names found next k d done e so_far =
    then-Ok (weight_at _ _) _ next e (λ weight is_weight e.
    then-Ok (known_at _ _) _ next e (λ node is_node e.
    let l : FileSuccessor = record { node = k; weight = unsigned_abs weight } in
    let one : SuccessorSaid names l node (unsigned_abs weight) = record { node = known-name names k node (known_at-Ok p (position (bytes_eq k) names) node is_node); weight = refl } in
    (l, rw (weight-says p d weight is_weight) refl, subst (λ n. SuccessorsSaid names n (done ++ l ∷ [])) (Ok-is _ next e) (together-push (SuccessorSaid names) done found.nodes found.weights l node (unsigned_abs weight) so_far one))))

step : Part → ℕ → List (List ℕ) → Successors → ℕ → List ℕ → Data → Result Successors Refusal
step part a names found i k d = successor_at (place part a i 0) names found k d

pub successors-say : (part : Part) (a : ℕ) (names : List (List ℕ)) (ms : Members) (successors : Successors) → read_successors_at part a names ms ≡ Ok successors → (ls : List FileSuccessor) × (each_member successor_of ms ≡ Some ls) × SuccessorsSaid names successors ls
unfolding read_successors_at step
successors-say part a names ms successors e =
    walk_members-says (SuccessorsSaid names) (step part a names) successor_of (λ found next i k d done e so_far. successor-says _ names found next k d done e so_far) ms no_successors successors 0 [] e tt

-- the weight with which the horizon ends, 0 where it is absent
pub stop-says : (p : Place) (o : Option Data) (n : ℕ) → stop_at p o ≡ Ok n → or_absent 0 natural o ≡ Some n
unfolding stop_at
stop-says p None n e = ap Some (Ok-is 0 n e)
stop-says p (Some d) n e =
    then-Ok (whole_at _ _) _ n e (λ stop is e.
    let parts = unless-Ok (int_lt stop (pos 0)) (Ok (unsigned_abs stop)) kinds.Weight p n e in
    subst (λ n. natural d ≡ Some n) (Ok-is (unsigned_abs stop) n parts.1) (natural-says d stop (whole_number-says p d stop is) parts.0))
