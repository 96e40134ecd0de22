-- Weights and successors that were read: each weight at least 1, each successor a known node, and no more of them than nodes.
use Rattle.std.proofs.Common.{◌≡◌, ◌≤◌, ◌+◌, ◌==◌, ℕ, suc, List, [], ◌∷◌, ◌++◌, length, map, sum, true, false, nat_le, nat_lt, position, Result, Ok, unsigned_abs, bytes_eq, refl, sym, ap, subst, ◌∙◌, arith}
use Rattle.std.specs.List.{list_all}
use Rattle.std.specs.Set.{is_member}
use Rattle.std.proofs.lemmas.Bool.{lt-ltb, leb-true, eqb-false}
use Rattle.std.proofs.lemmas.List.{length_push, map-append}
use Rattle.serde_json.specs.Data.{Data, Members}
use Rattle.serde_json.specs.Events.{members_len}
use Rattle.problem.specs.Distinct.{rises, is_before}
use Rattle.problem.specs.Limits.{are_weights}
use Rattle.problem.specs.declared.refusal.Part.{Part}
use Rattle.problem.specs.declared.refusal.Refusal.{Refusal}
use Rattle.problem.specs.declared.refusal.Place.{Place}
use Rattle.read_json.specs.Fields.{place, weight_at, keys_of}
use Rattle.read_json.specs.Limits.{known_at}
use Rattle.read_json.proofs.Accepted.{then-Ok, Ok-is, test-Ok, list_all-push, weight_at-positive, known_at-Ok, AllMembers-any, walk_members-Ok, walk_members-keys, walk_members-adds}
use Rattle.read_json.proofs.Distinct.{Sorted, name_of, found-name, rises-sorted, rises-numbers}
use Rattle.read_json.proofs.InOrder.{length-keys_of}
use Rattle.read_json.proofs.Rising.{RisingMembers, known-position, few_keys, keys-sorted}
use Rattle.read_file.specs.declared.successors.Successors.{Successors}
use Rattle.read_file.specs.Successors.{no_successors, successor_at, read_successors_at}
use Rattle.read_file.specs.Weights.{bounded_weights_at}

pub positive : (n : ℕ) → (n == 0) ≡ false → nat_lt 0 n ≡ true
positive n e = lt-ltb 0 n (omega (arith, eqb-false n 0 e))

-- one entry more
pub one_more : {A : Type 0} (xs : List A) (x : A) (n : ℕ) → length xs ≡ n → length (xs ++ x ∷ []) ≡ suc n
one_more xs x n e = omega (arith, length_push xs x, e)

pub bounded_weights_at-Ok : (p : Place) (more : ℕ) (weights found : List ℕ) → bounded_weights_at p more weights ≡ Ok found → (weights ≡ found) × (sum found + more ≤ 65535)
unfolding bounded_weights_at
bounded_weights_at-Ok p more weights found e =
    let parts = test-Ok (nat_le (more + sum weights) 65535) _ _ p found e in
    let same = Ok-is weights found parts.1 in
    (same, subst (λ ws. sum ws + more ≤ 65535) same (omega (arith, leb-true (more + sum weights) 65535 parts.0)))

-- so many successors among so many nodes
pub record SuccessorsFit (nodes count : ℕ) (successors : Successors) : Type 0 where
  pub many : length successors.nodes ≡ count
  pub paired : length successors.weights ≡ count
  pub known : list_all (λ m. nat_lt m nodes) successors.nodes ≡ true
  pub weighty : are_weights successors.weights ≡ true

successor_at-fits : (p : Place) (names : List (List ℕ)) (found next : Successors) (i : ℕ) (k : List ℕ) (d : Data) → successor_at p names found k d ≡ Ok next → SuccessorsFit (length names) i found → SuccessorsFit (length names) (suc i) next
unfolding successor_at
successor_at-fits p names found next i k d e so_far =
    then-Ok (weight_at _ _) _ next e (λ weight is_weight e.
    then-Ok (known_at _ _) _ next e (λ node is_node e.
    let below = (known-position names k node (known_at-Ok p (position (bytes_eq k) names) node is_node)).0 in
    subst (SuccessorsFit (length names) (suc i)) (Ok-is _ next e) (record {
      many = one_more found.nodes node i so_far.many;
      paired = one_more found.weights (unsigned_abs weight) i so_far.paired;
      known = list_all-push (λ m. nat_lt m (length names)) found.nodes node so_far.known (lt-ltb node (length names) below);
      weighty = list_all-push (λ w. nat_lt 0 w) found.weights (unsigned_abs weight) so_far.weighty (weight_at-positive p d weight is_weight);
    })))

successor_at-key : (p : Place) (names : List (List ℕ)) (found next : Successors) (k : List ℕ) (d : Data) → successor_at p names found k d ≡ Ok next → is_member bytes_eq names k ≡ true
unfolding successor_at
successor_at-key p names found next k d e =
    then-Ok (weight_at _ _) _ next e (λ weight is e.
    then-Ok (known_at _ _) _ next e (λ node is e. (known-position names k node (known_at-Ok p (position (bytes_eq k) names) node is)).1))

step : Part → ℕ → List (List ℕ) → Successors → ℕ → List ℕ → Data → Result Successors Refusal
step part a names found i k d = successor_at (place part a i 0) names found k d

pub read_successors_at-fit : (part : Part) (a : ℕ) (names : List (List ℕ)) (ms : Members) (successors : Successors) → read_successors_at part a names ms ≡ Ok successors → SuccessorsFit (length names) (members_len ms) successors
unfolding read_successors_at step
read_successors_at-fit part a names ms successors e =
    walk_members-Ok (SuccessorsFit (length names)) (λ k d. Unit {0}) (step part a names) (λ found next i k d any e so_far. successor_at-fits _ names found next i k d e so_far)
    ms no_successors successors 0 (members_len ms) (omega arith) (AllMembers-any ms) e (record { many = refl; paired = refl; known = refl; weighty = refl })

pub read_successors_at-few : (part : Part) (a : ℕ) (names : List (List ℕ)) (ms : Members) (successors : Successors) → RisingMembers ms → read_successors_at part a names ms ≡ Ok successors → members_len ms ≤ length names
unfolding read_successors_at step
read_successors_at-few part a names ms successors rising e =
    let known = walk_members-keys (λ k. is_member bytes_eq names k ≡ true) (step part a names) (λ found next i k d e. successor_at-key _ names found next k d e) ms no_successors successors 0 e in
    omega (arith, length-keys_of ms, few_keys names ms rising known)

-- the names of the successors are the keys
successor_at-adds : (p : Place) (names : List (List ℕ)) (found next : Successors) (k : List ℕ) (d : Data) → successor_at p names found k d ≡ Ok next → map (name_of names) next.nodes ≡ map (name_of names) found.nodes ++ k ∷ []
unfolding successor_at
successor_at-adds p names found next k d e =
    then-Ok (weight_at _ _) _ next e (λ weight is e.
    then-Ok (known_at _ _) _ next e (λ node is_node e.
    let named = (found-name names k node (known_at-Ok p (position (bytes_eq k) names) node is_node)).1 in
    ap (λ (s : Successors). map (name_of names) s.nodes) (sym (Ok-is _ next e)) ∙ map-append (name_of names) found.nodes (node ∷ []) ∙ ap (λ n. map (name_of names) found.nodes ++ n ∷ []) named))

-- the keys rise, and so do the numbers of the nodes that they name
pub read_successors_at-rise : (part : Part) (a : ℕ) (names : List (List ℕ)) (ms : Members) (successors : Successors) → Sorted names → RisingMembers ms → read_successors_at part a names ms ≡ Ok successors → rises nat_lt successors.nodes ≡ true
unfolding read_successors_at step
read_successors_at-rise part a names ms successors sorted rising e =
    let known = (read_successors_at-fit part a names ms successors e).known in
    let named : map (name_of names) successors.nodes ≡ keys_of ms =
    walk_members-adds (λ (s : Successors). map (name_of names) s.nodes) (step part a names) (λ found next i k d e. successor_at-adds _ names found next k d e) ms no_successors successors 0 e in
    rises-numbers names successors.nodes sorted known (ap (rises is_before) named ∙ rises-sorted (keys_of ms) (keys-sorted ms rising))
