-- The costs of successors and of branches, one after another, and the bounds that keep them inside 128 bits.
use Rattle.std.proofs.Common.{◌≡◌, ◌∙◌, ℕ, zero, suc, ◌+◌, ◌*◌, ◌/◌, ◌<◌, ◌≤◌, ◌^◌, ℤ, pos, ◌+ℤ◌, ◌*ℤ◌, nat_abs, List, [], ◌∷◌, map, sum, All, Result, Ok, Err, FitsSigned, refl, sym, ap, subst, arith, mul-le-mul_left}
use Rattle.std.specs.Int.{w128}
use Rattle.std.proofs.Math.Nat.{mul-le-mul}
use Rattle.std.proofs.lemmas.Int.{ints, unsigned_abs-mul, fits_signed_from_abs}
use Rattle.std.proofs.lemmas.List.Sums.{sum_by-cons}
use Rattle.base_num.proofs.Sums.{All_head, All_tail}
use Rattle.problem.specs.Validated.{Validated}
use Rattle.theory.specs.Problem.{S, Successor, successor_weights}
use Rattle.theory.specs.View.{problem_of}
use Rattle.policy_evaluate.specs.declared.costs.Walked.{Walked}
use Rattle.policy_evaluate.specs.Multiples.{gcd, lcm, lcm_all}
use Rattle.policy_evaluate.specs.PolicyTree.{Stop}
use Rattle.policy_evaluate.specs.Costs.{add_cost, successor_costs, no_cost}
use Rattle.policy_evaluate.specs.TooBig.{branches, denominator, most_size}
use Rattle.policy_evaluate.specs.Small.{AddsUp, IsCost, IsSmall, successor_branches, successor_denominator, most_cost}
use Rattle.policy_evaluate.proofs.Divisors.{Parted, factor_positive, parts_of, lcm_second, lcm_positive, lcm_all_least}
use Rattle.policy_evaluate.proofs.Positive.{dens}

-- over plain numbers: x / A and y / B are added, y with the weight w; W is the whole weight and rest the weight left
step_small : (x y A B a b g w tail W C : ℕ) → A ≡ g * a → B ≡ g * b → x + A * ((w + tail) * C) ≤ A * (W * C) → y ≤ B * (1 * C) → x * b + w * y * a + a * B * (tail * C) ≤ a * B * (W * C)
step_small x y A B a b g w tail W C e f h k =
    let h' : x + g * a * ((w + tail) * C) ≤ g * a * (W * C) = subst (λ (A : ℕ). x + A * ((w + tail) * C) ≤ A * (W * C)) e h in
    let k' : y ≤ g * b * (1 * C) = subst (λ (B : ℕ). y ≤ B * (1 * C)) f k in
    subst (λ (B : ℕ). x * b + w * y * a + a * B * (tail * C) ≤ a * B * (W * C)) (sym f)
    (omega (arith, mul-le-mul_left b h', mul-le-mul_left (w * a) k'))

-- the greatest sum
pub most : (M L W C k : ℕ) → M ≤ L → L * W ≤ 2 ^ 40 → C ≤ 2 ^ 84 → k ≤ M * (W * C) → k < 2 ^ 127
most M L W C k h i j l =
    let one : M * (W * C) ≤ L * (W * C) = mul-le-mul h (omega arith) in
    let two : L * W * C ≤ 2 ^ 40 * 2 ^ 84 = mul-le-mul i j in
    omega (arith, one, two, l)

pub cost_limit : (p : Validated) (n : ℕ) → n * most_size p ≤ 2 ^ 60 → most_cost p n ≤ 2 ^ 84
unfolding S
cost_limit p n h = omega (arith, h)

pub fits : (z : ℤ) → nat_abs z < 2 ^ 127 → FitsSigned w128 z
fits z h = fits_signed_from_abs w128 z h

abs_sum : (u x : ℤ) (b w a : ℕ) → nat_abs (u *ℤ pos b +ℤ pos w *ℤ x *ℤ pos a) ≤ nat_abs u * b + w * nat_abs x * a
abs_sum u x b w a =
    let one : nat_abs (u *ℤ pos b) ≡ nat_abs u * b = unsigned_abs-mul u (pos b) in
    let two : nat_abs (pos w *ℤ x *ℤ pos a) ≡ nat_abs (pos w *ℤ x) * a = unsigned_abs-mul (pos w *ℤ x) (pos a) in
    let three : nat_abs (pos w *ℤ x) ≡ w * nat_abs x = unsigned_abs-mul (pos w) x in
    let four : nat_abs (pos w *ℤ x) * a ≡ w * nat_abs x * a = ap (λ (k : ℕ). k * a) three in
    omega (arith, ints, one, two, four)

pub at_least_once : (k a : ℕ) → 0 < a → k ≤ k * a
at_least_once k zero h = absurd (omega arith)
at_least_once k (suc a) h = omega arith

-- the invariant of the sum so far, where the costs of `tail` are still to be added
pub record SuccessorsGo (p : Validated) (n k : ℕ) (go : ℕ → ℕ → Result Walked Stop) (ls tail : List Successor) (total : Walked) : Type 0 where
  pub value : successor_costs go total tail ≡ successor_costs go (no_cost k) ls
  pub some : 0 < total.under
  pub under : lcm_all total.under (dens p n tail) ≡ successor_denominator p n ls
  pub small : nat_abs total.up + total.under * (sum (successor_weights tail) * most_cost p n) ≤ total.under * (sum (successor_weights ls) * most_cost p n)
  pub decided : total.decided + successor_branches p n tail ≡ k + successor_branches p n ls

pub successors_first : (p : Validated) (n decided : ℕ) (go : ℕ → ℕ → Result Walked Stop) (ls : List Successor) → SuccessorsGo p n decided go ls ls (no_cost decided)
successors_first p n decided go ls = record { value = refl; some = omega arith; under = refl; small = omega arith; decided = refl }

-- the cost of the next successor, of which this is known
module _ (p : Validated) (n decided : ℕ) (go : ℕ → ℕ → Result Walked Stop) (ls : List Successor) (l : Successor) (tail : List Successor) (total w : Walked) (h : SuccessorsGo p n decided go ls (l ∷ tail) total)
    (some : All (λ b. 0 < b) (dens p n (l ∷ tail))) (small : IsSmall p n (successor_denominator p n ls) (sum (successor_weights ls)) decided (successor_branches p n ls)) where
  own_some : 0 < denominator (problem_of p) n l.node
  own_some = All_head (λ b. 0 < b) (denominator (problem_of p) n l.node) (dens p n tail) some

  rest_some : All (λ b. 0 < b) (dens p n tail)
  rest_some = All_tail (λ b. 0 < b) (denominator (problem_of p) n l.node) (dens p n tail) some

  -- the least common multiple with the successor's
  below : lcm total.under (denominator (problem_of p) n l.node) ≤ successor_denominator p n ls
  below =
      subst (λ (k : ℕ). lcm total.under (denominator (problem_of p) n l.node) ≤ k) h.under
      (lcm_all_least (lcm total.under (denominator (problem_of p) n l.node)) (dens p n tail) (lcm_positive total.under (denominator (problem_of p) n l.node) h.some own_some) rest_some)

  pub successor_small : IsSmall p n (denominator (problem_of p) n l.node) 1 total.decided (branches (problem_of p) n l.node)
  successor_small =
      let second = lcm_second total.under (denominator (problem_of p) n l.node) h.some in
      let count : successor_branches p n (l ∷ tail) ≡ branches (problem_of p) n l.node + successor_branches p n tail = sum_by-cons (λ k. k) (branches (problem_of p) n l.node) (map (λ (l : Successor). branches (problem_of p) n l.node) tail) in
      record {
        under = omega (arith, second, below, small.under);
        weighted = omega (arith, second, below, small.under);
        branches = omega (arith, count, h.decided, small.branches);
        sizes = small.sizes;
      }

  module _ (c : IsCost p n (denominator (problem_of p) n l.node) 1 (total.decided + branches (problem_of p) n l.node) w) where
    w_some : 0 < w.under
    w_some = subst (λ (k : ℕ). 0 < k) (sym c.under) own_some

    below_w : lcm total.under w.under ≤ successor_denominator p n ls
    below_w = subst (λ (k : ℕ). lcm total.under k ≤ successor_denominator p n ls) (sym c.under) below

    summed : nat_abs total.up * (w.under / gcd total.under w.under) + l.weight * nat_abs w.up * (total.under / gcd total.under w.under) + lcm total.under w.under * (sum (successor_weights tail) * most_cost p n) ≤ lcm total.under w.under * (sum (successor_weights ls) * most_cost p n)
    summed =
        let q : Parted total.under w.under = parts_of total.under w.under h.some in
        let count : sum (successor_weights (l ∷ tail)) ≡ l.weight + sum (successor_weights tail) = sum_by-cons (λ k. k) l.weight (successor_weights tail) in
        let left : nat_abs total.up + total.under * ((l.weight + sum (successor_weights tail)) * most_cost p n) ≤ total.under * (sum (successor_weights ls) * most_cost p n) = subst (λ (k : ℕ). nat_abs total.up + total.under * (k * most_cost p n) ≤ total.under * (sum (successor_weights ls) * most_cost p n)) count h.small in
        let own : nat_abs w.up ≤ w.under * (1 * most_cost p n) = subst (λ (k : ℕ). nat_abs w.up ≤ k * (1 * most_cost p n)) (sym c.under) c.small in
        step_small (nat_abs total.up) (nat_abs w.up) total.under w.under (total.under / gcd total.under w.under) (w.under / gcd total.under w.under) (gcd total.under w.under) l.weight (sum (successor_weights tail)) (sum (successor_weights ls)) (most_cost p n) q.first q.second left own

    in_range : (k : ℕ) → k ≤ lcm total.under w.under * (sum (successor_weights ls) * most_cost p n) → k < 2 ^ 127
    in_range k le = most (lcm total.under w.under) (successor_denominator p n ls) (sum (successor_weights ls)) (most_cost p n) k below_w small.weighted (cost_limit p n small.sizes) le

    pub successor_adds : AddsUp total l.weight w
    successor_adds =
        let q : Parted total.under w.under = parts_of total.under w.under h.some in
        let a : ℕ = total.under / gcd total.under w.under in
        let b : ℕ = w.under / gcd total.under w.under in
        let a_some : 0 < a = factor_positive (gcd total.under w.under) a total.under q.first h.some in
        let own : nat_abs (total.up *ℤ pos b) ≡ nat_abs total.up * b = unsigned_abs-mul total.up (pos b) in
        let weighted : nat_abs (pos l.weight *ℤ w.up) ≡ l.weight * nat_abs w.up = unsigned_abs-mul (pos l.weight) w.up in
        let more : nat_abs (pos l.weight *ℤ w.up *ℤ pos a) ≡ l.weight * nat_abs w.up * a = unsigned_abs-mul (pos l.weight *ℤ w.up) (pos a) ∙ ap (λ (k : ℕ). k * a) weighted in
        record {
          some = q.some;
          own = fits (total.up *ℤ pos b) (in_range (nat_abs (total.up *ℤ pos b)) (omega (arith, own, summed)));
          weighted = fits (pos l.weight *ℤ w.up) (in_range (nat_abs (pos l.weight *ℤ w.up)) (omega (arith, weighted, at_least_once (l.weight * nat_abs w.up) a a_some, summed)));
          more = fits (pos l.weight *ℤ w.up *ℤ pos a) (in_range (nat_abs (pos l.weight *ℤ w.up *ℤ pos a)) (omega (arith, more, summed)));
          whole = fits (total.up *ℤ pos b +ℤ pos l.weight *ℤ w.up *ℤ pos a) (in_range (nat_abs (total.up *ℤ pos b +ℤ pos l.weight *ℤ w.up *ℤ pos a)) (omega (arith, abs_sum total.up w.up b l.weight a, summed)));
          under = omega (arith, below_w, small.under);
        }

    pub successor_next : go total.decided l.node ≡ Ok w → SuccessorsGo p n decided go ls tail (add_cost total l.weight w)
    successor_next e =
        let count : successor_branches p n (l ∷ tail) ≡ branches (problem_of p) n l.node + successor_branches p n tail = sum_by-cons (λ k. k) (branches (problem_of p) n l.node) (map (λ (l : Successor). branches (problem_of p) n l.node) tail) in
        record {
          value = went e ∙ h.value;
          some = lcm_positive total.under w.under h.some w_some;
          under = ap (λ (k : ℕ). lcm_all (lcm total.under k) (dens p n tail)) c.under ∙ h.under;
          small = omega (arith, abs_sum total.up w.up (w.under / gcd total.under w.under) l.weight (total.under / gcd total.under w.under), summed);
          decided = omega (arith, c.decided, count, h.decided);
        }
      where
        went : go total.decided l.node ≡ Ok w → successor_costs go (add_cost total l.weight w) tail ≡ successor_costs go total (l ∷ tail)
        went e = rw e refl

  pub successor_stops : (s : Stop) → go total.decided l.node ≡ Err s → successor_costs go (no_cost decided) ls ≡ Err s
  successor_stops s e = sym h.value ∙ stopped e
    where
      stopped : go total.decided l.node ≡ Err s → successor_costs go total (l ∷ tail) ≡ Err s
      stopped e = rw e refl

pub successors_last : (p : Validated) (n decided : ℕ) (go : ℕ → ℕ → Result Walked Stop) (ls : List Successor) (total : Walked) → SuccessorsGo p n decided go ls [] total → IsCost p n (successor_denominator p n ls) (sum (successor_weights ls)) (decided + successor_branches p n ls) total
successors_last p n decided go ls total h = record {
  under = h.under;
  small = subst (λ (k : ℕ). nat_abs total.up ≤ k * (sum (successor_weights ls) * most_cost p n)) h.under (omega (arith, h.small));
  decided = none_left ∙ h.decided;
}
  where
    none_left : total.decided ≡ total.decided + 0
    none_left = omega arith
