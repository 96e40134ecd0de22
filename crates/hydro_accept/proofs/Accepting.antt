-- Read accepts the text of a hydro problem, and gives what the plants mean.
use Rattle.std.proofs.Common.{◌≡◌, ◌↔◌, ℕ, ℤ, List, Result, Ok, IfOk, IsOk, is_ok, sym, ap, subst, ◌∙◌, arith}
use Rattle.problem.specs.Validated.{Validated}
use Rattle.problem.specs.declared.refusal.Refusal.{Refusal}
use Rattle.theory.specs.Range.{based}
use Rattle.hydro_accept.proofs.Based.{base_form}
use Rattle.read_file.specs.Problem.{problem_at}
use Rattle.theory.specs.Bound.{Under}
use Rattle.theory.specs.Cost.{policy_cost}
use Rattle.theory.specs.Fraction.{Fraction, ◌≤ᶠ◌}
use Rattle.theory.specs.Problem.{Problem, S}
use Rattle.theory.specs.Tree.{Forest, Policy}
use Rattle.theory.specs.View.{problem_of}
use Rattle.hydro_read.specs.declared.plants.Plants.{Plants}
use Rattle.hydro_read.specs.Described.{IsPlants}
use Rattle.hydro_read.specs.Plants.{plants_at}
use Rattle.hydro_read.proofs.Accepted.{then-Ok, Ok-is}
use Rattle.hydro_read.proofs.Fits.{plants_at-Ok}
use Rattle.hydro_make.specs.Made.{problem_of_plants}
use Rattle.hydro_make.specs.Plan.{Workable}
use Rattle.hydro_make.specs.PlanCost.{plan_cost}
use Rattle.hydro_make.specs.Trees.{plan_forest}
use Rattle.hydro_make.specs.Text.{hydro_data, hydro_text, hydro_at}
use Rattle.hydro_make.proofs.Costs.{tree_of_cost}
use Rattle.hydro_make.proofs.Described.{short}
use Rattle.hydro_make.proofs.Equivalent.{tree_of_plan, workable}
use Rattle.hydro_make.proofs.Plain.{hydro_plain}
use Rattle.read_json.specs.Fields.{json_at}
use Rattle.hydro_accept.specs.Plans.{Means, UnderPlans}
use Rattle.hydro_accept.proofs.Printed.{text_read}
use Rattle.hydro_accept.proofs.Written.{hydro_fair}
use Rattle.hydro_accept.proofs.AllParts.{node_form, parts_form, problem_parts_read}
use Rattle.hydro_accept.proofs.Subproblems.{form}
use Rattle.hydro_accept.proofs.Boxing.{arranged_is}
use Rattle.hydro_accept.proofs.Meaning.{many, lows, highs, is_chain, validated_form, same_problem}

module _ (h : Plants) (i : IsPlants h) where
  json_read : json_at (hydro_text h) ≡ Ok (hydro_data h)
  unfolding hydro_text
  json_read = let p = (hydro_plain h).shallow in text_read (hydro_data h) (hydro_fair h i) (omega (arith, p))

  pub problem_read : problem_at (hydro_text h) ≡ Ok (validated_form h i)
  unfolding problem_at
  problem_read = rw (problem_parts_read h i (hydro_text h) json_read) (arranged_is (parts_form h i) (node_form h i) (form h i) (many h i) (lows h i) (highs h i) (is_chain h i))

  pub accepted : (s : Validated) × (problem_at (hydro_text h) ≡ Ok s) × (problem_of s ≡ problem_of_plants h)
  accepted = (validated_form h i, problem_read, same_problem h i)

  pub base_fits : IfOk (problem_at (hydro_text h)) (λ s. IsOk (based s))
  base_fits = subst (λ (r : Result Validated Refusal). IfOk r (λ s. IsOk (based s))) (sym problem_read) (ap is_ok (base_form h i).1)

-- the text that a description gives
made_of : (bytes text : List ℕ) → hydro_at bytes ≡ Ok text → (h : Plants) × (plants_at bytes ≡ Ok h) × IsPlants h × (hydro_text h ≡ text)
unfolding hydro_at
made_of bytes text e = then-Ok (plants_at bytes) _ text e (λ h is same. (h, is, plants_at-Ok bytes h is, Ok-is (hydro_text h) text same))

pub made_read : (bytes text : List ℕ) → hydro_at bytes ≡ Ok text → IsOk (problem_at text)
made_read bytes text e = let m = made_of bytes text e in subst (λ (t : List ℕ). IsOk (problem_at t)) m.3 (ap is_ok (problem_read m.0 m.2))

pub made_based : (bytes text : List ℕ) → hydro_at bytes ≡ Ok text → IfOk (problem_at text) (λ s. IsOk (based s))
made_based bytes text e = let m = made_of bytes text e in subst (λ (t : List ℕ). IfOk (problem_at t) (λ s. IsOk (based s))) m.3 (base_fits m.0 m.2)

-- the meaning of plants is a fact about the problem that their text gives
means_of : (bytes text : List ℕ) (h : Plants) (s : Validated) → IsPlants h → plants_at bytes ≡ Ok h → problem_at text ≡ Ok s → problem_of s ≡ problem_of_plants h → Means bytes text
means_of bytes text h s i described read same = record {
  plants = h;
  problem = s;
  described = described;
  read = read;
  workable = λ units plan. subst (λ (q : Problem). Workable h units plan ↔ Policy q units (plan_forest h units plan)) (sym same) (workable h units (short h i) plan);
  cost = λ units plan. subst (λ (q : Problem). plan_cost h units plan ≡ policy_cost q units (plan_forest h units plan)) (sym same) (sym (tree_of_cost h units plan i.some_stages));
  policy = λ units forest p. tree_of_plan h units (short h i) forest i.some_stages (subst (λ (q : Problem). Policy q units forest) same p);
}

pub made_means : (bytes text : List ℕ) → hydro_at bytes ≡ Ok text → Means bytes text
made_means bytes text e =
    let m = made_of bytes text e in
    let a = accepted m.0 m.2 in
    means_of bytes text m.0 a.0 m.2 m.1 (subst (λ (t : List ℕ). problem_at t ≡ Ok a.0) m.3 a.1) a.2

same_validated : (x y : Validated) → ◌≡◌ {A = Result Validated Refusal} (Ok x) (Ok y) → x ≡ y
same_validated x y e = cc

-- a bound on each policy is one on each workable plan
pub made_bound : (bytes text : List ℕ) (s : Validated) (b : ℤ) → hydro_at bytes ≡ Ok text → problem_at text ≡ Ok s → Under (problem_of s) b → UnderPlans bytes b
made_bound bytes text s b e read under = λ plants units plan described some works.
    let m = made_means bytes text e in
    let least : Fraction = record { up = b; under = S } in
    let same : m.plants ≡ plants = Ok-is m.plants plants (sym m.described ∙ described) in
    let this : m.problem ≡ s = same_validated m.problem s (sym m.read ∙ read) in
    let tree : Forest = plan_forest m.plants units plan in
    let policy : Policy (problem_of m.problem) units tree = (m.workable units plan).0 (subst (λ (h : Plants). Workable h units plan) (sym same) works) in
    let bounded : (p : Validated) → p ≡ s → Policy (problem_of p) units tree → least ≤ᶠ policy_cost (problem_of p) units tree
    = λ p is f. subst (λ (q : Validated). least ≤ᶠ policy_cost (problem_of q) units tree) (sym is) (under units tree some (subst (λ (q : Validated). Policy (problem_of q) units tree) is f)) in
    let cost : least ≤ᶠ plan_cost m.plants units plan = subst (λ (c : Fraction). least ≤ᶠ c) (sym (m.cost units plan)) (bounded m.problem this policy) in
    subst (λ (h : Plants). least ≤ᶠ plan_cost h units plan) same cost
