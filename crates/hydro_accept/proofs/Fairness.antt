-- The text of a hydro problem is fair: whole numbers, texts of ASCII, and keys that rise.
use Rattle.std.proofs.Common.{◌≡◌, ℕ, ◌^◌, ◌<◌, ℤ, pos, negsuc, List, [], ◌∷◌, codes, true, IsUtf8, refl, arith}
use Rattle.std.specs.List.{AllByRecursion}
use Rattle.json.proofs.Printed.Utf8.{IsUtf8-are_ascii, are_ascii}
use Rattle.serde_json.specs.Data.{Data, Members}
use Rattle.serde_json.specs.View.{items_of}
use Rattle.hydro_form.specs.Listed.{members_by, whole_data, integer}
use Rattle.hydro_form.specs.Stage as forms
use Rattle.hydro_form.specs.Nodes as nodes
use Rattle.hydro_accept.specs.Fair.{AllAbove, Fair, FairItems, FairMembers}
use Rattle.hydro_accept.proofs.Functions.{IsSmall}
use Rattle.hydro_accept.proofs.Pairs.{Pairwise, Before}

-- ---- values

pub whole_fair : (n : ℕ) → n < 2 ^ 64 → Fair (whole_data n)
whole_fair n h = h

pub integer_fair : (z : ℤ) → IsSmall z → Fair (integer z)
integer_fair (pos n) h = omega (arith, h)
integer_fair (negsuc n) h = omega (arith, h)

pub items_fair : (ds : List Data) → AllByRecursion Fair ds → FairItems (items_of ds)
items_fair [] a = tt
items_fair (d ∷ ds) a = (a.0, items_fair ds a.1)

pub members_fair : {A : Type 0} (key : A → List ℕ) (value : A → Data) (xs : List A) → Pairwise (Before key) xs → AllByRecursion (λ x. IsUtf8 (key x) × Fair (value x)) xs → FairMembers (members_by key value xs)
members_fair key value [] p a = tt
members_fair {A} key value (x ∷ xs) p a = (a.0.0, above xs p.0, a.0.1, members_fair key value xs p.1 a.1)
  where
    above : (ys : List A) → AllByRecursion (Before key x) ys → AllAbove (key x) (members_by key value ys)
    above [] b = tt
    above (y ∷ ys) b = (b.0, above ys b.1)

-- a literal
lit : (s : List ℕ) → are_ascii s ≡ true → IsUtf8 s
lit s e = IsUtf8-are_ascii s e

-- ---- forms

pub variable_fair : (name : List ℕ) → IsUtf8 name → Fair (forms.variable name)
unfolding forms.variable
variable_fair name u = (lit (codes "name") refl, tt, u, tt)

pub term_fair : (z : ℤ) (name : List ℕ) → IsSmall z → IsUtf8 name → Fair (forms.term z name)
unfolding forms.term
term_fair z name s u = (lit (codes "coefficient") refl, (refl, tt), integer_fair z s, (lit (codes "variable") refl, tt, u, tt))

affine_fair : (ts : List Data) → AllByRecursion Fair ts → Fair (forms.affine ts)
unfolding forms.affine
affine_fair ts a = (lit (codes "constant") refl, (refl, (refl, tt)), whole_fair 0 (omega arith), (lit (codes "terms") refl, (refl, tt), items_fair ts a, (lit (codes "type") refl, tt, lit (codes "ScalarAffineFunction") refl, tt)))

pub row_fair : (ts : List Data) → AllByRecursion Fair ts → Fair (forms.row 0 ts)
unfolding forms.row forms.equal_to
row_fair ts a = (lit (codes "function") refl, (refl, tt), affine_fair ts a, (lit (codes "set") refl, tt, (lit (codes "type") refl, (refl, tt), lit (codes "EqualTo") refl, (lit (codes "value") refl, tt, whole_fair 0 (omega arith), tt)), tt))

pub bound_fair : (name : List ℕ) (low high : ℤ) → IsUtf8 name → IsSmall low → IsSmall high → Fair (forms.variable_bound name low high)
unfolding forms.variable_bound forms.single forms.interval
bound_fair name low high u l g = (
  lit (codes "function") refl,
  (refl, tt),
  (lit (codes "name") refl, (refl, tt), u, (lit (codes "type") refl, tt, lit (codes "Variable") refl, tt)),
  (lit (codes "set") refl, tt, (lit (codes "lower") refl, (refl, (refl, tt)), integer_fair low l, (lit (codes "type") refl, (refl, tt), lit (codes "Interval") refl, (lit (codes "upper") refl, tt, integer_fair high g, tt))), tt),
)

pub least_sum_fair : (ts : List Data) → AllByRecursion Fair ts → Fair (forms.least_sum ts)
unfolding forms.least_sum
least_sum_fair ts a = (lit (codes "function") refl, (refl, tt), affine_fair ts a, (lit (codes "sense") refl, tt, lit (codes "min") refl, tt))

pub state_fair : (incoming outgoing : List ℕ) → IsUtf8 incoming → IsUtf8 outgoing → Fair (forms.state_between incoming outgoing)
unfolding forms.state_between
state_fair incoming outgoing u w = (lit (codes "in") refl, (refl, tt), u, (lit (codes "out") refl, tt, w, tt))

pub program_fair : (constraints : List Data) (objective : Data) (variables : List Data) → AllByRecursion Fair constraints → Fair objective → AllByRecursion Fair variables → Fair (forms.program_form constraints objective variables)
unfolding forms.program_form
program_fair constraints objective variables c o v = (lit (codes "constraints") refl, (refl, (refl, tt)), items_fair constraints c, (lit (codes "objective") refl, (refl, tt), o, (lit (codes "variables") refl, tt, items_fair variables v, tt)))

pub subproblem_fair : (randoms : List Data) (states : Members) (program : Data) → AllByRecursion Fair randoms → FairMembers states → Fair program → Fair (forms.subproblem_form randoms states program)
unfolding forms.subproblem_form
subproblem_fair randoms states program r s p = (lit (codes "random_variables") refl, (refl, (refl, tt)), items_fair randoms r, (lit (codes "state_variables") refl, (refl, tt), s, (lit (codes "subproblem") refl, tt, p, tt)))

pub realization_fair : (weight : ℕ) (support : Members) → weight < 2 ^ 64 → FairMembers support → Fair (nodes.realization_form weight support)
unfolding nodes.realization_form
realization_fair weight support w s = (lit (codes "probability") refl, (refl, tt), whole_fair weight w, (lit (codes "support") refl, tt, s, tt))

pub node_fair : (realizations : List Data) (successors : Members) → AllByRecursion Fair realizations → FairMembers successors → Fair (nodes.node_form realizations successors)
unfolding nodes.node_form
node_fair realizations successors r s = (lit (codes "realizations") refl, (refl, (refl, tt)), items_fair realizations r, (lit (codes "subproblem") refl, (refl, tt), lit (codes "p") refl, (lit (codes "successors") refl, tt, s, tt)))

pub root_fair : (initial successors : Members) → FairMembers initial → FairMembers successors → Fair (nodes.root_of initial successors)
unfolding nodes.root_of
root_fair initial successors i s = (lit (codes "state_variables") refl, (refl, tt), i, (lit (codes "successors") refl, tt, s, tt))

version_fair : Fair nodes.version
unfolding nodes.version
version_fair = (lit (codes "major") refl, (refl, tt), whole_fair 1 (omega arith), (lit (codes "minor") refl, tt, whole_fair 0 (omega arith), tt))

pub problem_fair : (all : Members) (root subproblem : Data) → FairMembers all → Fair root → Fair subproblem → Fair (nodes.problem_form all root subproblem)
unfolding nodes.problem_form
problem_fair all root subproblem a r s = (
  lit (codes "nodes") refl,
  (refl, (refl, (refl, tt))),
  a,
  (
    lit (codes "root") refl,
    (refl, (refl, tt)),
    r,
    (
      lit (codes "subproblems") refl,
      (refl, tt),
      (lit (codes "p") refl, tt, s, tt),
      (lit (codes "version") refl, tt, version_fair, tt),
    ),
  ),
)
