-- Values without floats whose parts are nested in few levels.
use Rattle.std.proofs.Common.{◌≡◌, ℕ, zero, suc, ◌+◌, ◌≤◌, ℤ, pos, negsuc, List, [], ◌∷◌, ◌++◌, map, Bool, true, false, cond, refl, arith}
use Rattle.std.proofs.lemmas.Bool.{or_parts}
use Rattle.std.specs.List.{flat_map}
use Rattle.serde_json.specs.Data.{Data, string, array, object, Members, no_members, member, depth, items_depth, members_depth}
use Rattle.serde_json.specs.View.{items_of}
use Rattle.serde_json.specs.Written.{has_float, items_have_float, members_have_float}
use Rattle.hydro_form.specs.Listed.{members_from, members_by, whole_data, integer}
use Rattle.hydro_form.specs.Stage as stage
use Rattle.hydro_form.specs.Nodes as nodes

-- no float, and at most so many levels
pub record Plain (levels : ℕ) (d : Data) : Type 0 where
  pub whole : has_float d ≡ false
  pub shallow : depth d ≤ levels

pub record PlainList (levels : ℕ) (ds : List Data) : Type 0 where
  pub whole : items_have_float (items_of ds) ≡ false
  pub shallow : items_depth (items_of ds) ≤ levels

pub record PlainMembers (levels : ℕ) (ms : Members) : Type 0 where
  pub whole : members_have_float ms ≡ false
  pub shallow : members_depth ms ≤ levels

pub deeper : (k l : ℕ) (d : Data) → k ≤ l → Plain k d → Plain l d
deeper k l d h p = record { whole = p.whole; shallow = omega arith }

pub plain_whole : (k n : ℕ) → Plain k (whole_data n)
plain_whole k n = record { whole = refl; shallow = omega arith }

pub plain_string : (k : ℕ) (s : List ℕ) → Plain k (string s)
plain_string k s = record { whole = refl; shallow = omega arith }

pub plain_integer : (k : ℕ) (z : ℤ) → Plain k (integer z)
plain_integer k (pos n) = record { whole = refl; shallow = omega arith }
plain_integer k (negsuc n) = record { whole = refl; shallow = omega arith }

pub none : (k : ℕ) → PlainMembers k no_members
none k = record { whole = refl; shallow = omega arith }

pub with_member : (k : ℕ) (name : List ℕ) (d : Data) (ms : Members) → Plain k d → PlainMembers k ms → PlainMembers k (member name d ms)
with_member k name d ms p q = record { whole = rw p.whole q.whole; shallow = omega arith }

pub plain_object : (k : ℕ) (ms : Members) → PlainMembers k ms → Plain (k + 1) (object ms)
plain_object k ms p = record { whole = p.whole; shallow = omega arith }

pub plain_array : (k : ℕ) (ds : List Data) → PlainList k ds → Plain (k + 1) (array (items_of ds))
plain_array k ds p = record { whole = p.whole; shallow = omega arith }

pub empty : (k : ℕ) → PlainList k []
empty k = record { whole = refl; shallow = omega arith }

pub with_item : (k : ℕ) (d : Data) (ds : List Data) → Plain k d → PlainList k ds → PlainList k (d ∷ ds)
with_item k d ds p q = record { whole = rw p.whole q.whole; shallow = omega arith }

pub appended : (k : ℕ) (ds es : List Data) → PlainList k ds → PlainList k es → PlainList k (ds ++ es)
appended k [] es p q = q
appended k (d ∷ ds) es p q =
    let h = or_parts (has_float d) (items_have_float (items_of ds)) p.whole in
    with_item k d (ds ++ es) (record { whole = h.0; shallow = omega arith }) (appended k ds es (record { whole = h.1; shallow = omega arith }) q)

pub mapped : {A : Type 0} (k : ℕ) (f : A → Data) → ((x : A) → Plain k (f x)) → (ns : List A) → PlainList k (map f ns)
mapped k f p [] = empty k
mapped k f p (n ∷ ns) = with_item k (f n) (map f ns) (p n) (mapped k f p ns)

pub flattened : {A : Type 0} (k : ℕ) (f : A → List Data) → ((x : A) → PlainList k (f x)) → (ns : List A) → PlainList k (flat_map f ns)
flattened k f p [] = empty k
flattened k f p (n ∷ ns) = appended k (f n) (flat_map f ns) (p n) (flattened k f p ns)

pub listed : (k : ℕ) (key : ℕ → List ℕ) (value : ℕ → Data) → ((j : ℕ) → Plain k (value j)) → (i n : ℕ) → PlainMembers k (members_from key value i n)
listed k key value p i zero = none k
listed k key value p i (suc n) = with_member k (key i) (value i) (members_from key value (suc i) n) (p i) (listed k key value p (suc i) n)

pub listed_by : {A : Type 0} (k : ℕ) (key : A → List ℕ) (value : A → Data) → ((x : A) → Plain k (value x)) → (xs : List A) → PlainMembers k (members_by key value xs)
listed_by k key value p [] = none k
listed_by k key value p (x ∷ xs) = with_member k (key x) (value x) (members_by key value xs) (p x) (listed_by k key value p xs)

pub either : (k : ℕ) (b : Bool) (ds : List Data) → PlainList k ds → PlainList k (cond b ds [])
either k true ds p = p
either k false ds p = empty k

pub either_members : (k : ℕ) (b : Bool) (ms : Members) → PlainMembers k ms → PlainMembers k (cond b ms no_members)
either_members k true ms p = p
either_members k false ms p = none k

-- ---- the parts of a subproblem

pub variable_plain : (name : List ℕ) → Plain 1 (stage.variable name)
unfolding stage.variable
variable_plain name = plain_object 0 _ (with_member 0 _ _ _ (plain_string 0 name) (none 0))

pub term_plain : (z : ℤ) (name : List ℕ) → Plain 1 (stage.term z name)
unfolding stage.term
term_plain z name = plain_object 0 _ (with_member 0 _ _ _ (plain_integer 0 z) (with_member 0 _ _ _ (plain_string 0 name) (none 0)))

pub affine_plain : (ts : List Data) → PlainList 1 ts → Plain 3 (stage.affine ts)
unfolding stage.affine
affine_plain ts p = plain_object 2 _ (with_member 2 _ _ _ (plain_whole 2 0) (with_member 2 _ _ _ (plain_array 1 ts p) (with_member 2 _ _ _ (plain_string 2 _) (none 2))))

pub row_plain : (value : ℕ) (ts : List Data) → PlainList 1 ts → Plain 4 (stage.row value ts)
unfolding stage.row stage.equal_to
row_plain value ts p =
    plain_object 3 _ (with_member 3 _ _ _ (affine_plain ts p) (with_member 3 _ _ _ (plain_object 2 _ (with_member 2 _ _ _ (plain_string 2 _) (with_member 2 _ _ _ (plain_whole 2 value) (none 2)))) (none 3)))

pub bound_plain : (name : List ℕ) (low high : ℤ) → Plain 4 (stage.variable_bound name low high)
unfolding stage.variable_bound stage.single stage.interval
bound_plain name low high =
    plain_object 3 _ (with_member 3 _ _ _ (plain_object 2 _ (with_member 2 _ _ _ (plain_string 2 name) (with_member 2 _ _ _ (plain_string 2 _) (none 2))))
    (with_member 3 _ _ _ (plain_object 2 _ (with_member 2 _ _ _ (plain_integer 2 low) (with_member 2 _ _ _ (plain_string 2 _) (with_member 2 _ _ _ (plain_integer 2 high) (none 2))))) (none 3)))

pub least_sum_plain : (ts : List Data) → PlainList 1 ts → Plain 4 (stage.least_sum ts)
unfolding stage.least_sum
least_sum_plain ts p = plain_object 3 _ (with_member 3 _ _ _ (affine_plain ts p) (with_member 3 _ _ _ (plain_string 3 _) (none 3)))

pub state_plain : (incoming outgoing : List ℕ) → Plain 1 (stage.state_between incoming outgoing)
unfolding stage.state_between
state_plain incoming outgoing = plain_object 0 _ (with_member 0 _ _ _ (plain_string 0 _) (with_member 0 _ _ _ (plain_string 0 _) (none 0)))

pub program_plain : (constraints : List Data) (objective : Data) (variables : List Data) → PlainList 4 constraints → Plain 4 objective → PlainList 1 variables → Plain 6 (stage.program_form constraints objective variables)
unfolding stage.program_form
program_plain constraints objective variables p q r =
    plain_object 5 _ (with_member 5 _ _ _ (plain_array 4 constraints p) (with_member 5 _ _ _ (deeper 4 5 objective (omega arith) q)
    (with_member 5 _ _ _ (deeper 2 5 (array (items_of variables)) (omega arith) (plain_array 1 variables r)) (none 5))))

pub subproblem_plain : (randoms : List Data) (states : Members) (program : Data) → PlainList 0 randoms → PlainMembers 1 states → Plain 6 program → Plain 7 (stage.subproblem_form randoms states program)
unfolding stage.subproblem_form
subproblem_plain randoms states program p q r =
    plain_object 6 _ (with_member 6 _ _ _ (deeper 1 6 (array (items_of randoms)) (omega arith) (plain_array 0 randoms p)) (with_member 6 _ _ _ (deeper 2 6 (object states) (omega arith) (plain_object 1 states q)) (with_member 6 _ _ _ r (none 6))))

-- ---- nodes, and the whole

pub realization_plain : (weight : ℕ) (support : Members) → PlainMembers 0 support → Plain 2 (nodes.realization_form weight support)
unfolding nodes.realization_form
realization_plain weight support p = plain_object 1 _ (with_member 1 _ _ _ (plain_whole 1 weight) (with_member 1 _ _ _ (plain_object 0 support p) (none 1)))

pub node_plain : (realizations : List Data) (successors : Members) → PlainList 2 realizations → PlainMembers 0 successors → Plain 4 (nodes.node_form realizations successors)
unfolding nodes.node_form
node_plain realizations successors p q =
    plain_object 3 _ (with_member 3 _ _ _ (plain_array 2 realizations p) (with_member 3 _ _ _ (plain_string 3 _) (with_member 3 _ _ _ (deeper 1 3 (object successors) (omega arith) (plain_object 0 successors q)) (none 3))))

pub root_plain : (initial successors : Members) → PlainMembers 0 initial → PlainMembers 0 successors → Plain 2 (nodes.root_of initial successors)
unfolding nodes.root_of
root_plain initial successors p q = plain_object 1 _ (with_member 1 _ _ _ (plain_object 0 initial p) (with_member 1 _ _ _ (plain_object 0 successors q) (none 1)))

version_plain : Plain 1 nodes.version
unfolding nodes.version
version_plain = plain_object 0 _ (with_member 0 _ _ _ (plain_whole 0 1) (with_member 0 _ _ _ (plain_whole 0 0) (none 0)))

pub problem_plain : (all : Members) (root subproblem : Data) → PlainMembers 4 all → Plain 2 root → Plain 7 subproblem → Plain 9 (nodes.problem_form all root subproblem)
unfolding nodes.problem_form
problem_plain all root subproblem p q r =
    plain_object 8 _ (with_member 8 _ _ _ (deeper 5 8 (object all) (omega arith) (plain_object 4 all p)) (with_member 8 _ _ _ (deeper 2 8 root (omega arith) q)
    (with_member 8 _ _ _ (plain_object 7 _ (with_member 7 _ _ _ r (none 7))) (with_member 8 _ _ _ (deeper 1 8 nodes.version (omega arith) version_plain) (none 8)))))
