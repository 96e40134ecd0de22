-- Problems that the reader accepts keep the limits.
use Rattle.std.proofs.Common.{◌≡◌, ℕ, suc, List, [], length, true, ◌&&◌, nat_le, Ok, refl, sym, subst, ◌∙◌, arith}
use Rattle.std.specs.List.{list_all}
use Rattle.serde_json.specs.Data.{Data, Items, Members}
use Rattle.serde_json.specs.Events.{items_len, members_len}
use Rattle.base_num.proofs.Tests.{and_first, and_second}
use Rattle.problem.specs.Limits.{state_fits, subproblem_fits, names_rise, node_fits, root_fits, scenario_fits, scenarios_fit, parts_are_lawful}
use Rattle.problem.specs.declared.parts.Moment.{Moment}
use Rattle.problem.specs.declared.parts.ProblemParts.{ProblemParts}
use Rattle.problem.specs.declared.parts.State.{State}
use Rattle.problem.specs.declared.parts.Subproblem.{Subproblem}
use Rattle.read_json.specs.Fields.{whole, keys_of, json_at, present_at, object_at}
use Rattle.read_json.specs.Limits.{items_at}
use Rattle.read_json.proofs.Accepted.{then-Ok, Ok-is, test-Ok, list_all-push, AllMembers-any, walk_members-Ok}
use Rattle.read_json.proofs.InOrder.{length-keys_of}
use Rattle.read_json.proofs.Rising.{Rising, RisingMembers, json_at-rising, get-rising, present_at-rising, object_at-rising, keys-sorted}
use Rattle.read_stage.specs.Subproblem.{read_subproblem_at}
use Rattle.read_stage.proofs.Fits.{read_subproblem_at-fits}
use Rattle.read_file.specs.declared.subproblems.SubproblemTable.{SubproblemTable}
use Rattle.read_file.specs.Nodes.{nodes_at}
use Rattle.read_file.specs.Read.{graph_at, problem_parts_of}
use Rattle.read_file.specs.Root.{root_at}
use Rattle.read_file.specs.Scenarios.{scenarios_at}
use Rattle.read_file.specs.Subproblems.{another_at, listed_subproblems_at, subproblems_at}
use Rattle.read_file.specs.Tables.{Tables, table_at, sizes_at, tables_at}
use Rattle.read_file.specs.Version.{version_at}
use Rattle.read_file.proofs.SuccessorsFit.{one_more}
use Rattle.read_file.proofs.RootFits.{RootFits, root_at-fits}
use Rattle.read_file.proofs.NodesFit.{node_among, nodes_at-fit, nodes_at-rise}
use Rattle.read_file.proofs.ScenariosFit.{scenarios_at-fit}

-- ---- subproblems

-- so many subproblems of a problem with so many states
record SubproblemsFit (states count : ℕ) (subs : List Subproblem) : Type 0 where
  many : length subs ≡ count
  fit : list_all (subproblem_fits states) subs ≡ true

another_at-fits : (states : List State) (found next : List Subproblem) (p : ℕ) (k : List ℕ) (d : Data) → another_at states found p k d ≡ Ok next → SubproblemsFit (length states) p found → SubproblemsFit (length states) (suc p) next
unfolding another_at
another_at-fits states found next p k d e so_far =
    then-Ok (read_subproblem_at _ _ _ _) _ next e (λ sub is e.
    subst (SubproblemsFit (length states) (suc p)) (Ok-is _ next e) (record {
      many = one_more found sub p so_far.many;
      fit = list_all-push (subproblem_fits (length states)) found sub so_far.fit (read_subproblem_at-fits states p k d sub is);
    }))

-- a subproblem for each name
record SubproblemTableFits (states count : ℕ) (d : SubproblemTable) : Type 0 where
  paired : length d.names ≡ length d.subs
  subs : SubproblemsFit states count d.subs

subproblems_at-fit : (states : List State) (ms : Members) (subproblems : SubproblemTable) → subproblems_at states ms ≡ Ok subproblems → SubproblemTableFits (length states) (members_len ms) subproblems
unfolding subproblems_at listed_subproblems_at
subproblems_at-fit states ms subproblems e =
    then-Ok (listed_subproblems_at _ _) _ subproblems e (λ subs is e.
    let s = walk_members-Ok (SubproblemsFit (length states)) (λ k d. Unit {0}) (another_at states) (λ found next p k d any e so_far. another_at-fits states found next p k d e so_far)
    ms [] subs 0 (members_len ms) (omega arith) (AllMembers-any ms) is (record { many = refl; fit = refl }) in
    subst (SubproblemTableFits (length states) (members_len ms)) (Ok-is _ subproblems e) (record { paired = length-keys_of ms ∙ sym s.many; subs = s }))

-- ---- tables

record TablesFit (t : Tables) : Type 0 where
  root : RisingMembers t.root
  nodes : RisingMembers t.nodes
  few_nodes : nat_le (members_len t.nodes) 1000 ≡ true
  few_subproblems : nat_le (members_len t.subproblems) 1000 ≡ true
  few_scenarios : nat_le (items_len t.scenarios) 1000 ≡ true

pub table_at-rising : (k : List ℕ) (d : Data) (ms : Members) → Rising d → table_at k d ≡ Ok ms → RisingMembers ms
unfolding table_at
table_at-rising k d ms rising e = then-Ok (present_at _ _) _ ms e (λ inner is e. object_at-rising whole inner ms (present_at-rising whole _ inner (get-rising k d rising) is) e)

sizes_at-few : (nodes subproblems : Members) (scenarios : Items) (x : Unit {0}) → sizes_at nodes subproblems scenarios ≡ Ok x
    → (nat_le (members_len nodes) 1000 ≡ true) × (nat_le (members_len subproblems) 1000 ≡ true) × (nat_le (items_len scenarios) 1000 ≡ true)
unfolding sizes_at
sizes_at-few nodes subproblems scenarios x e =
    let a = nat_le (members_len nodes) 1000 in
    let b = nat_le (members_len subproblems) 1000 in
    let c = nat_le (items_len scenarios) 1000 in
    let all = (test-Ok (a && (b && c)) _ _ whole x e).0 in
    let tail = and_second a (b && c) all in
    (and_first a (b && c) all, and_first b c tail, and_second b c tail)

tables_at-fit : (d : Data) (t : Tables) → Rising d → tables_at d ≡ Ok t → TablesFit t
unfolding tables_at
tables_at-fit d t rising e =
    then-Ok (object_at _ _) _ t e (λ all is e.
    then-Ok (version_at _) _ t e (λ version is e.
    then-Ok (table_at _ _) _ t e (λ root is_root e.
    then-Ok (table_at _ _) _ t e (λ nodes is_nodes e.
    then-Ok (table_at _ _) _ t e (λ subproblems is e.
    then-Ok (items_at _ _) _ t e (λ scenarios is e.
    then-Ok (sizes_at _ _ _) _ t e (λ sizes is_sizes e.
    let few = sizes_at-few nodes subproblems scenarios sizes is_sizes in
    subst TablesFit (Ok-is _ t e) (record { root = table_at-rising _ d root rising is_root; nodes = table_at-rising _ d nodes rising is_nodes; few_nodes = few.0; few_subproblems = few.1; few_scenarios = few.2 }))))))))

-- ---- the whole

-- the parts of a problem whose scenarios were not read yet, where so many names stand for the nodes
record GraphFits (names : List (List ℕ)) (parts : ProblemParts) : Type 0 where
  as_many : length names ≡ length parts.nodes
  rise : names_rise parts ≡ true
  few_states : nat_le (length parts.states) 50 ≡ true
  few_nodes : nat_le (length parts.nodes) 1000 ≡ true
  few_subs : nat_le (length parts.subs) 1000 ≡ true
  states : list_all state_fits parts.states ≡ true
  subs : list_all (subproblem_fits (length parts.states)) parts.subs ≡ true
  nodes : list_all (node_fits parts) parts.nodes ≡ true
  root : root_fits parts ≡ true

graph_at-fits : (t : Tables) (parts : ProblemParts) → TablesFit t → graph_at (keys_of t.nodes) t ≡ Ok parts → GraphFits (keys_of t.nodes) parts
unfolding graph_at names_rise
graph_at-fits t parts h e =
    then-Ok (root_at _ _) _ parts e (λ start is_start e.
    then-Ok (subproblems_at _ _) _ parts e (λ subproblems is_subproblems e.
    then-Ok (nodes_at _ _ _) _ parts e (λ nodes is_nodes e.
    let names = keys_of t.nodes in
    let count = length-keys_of t.nodes in
    let sorted = keys-sorted t.nodes h.nodes in
    let s = root_at-fits names t.root start sorted h.root is_start in
    let p = subproblems_at-fit start.states t.subproblems subproblems is_subproblems in
    let n = nodes_at-fit names subproblems t.nodes nodes p.paired sorted h.nodes is_nodes in
    let as_many : length names ≡ length nodes = count ∙ sym n.many in
    let r : RootFits (length nodes) start = subst (λ c. RootFits c start) as_many s in
    subst (GraphFits names) (Ok-is _ parts e) (record {
      as_many = as_many;
      rise = rw (r.states_rise, nodes_at-rise names subproblems t.nodes nodes h.nodes is_nodes) refl;
      few_states = r.few_states;
      few_nodes = rw n.many h.few_nodes;
      few_subs = rw p.subs.many h.few_subproblems;
      states = r.states;
      subs = p.subs.fit;
      nodes = subst (λ c. list_all (node_among subproblems.subs c) nodes ≡ true) as_many n.fit;
      root = rw (r.rising, r.some, r.few, r.paired, r.known, r.weighty, r.total) refl;
    }))))

whole-fits : (names : List (List ℕ)) (parts : ProblemParts) (scenarios : List (List Moment)) → GraphFits names parts → nat_le (length scenarios) 1000 ≡ true → list_all (scenario_fits (record parts { scenarios = scenarios })) scenarios ≡ true
    → parts_are_lawful (record parts { scenarios = scenarios }) ≡ true
unfolding names_rise scenarios_fit parts_are_lawful
whole-fits names parts scenarios g few fit = rw (g.rise, few, fit, g.few_states, g.few_nodes, g.few_subs, g.states, g.subs, g.nodes, g.root) refl

-- a problem that the reader accepts keeps the limits
pub parts_are_lawful-read : (bytes : List ℕ) (parts : ProblemParts) → problem_parts_of bytes ≡ Ok parts → parts_are_lawful parts ≡ true
unfolding problem_parts_of
parts_are_lawful-read bytes parts e =
    then-Ok (json_at _) _ parts e (λ d is_d e.
    then-Ok (tables_at _) _ parts e (λ t is_t e.
    then-Ok (graph_at _ _) _ parts e (λ graph is_graph e.
    then-Ok (scenarios_at _ _ _) _ parts e (λ scenarios is_scenarios e.
    let tables = tables_at-fit d t (json_at-rising bytes d is_d) is_t in
    let g = graph_at-fits t graph tables is_graph in
    let s = scenarios_at-fit (keys_of t.nodes) graph t.scenarios scenarios g.as_many g.nodes tables.few_scenarios is_scenarios in
    subst (λ parts. parts_are_lawful parts ≡ true) (Ok-is _ parts e) (whole-fits (keys_of t.nodes) graph scenarios g s.0 s.1)))))
