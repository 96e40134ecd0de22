-- A document that the reader accepts is a file, and says by names what the reader gives by numbers.
use Rattle.std.proofs.Common.{◌≡◌, ℕ, pos, List, map, codes, true, Option, Some, None, option_map, option_and_then, IsSomeAnd, Ok, slice_get, refl, sym, ap, subst, ◌∙◌}
use Rattle.std.specs.List.{AllZip}
use Rattle.std.specs.Str.{is_utf8}
use Rattle.std.proofs.lemmas.Bool.{eqb-true}
use Rattle.std.proofs.lemmas.Option.{same_Some, slice_get-map}
use Rattle.serde_json.specs.Data.{unsigned, negative, float, Data, null, boolean, number, string, array, object, Members, no_members}
use Rattle.serde_json.specs.Find.{get, get_member, as_number, as_u64, as_object}
use Rattle.serde_json.specs.Read.{read}
use Rattle.problem.specs.declared.parts.Moment.{Moment}
use Rattle.problem.specs.declared.parts.Node as nodes
use Rattle.problem.specs.declared.parts.ProblemParts.{ProblemParts}
use Rattle.problem.specs.declared.parts.State.{State}
use Rattle.problem.specs.declared.refusal.RefusalKind.TheVariants as kinds
use Rattle.read_json.specs.Fields as fields
use Rattle.read_json.specs.Fields.{keys_of, json_at, json_or, present_at, object_at}
use Rattle.read_json.specs.Limits.{items_at}
use Rattle.read_json.proofs.Accepted.{then-Ok, Ok-is, test-Ok}
use Rattle.read_json.proofs.Rising.{Rising, RisingMembers, json_at-rising}
use Rattle.read_profile.specs.File.{Name, FileSuccessor, FileNode, File, ◌>>=◌, under, or_absent, whole_number, each_member, file_stage_of, file_node_of, initial_of, file_of, file_at}
use Rattle.read_stage.proofs.FileSays.{present-says, object-says}
use Rattle.read_file.specs.declared.root.Root.{Root}
use Rattle.read_file.specs.declared.subproblems.SubproblemTable.{SubproblemTable}
use Rattle.read_file.specs.Version.{is_one, major_of, version_at}
use Rattle.read_file.specs.Tables.{Tables, table_at, sizes_at, tables_at}
use Rattle.read_file.specs.Root.{root_at}
use Rattle.read_file.specs.Subproblems.{subproblems_at}
use Rattle.read_file.specs.Nodes.{nodes_at}
use Rattle.read_file.specs.Scenarios.{scenarios_at}
use Rattle.read_file.specs.Read.{graph_at, problem_parts_of}
use Rattle.read_file.specs.Said.{Together, SuccessorSaid, NodeSaid, FileSaid}
use Rattle.read_file.proofs.ReadFits.{table_at-rising}
use Rattle.read_file.proofs.NodesFit.{nodes_at-names}
use Rattle.read_file.proofs.FileFound.{some-value, all_zip-weaker, beside, get-object, each-keys, found-at}
use Rattle.read_file.proofs.FileRoot.{RootSaid, root-says}
use Rattle.read_file.proofs.FileNodes.{subproblems-say, NodeSays, nodes-say}

-- ---- version

one-says : (o : Option Data) → is_one (option_and_then (λ m. option_and_then as_u64 (as_number m)) o) ≡ true → (o >>= whole_number) ≡ Some (pos 1)
one-says None e = cc
one-says (Some null) e = cc
one-says (Some (boolean b)) e = cc
one-says (Some (number (unsigned n))) e = ap (λ n. Some (pos n)) (eqb-true n 1 e)
one-says (Some (number (negative z))) e = cc
one-says (Some (number (float x))) e = cc
one-says (Some (string s)) e = cc
one-says (Some (array ds)) e = cc
one-says (Some (object ms)) e = cc

major-says : (o : Option Data) → is_one (option_and_then (λ m. option_and_then as_u64 (as_number m)) (option_and_then (get (codes "major")) o)) ≡ true → (o >>= under (codes "major") whole_number) ≡ Some (pos 1)
major-says None e = cc
major-says (Some d) e = one-says (get (codes "major") d) e

version-says : (d : Data) (x : Unit {0}) → version_at d ≡ Ok x → under (codes "version") (under (codes "major") whole_number) d ≡ Some (pos 1)
unfolding version_at
version-says d x e = major-says (get (codes "version") d) (test-Ok (is_one (major_of d)) (Ok tt) kinds.Version fields.whole x e).0

-- ---- tables

-- a table under a key
record TableSaid (key : Name) (d : Data) (ms : Members) : Type 0 where
  inner : Data
  there : get key d ≡ Some inner
  members : as_object inner ≡ Some ms
  rising : RisingMembers ms

table-says : (key : Name) (d : Data) (ms : Members) → Rising d → table_at key d ≡ Ok ms → TableSaid key d ms
unfolding table_at
table-says key d ms rising e =
    then-Ok (present_at _ _) _ ms e (λ inner is tail.
    record { inner = inner; there = present-says fields.whole (get key d) inner is; members = object-says fields.whole inner ms tail; rising = table_at-rising key d ms rising e })

-- the member of a table under a name
table-under : {B : Type 0} (key : Name) (d : Data) (ms : Members) → TableSaid key d ms → (k : Name) (f : Data → Option B) → under key (under k f) d ≡ (get_member k ms >>= f)
table-under key d ms t k f = ap (λ o. o >>= under k f) t.there ∙ ap (λ o. o >>= f) (get-object k t.inner ms t.members)

-- the version is 1, and the tables stand under their keys
record TablesSaid (d : Data) (t : Tables) : Type 0 where
  version : under (codes "version") (under (codes "major") whole_number) d ≡ Some (pos 1)
  root : TableSaid (codes "root") d t.root
  nodes : TableSaid (codes "nodes") d t.nodes
  subproblems : TableSaid (codes "subproblems") d t.subproblems

tables-say : (d : Data) (t : Tables) → Rising d → tables_at d ≡ Ok t → TablesSaid d t
unfolding tables_at
tables-say d t rising e =
    then-Ok (object_at _ _) _ t e (λ all is e.
    then-Ok (version_at _) _ t e (λ version is_version e.
    then-Ok (table_at _ _) _ t e (λ root is_root e.
    then-Ok (table_at _ _) _ t e (λ nodes is_nodes e.
    then-Ok (table_at _ _) _ t e (λ subproblems is_subproblems e.
    then-Ok (items_at _ _) _ t e (λ scenarios is e.
    then-Ok (sizes_at _ _ _) _ t e (λ sizes is e.
    subst (TablesSaid d) (Ok-is _ t e) (record {
      version = version-says d version is_version;
      root = table-says (codes "root") d root rising is_root;
      nodes = table-says (codes "nodes") d nodes rising is_nodes;
      subproblems = table-says (codes "subproblems") d subproblems rising is_subproblems;
    }))))))))

-- ---- the whole

-- the names of the nodes of a problem
names_in : List nodes.Node → List Name
names_in ns = map (λ (n : nodes.Node). n.name) ns

-- the parts of a problem
whole_of : Root → SubproblemTable → List nodes.Node → List (List Moment) → ProblemParts
whole_of start table ns scenarios = record { states = start.states; root = start.nodes; root_weights = start.weights; nodes = ns; subs = table.subs; scenarios = scenarios }

-- among these parts
node-whole_number : (start : Root) (table : SubproblemTable) (ns : List nodes.Node) (scenarios : List (List Moment)) (names : List Name) (n : nodes.Node) (k : FileNode) → names ≡ names_in ns
    → NodeSays (map (λ (q : State). q.name) start.states) names table.subs n k → NodeSaid (whole_of start table ns scenarios) n k
unfolding names_in whole_of
node-whole_number start table ns scenarios names n k same says = record {
  stage = says.stage;
  realizations = says.realizations;
  successors = subst (λ ns. Together (SuccessorSaid ns) k.successors n.successors n.successor_weights) same says.successors;
  stop = says.stop;
}

module _ (d : Data) (t : Tables) (tables : TablesSaid d t) where
  -- a node by its number and by its name
  node-said : (parts : ProblemParts) (m : ℕ) (n : nodes.Node) (xs : List FileNode) → keys_of t.nodes ≡ names_in parts.nodes → each_member (λ k x. file_node_of d x) t.nodes ≡ Some xs
      → AllZip (NodeSaid parts) parts.nodes xs → slice_get parts.nodes m ≡ Some n → IsSomeAnd (under (codes "nodes") (under n.name (file_node_of d)) d) (NodeSaid parts n)
  unfolding names_in
  node-said parts m n xs names said all is =
      let key : slice_get (keys_of t.nodes) m ≡ Some n.name = ap (λ ks. slice_get ks m) names ∙ slice_get-map (λ (n : nodes.Node). n.name) parts.nodes m ∙ ap (option_map (λ (n : nodes.Node). n.name)) is in
      let one = beside (NodeSaid parts) parts.nodes xs m n all is in
      let found = found-at (λ k x. file_node_of d x) t.nodes xs n.name m tables.nodes.rising said key in
      let same : found.0 ≡ one.0 = same_Some found.0 one.0 (sym found.1 ∙ one.1) in
      some-value _ (NodeSaid parts n) one.0 (table-under (codes "nodes") d t.nodes tables.nodes n.name (file_node_of d) ∙ found.2 ∙ ap Some same) one.2

  -- the file, where these are the states and the root's successors
  file_from : Members → List FileSuccessor → File
  file_from states successors = record {
    states = keys_of states;
    initial = λ s. under (codes "state_variables") (under s initial_of) tables.root.inner;
    root = successors;
    names = keys_of t.nodes;
    nodes = λ k. under (codes "nodes") (under k (file_node_of d)) d;
  }

  file-is : (start : Root) (r : RootSaid (keys_of t.nodes) tables.root.inner start) → file_of d ≡ Some (file_from r.states r.successors)
  unfolding file_of file_from
  file-is start r =
      let states : (or_absent no_members as_object (get (codes "state_variables") tables.root.inner) >>= each_member (λ k x. Some k)) ≡ Some (keys_of r.states) = rw r.there (each-keys r.states) in
      let names : (under (codes "nodes") as_object d >>= each_member (λ k x. Some k)) ≡ Some (keys_of t.nodes) = rw (tables.nodes.there, tables.nodes.members) (each-keys t.nodes) in
      rw (tables.root.there, states, r.said, names) refl

  parts-say : (start : Root) (table : SubproblemTable) (ns : List nodes.Node) (scenarios : List (List Moment))
      → root_at (keys_of t.nodes) t.root ≡ Ok start → subproblems_at start.states t.subproblems ≡ Ok table → nodes_at (keys_of t.nodes) table t.nodes ≡ Ok ns
      → IsSomeAnd (file_of d) (FileSaid (whole_of start table ns scenarios))
  unfolding names_in whole_of file_from
  parts-say start table ns scenarios is_start is_table is_nodes =
      let keys = keys_of t.nodes in
      let parts = whole_of start table ns scenarios in
      let r = root-says keys tables.root.inner t.root start tables.root.members tables.root.rising is_start in
      let stages = subproblems-say start.states t.subproblems table is_table in
      let names : keys ≡ names_in ns = sym (nodes_at-names keys table t.nodes ns is_nodes) in
      let xs = nodes-say d (map (λ (q : State). q.name) start.states) keys t.subproblems table tables.subproblems.rising stages
      (λ k. table-under (codes "subproblems") d t.subproblems tables.subproblems k file_stage_of) t.nodes ns is_nodes in
      let all = all_zip-weaker (NodeSays (map (λ (q : State). q.name) start.states) keys table.subs) (NodeSaid parts) ns xs.0 (λ n k says. node-whole_number start table ns scenarios keys n k names says) xs.2 in
      some-value (file_of d) (FileSaid parts) (file_from r.states r.successors) (file-is start r) (record {
        states = r.keys;
        names = names;
        initial = r.initial;
        root = subst (λ names. Together (SuccessorSaid names) r.successors start.nodes start.weights) names r.together;
        nodes = λ m n is. node-said parts m n xs.0 names xs.1 all is;
      })

  graph-says : (parts : ProblemParts) (scenarios : List (List Moment)) → graph_at (keys_of t.nodes) t ≡ Ok parts → IsSomeAnd (file_of d) (FileSaid (record parts { scenarios = scenarios }))
  unfolding graph_at whole_of
  graph-says parts scenarios e =
      then-Ok (root_at _ _) _ parts e (λ start is_start e.
      then-Ok (subproblems_at _ _) _ parts e (λ table is_table e.
      then-Ok (nodes_at _ _ _) _ parts e (λ ns is_nodes e.
      subst (λ parts. IsSomeAnd (file_of d) (FileSaid (record parts { scenarios = scenarios }))) (Ok-is _ parts e) (parts-say start table ns scenarios is_start is_table is_nodes))))

-- ---- from the bytes

read-says : (o : Option Data) (d : Data) → json_or o ≡ Ok d → o ≡ Some d
read-says None d e = cc
read-says (Some x) d e = ap Some (Ok-is x d e)

json-says : (bytes : List ℕ) (d : Data) → json_at bytes ≡ Ok d → read bytes ≡ Some d
unfolding json_at
json-says bytes d e = read-says (read bytes) d (test-Ok (is_utf8 bytes) (json_or (read bytes)) kinds.NotJson fields.whole d e).1

-- bytes that the reader accepts are a file that says its parts by names
pub file-says : (bytes : List ℕ) (parts : ProblemParts) → problem_parts_of bytes ≡ Ok parts → IsSomeAnd (file_at bytes) (FileSaid parts)
unfolding problem_parts_of file_at
file-says bytes parts e =
    then-Ok (json_at _) _ parts e (λ d is_d e.
    then-Ok (tables_at _) _ parts e (λ t is_t e.
    then-Ok (graph_at _ _) _ parts e (λ graph is_graph e.
    then-Ok (scenarios_at _ _ _) _ parts e (λ scenarios is_scenarios e.
    let tables = tables-say d t (json_at-rising bytes d is_d) is_t in
    let file : file_at bytes ≡ file_of d = rw (json-says bytes d is_d, tables.version) refl in
    subst (λ parts. IsSomeAnd (file_at bytes) (FileSaid parts)) (Ok-is _ parts e) (subst (λ o. IsSomeAnd o (FileSaid (record graph { scenarios = scenarios }))) (sym file) (graph-says d t tables graph scenarios is_graph))))))
