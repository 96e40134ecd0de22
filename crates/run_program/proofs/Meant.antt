-- The lines that were written of a problem claim what holds of its file.
use Rattle.std.proofs.Common.{◌≡◌, ◌↔◌, ℕ, ℤ, List, get_or, slice_get, Option, Some, None, IfSome, IsSome, IsSomeAnd, IsOk, Result, Ok, Err, refl, sym, ap, subst, ◌∙◌}
use Rattle.std.proofs.lemmas.List.Elements.{All-weaker}
use Rattle.std.proofs.lemmas.Option.{slice_get-get_or}
use Rattle.problem.specs.Validated.{Validated}
use Rattle.read_json.specs.Steps.{◌>>=◌}
use Rattle.read_file.specs.Problem.{problem_at}
use Rattle.theory.specs.declared.cut.Cut.{Cut}
use Rattle.theory.specs.Fraction.{Fraction, ◌≤ᶠ◌}
use Rattle.theory.specs.Problem.{S}
use Rattle.theory.specs.Tree.{Forest, Policy}
use Rattle.theory.specs.Cost.{policy_cost}
use Rattle.theory.specs.Pools.{Holds}
use Rattle.theory.specs.Bound.{Under}
use Rattle.theory.specs.View.{problem_of}
use Rattle.read_profile.specs.File.{Name, File, file_at}
use Rattle.read_meaning.specs.Meaning as meaning
use Rattle.read_meaning.specs.Meaning.{Plans, IsPolicy, IsBound, IsCut, IsUpper}
use Rattle.read_meaning.specs.Said.{SameNode, forest_of}
use Rattle.read_meaning.proofs.Same.{bound_same, cost_same, cut_same, every_same, nodes_same, policy_same}
use Rattle.hydro_make.specs.Text.{hydro_at}
use Rattle.hydro_make.specs.Trees.{plan_of, plan_forest}
use Rattle.hydro_accept.specs.Plans.{Means}
use Rattle.hydro_accept.proofs.Accepting.{made_means}
use Rattle.policy_report.specs.SoundLines.{Above, Claims, Line, claims_of, lines_of}
use Rattle.lp_program.specs.Solving.{Solving}
use Rattle.run_program.specs.Causes.{Ends, Explains}
use Rattle.run_program.specs.Outcome.{based_at, based_of}
use Rattle.run_program.specs.Meant.{CutOfFile, DescribedFile, IsFile, Meant, MeantText, claims_in}
use Rattle.run_program.specs.SoundText.{RiskCutHolds, SoundText, WorstHolds}
use Rattle.run_words.specs.declared.command.Command.{Command}
use Rattle.run_program.specs.declared.status.Status.{Status}
use Rattle.run_program.proofs.Sounding.{all_written_as}

-- what holds of each cut and each number of a line, where nothing is claimed of risk cuts and worst bounds
line_weaker : (c : Claims) (f : File) → ((m : ℕ) (k : Cut) → c.cuts m k → CutOfFile f m k) → ((b : ℤ) → c.bounds b → IsBound f b) → ((u : ℤ) → c.uppers u → IsUpper f u)
    → (line : List ℕ) → Line c line → Line (claims_in f) line
line_weaker c f each every some line l = record {
  cut = λ is. let k = l.cut is in record { node = k.node; place = k.place; cut = k.cut; is = k.is; claimed = each k.node k.cut k.claimed };
  bound = λ is. let b = l.bound is in record { number = b.number; is = b.is; claimed = every b.number b.claimed };
  iteration = λ is. let i = l.iteration is in record { iteration = i.iteration; bound = i.bound; is = i.is; claimed = every i.bound i.claimed };
  upper = λ is. let u = l.upper is in record { number = u.number; is = u.is; claimed = some u.number u.claimed };
  risk_cut = λ is. let k = l.risk_cut is in record { node = k.node; place = k.place; cut = k.cut; is = k.is; claimed = tt };
  worst = λ is. let b = l.worst is in record { number = b.number; is = b.is; claimed = tt };
}

at_file : (o : Option File) (f : File) (P : File → Type 0) → o ≡ Some f → IsSomeAnd o P → P f
at_file o f P e h = subst (λ x. IsSomeAnd x P) e h

-- both scales are the same number
at_scale : (u : ℤ) (c : Fraction) → c ≤ᶠ record { up = u; under = S } → c ≤ᶠ record { up = u; under = meaning.cut_scale }
unfolding S
at_scale u c h = h

is_some : {A : Type 0} (o : Option A) (P : A → Type 0) → IsSomeAnd o P → IsSome o
is_some None P h = absurd h
is_some (Some x) P h = refl

-- a sound text means what the file says
pub meant_text : (command : Command) (bytes text : List ℕ) → SoundText command bytes text → MeantText bytes text
meant_text command bytes text s = by (file_at bytes) refl
  where
    cut_of_file : (f : File) → file_at bytes ≡ Some f → (m : ℕ) (c : Cut) → Holds (problem_of s.problem) m c → CutOfFile f m c
    cut_of_file f e m c h = each (slice_get f.names m) refl
      where
        each : (o : Option Name) → slice_get f.names m ≡ o → IfSome o (λ k. IsCut f k c.alpha c.beta)
        each None is = tt
        each (Some k) is = at_file (file_at bytes) f (λ g. (n : ℕ) (j : Name) (d : Cut) → slice_get g.names n ≡ Some j → Holds (problem_of s.problem) n d → IsCut g j d.alpha d.beta) e (cut_same bytes s.problem s.read) m k c is h

    upper_of_file : (f : File) → file_at bytes ≡ Some f → (u : ℤ) → Above (problem_of s.problem) u → IsUpper f u
    upper_of_file f e u (units, t, some, policy, cost) =
        let all = at_file (file_at bytes) f
        (λ g. (n : ℕ) (t : Forest) → Policy (problem_of s.problem) n t → (ps : Plans) × (forest_of s.problem (problem_of s.problem).root ps ≡ t) × IsPolicy g n ps) e (every_same bytes s.problem s.read) units t policy in
        let same = at_file (file_at bytes) f
        (λ g. (n : ℕ) (ps : Plans) → IsPolicy g n ps → meaning.file_policy_cost g n ps ≡ policy_cost (problem_of s.problem) n (forest_of s.problem (problem_of s.problem).root ps)) e (cost_same bytes s.problem s.read) units all.0 all.2 in
        (units, all.0, some, all.2, subst (λ c. c ≤ᶠ record { up = u; under = meaning.cut_scale }) (sym (same ∙ ap (policy_cost (problem_of s.problem) units) all.1)) (at_scale u (policy_cost (problem_of s.problem) units t) cost))

    by : (o : Option File) → file_at bytes ≡ o → MeantText bytes text
    by None e = absurd (subst (λ x. IsSomeAnd x (λ f. (b : ℤ) → Under (problem_of s.problem) b ↔ IsBound f b)) e (bound_same bytes s.problem s.read))
    by (Some f) e = record {
      file = f;
      said = e;
      nodes = λ i d l.
          is_some (f.nodes (get_or f.names i d)) (SameNode s.problem i)
          (at_file (file_at bytes) f (λ g. (m : ℕ) (k : Name) → slice_get g.names m ≡ Some k → IsSomeAnd (g.nodes k) (SameNode s.problem m)) e (nodes_same bytes s.problem s.read) i (get_or f.names i d) (slice_get-get_or f.names i d l));
      lines = All-weaker (Line (claims_of (problem_of s.problem) (RiskCutHolds bytes s.problem) (WorstHolds bytes s.problem))) (Line (claims_in f))
          (line_weaker (claims_of (problem_of s.problem) (RiskCutHolds bytes s.problem) (WorstHolds bytes s.problem)) f (cut_of_file f e)
          (λ b. (at_file (file_at bytes) f (λ g. (a : ℤ) → Under (problem_of s.problem) a ↔ IsBound g a) e (bound_same bytes s.problem s.read) b).0) (upper_of_file f e)) (lines_of text) s.lines;
    }

-- what `hydro` writes is a file whose policies are the plans that are described
pub described_file : (description text : List ℕ) → hydro_at description ≡ Ok text → DescribedFile description text
described_file description text e = by (file_at text) refl
  where
    m : Means description text
    m = made_means description text e

    by : (o : Option File) → file_at text ≡ o → DescribedFile description text
    by None is = absurd (subst (λ x. IsSomeAnd x (λ f. (b : ℤ) → Under (problem_of m.problem) b ↔ IsBound f b)) is (bound_same text m.problem m.read))
    by (Some f) is = record {
      plants = m.plants;
      file = f;
      described = m.described;
      said = is;
      policy = λ units plan works.
          let all = every units (plan_forest m.plants units plan) ((m.workable units plan).0 works) in
          (all.0, all.2, cost units all.0 all.2 ∙ ap (policy_cost (problem_of m.problem) units) all.1 ∙ sym (m.cost units plan));
      plan = λ units ps policy.
          let tree : Forest = forest_of m.problem (problem_of m.problem).root ps in
          let feasible = at_file (file_at text) f (λ g. (n : ℕ) (qs : Plans) → IsPolicy g n qs → Policy (problem_of m.problem) n (forest_of m.problem (problem_of m.problem).root qs)) is (policy_same text m.problem m.read) units ps policy in
          let same : plan_forest m.plants units (plan_of m.plants tree) ≡ tree = m.policy units tree feasible in (
            plan_of m.plants tree,
            (m.workable units (plan_of m.plants tree)).1 (subst (Policy (problem_of m.problem) units) (sym same) feasible),
            m.cost units (plan_of m.plants tree) ∙ ap (policy_cost (problem_of m.problem) units) same ∙ sym (cost units ps policy),
          );
    }
      where
        every : (n : ℕ) (t : Forest) → Policy (problem_of m.problem) n t → (ps : Plans) × (forest_of m.problem (problem_of m.problem).root ps ≡ t) × IsPolicy f n ps
        every = at_file (file_at text) f (λ g. (n : ℕ) (t : Forest) → Policy (problem_of m.problem) n t → (ps : Plans) × (forest_of m.problem (problem_of m.problem).root ps ≡ t) × IsPolicy g n ps) is (every_same text m.problem m.read)

        cost : (n : ℕ) (ps : Plans) → IsPolicy f n ps → meaning.file_policy_cost f n ps ≡ policy_cost (problem_of m.problem) n (forest_of m.problem (problem_of m.problem).root ps)
        cost = at_file (file_at text) f (λ g. (n : ℕ) (ps : Plans) → IsPolicy g n ps → meaning.file_policy_cost g n ps ≡ policy_cost (problem_of m.problem) n (forest_of m.problem (problem_of m.problem).root ps)) is (cost_same text m.problem m.read)

-- what a problem that is read rests on
first_part : {A B E : Type 0} (part : Result A E) (f : A → Result B E) → IsOk (part >>= f) → (x : A) × (part ≡ Ok x)
first_part (Err x) f h = absurd cc
first_part (Ok x) f h = (x, refl)

read_part : (text : List ℕ) → IsOk (based_at text) → (s : Validated) × (problem_at text ≡ Ok s)
unfolding based_at
read_part text h = first_part (problem_at text) based_of h

-- what the program accepts is a problem file
accepted_file : (text : List ℕ) → IsOk (based_at text) → IsFile text
accepted_file text h = by (file_at text) refl
  where
    s : (s : Validated) × (problem_at text ≡ Ok s)
    s = read_part text h

    by : (o : Option File) → file_at text ≡ o → IsFile text
    by None e = absurd (subst (λ x. IsSomeAnd x (λ f. (b : ℤ) → Under (problem_of s.0) b ↔ IsBound f b)) e (bound_same text s.0 s.1))
    by (Some f) e = record {
      file = f;
      said = e;
      nodes = λ i d l.
          is_some (f.nodes (get_or f.names i d)) (SameNode s.0 i)
          (at_file (file_at text) f (λ g. (m : ℕ) (k : Name) → slice_get g.names m ≡ Some k → IsSomeAnd (g.nodes k) (SameNode s.0 m)) e (nodes_same text s.0 s.1) i (get_or f.names i d) (slice_get-get_or f.names i d l));
    }

pub meant : {Start Chain : Type 0} (v : Solving Start Chain) (asked : Option Command) (e : Ends) (status : Status) → Explains v asked e status → Meant asked e status
meant v asked e status h = all_written_as v (λ command bytes text. MeantText bytes text) DescribedFile IsFile meant_text (λ bytes text is accepted. described_file bytes text is) accepted_file asked e status h
