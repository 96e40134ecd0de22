use Rattle.std.proofs.Common.{List, ℕ, ◌∙◌, ◌++◌, ◌∷◌, [], is_ok, IfOk, IsOk, Result, ap, sym, subst}
use Rattle.serde_json.specs.View.{view}
use Rattle.serde_json.specs.Written.{has_float, compact_text}
use Rattle.problem.specs.Validated.{Validated}
use Rattle.problem.specs.declared.refusal.Refusal.{Refusal}
use Rattle.theory.specs.Range.{based}
use Rattle.hydro_gen.specs.Generated.{words, generated}
use Rattle.hydro_gen.proofs.Accepting.{printed_read}
use Rattle.hydro_gen.proofs.Plain.{problem_plain}
use Rattle.hydro_gen.proofs.generated.generate.Goals as goal

pub returns : goal.returns
unfolding generated
returns c =
    let no_float = ap has_float c.in_ok-value.ensures ∙ (problem_plain (words c.args.seed) c.args.stages c.args.reservoirs).whole in
    let accepted =
    printed_read c.in_ok-text.text.items c.push.new.self.items (view c.in_ok-value.value) (words c.args.seed) c.args.stages c.args.reservoirs
    c.requires.stages.0 c.requires.stages.1 c.requires.reservoirs.0 c.requires.reservoirs.1 c.in_ok-value.ensures c.in_ok-text.ensures.utf8 c.in_ok-text.ensures.compact c.in_ok-text.ensures.order c.in_ok-text.ensures.reads_back c.in_ok-push.ensures.items in
    record {
      text = c.in_ok-push.ensures.items ∙ ap (λ (t : List ℕ). t ++ 10 ∷ []) (c.in_ok-text.ensures.text no_float ∙ ap compact_text c.in_ok-value.ensures);
      accepted = ap is_ok accepted.1;
      base_fits = subst (λ (r : Result Validated Refusal). IfOk r (λ p. IsOk (based p))) (sym accepted.1) (ap is_ok accepted.3);
    }
