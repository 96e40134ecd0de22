use Rattle.std.proofs.Common.{inl, inr, refl, subst}
use Rattle.base_device.specs.Counted.{Counted}
use Rattle.run_program.specs.Run.{AnswersWords, fresh_counted}
use Rattle.run_program.specs.declared.status.Status.TheVariants as statuses
use Rattle.run_program.proofs.program.start.Goals as goal

-- the streams cannot be made sure of
pub returns-in_default : goal.returns-in_default
returns-in_default g c = (statuses.WriteFault, c.ended.ensures.number, inl (inr (inr refl)))

-- the words were had, and the reader and the writer are those that were given
pub returns-in-Ok-words_given : goal.returns-in-Ok-words_given
returns-in-Ok-words_given g c =
    let run = c.on_words in
    let words = c.as_slice.result.now in
    let answers = λ (p : Counted _) (o : Counted _). AnswersWords g.I.Read.remaining g.O.Write.contents words p run.new.problem o run.new.out run.ensures.0 in
    let over_input = subst (λ (p : Counted _). answers p c.new-out.result) c.new-problem.ensures run.ensures.2 in
    (run.ensures.0, run.ensures.1, inr (words, run.new.problem, run.new.out, subst (λ (o : Counted _). answers (fresh_counted c.args.input) o) c.new-out.ensures over_input))
