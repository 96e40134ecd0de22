use Rattle.std.proofs.Common.{◌∙◌, Ok, refl, ap, sym}
use Rattle.plan_answer.specs.declared.classifying.Classified.TheVariants as classified
use Rattle.plan_forward.specs.Deciding.{decide_by}
use Rattle.plan_forward.proofs.ByAnswers.{decided_is}
use Rattle.plan_forward.proofs.deciding.decide_by.Goals as goal

pub returns-in_ok-decided_of-in-Found : goal.returns-in_ok-decided_of-in-Found
returns-in_ok-decided_of-in-Found c =
    ap (decide_by c.args.problem.now c.args.input.now.run c.args.input.now.node c.args.input.now.values.now c.args.input.now.state.now c.args.answer.now) c.in-Found.is
    ∙ ap Ok (sym (decided_is c.args.problem.now c.args.input.now.node c.sub.result.now c.args.answer.now classified.Found _ c.in_ok-decided_of-in-Found.field-0 c.requires.known c.sub.ensures refl c.in_ok-decided_of-in-Found.ensures))

pub returns-in_ok-decided_of-in-Unanswered : goal.returns-in_ok-decided_of-in-Unanswered
returns-in_ok-decided_of-in-Unanswered c =
    ap (decide_by c.args.problem.now c.args.input.now.run c.args.input.now.node c.args.input.now.values.now c.args.input.now.state.now c.args.answer.now) c.in-Unanswered.is
    ∙ ap Ok (sym (decided_is c.args.problem.now c.args.input.now.node c.sub-in-Unanswered.result.now c.args.answer.now classified.Unanswered _ c.in_ok-decided_of-in-Unanswered.field-0 c.requires.known c.sub-in-Unanswered.ensures refl c.in_ok-decided_of-in-Unanswered.ensures))
