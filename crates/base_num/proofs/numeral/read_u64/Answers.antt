use Rattle.std.proofs.Common.{◌∙◌, None, arith}
use Rattle.std.proofs.lemmas.Bool.Decides.{nat_tests}
use Rattle.base_num.specs.Numerals.{number_of}
use Rattle.base_num.proofs.Numbers.{parsed, exact}
use Rattle.base_num.proofs.numeral.read_u64.Goals as goal

pub returns-then-is_numeral-clause-value : goal.returns-then-is_numeral-clause-value
returns-then-is_numeral-clause-value c = c.ok.ensures.value ∙ parsed c.args.word.now c.parse.result c.parse.ensures.value.0 (cc)

pub returns-then-is_numeral-clause-text : goal.returns-then-is_numeral-clause-text
returns-then-is_numeral-clause-text c = exact c.args.word.now c.ok.result (returns-then-is_numeral-clause-value c)

pub returns-else-is_numeral-clause-text : goal.returns-else-is_numeral-clause-text
unfolding number_of
returns-else-is_numeral-clause-text c = exact c.args.word.now None (grind (arith, nat_tests))
