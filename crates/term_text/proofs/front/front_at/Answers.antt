use Rattle.std.proofs.Common.{ap, sym, arith, ◌∙◌}
use Rattle.term_text.specs.Code.Fronts.{front_image}
use Rattle.term_text.proofs.Literals.{digits_run, name_run}
use Rattle.term_text.proofs.front.front_at.Goals as goal

pub number-requires : goal.number-requires
number-requires c = digits_run c.args.text.now c.args.at c.run_end.result c.run_end.ensures.end

pub returns-then-is_ascii_alphabetic-clause-front : goal.returns-then-is_ascii_alphabetic-clause-front
returns-then-is_ascii_alphabetic-clause-front c = c.name.ensures.token ∙ ap front_image (name_run c.args.text.now c.args.at c.run_end-then-is_ascii_alphabetic.result (omega arith)
    (sym c.is_ascii_digit.ensures.value ∙ c.if-is_ascii_digit.false) (sym c.is_ascii_alphabetic.ensures.value ∙ c.if-is_ascii_alphabetic.true) c.run_end-then-is_ascii_alphabetic.ensures.end)
