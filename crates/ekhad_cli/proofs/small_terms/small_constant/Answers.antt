use Rattle.std.proofs.Common.{map, arith, subst, sym, ◌∙◌}
use Rattle.std.proofs.lemmas.List.{length-map}
use Rattle.ring_laws.specs.Meaning.{Meaning, number}
use Rattle.ring_laws.specs.declared.wholes.Whole.{Whole}
use Rattle.ekhad_cli.specs.FirstRun.{IsSmallConstant}
use Rattle.ekhad_cli.proofs.SmallTerms.{many_no_constant, lone_found, one_item, same_lists}
use Rattle.ekhad_cli.proofs.small_terms.small_constant.Goals as goal

abbrev number_value : Whole → Meaning
number_value w = number w.value

-- one coefficient, which isn't 0
pub returns-in-len1 : goal.returns-in-len1
returns-in-len1 c = record {
  constant = lone_found c.small_number.result c.only-item.result.value (map number_value c.args.coefficient.now.list.items)
      (sym (same_lists (map number_value c.coefficients.result.now) (map number_value c.args.coefficient.now.list.items) c.coefficients.ensures.coefficients)
      ∙ one_item number_value c.coefficients.result.now c.only-item.result (omega (arith, c.in-len1.len_at_least, c.in-len1.len_below)) c.only-item.is)
      c.args.coefficient.now.ended c.small_number.ensures.small;
}

-- two or more
pub returns-in_default : goal.returns-in_default
returns-in_default c = record {
  constant = subst (λ m. ¬ IsSmallConstant m) c.coefficients.ensures.coefficients
      (many_no_constant (map number_value c.coefficients.result.now)
      (omega (arith, c.in_default.len_at_least, length-map c.coefficients.result.now number_value)));
}
