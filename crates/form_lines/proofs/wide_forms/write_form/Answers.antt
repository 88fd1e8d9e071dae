use Rattle.std.proofs.Common.{◌++◌, sym, ap, ◌∙◌, append-nil}
use Rattle.std.specs.Prelude.{string_bytes, []}
use Rattle.exact_texts.specs.Sums.{sum_text}
use Rattle.spelled.specs.Monomials.{monomial_of}
use Rattle.form_lines.specs.Forms.{parts_monomials, placed_sum}
use Rattle.form_lines.specs.Views.{parts_of}
use Rattle.form_lines.proofs.FormWrites.{form_written, zero_written}
use Rattle.form_lines.proofs.wide_forms.write_form.Goals as goal

-- no monomial is written
pub returns-then-is_empty : goal.returns-then-is_empty
returns-then-is_empty c =
    let whole = form_written (parts_of c.args.form.now) (string_bytes c.args.text.now) _ _ _ (string_bytes c.write_unless_zero-4.new.text) _ _ _
    c.in_ok-is_empty.is_empty (monomial_of c.monomial.result) (monomial_of c.monomial-2.result) (monomial_of c.monomial-3.result)
    (monomial_of c.monomial-4.result) c.monomial.ensures c.monomial-2.ensures c.monomial-3.ensures c.monomial-4.ensures
    c.in_ok-behind_k.ensures c.in_ok-behind_n.ensures c.in_ok-behind_x.ensures c.in_ok-is_empty.ensures in
    let said = ap (λ b. string_bytes c.write_unless_zero-4.new.text ++ placed_sum b []) c.if-is_empty.true in
    zero_written c.push_str.result (string_bytes c.args.text.now) (string_bytes c.write_unless_zero-4.new.text) (string_bytes c.push_str.new.self)
    (sum_text (parts_monomials (parts_of c.args.form.now))) c.push_str.ensures.bytes (sym said ∙ whole)

-- some are
pub returns : goal.returns
returns c =
    let whole = form_written (parts_of c.args.form.now) (string_bytes c.args.text.now) _ _ _ (string_bytes c.write_unless_zero-4.new.text) _ _ _
    c.in_ok-is_empty.is_empty (monomial_of c.monomial.result) (monomial_of c.monomial-2.result) (monomial_of c.monomial-3.result)
    (monomial_of c.monomial-4.result) c.monomial.ensures c.monomial-2.ensures c.monomial-3.ensures c.monomial-4.ensures
    c.in_ok-behind_k.ensures c.in_ok-behind_n.ensures c.in_ok-behind_x.ensures c.in_ok-is_empty.ensures in
    let said = ap (λ b. string_bytes c.write_unless_zero-4.new.text ++ placed_sum b []) c.if-is_empty.false in
    sym (append-nil (string_bytes c.write_unless_zero-4.new.text)) ∙ sym said ∙ whole
