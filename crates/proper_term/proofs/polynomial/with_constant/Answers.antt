use Rattle.std.proofs.Common.{◌≡◌, ap, ◌∙◌, arith, map}
use Rattle.std.proofs.lemmas.Int.{unsigned_abs-mul}
use Rattle.std.specs.Prelude.{◌+ℤ◌, unsigned_abs}
use Rattle.ring_laws.specs.Answer.{fault_weaker}
use Rattle.ring_laws.specs.Meaning.{number, listed, items}
use Rattle.ring_laws.specs.Wholes.{number_of}
use Rattle.ring_laws.specs.declared.wholes.Whole.{Whole}
use Rattle.lin_form.proofs.ListProducts.{fault_list}
use Rattle.hypergeometric.specs.Point.{point}
use Rattle.hypergeometric.specs.ProperTerm.{value_in_n}
use Rattle.proper_term.proofs.PolynomialSizes.{value_number, value_in_bounds, within_size_in_n}
use Rattle.proper_term.proofs.polynomial.with_constant.Goals as goal

pub returns-in_err-constant-clause-too_large : goal.returns-in_err-constant-clause-too_large
returns-in_err-constant-clause-too_large c =
    let m = listed (map (λ (w : Whole). number w.value) c.args.constant.now.list.items) in
    fault_list _ c.from_residual.result c.in_err-constant.field-0.0 c.from_residual.ensures.1
    (fault_weaker c.in_err-constant.field-0.0 (λ out h. out (value_in_bounds c.args.n.value (items m) (omega
    (arith, h)))) c.in_err-constant.ensures.gives)

pub returns-in_err-value-clause-too_large : goal.returns-in_err-value-clause-too_large
returns-in_err-value-clause-too_large c =
    let m = listed (map (λ (w : Whole). number w.value) c.args.constant.now.list.items) in
    let e : c.in_ok-constant.constant.value ≡ value_in_n m (point c.args.n.value c.args.k.value) =
    ap number_of c.in_ok-constant.ensures.gives.1 ∙ value_number c.args.n.value (items m) in
    let size = ap unsigned_abs e in
    let most = within_size_in_n (point c.args.n.value c.args.k.value) m in
    let product = ap (λ t. unsigned_abs (number_of t)) c.in_ok-product.ensures.gives.1 in
    let split = unsigned_abs-mul c.args.k.value c.args.rest.value in
    fault_list _ c.from_residual-in_err-value.result c.in_err-value.field-0.0 c.from_residual-in_err-value.ensures.1
    (fault_weaker c.in_err-value.field-0.0 (λ out h. out (omega (arith, size, most, product, split, h))) c.in_err-value.ensures.gives)

-- the sum of the coefficient's value and the product
pub returns-clause-value : goal.returns-clause-value
returns-clause-value c =
    let m = listed (map (λ (w : Whole). number w.value) c.args.constant.now.list.items) in
    ap number_of c.in_ok-value.ensures.gives.1
    ∙ (λ i. (ap number_of c.in_ok-constant.ensures.gives.1 ∙ value_number c.args.n.value
    (items m)) i +ℤ ap number_of c.in_ok-product.ensures.gives.1 i)
