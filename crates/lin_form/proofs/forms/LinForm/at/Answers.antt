use Rattle.std.specs.Prelude.{◌≡◌, ◌*ℤ◌}
use Rattle.std.specs.Int.{w64}
use Rattle.std.proofs.Common.{arith, rules, ◌∙◌, FitsSigned}
use Rattle.std.proofs.lemmas.Int.{ints, to_z-of_z}
use Rattle.lin_form.proofs.forms.LinForm.at.Goals as goal

-- two products of at most 2^69 and an offset of at most 2^40 are below 2^127
pub overflow_add-result-2 : goal.overflow_add-result-2
overflow_add-result-2 c = omega (arith, ints, c.product.ensures.bound, c.product-2.ensures.bound, c.from.ensures, c.args.self.now.small_offset)

pub returns : goal.returns
returns c =
    let f : FitsSigned w64 c.args.self.now.n_slope = search rules in
    let g : FitsSigned w64 c.args.self.now.k_slope = search rules in
    let p : c.product.result ≡ c.args.self.now.n_slope *ℤ c.args.n = c.product.ensures.product ∙ (λ i. to_z-of_z w64 _ f i *ℤ to_z-of_z w64 _ c.ranges.n i) in
    let q : c.product-2.result ≡ c.args.self.now.k_slope *ℤ c.args.k = c.product-2.ensures.product ∙ (λ i. to_z-of_z w64 _ g i *ℤ to_z-of_z w64 _ c.ranges.k i) in
    record {
      value = omega (arith, ints, p, q, c.product.ensures.bound, c.product-2.ensures.bound, c.from.ensures, c.args.self.now.small_offset);
    }
