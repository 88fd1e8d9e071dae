use Rattle.std.specs.Prelude.{◌≡◌, ◌*ℤ◌}
use Rattle.std.specs.Int.{w64}
use Rattle.std.proofs.Common.{arith, ◌∙◌}
use Rattle.std.proofs.lemmas.Int.{ints, to_z-of_z}
use Rattle.lin_form.proofs.forms.shifted.Goals as goal

pub returns : goal.returns
returns c =
    let p : c.product.result ≡ c.args.slope *ℤ c.args.by =
    c.product.ensures.product ∙ (λ i. to_z-of_z w64 _ c.ranges.slope i *ℤ to_z-of_z w64 _ c.ranges.by i) in
    record { offset = omega (arith, ints, p, c.product.ensures.bound, c.from.ensures, c.requires.in_bounds) }
