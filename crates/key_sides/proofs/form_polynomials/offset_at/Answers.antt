use Rattle.std.specs.Prelude.{◌≡◌, ℤ, ◌+ℤ◌, ◌-ℤ◌, ◌*ℤ◌}
use Rattle.std.proofs.Common.{arith, ap, ◌∙◌}
use Rattle.std.proofs.Math.IntN.{*ℤ-zero}
use Rattle.std.proofs.lemmas.Int.{ints}
use Rattle.key_sides.specs.Places.{shift_of}
use Rattle.key_sides.specs.declared.form_polynomials.Place.{Place}
use Rattle.key_sides.specs.declared.form_polynomials.Place.TheVariants.{Here, Before}
use Rattle.key_sides.proofs.form_polynomials.offset_at.Goals as goal

at_here : (x k : ℤ) (p : Place) → p ≡ Here → x +ℤ k *ℤ shift_of p ≡ x
at_here x k p e = ap (λ q. x +ℤ k *ℤ shift_of q) e ∙ omega (arith, ints, *ℤ-zero k)

at_before : (x k : ℤ) (p : Place) → p ≡ Before → x +ℤ k *ℤ shift_of p ≡ x -ℤ k
at_before x k p e = ap (λ q. x +ℤ k *ℤ shift_of q) e ∙ omega (arith, ints)

pub returns-in-Here : goal.returns-in-Here
returns-in-Here c =
    let is = at_here c.args.form.offset c.args.form.k_slope c.args.place c.in-Here.is in
    record {
      offset = omega (arith, ints, c.offset.ensures.offset, is, c.args.form.small_offset);
      small = omega (arith, ints, c.offset.ensures.offset, c.args.form.small_offset);
    }

pub returns-in-Before : goal.returns-in-Before
returns-in-Before c =
    let is = at_before c.args.form.offset c.args.form.k_slope c.args.place c.in-Before.is in
    record {
      offset = omega (arith, ints, c.offset-in-Before.ensures.offset, c.k_slope.ensures.k_slope, is, c.args.form.small_offset, c.args.form.small_k_slope);
      small = omega (arith, ints, c.offset-in-Before.ensures.offset, c.k_slope.ensures.k_slope, c.args.form.small_offset, c.args.form.small_k_slope);
    }
