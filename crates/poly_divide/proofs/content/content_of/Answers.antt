use Rattle.std.proofs.Common.{◌≡◌, ◌+◌, ◌-◌, map, drop, length, ap, ◌∙◌, subst, arith, unsigned_abs}
use Rattle.std.specs.Int.{w128}
use Rattle.std.proofs.lemmas.Int.{to_z-of_z, fits_signed_from_abs}
use Rattle.std.proofs.lemmas.List.{length-map}
use Rattle.ring_laws.specs.Meaning.{number, listed, parted-joined}
use Rattle.ring_laws.specs.Wholes.{whole_algebra, number_of}
use Rattle.poly_divide.specs.Content.{sizes_of, IsContent}
use Rattle.poly_divide.proofs.Contents.{content_step, content_seen}
use Rattle.poly_divide.proofs.content.content_of.Goals as goal

-- a polynomial has at most 256 coefficients
pub overflow_add-power : goal.overflow_add-power
overflow_add-power c =
    let ms = map (λ w. number w.value) c.args.f.now.list.items in
    record {
      fits = omega (
        arith,
        c.in-Some.ensures.degree,
        ap length (parted-joined ms),
        length-map c.args.f.now.list.items (λ w. number w.value),
        c.args.f.now.short,
      );
    }

-- the coefficient of the power comes in front
pub loop-power-preserved-in-Some-coefficient : goal.loop-power-preserved-in-Some-coefficient
loop-power-preserved-in-Some-coefficient c =
    let m = listed (map (λ w. number w.value) c.args.f.now.list.items) in
    let n : c.loop-power.power ≡ c.loop-power.power - 1 + 1 = omega (arith, c.loop-power-test.true) in
    record {
      within = omega (arith, c.loop-power.invariant.within);
      made =
          content_step whole_algebra.ops m (c.loop-power.power - 1) c.unsigned_abs.result c.loop-power.content c.gcd_whole-content.result
          (omega (arith, c.loop-power.invariant.within, c.loop-power-test.true))
          (c.unsigned_abs.ensures.value
          ∙ ap unsigned_abs (to_z-of_z w128 c.value.result (fits_signed_from_abs w128 c.value.result c.value.ensures.small))
          ∙ ap unsigned_abs c.value.ensures.value ∙ ap (λ t. unsigned_abs (number_of t)) c.in-Some-coefficient.ensures.coefficient.1)
          (subst (λ k. IsContent
          (drop k (sizes_of (listed (map (λ w. number w.value) c.args.f.now.list.items)))) c.loop-power.content) n c.loop-power.invariant.made)
          c.gcd_whole-content.ensures.greatest;
    }

-- a content of 1 stays
pub returns-else-content-ne1 : goal.returns-else-content-ne1
returns-else-content-ne1 c =
    content_seen (sizes_of (listed (map (λ w. number w.value) c.args.f.now.list.items))) c.loop-power.power c.loop-power.content
    (omega (arith, c.if-content-ne1.false)) c.loop-power.invariant.made
