use Rattle.std.proofs.Common.{◌≡◌, ◌≤◌, ◌<◌, ◌-◌, ◌^◌, ◌*ℤ◌, ℕ, ℤ, pos, List, map, length, unsigned_abs, ap, sym, ◌∙◌, subst, arith, refl}
use Rattle.std.proofs.lemmas.Int.{ints, to_z-of_z}
use Rattle.std.proofs.lemmas.List.{length-map}
use Rattle.ring_laws.specs.Meaning.{Meaning, number, listed, items}
use Rattle.ring_laws.specs.Wholes.{whole_algebra, number_of}
use Rattle.ring_laws.specs.declared.wholes.Whole.{Whole}
use Rattle.poly_laws.specs.Lists.{coefficient_at, trimmed, is_trimmed}
use Rattle.poly_laws.proofs.Trimming.{trimmed_already, length-trimmed}
use Rattle.poly_generic.specs.declared.polys.Poly.{Poly}
use Rattle.whole_roots.specs.FactorBounds.{stretched_list, stretched}
use Rattle.whole_roots.proofs.Faults.{fault_out, in_bounds_gives, in_bounds_fault}
use Rattle.whole_roots.proofs.Stretching.{numbers, numbers_are, stretched_at, all_stretched, stretched_length, stretched_ended}
use Rattle.whole_roots.proofs.factors.stretched.Goals as goal

-- the number at the index doesn't fit
pub returns-in_err-item-clause-too_large : goal.returns-in_err-item-clause-too_large
returns-in_err-item-clause-too_large c =
    let m = listed (map (λ (w : Whole). number w.value) c.args.f.now.list.items) in
    let ws = c.coefficients-coefficients.result.now in
    let slope : c.in-Some.slope.value ≡ pos c.args.slope = grind (arith, ints, to_z-of_z, c.in-Some.ensures.given, c.from.ensures) in
    let w = c.index-coefficients-index.result in
    let index = c.loop-index.index in
    fault_out c.from_residual.result c.in_err-item.field-0.0 c.from_residual.ensures.1
    (λ (h : (k : ℕ) → whole_algebra.ops.Fits (coefficient_at whole_algebra.ops (stretched_list c.args.slope (items m)) k)).
    subst (λ (z : ℤ). unsigned_abs (w.value *ℤ pos (unsigned_abs z ^ (length ws - 1 - index))) < 2 ^ 127) (sym slope)
    (subst (λ (x : Meaning). unsigned_abs (number_of x) < 2 ^ 127)
    (ap (λ (xs : List Meaning). coefficient_at whole_algebra.ops (stretched_list c.args.slope xs) index)
    (numbers_are m ws c.coefficients-coefficients.ensures.coefficients)
    ∙ stretched_at c.args.slope ws index w c.loop-index-test.true c.index-coefficients-index.is) (h index)))
    c.in_err-item.ensures.too_large

-- the last number isn't 0, so no zero is dropped
pub returns-clause-gives : goal.returns-clause-gives
returns-clause-gives c =
    let m = listed (map (λ (w : Whole). number w.value) c.args.f.now.list.items) in
    let ws = c.coefficients-coefficients.result.now in
    let are = numbers_are m ws c.coefficients-coefficients.ensures.coefficients in
    let own = numbers_are m c.args.f.now.list.items refl in
    let ended : is_trimmed whole_algebra.ops (stretched_list c.args.slope (numbers ws)) ≡ _ =
    stretched_ended c.args.slope ws (ap (is_trimmed whole_algebra.ops) (sym are ∙ own) ∙ c.args.f.now.ended) in
    let filled = all_stretched c.args.slope c.loop-index.list.items ws c.loop-index.index (stretched_list c.args.slope (numbers ws))
    (omega (arith, c.loop-index-test.false)) c.loop-index.invariant in
    in_bounds_gives (λ (p : Poly _ _). listed (map (λ (w : Whole). number w.value) p.list.items)) _
    (listed (trimmed whole_algebra.ops (numbers c.loop-index.list.items))) (stretched c.args.slope m) c.from_coefficients.result
    (ap (λ (xs : List Meaning). listed (trimmed whole_algebra.ops xs)) filled
    ∙ ap listed (trimmed_already whole_algebra.ops (stretched_list c.args.slope (numbers ws)) ended)
    ∙ ap (λ (xs : List Meaning). listed (stretched_list c.args.slope xs)) (sym are))
    c.from_coefficients.ensures.gives

-- there are no more numbers than coefficients
pub returns-clause-too_large : goal.returns-clause-too_large
returns-clause-too_large c =
    let ws = c.coefficients-coefficients.result.now in
    let done = numbers c.loop-index.list.items in
    let filled = all_stretched c.args.slope c.loop-index.list.items ws c.loop-index.index (stretched_list c.args.slope (numbers ws))
    (omega (arith, c.loop-index-test.false)) c.loop-index.invariant in
    in_bounds_fault (λ (p : Poly _ _). listed (map (λ (w : Whole). number w.value) p.list.items)) (length (trimmed whole_algebra.ops done) ≤ 256) _
    (listed (trimmed whole_algebra.ops done)) c.from_coefficients.result
    (omega (
      arith,
      length-trimmed whole_algebra.ops done,
      ap length filled,
      stretched_length c.args.slope (numbers ws),
      length-map ws (λ (w : Whole). number w.value),
      c.coefficients-coefficients.ensures.short,
    ))
    c.from_coefficients.ensures.gives
