use Rattle.std.specs.Prelude.{⊤}
use Rattle.std.proofs.Common.{ℕ, suc, ℤ, pos, map, refl, sym, ◌∙◌, subst, arith, to_z, of_z}
use Rattle.std.specs.Int.{w128}
use Rattle.std.proofs.lemmas.Int.{to_z-of_z}
use Rattle.ring_laws.specs.Meaning.{Meaning, number, listed}
use Rattle.ring_laws.specs.Algebra.{Passing}
use Rattle.ring_laws.specs.Wholes.{whole_algebra}
use Rattle.ring_laws.specs.declared.wholes.Whole.{Whole}
use Rattle.poly_laws.specs.LongDivision.{DivisionInBounds}
use Rattle.poly_generic.specs.declared.polys.Poly.{Poly}
use Rattle.poly_divide.specs.Forms.{linear}
use Rattle.whole_roots.specs.Differences.{polynomials}
use Rattle.whole_roots.specs.LinearFactors.{IsGreatestPower}
use Rattle.whole_roots.specs.FactorBounds.{DivisionsInBounds}
use Rattle.whole_roots.proofs.DifferenceLaws.{polynomial_of}
use Rattle.whole_roots.proofs.Faults.{fault_out, divides_some, divides_none}
use Rattle.whole_roots.proofs.FormLengths.{shorter_list}
use Rattle.whole_roots.proofs.FormPowers.{quotient_not_zero, greatest_more, greatest_none, divisions_behind, first_division}
use Rattle.whole_roots.proofs.Values.{count_is}
use Rattle.whole_roots.proofs.factors.power_of.Goals as goal

-- the copy of f
pub loop-quotient-init : goal.loop-quotient-init
loop-quotient-init c =
    let m = listed (map (λ (w : Whole). number w.value) c.args.f.now.list.items) in
    let at = to_z w128 (of_z w128 c.args.constant) in
    let copy = c.in_ok-quotient.ensures.gives in
    record {
      not_zero = λ h. c.requires.not_zero (sym copy ∙ h);
      fewer = omega (arith, count_is m c.in_ok-quotient.quotient.list.items copy, count_is m c.args.f.now.list.items refl);
      power = λ e h. subst (λ (n : ℕ). IsGreatestPower c.args.slope at n m) (omega arith) (subst (IsGreatestPower c.args.slope at e) copy h);
      divisions = λ h. subst (DivisionsInBounds c.args.slope at) (sym copy) h;
    }

-- a division that comes after some others
pub returns-in_err-next-clause-too_large : goal.returns-in_err-next-clause-too_large
returns-in_err-next-clause-too_large c =
    let m = listed (map (λ (w : Whole). number w.value) c.args.f.now.list.items) in
    let at = to_z w128 (of_z w128 c.args.constant) in
    let q : Passing polynomials = polynomial_of c.loop-quotient.quotient.list.items c.loop-quotient.quotient.ended in
    fault_out c.from_residual-in_err-next.result c.in_err-next.field-0.0 c.from_residual-in_err-next.ensures.1
    (λ (h : DivisionsInBounds c.args.slope c.args.constant m).
    first_division c.args.slope at c.requires.slope q (c.loop-quotient.invariant.divisions
    (subst (λ (z : ℤ). DivisionsInBounds c.args.slope z m) (sym (to_z-of_z w128 c.args.constant c.ranges.constant)) h)))
    c.in_err-next.ensures.divides

pub loop-quotient-smaller : goal.loop-quotient-smaller
loop-quotient-smaller c =
    let at = to_z w128 (of_z w128 c.args.constant) in
    let list = c.loop-quotient.quotient.list.items in
    shorter_list c.args.slope at c.requires.slope list c.in-Some.next.list.items c.loop-quotient.quotient.ended c.in-Some.next.ended
    c.loop-quotient.invariant.not_zero
    (divides_some (λ (p : Poly _ _). listed (map (λ (w : Whole). number w.value) p.list.items)) polynomials
    (DivisionInBounds whole_algebra (λ (x y : Meaning). ⊤)) (listed (map (λ (w : Whole). number w.value) list)) (linear (pos c.args.slope) at)
    c.in_ok-next.field-0 c.in-Some.next c.in-Some.is c.in_ok-next.ensures.divides)

-- one division more
pub loop-quotient-preserved : goal.loop-quotient-preserved
loop-quotient-preserved c =
    let m = listed (map (λ (w : Whole). number w.value) c.args.f.now.list.items) in
    let at = to_z w128 (of_z w128 c.args.constant) in
    let i = c.loop-quotient.invariant in
    let list = c.loop-quotient.quotient.list.items in
    let q : Passing polynomials = polynomial_of list c.loop-quotient.quotient.ended in
    let r : Passing polynomials = polynomial_of c.in-Some.next.list.items c.in-Some.next.ended in
    let is = divides_some (λ (p : Poly _ _). listed (map (λ (w : Whole). number w.value) p.list.items)) polynomials
    (DivisionInBounds whole_algebra (λ (x y : Meaning). ⊤)) (listed (map (λ (w : Whole). number w.value) list)) (linear (pos c.args.slope) at)
    c.in_ok-next.field-0 c.in-Some.next c.in-Some.is c.in_ok-next.ensures.divides in
    let fewer = shorter_list c.args.slope at c.requires.slope list c.in-Some.next.list.items c.loop-quotient.quotient.ended
    c.in-Some.next.ended i.not_zero is in
    record {
      not_zero = quotient_not_zero c.args.slope at c.requires.slope q r is i.not_zero;
      fewer = omega (arith, i.fewer, fewer);
      power = λ e h. subst (λ (n : ℕ). IsGreatestPower c.args.slope at n m) (omega arith)
          (i.power (suc e) (greatest_more c.args.slope at c.requires.slope q r is e h));
      divisions = λ h. divisions_behind c.args.slope at c.requires.slope q r is (i.divisions h);
    }

-- the form doesn't divide what is left
pub returns-clause-power : goal.returns-clause-power
returns-clause-power c =
    let m = listed (map (λ (w : Whole). number w.value) c.args.f.now.list.items) in
    let at = to_z w128 (of_z w128 c.args.constant) in
    let q : Passing polynomials = polynomial_of c.loop-quotient.quotient.list.items c.loop-quotient.quotient.ended in
    subst (λ (z : ℤ). IsGreatestPower c.args.slope z c.loop-quotient.power m) (to_z-of_z w128 c.args.constant c.ranges.constant)
    (subst (λ (n : ℕ). IsGreatestPower c.args.slope at n m) (omega arith)
    (c.loop-quotient.invariant.power 0 (greatest_none c.args.slope at c.requires.slope q
    (divides_none (λ (p : Poly _ _). listed (map (λ (w : Whole). number w.value) p.list.items)) polynomials
    (DivisionInBounds whole_algebra (λ (x y : Meaning). ⊤)) q.0 (linear (pos c.args.slope) at)
    c.in_ok-next.field-0 c.in_default.is c.in_ok-next.ensures.divides))))
