use Rattle.std.proofs.Common.{◌≡◌, ◌+◌, ℕ, map, length, ap, sym, ◌∙◌, subst, IsFalse, Option, List}
use Rattle.ring_laws.specs.Meaning.{Meaning, listed}
use Rattle.ring_laws.specs.Algebra.{Passing}
use Rattle.ring_laws.specs.Answer.{OnFault, fault_weaker}
use Rattle.poly_laws.specs.LongDivision.{DivisionInBounds}
use Rattle.poly_laws.specs.PolyAlgebra.{poly_algebra}
use Rattle.poly_laws.specs.Values.{level}
use Rattle.poly_laws.proofs.Belonging.{value_passes}
use Rattle.poly_generic.specs.declared.polys.Poly.{Poly}
use Rattle.division_laws.specs.Polynomials.{Polynomial}
use Rattle.key_laws.specs.KeyEquation.{InsolubleWith}
use Rattle.key_laws.specs.DegreeBounds.{IsDegreeBound, coefficient_count}
use Rattle.hypergeometric.specs.LinearForm.{FactorList}
use Rattle.hypergeometric.specs.FormOrder.{IsSorted}
use Rattle.hypergeometric.specs.Products.{list_polynomial}
use Rattle.pole_laws.proofs.NonzeroNormal.{q_some}
use Rattle.lin_form.specs.ListOf.{list_of}
use Rattle.gosper_form.specs.NormalView.{normal_of}
use Rattle.key_system.specs.Answers.{OnStepFault, IsLeastWithSign}
use Rattle.key_system.specs.Reckoning.{SolvingInBounds}
use Rattle.key_system.specs.Solved.{IsChosen}
use Rattle.key_system.proofs.SolvFaults.{returned, ring_fault}
use Rattle.key_equation.specs.Answers.{AreNeededPoles, IsCertified}
use Rattle.key_equation.specs.Cancelling.{LeavesInOrder}
use Rattle.key_equation.specs.Polynomials.{form_over, q_over, b_over}
use Rattle.key_equation.specs.Reckoning.{CancellingInBounds, OrderInBounds}
use Rattle.key_equation.proofs.NormalParts.{poles_some, list_over_some}
use Rattle.key_equation.proofs.SolvedOrders.{step_weaker, at_outer, bare_of, certified, no_rational}
use Rattle.key_equation.proofs.solving.solve.Given.{Over}
use Rattle.key_equation.proofs.solving.solve.Goals as goal

-- a polynomial of the code as one of the ring, and what polynomials mean
abbrev in_ring : (g : Over) → Poly g.row.B.Denot g.B.Ring → Polynomial g.B.Ring.algebra
in_ring g f = (listed (map g.B.Ring.meaning f.list.items), value_passes g.B.Ring.algebra g.B.Ring.meaning g.met.B.Ring.passes f.list.items f.ended)

abbrev mean : (g : Over) → Poly g.row.B.Denot g.B.Ring → Meaning
mean g f = listed (map g.B.Ring.meaning f.list.items)

pub solve-requires-clause-not_zero : goal.solve-requires-clause-not_zero
solve-requires-clause-not_zero g c =
    let normal = normal_of c.args.normal.now in
    let setting = c.requires.quotient in
    let is = setting.normal_for in
    subst (λ m. IsFalse ((poly_algebra g.B.Ring.algebra).ops.is_nought m)) (sym c.in-Ok.ensures.q)
    (list_over_some g.B.Ring.algebra g.met.B.Ring.laws g.B.FormRing.forms g.met.B.FormRing.form_laws normal.q
    (q_some normal setting.q0 setting.r0 is.normal_form is.q_sorted is.not_zero))

pub returns-in_err-solved-clause-faults : goal.returns-in_err-solved-clause-faults
returns-in_err-solved-clause-faults g c =
    let a = g.B.Ring.algebra in
    let forms = g.B.FormRing.forms in
    let normal = normal_of c.args.normal.now in
    let sides = map (mean g) c.args.sides.now in
    let D = g.B.Domain.division_in_bounds in
    let r = g.B.Reducing.reduction in
    let fault = c.in_err-solved.field-0.0 in
    returned _ c.from_residual.result fault c.from_residual.ensures.1
    (λ bound h. step_weaker (coefficient_count bound + length c.args.sides.now)
    (SolvingInBounds D a r (q_over a forms normal) (b_over a forms normal) sides) (OrderInBounds D a r forms normal sides) fault (λ k. k.solving)
    (at_outer (λ q b. (n : Option ℕ) → IsDegreeBound a.ops q b sides n
    → OnStepFault (coefficient_count n + length c.args.sides.now) (SolvingInBounds D a r q b sides) fault)
    (mean g c.in-Ok.outer.q) (mean g c.in-Ok.outer.b) (q_over a forms normal) (b_over a forms normal) c.in-Ok.ensures.q c.in-Ok.ensures.b
    c.in_err-solved.ensures.faults bound h))

pub without_poles-requires : goal.without_poles-requires
without_poles-requires g c =
    let normal = normal_of c.args.normal.now in
    let setting = c.requires.quotient in
    record {
      some = subst (λ (xs : FactorList). ¬ (list_polynomial xs ≡ (level 2).ops.nought)) (sym c.poles.ensures.poles)
          (poles_some normal setting.q0 setting.r0 setting.normal_for);
    }

pub returns-in-Ok-without_poles-clause-soluble : goal.returns-in-Ok-without_poles-clause-soluble
returns-in-Ok-without_poles-clause-soluble g c =
    let a = g.B.Ring.algebra in
    let forms = g.B.FormRing.forms in
    let normal = normal_of c.args.normal.now in
    let sides = map (mean g) c.args.sides.now in
    at_outer (λ q b. ¬ InsolubleWith a q b sides) (mean g c.in-Ok.outer.q) (mean g c.in-Ok.outer.b) (q_over a forms normal) (b_over a forms normal)
    c.in-Ok.ensures.q c.in-Ok.ensures.b (rw c.in-Left.is at c.in_ok-solved.ensures.soluble)

pub returns-in-Ok-without_poles-clause-solution : goal.returns-in-Ok-without_poles-clause-solution
returns-in-Ok-without_poles-clause-solution g c =
    let a = g.B.Ring.algebra in
    let forms = g.B.FormRing.forms in
    let normal = normal_of c.args.normal.now in
    let sides = map (mean g) c.args.sides.now in
    let M = g.B.Ring.meaning in
    let solved = c.in-Left.solved in
    let solution = c.in-Ok-without_poles.solution in
    let same : map M solved.multipliers.items ≡ map M solution.multipliers.items = sym c.in-Ok-without_poles.ensures.multipliers in
    record {
      whole = mean g solved.y;
      least = subst (IsLeastWithSign a forms (q_over a forms normal) (b_over a forms normal) sides (mean g solved.y)) same
          (at_outer (λ q b. IsLeastWithSign a forms q b sides (mean g solved.y) (map M solved.multipliers.items))
          (mean g c.in-Ok.outer.q) (mean g c.in-Ok.outer.b) (q_over a forms normal) (b_over a forms normal) c.in-Ok.ensures.q c.in-Ok.ensures.b
          (rw c.in-Left.is at c.in_ok-solved.ensures.least));
      chosen = subst (IsChosen a g.B.Reducing.reduction forms (q_over a forms normal) (b_over a forms normal) sides (mean g solved.y)) same
          (at_outer (λ q b. IsChosen a g.B.Reducing.reduction forms q b sides (mean g solved.y) (map M solved.multipliers.items))
          (mean g c.in-Ok.outer.q) (mean g c.in-Ok.outer.b) (q_over a forms normal) (b_over a forms normal) c.in-Ok.ensures.q c.in-Ok.ensures.b
          (rw c.in-Left.is at c.in_ok-solved.ensures.chosen));
      leaves = subst (λ (xs : FactorList). LeavesInOrder (poly_algebra a) (form_over a forms) xs.factors (mean g solved.y) (mean g solution.y)
          (list_of solution.poles).factors) c.poles.ensures.poles c.in-Ok-without_poles.ensures.leaves;
    }

pub returns-in-Ok-without_poles-clause-certificate : goal.returns-in-Ok-without_poles-clause-certificate
returns-in-Ok-without_poles-clause-certificate g c =
    let a = g.B.Ring.algebra in
    let forms = g.B.FormRing.forms in
    let normal = normal_of c.args.normal.now in
    let sides = map (mean g) c.args.sides.now in
    let M = g.B.Ring.meaning in
    let solved = c.in-Left.solved in
    let solution = c.in-Ok-without_poles.solution in
    let row : List (Passing a) = map (λ x. (M x, g.met.B.Ring.passes x)) solved.multipliers.items in
    let same : map (λ (v : Passing a). v.0) row ≡ map M solved.multipliers.items = bare_of a M g.met.B.Ring.passes solved.multipliers.items in
    let least = at_outer (λ q b. IsLeastWithSign a forms q b sides (mean g solved.y) (map M solved.multipliers.items))
    (mean g c.in-Ok.outer.q) (mean g c.in-Ok.outer.b) (q_over a forms normal) (b_over a forms normal) c.in-Ok.ensures.q c.in-Ok.ensures.b
    (rw c.in-Left.is at c.in_ok-solved.ensures.least) in
    subst (λ m. IsCertified a forms normal sides (mean g solution.y) m (list_of solution.poles))
    (same ∙ sym c.in-Ok-without_poles.ensures.multipliers)
    (certified a g.met.B.Ring.laws g.met.B.Domain.domain_laws forms g.met.B.FormRing.form_laws normal sides (in_ring g solved.y) row
    (mean g solution.y) (list_of solution.poles)
    (subst (IsLeastWithSign a forms (q_over a forms normal) (b_over a forms normal) sides (mean g solved.y)) (sym same) least).least.solves
    (subst (λ (xs : FactorList). LeavesInOrder (poly_algebra a) (form_over a forms) xs.factors (mean g solved.y) (mean g solution.y)
    (list_of solution.poles).factors) c.poles.ensures.poles c.in-Ok-without_poles.ensures.leaves)
    (c.in-Ok-without_poles.ensures.scale ∙ ap (λ (xs : FactorList). xs.scale) c.poles.ensures.poles))

pub returns-in-Ok-without_poles-clause-poles : goal.returns-in-Ok-without_poles-clause-poles
returns-in-Ok-without_poles-clause-poles g c =
    let a = g.B.Ring.algebra in
    let solution = c.in-Ok-without_poles.solution in
    subst (λ (xs : FactorList). IsSorted xs.factors → AreNeededPoles (poly_algebra a) (form_over a g.B.FormRing.forms) xs.factors
    (mean g solution.y) (list_of solution.poles).factors) c.poles.ensures.poles c.in-Ok-without_poles.ensures.needed
    c.requires.quotient.normal_for.normal_form.poles.sorted

pub returns-in-Left-clause-faults : goal.returns-in-Left-clause-faults
returns-in-Left-clause-faults g c =
    let a = g.B.Ring.algebra in
    let forms = g.B.FormRing.forms in
    let normal = normal_of c.args.normal.now in
    let sides = map (mean g) c.args.sides.now in
    let D = g.B.Domain.division_in_bounds in
    let M = g.B.Ring.meaning in
    let solved = c.in-Left.solved in
    let fault = c.in-Err-without_poles.fault in
    let Divides : FactorList → Type 0 =
    λ xs. CancellingInBounds (poly_algebra a) (DivisionInBounds a D) (form_over a forms) xs.factors (mean g solved.y) in
    let chosen = at_outer (λ q b. IsChosen a g.B.Reducing.reduction forms q b sides (mean g solved.y) (map M solved.multipliers.items))
    (mean g c.in-Ok.outer.q) (mean g c.in-Ok.outer.b) (q_over a forms normal) (b_over a forms normal) c.in-Ok.ensures.q c.in-Ok.ensures.b
    (rw c.in-Left.is at c.in_ok-solved.ensures.chosen) in
    λ bound h.
    subst (OnStepFault (coefficient_count bound + length c.args.sides.now) (OrderInBounds D a g.B.Reducing.reduction forms normal sides))
    (sym c.step_fault-in-Err-without_poles.ensures.fault)
    (ring_fault (coefficient_count bound + length c.args.sides.now) (¬ (mean g solved.y ≡ (poly_algebra a).ops.nought) → Divides normal.poles)
    (OrderInBounds D a g.B.Reducing.reduction forms normal sides) fault
    (λ k. k.cancelling (mean g solved.y) (map M solved.multipliers.items) chosen)
    (fault_weaker fault (λ out k. out.1 (k out.0))
    (subst (λ (xs : FactorList). OnFault (¬ (mean g solved.y ≡ (poly_algebra a).ops.nought) × ¬ Divides xs) fault) c.poles.ensures.poles
    c.in-Err-without_poles.ensures.too_large)))

pub returns-clause-soluble : goal.returns-clause-soluble
returns-clause-soluble g c =
    let a = g.B.Ring.algebra in
    let forms = g.B.FormRing.forms in
    let normal = normal_of c.args.normal.now in
    let sides = map (mean g) c.args.sides.now in
    at_outer (λ q b. InsolubleWith a q b sides) (mean g c.in-Ok.outer.q) (mean g c.in-Ok.outer.b) (q_over a forms normal) (b_over a forms normal)
    c.in-Ok.ensures.q c.in-Ok.ensures.b (rw c.in-Right.is at c.in_ok-solved.ensures.soluble)

pub returns-clause-no_certificate : goal.returns-clause-no_certificate
returns-clause-no_certificate g c =
    let a = g.B.Ring.algebra in
    let forms = g.B.FormRing.forms in
    let normal = normal_of c.args.normal.now in
    let sides = map (mean g) c.args.sides.now in
    no_rational a g.met.B.Ring.laws g.met.B.Domain.domain_laws forms g.met.B.FormRing.form_laws normal sides
    (at_outer (λ q b. InsolubleWith a q b sides) (mean g c.in-Ok.outer.q) (mean g c.in-Ok.outer.b) (q_over a forms normal) (b_over a forms normal)
    c.in-Ok.ensures.q c.in-Ok.ensures.b (rw c.in-Right.is at c.in_ok-solved.ensures.soluble))
