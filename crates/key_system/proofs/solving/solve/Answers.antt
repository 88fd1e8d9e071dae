use Rattle.std.proofs.Common.{◌≡◌, ◌+◌, ◌-◌, ℕ, IsTrue, map, length, ap, sym, ◌∙◌, subst, arith, Ok, IfOk, Option, All, List, Vec, Global}
use Rattle.std.proofs.lemmas.List.{length-map}
use Rattle.either.specs.declared.Either.{Either}
use Rattle.either.specs.declared.Either.TheVariants.{Left, Right}
use Rattle.ring_laws.specs.Meaning.{Meaning, listed}
use Rattle.poly_laws.specs.PolyAlgebra.{poly_algebra}
use Rattle.poly_laws.proofs.Belonging.{value_passes}
use Rattle.poly_generic.specs.declared.polys.Poly.{Poly}
use Rattle.kernel_laws.specs.Answers.{VectorInBounds}
use Rattle.key_laws.specs.DegreeBounds.{IsDegreeBound, coefficient_count}
use Rattle.fraction_free.specs.RowAnswers.{rows_meant}
use Rattle.fraction_free.specs.declared.kernels.Kernel.{Kernel}
use Rattle.fraction_free.specs.declared.kernels.Pivots.{Pivots}
use Rattle.fraction_free.specs.KernelAnswers.{Eliminates, IsByTheSteps}
use Rattle.key_system.specs.Reckoning.{SolvingInBounds, BoundInBounds, RowsInBounds}
use Rattle.key_system.specs.declared.solving.Solved.{Solved}
use Rattle.key_system.specs.Solved.{AreParts}
use Rattle.key_system.specs.Answers.{AreFewColumns, OnStepFault, GivesBound}
use Rattle.key_system.proofs.SolvFaults.{few_are, ring_fault, rows_fault, at_bound, returned, kept_ok, turned_err, bound_of}
use Rattle.key_system.proofs.SolvLeast.{found_insoluble, found_soluble, least_with_sign, chosen}
use Rattle.key_system.proofs.solving.solve.Given.{Over}
use Rattle.key_system.proofs.solving.solve.Goals.{In_ok-bound, In_ok-kernel, In_ok-solved-in-Left}
use Rattle.key_system.proofs.solving.solve.Goals as goal

-- what a polynomial of the code means, and that this is one of the ring
abbrev mean : (g : Over) → Poly g.row.B.Denot g.B.Ring → Meaning
mean g v = listed (map g.B.Ring.meaning v.list.items)

pass : (g : Over) (v : Poly g.row.B.Denot g.B.Ring) → IsTrue ((poly_algebra g.B.Ring.algebra).passes (mean g v))
pass g v = value_passes g.B.Ring.algebra g.B.Ring.meaning g.met.B.Ring.passes v.list.items v.ended

-- the bound that was found is the bound
bound_is : (g : Over) (c : In_ok-bound g)
    → IsDegreeBound g.B.Ring.algebra.ops (mean g c.args.q.now) (mean g c.args.b.now) (map (mean g) c.args.sides.now) c.in_ok-bound.bound
bound_is g c =
    bound_of g.B.Ring.algebra (mean g c.args.q.now) (mean g c.args.b.now) (map (mean g) c.args.sides.now) c.degree_bound.result c.in_ok-bound.bound
    (kept_ok c.degree_bound.result c.stepped.result c.in_ok-bound.bound c.stepped.ensures.kept c.stepped.ensures.fault c.in_ok-bound.was)
    c.degree_bound.ensures.bound

-- what elimination gave of the rows
module _ (g : Over) (c : In_ok-kernel g) where
  abbrev first : ℕ
  first = c.coefficients_within-first.result

  abbrev width : ℕ
  width = c.coefficients_within-first.result + length c.args.sides.now

  abbrev rows : List (List Meaning)
  rows = rows_meant g.B.Ring.meaning c.in_ok-rows.rows.items

  first_is : c.coefficients_within-first.result ≡ coefficient_count c.in_ok-bound.bound
  first_is = omega (
    arith,
    c.coefficients_within-first.ensures.count,
    few_are (coefficient_count c.in_ok-bound.bound + length c.args.sides.now) c.in_ok-rows.ensures.few,
  )

  width_is : c.coefficients_within-first.result + length c.args.sides.now ≡ coefficient_count c.in_ok-bound.bound + length c.args.sides.now
  width_is = ap (λ n. n + length c.args.sides.now) first_is

  sizes_are : All (λ (v : Vec g.row.B.Denot Global). length v.items ≡ width) c.in_ok-rows.rows.items
  sizes_are = subst (λ n. All (λ (v : Vec g.row.B.Denot Global). length v.items ≡ n) c.in_ok-rows.rows.items) (sym width_is)
      c.in_ok-rows.ensures.sizes

  gave : (answer : Either (Kernel g.row.B.Denot) Pivots) → c.in_ok-kernel.field-0 ≡ answer → c.eliminate.result ≡ Ok answer
  gave answer e =
      kept_ok c.eliminate.result c.stepped-2.result c.in_ok-kernel.field-0 c.stepped-2.ensures.kept c.stepped-2.ensures.fault c.in_ok-kernel.was
      ∙ ap Ok e

  eliminates : (answer : Either (Kernel g.row.B.Denot) Pivots) → c.in_ok-kernel.field-0 ≡ answer
      → Eliminates g.B.Ring.meaning g.B.Ring.algebra width (coefficient_count c.in_ok-bound.bound) rows
      (VectorInBounds g.B.Domain.division_in_bounds g.B.Ring.algebra g.B.Reducing.reduction width first rows) (Ok answer)
  eliminates answer e =
      subst (λ n. Eliminates g.B.Ring.meaning g.B.Ring.algebra width n rows
      (VectorInBounds g.B.Domain.division_in_bounds g.B.Ring.algebra g.B.Reducing.reduction width first rows) (Ok answer)) first_is
      (subst (Eliminates g.B.Ring.meaning g.B.Ring.algebra width first rows
      (VectorInBounds g.B.Domain.division_in_bounds g.B.Ring.algebra g.B.Reducing.reduction width first rows)) (gave answer e)
      c.eliminate.ensures.kernel)

  by_steps : (answer : Either (Kernel g.row.B.Denot) Pivots) → c.in_ok-kernel.field-0 ≡ answer
      → IsByTheSteps g.B.Ring.meaning g.B.Ring.algebra g.B.Reducing.reduction width rows (Ok answer)
  by_steps answer e =
      subst (IsByTheSteps g.B.Ring.meaning g.B.Ring.algebra g.B.Reducing.reduction width rows) (gave answer e) c.eliminate.ensures.steps

-- the parts of the vector
parts_are : (g : Over) (c : In_ok-solved-in-Left g) → c.coefficients_within-first.result ≡ coefficient_count c.in_ok-bound.bound
    → AreParts g.B.Ring.algebra g.B.FormRing.forms (map g.B.Ring.meaning c.in-Left.kernel.vector.items) c.in-Left.kernel.free
    (coefficient_count c.in_ok-bound.bound) (length c.in-Left.kernel.vector.items - c.coefficients_within-first.result)
    (mean g c.in_ok-solved-in-Left.solved.y) (map g.B.Ring.meaning c.in_ok-solved-in-Left.solved.multipliers.items)
parts_are g c e =
    let M = g.B.Ring.meaning in
    let row = map M c.in-Left.kernel.vector.items in
    let others = length c.in-Left.kernel.vector.items - c.coefficients_within-first.result in
    let solved = c.in_ok-solved-in-Left.solved in
    subst (λ k. AreParts g.B.Ring.algebra g.B.FormRing.forms row c.in-Left.kernel.free k others (mean g solved.y) (map M solved.multipliers.items)) e
    (subst (λ r. IfOk r (λ (s : Solved g.row.B.Denot g.B.Ring). AreParts g.B.Ring.algebra g.B.FormRing.forms row c.in-Left.kernel.free
    c.coefficients_within-first.result others (mean g s.y) (map M s.multipliers.items)))
    (kept_ok c.solution_of.result c.stepped-in-Left.result solved c.stepped-in-Left.ensures.kept c.stepped-in-Left.ensures.fault
    c.in_ok-solved-in-Left.was)
    c.solution_of.ensures.parts)

pub returns-in_err-bound-clause-faults : goal.returns-in_err-bound-clause-faults
returns-in_err-bound-clause-faults g c =
    let A = g.B.Ring.algebra in
    let q = mean g c.args.q.now in
    let b = mean g c.args.b.now in
    let sides = map (mean g) c.args.sides.now in
    let InBounds = SolvingInBounds g.B.Domain.division_in_bounds A g.B.Reducing.reduction q b sides in
    let turned = turned_err c.degree_bound.result c.stepped.result c.in_err-bound.field-0.0 c.stepped.ensures.kept c.stepped.ensures.fault
    c.in_err-bound.was in
    returned _ c.from_residual.result c.in_err-bound.field-0.0 c.from_residual.ensures.1
    (λ n h. subst (OnStepFault (coefficient_count n + length c.args.sides.now) InBounds) (sym turned.post)
    (ring_fault (coefficient_count n + length c.args.sides.now) (BoundInBounds A q b) InBounds turned.cause (λ k. k.bound)
    (subst (GivesBound A q b sides) turned.was c.degree_bound.ensures.bound)))

pub returns-in_err-rows-clause-faults : goal.returns-in_err-rows-clause-faults
returns-in_err-rows-clause-faults g c =
    let A = g.B.Ring.algebra in
    let q = mean g c.args.q.now in
    let b = mean g c.args.b.now in
    let sides = map (mean g) c.args.sides.now in
    let InBounds = SolvingInBounds g.B.Domain.division_in_bounds A g.B.Reducing.reduction q b sides in
    let bound = c.in_ok-bound.bound in
    let is_bound = bound_is g (goal.at.returns-in_err-rows-clause-faults g c).In_ok-bound in
    let many : length sides ≡ length c.args.sides.now = length-map c.args.sides.now (mean g) in
    returned _ c.from_residual-in_err-rows.result c.in_err-rows.field-0.0 c.from_residual-in_err-rows.ensures.1
    (at_bound A.ops q b sides (λ (n : Option ℕ). OnStepFault (coefficient_count n + length c.args.sides.now) InBounds c.in_err-rows.field-0.0)
    bound is_bound
    (rows_fault (coefficient_count bound + length c.args.sides.now) (RowsInBounds A q b (coefficient_count bound)) InBounds
    c.in_err-rows.field-0.0
    (λ few k. k.rows bound is_bound (omega (arith, few, many))) c.in_err-rows.ensures.few_before c.in_err-rows.ensures.faults))

pub returns-in_ok-solved-in-Left-clause-few : goal.returns-in_ok-solved-in-Left-clause-few
returns-in_ok-solved-in-Left-clause-few g c =
    at_bound g.B.Ring.algebra.ops (mean g c.args.q.now) (mean g c.args.b.now) (map (mean g) c.args.sides.now)
    (λ n. AreFewColumns (coefficient_count n + length c.args.sides.now)) c.in_ok-bound.bound
    (bound_is g (goal.at.returns-in_ok-solved-in-Left-clause-few g c).In_ok-bound) c.in_ok-rows.ensures.few

pub returns-in-Right-clause-few : goal.returns-in-Right-clause-few
returns-in-Right-clause-few g c =
    at_bound g.B.Ring.algebra.ops (mean g c.args.q.now) (mean g c.args.b.now) (map (mean g) c.args.sides.now)
    (λ n. AreFewColumns (coefficient_count n + length c.args.sides.now)) c.in_ok-bound.bound
    (bound_is g (goal.at.returns-in-Right-clause-few g c).In_ok-bound) c.in_ok-rows.ensures.few

pub returns-in-Right-clause-soluble : goal.returns-in-Right-clause-soluble
returns-in-Right-clause-soluble g c =
    let k = (goal.at.returns-in-Right-clause-soluble g c).In_ok-kernel in
    found_insoluble g.B.Ring.algebra g.met.B.Ring.laws g.met.B.Domain.domain_laws (mean g) (pass g) g.B.Ring.meaning g.met.B.Ring.passes
    c.args.q.now c.args.b.now c.args.sides.now c.in_ok-bound.bound (bound_is g (goal.at.returns-in-Right-clause-soluble g c).In_ok-bound)
    c.in_ok-rows.rows.items (width g k) (width_is g k) c.in_ok-rows.ensures.rows c.in-Right.field-0.rank
    (eliminates g k (Right c.in-Right.field-0) c.in-Right.is)

pub returns-in_ok-solved-in-Left-clause-soluble : goal.returns-in_ok-solved-in-Left-clause-soluble
returns-in_ok-solved-in-Left-clause-soluble g c =
    let k = (goal.at.returns-in_ok-solved-in-Left-clause-soluble g c).In_ok-kernel in
    found_soluble g.B.Ring.algebra g.met.B.Ring.laws g.met.B.Domain.domain_laws (mean g) (pass g) g.B.Ring.meaning g.met.B.Ring.passes
    c.args.q.now c.args.b.now c.args.sides.now c.in_ok-bound.bound
    (bound_is g (goal.at.returns-in_ok-solved-in-Left-clause-soluble g c).In_ok-bound)
    c.in_ok-rows.rows.items (width g k) (width_is g k) c.in_ok-rows.ensures.rows c.in-Left.kernel.vector.items c.in-Left.kernel.free
    (eliminates g k (Left c.in-Left.kernel) c.in-Left.is)

pub returns-in_ok-solved-in-Left-clause-least : goal.returns-in_ok-solved-in-Left-clause-least
returns-in_ok-solved-in-Left-clause-least g c =
    let M = g.B.Ring.meaning in
    let at = goal.at.returns-in_ok-solved-in-Left-clause-least g c in
    let k = at.In_ok-kernel in
    let row = c.in-Left.kernel.vector.items in
    let found = eliminates g k (Left c.in-Left.kernel) c.in-Left.is in
    let others_are : length row - first g k ≡ length c.args.sides.now = omega (arith, found.size, length-map row M, first_is g k) in
    least_with_sign g.B.Ring.algebra g.met.B.Ring.laws g.met.B.Domain.domain_laws (mean g) (pass g) M g.met.B.Ring.passes
    c.args.q.now c.args.b.now c.args.sides.now c.in_ok-bound.bound (bound_is g at.In_ok-bound)
    c.in_ok-rows.rows.items (width g k) (width_is g k) c.in_ok-rows.ensures.rows row c.in-Left.kernel.free found
    g.B.FormRing.forms (length row - first g k) others_are (mean g c.in_ok-solved-in-Left.solved.y)
    (map M c.in_ok-solved-in-Left.solved.multipliers.items) (parts_are g at.In_ok-solved-in-Left (first_is g k))

pub returns-in_ok-solved-in-Left-clause-chosen : goal.returns-in_ok-solved-in-Left-clause-chosen
returns-in_ok-solved-in-Left-clause-chosen g c =
    let M = g.B.Ring.meaning in
    let at = goal.at.returns-in_ok-solved-in-Left-clause-chosen g c in
    let k = at.In_ok-kernel in
    let row = c.in-Left.kernel.vector.items in
    let found = eliminates g k (Left c.in-Left.kernel) c.in-Left.is in
    let others_are : length row - first g k ≡ length c.args.sides.now = omega (arith, found.size, length-map row M, first_is g k) in
    chosen g.B.Ring.algebra g.met.B.Ring.laws g.met.B.Domain.domain_laws (mean g) (pass g) M g.met.B.Ring.passes
    c.args.q.now c.args.b.now c.args.sides.now c.in_ok-bound.bound (bound_is g at.In_ok-bound)
    c.in_ok-rows.rows.items (width g k) (width_is g k) c.in_ok-rows.ensures.rows row c.in-Left.kernel.free found
    g.B.FormRing.forms (length row - first g k) others_are (mean g c.in_ok-solved-in-Left.solved.y)
    (map M c.in_ok-solved-in-Left.solved.multipliers.items) (parts_are g at.In_ok-solved-in-Left (first_is g k))
    g.B.Reducing.reduction g.met.B.Reducing.reduction_laws (sizes_are g k) (by_steps g k (Left c.in-Left.kernel) c.in-Left.is)
