use Rattle.std.proofs.Common.{◌≡◌, ℕ, ℤ, pos, neg_ℤ, ◌-◌, ◌-ℤ◌, ◌<◌, map, length, drop, ap, sym, ◌∙◌, subst, arith, to_z, of_z}
use Rattle.std.specs.Int.{w128}
use Rattle.std.specs.List.{AllByRecursion}
use Rattle.std.proofs.Math.Seq.{drop-length}
use Rattle.ring_laws.specs.Meaning.{Meaning, number, listed}
use Rattle.ring_laws.specs.Algebra.{Passing}
use Rattle.ring_laws.specs.declared.wholes.Whole.{Whole}
use Rattle.whole_roots.specs.Differences.{polynomials}
use Rattle.whole_roots.specs.FactorBounds.{stretched, FactorsInBounds}
use Rattle.whole_roots.specs.LinearFactors.{Entry, IsBefore}
use Rattle.whole_roots.specs.FactorSearch.{AreFactorsAmong, AddsFactor}
use Rattle.whole_roots.specs.Roots.{IsRoot}
use Rattle.whole_roots.proofs.Bounds.{negative_fits, held_negative, negative_not_least}
use Rattle.whole_roots.proofs.DifferenceLaws.{polynomial_of}
use Rattle.whole_roots.proofs.FactorRoots.{factor_gives_root}
use Rattle.whole_roots.proofs.FactorSteps.{SeenAt, root_at_small, root_at, roots_from_index, root_below, no_root_yet, comes_last, root_added, no_factor, all_roots_seen, twice_negative}
use Rattle.whole_roots.proofs.Faults.{fault_with}
use Rattle.whole_roots.proofs.RootFactors.{root_gives_factor}
use Rattle.whole_roots.proofs.Stretching.{stretched_not_zero}
use Rattle.whole_roots.proofs.factors.push_factors.Goals as goal

-- no form of the slope divides f
pub returns-then-not-may_divide-clause-found : goal.returns-then-not-may_divide-clause-found
returns-then-not-may_divide-clause-found c =
    no_factor c.args.slope (listed (map (λ (w : Whole). number w.value) c.args.f.now.list.items)) c.args.factors.now.entries
    (c.may_divide.ensures.none c.if-not-may_divide.true) c.requires.found

pub whole_roots-requires : goal.whole_roots-requires
whole_roots-requires c = record {
  not_zero = stretched_not_zero c.args.slope c.args.f.now.list.items _ c.in_ok-stretched.ensures.gives c.requires.not_zero;
}

-- no root is listed yet
pub loop-left-init : goal.loop-left-init
loop-left-init c =
    let m = listed (map (λ (w : Whole). number w.value) c.args.f.now.list.items) in
    let roots = c.in_ok-roots.roots.items in
    let count : c.len-left.result ≡ length roots = omega (arith, c.len-left.ensures) in
    record {
      within = omega (arith, c.len-left.ensures);
      found =
          subst (λ xs. AreFactorsAmong (SeenAt c.args.slope xs) m c.args.factors.now.entries)
          (sym (ap (λ (k : ℕ). drop k roots) count ∙ drop-length roots))
          (no_root_yet c.args.slope m c.args.factors.now.entries c.requires.found);
    }

-- the negative of a root
pub overflow_sub-index : goal.overflow_sub-index
overflow_sub-index c =
    let g = c.in_ok-stretched.stretched in
    let not_zero = stretched_not_zero c.args.slope c.args.f.now.list.items _ c.in_ok-stretched.ensures.gives c.requires.not_zero in
    negative_fits c.index.result.now
    (root_at_small g.list.items c.in_ok-roots.roots.items g.ended not_zero c.in_ok-roots.ensures.roots (c.loop-left.left - 1) c.index.result.now
    (omega (arith, c.loop-left-test.true, c.loop-left.invariant.within)) c.index.ensures)

pub push_factor-requires-clause-constant : goal.push_factor-requires-clause-constant
push_factor-requires-clause-constant c =
    let g = c.in_ok-stretched.stretched in
    let root = c.index.result.now in
    let not_zero = stretched_not_zero c.args.slope c.args.f.now.list.items _ c.in_ok-stretched.ensures.gives c.requires.not_zero in
    let small = root_at_small g.list.items c.in_ok-roots.roots.items g.ended not_zero c.in_ok-roots.ensures.roots (c.loop-left.left - 1) root
    (omega (arith, c.loop-left-test.true, c.loop-left.invariant.within)) c.index.ensures in
    negative_not_least root (to_z w128 (of_z w128 (pos 0 -ℤ to_z w128 (of_z w128 root)))) small (held_negative root small)

-- the roots fall, so the constants rise
pub push_factor-requires-clause-last : goal.push_factor-requires-clause-last
push_factor-requires-clause-last c =
    let g = c.in_ok-stretched.stretched in
    let roots = c.in_ok-roots.roots.items in
    let root = c.index.result.now in
    let left = c.loop-left.left in
    let entries = c.loop-left.factors.entries in
    let not_zero = stretched_not_zero c.args.slope c.args.f.now.list.items _ c.in_ok-stretched.ensures.gives c.requires.not_zero in
    let small = root_at_small g.list.items roots g.ended not_zero c.in_ok-roots.ensures.roots (left - 1) root
    (omega (arith, c.loop-left-test.true, c.loop-left.invariant.within)) c.index.ensures in
    subst (λ (z : ℤ). AllByRecursion (λ (x : Entry). IsBefore x.0 (c.args.slope, z)) entries) (sym (held_negative root small))
    (comes_last c.args.slope root (drop left roots)
    (root_below roots left root c.loop-left-test.true c.loop-left.invariant.within c.index.ensures c.in_ok-roots.ensures.roots.rising) entries
    c.loop-left.invariant.found.seen)

-- one root more
pub loop-left-preserved : goal.loop-left-preserved
loop-left-preserved c =
    let m = listed (map (λ (w : Whole). number w.value) c.args.f.now.list.items) in
    let g = c.in_ok-stretched.stretched in
    let roots = c.in_ok-roots.roots.items in
    let root = c.index.result.now in
    let left = c.loop-left.left in
    let i = c.loop-left.invariant in
    let not_zero = stretched_not_zero c.args.slope c.args.f.now.list.items _ c.in_ok-stretched.ensures.gives c.requires.not_zero in
    let small = root_at_small g.list.items roots g.ended not_zero c.in_ok-roots.ensures.roots (left - 1) root
    (omega (arith, c.loop-left-test.true, i.within)) c.index.ensures in
    let new = c.push_factor.new.factors.entries in
    record {
      within = omega (arith, i.within);
      found =
          subst (λ xs. AreFactorsAmong (SeenAt c.args.slope xs) m new)
          (sym (roots_from_index roots left root c.loop-left-test.true i.within c.index.ensures))
          (root_added c.args.slope root (drop left roots) m c.loop-left.factors.entries new
          (root_below roots left root c.loop-left-test.true i.within c.index.ensures c.in_ok-roots.ensures.roots.rising) small
          (subst (λ (z : ℤ). AddsFactor m c.args.slope z c.loop-left.factors.entries new) (held_negative root small) c.in_ok-push_factor.ensures.adds)
          i.found);
    }

-- a division by a form that gives a root, and so divides f
pub returns-in_err-push_factor-clause-too_large : goal.returns-in_err-push_factor-clause-too_large
returns-in_err-push_factor-clause-too_large c =
    let m = listed (map (λ (w : Whole). number w.value) c.args.f.now.list.items) in
    let g = c.in_ok-stretched.stretched in
    let roots = c.in_ok-roots.roots.items in
    let root = c.index.result.now in
    let left = c.loop-left.left in
    let inside : left - 1 < length roots = omega (arith, c.loop-left-test.true, c.loop-left.invariant.within) in
    let not_zero = stretched_not_zero c.args.slope c.args.f.now.list.items _ c.in_ok-stretched.ensures.gives c.requires.not_zero in
    let small = root_at_small g.list.items roots g.ended not_zero c.in_ok-roots.ensures.roots (left - 1) root inside c.index.ensures in
    let f : Passing polynomials = polynomial_of c.args.f.now.list.items c.args.f.now.ended in
    let constant = to_z w128 (of_z w128 (pos 0 -ℤ to_z w128 (of_z w128 root))) in
    fault_with c.from_residual-in_err-push_factor.result c.in_err-push_factor.field-0.0 c.from_residual-in_err-push_factor.ensures.1
    (λ h (b : FactorsInBounds m).
    h.1 (b.divisions c.args.slope constant h.0 (root_gives_factor c.args.slope constant h.0 f
    (subst (λ (z : ℤ). IsRoot (stretched c.args.slope m) z) (sym (twice_negative root _ (held_negative root small)))
    (subst (λ (x : Meaning). IsRoot x root) c.in_ok-stretched.ensures.gives
    (root_at roots left root c.loop-left-test.true c.loop-left.invariant.within
    c.index.ensures _ c.in_ok-roots.ensures.roots))))))
    c.in_err-push_factor.ensures.too_large

-- all roots are listed, and each factor of the slope gives one
pub returns-clause-found : goal.returns-clause-found
returns-clause-found c =
    let m = listed (map (λ (w : Whole). number w.value) c.args.f.now.list.items) in
    let f : Passing polynomials = polynomial_of c.args.f.now.list.items c.args.f.now.ended in
    let roots = c.in_ok-roots.roots.items in
    let entries = c.loop-left.factors.entries in
    let none : c.loop-left.left ≡ 0 = omega (arith, c.loop-left-test.false) in
    all_roots_seen c.args.slope roots m entries
    (λ v d. c.in_ok-roots.ensures.roots.all (neg_ℤ v)
    (subst (λ (x : Meaning). IsRoot x (neg_ℤ v)) (sym c.in_ok-stretched.ensures.gives) (factor_gives_root c.args.slope v c.requires.from_one f d)))
    (subst (λ (k : ℕ). AreFactorsAmong (SeenAt c.args.slope (drop k roots)) m entries) none c.loop-left.invariant.found)
