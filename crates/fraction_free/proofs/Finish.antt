-- What elimination answers, from a whole run.
use Rattle.std.proofs.Common.{◌≡◌, ℕ, suc, ◌≤◌, arith, Option, Some, None, IsTrue, List, [], ◌∷◌, map, length, refl, sym, ap, ◌∙◌, subst, All, Vec, pos}
use Rattle.std.proofs.lemmas.List.{length-map}
use Rattle.std.proofs.lemmas.List.Elements.{All-nil, All-cons}
use Rattle.ring_laws.specs.Meaning.{Meaning}
use Rattle.ring_laws.specs.Algebra.{Algebra, Passing, within, Laws}
use Rattle.ring_laws.specs.Division.{DomainLaws}
use Rattle.kernel_laws.specs.Pivots.{ArePivotColumns, IsPivotRow}
use Rattle.kernel_laws.specs.Reduction.{Reduction, ReductionLaws, bare}
use Rattle.kernel_laws.specs.Elimination.{Ran}
use Rattle.kernel_laws.specs.BackSubstitution.{BackRun, FreeVectors}
use Rattle.kernel_laws.specs.Answers.{FreeVector, AllPivots, Basis, IsFirstFree}
use Rattle.kernel_laws.proofs.Kernels.{first_of, rest_of}
use Rattle.kernel_laws.proofs.RunKernels.{all_pivots}
use Rattle.kernel_laws.proofs.RunSizes.{run_sizes, Sizes}
use Rattle.kernel_laws.proofs.Vectors.{first_vector}
use Rattle.kernel_laws.proofs.Bases.{basis}
use Rattle.fraction_free.specs.RowAnswers.{rows_meant}
use Rattle.fraction_free.specs.RoundAnswers.{RanTo}
use Rattle.fraction_free.proofs.ManyRows.{sizes_up}

one_isnt : ¬ (pos 1 ≡ pos 0)
one_isnt e = cc

unit_not : (a : Algebra) (l : Laws a) → DomainLaws a → ¬ ((within a l.closed).unit ≡ (within a l.closed).nought)
unit_not a l dl e = one_isnt (dl.whole_nought (pos 1) (ap (λ (v : Passing a). v.0) (l.ring.whole_one ∙ e)))

bare_is : {T : Type 0} (a : Algebra) (meaning : T → Meaning) (passes : (x : T) → IsTrue (a.passes (meaning x))) (xs : List T)
    → bare a (map (λ x. (meaning x, passes x)) xs) ≡ map meaning xs
bare_is a meaning passes [] = refl
bare_is a meaning passes (x ∷ xs) = ap (λ t. meaning x ∷ t) (bare_is a meaning passes xs)

module _ {T Z : Type 0} (a : Algebra) (l : Laws a) (dl : DomainLaws a) (meaning : T → Meaning) (passes : (x : T) → IsTrue (a.passes (meaning x)))
    (r : Reduction) (rl : ReductionLaws a r) (n : ℕ) where
  abbrev sensed : Vec T Z → List (Passing a)
  sensed row = map (λ x. (meaning x, passes x)) row.items

  rows_are : (rows : List (Vec T Z)) → map (bare a) (map sensed rows) ≡ rows_meant meaning rows
  rows_are [] = refl
  rows_are (row ∷ rows) = cc (bare_is a meaning passes row.items, rows_are rows)

  long_rows : (rows : List (Vec T Z)) → All (λ (v : Vec T Z). length v.items ≡ n) rows → All (λ (v : List (Passing a)). length v ≡ n) (map sensed rows)
  long_rows [] h = All-nil (λ (v : List (Passing a)). length v ≡ n)
  long_rows (row ∷ rows) h =
      All-cons (λ (v : List (Passing a)). length v ≡ n) (sensed row) (map sensed rows)
      (length-map row.items (λ x. (meaning x, passes x)) ∙ first_of (λ (v : Vec T Z). length v.items ≡ n) row rows h)
      (long_rows rows (rest_of (λ (v : Vec T Z). length v.items ≡ n) row rows h))

  module _ (rows : List (Vec T Z)) (ps : List (ℕ × List Meaning)) (long : All (λ (v : Vec T Z). length v.items ≡ n) rows) where
    moved : (m : ℕ) → Ran a r m (rows_meant meaning rows) ps → Ran a r m (map (bare a) (map sensed rows)) ps
    moved m ran = subst (λ v. Ran a r m v ps) (sym (rows_are rows)) ran

    sizes : (m : ℕ) (ran : Ran a r m (rows_meant meaning rows) ps) → Sizes a r rl n m ran.open_rows ps
    sizes m ran = run_sizes a r rl n (rows_meant meaning rows) (sizes_up meaning n rows long) ran.run

    pub pivots_well : (m : ℕ) → m ≤ n → Ran a r m (rows_meant meaning rows) ps → All (IsPivotRow a n n) ps
    pivots_well m b ran k d c =
        let p = (sizes m ran).pivot_rows k d c in
        record { size = p.size; before = omega (arith, p.before, b); not_zero = p.not_zero }

    pub few_pivots : Ran a r n (rows_meant meaning rows) ps → length ps ≤ n
    few_pivots ran = (sizes n ran).few

    pub right_side : Ran a r n (rows_meant meaning rows) ps → (first : ℕ) → ArePivotColumns first n ps
        → AllPivots a n first (rows_meant meaning rows) (length ps)
    right_side ran first h =
        let here = moved n ran in
        subst (λ v. AllPivots a n first v (length ps)) (rows_are rows)
        (all_pivots a l dl r rl (unit_not a l dl) n (map sensed rows) (long_rows rows long) here.open_rows ps here.divisor here.run first h)

    pub left_side : (first i : ℕ) → Ran a r (suc i) (rows_meant meaning rows) ps → IsFirstFree n first ps i → (vector : List Meaning)
        → BackRun a r n i ps vector → FreeVector a n first (rows_meant meaning rows) vector i
    left_side first i ran f vector b =
        let here = moved (suc i) ran in
        subst (λ v. FreeVector a n first v vector i) (rows_are rows)
        (first_vector a l dl r rl (unit_not a l dl) n (map sensed rows) (long_rows rows long) (suc i) (omega (arith, f.free.within)) here.open_rows ps
        here.divisor here.run first i (omega arith) f vector b)

    pub basis_side : Ran a r n (rows_meant meaning rows) ps → (frees : List ℕ) (vectors : List (List Meaning)) → FreeVectors a r n ps n frees vectors
        → Basis a n (rows_meant meaning rows) vectors
    basis_side ran frees vectors f =
        let here = moved n ran in
        subst (λ v. Basis a n v vectors) (rows_are rows)
        (basis a l dl r rl (unit_not a l dl) n (map sensed rows) (long_rows rows long) here.open_rows ps here.divisor here.run frees vectors f)

-- nothing is free behind the last column, so elimination from there on goes through all
pub through_all : (a : Algebra) (r : Reduction) (n : ℕ) (rows : List (List Meaning)) (ps : List (ℕ × List Meaning)) (free : Option ℕ)
    → RanTo a r n n rows ps free → Ran a r n rows ps
through_all a r n rows ps (Some free) h = absurd (omega (arith, h.1.from, h.1.free.within))
through_all a r n rows ps None h = h.0
