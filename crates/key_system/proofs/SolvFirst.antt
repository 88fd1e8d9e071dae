-- Rows of the code as rows of values that belong to the ring, and the first free column of the steps.
use Rattle.std.specs.Prelude.{◌≡◌, ℕ, suc, ◌<◌, ◌≤◌, pos, IsTrue, Vec, All, List, [], ◌∷◌, map, length, refl}
use Rattle.std.proofs.Common.{ap, sym, ◌∙◌, ⊎_elim, subst, arith}
use Rattle.std.proofs.lemmas.List.{length-map}
use Rattle.ring_laws.specs.Meaning.{Meaning}
use Rattle.ring_laws.specs.Algebra.{Ops, Algebra, Passing, within, Laws}
use Rattle.ring_laws.specs.Division.{DomainLaws}
use Rattle.kernel_laws.specs.Kernels.{Ends}
use Rattle.kernel_laws.specs.Pivots.{IsPivotColumn, ArePivotColumns, rows_of}
use Rattle.kernel_laws.specs.Reduction.{Reduction, ReductionLaws, bare}
use Rattle.kernel_laws.specs.Elimination.{Ran}
use Rattle.kernel_laws.specs.Answers.{meant, FreeVector, VectorOf, IsFirstFree}
use Rattle.kernel_laws.proofs.Belonging.{kernel_down, ends_down}
use Rattle.kernel_laws.proofs.ClearedRows.{domain}
use Rattle.kernel_laws.proofs.Echelon.{ends_at_free}
use Rattle.kernel_laws.proofs.FreeColumns.{pivot_or_not, all_map}
use Rattle.kernel_laws.proofs.PartRuns.{well, pivot_rows_stand, pivots_back, isnt_pivot}
use Rattle.key_laws.proofs.ValuesOfCode.{values_of, bare_values}
use Rattle.fraction_free.specs.RowAnswers.{rows_meant}

one_isnt : ¬ (pos 1 ≡ pos 0)
one_isnt e = cc

module _ {E Z : Type 0} (a : Algebra) (value : E → Meaning) (passes : (x : E) → IsTrue (a.passes (value x))) where
  abbrev pub belonging : List (Vec E Z) → List (List (Passing a))
  belonging rows = map (λ (row : Vec E Z). values_of a value passes row.items) rows

  pub rows_belong : (rows : List (Vec E Z)) → map (bare a) (belonging rows) ≡ rows_meant value rows
  rows_belong [] = refl
  rows_belong (row ∷ rows) = cc (bare_values a value passes row.items, rows_belong rows)

  pub sizes_belong : (n : ℕ) (rows : List (Vec E Z)) → All (λ (row : Vec E Z). length row.items ≡ n) rows
      → All (λ (row : List (Passing a)). length row ≡ n) (belonging rows)
  sizes_belong n rows h =
      all_map (λ (row : Vec E Z). values_of a value passes row.items) (λ (row : Vec E Z). length row.items ≡ n)
      (λ (row : List (Passing a)). length row ≡ n) (λ row e. length-map row.items (λ x. (value x, passes x)) ∙ e) rows h

module _ (a : Algebra) (l : Laws a) (dl : DomainLaws a) (r : Reduction) (rl : ReductionLaws a r) (n first free : ℕ) (rows : List (List (Passing a)))
    (long : All (λ row. length row ≡ n) rows) where
  abbrev W : Ops (Passing a)
  W = within a l.closed

  unit_isnt : ¬ (W.unit ≡ W.nought)
  unit_isnt e = one_isnt (dl.whole_nought (pos 1) (ap (λ (x : Passing a). x.0) (l.ring.whole_one ∙ e)))

  -- no column before is free, since at each free column some vector of the kernel ends
  module _ (vector : List Meaning) (found : FreeVector a n first (map (bare a) rows) vector free) (ps : List (ℕ × List Meaning))
      (ran : Ran a r (suc free) (map (bare a) rows) ps) where
    few : suc free ≤ n
    few = omega (arith, found.ends.within)

    not_free : (j : ℕ) → first ≤ j → j < free → ¬ ¬ (IsPivotColumn j ps)
    not_free j b c never =
        let there = well a l dl r rl unit_isnt n rows long (suc free) few ran.open_rows ps ran.divisor ran.run in
        let e : Ends W n (rows_of there.pivots) j =
        ends_at_free W l.ring (domain a l dl n) n unit_isnt
        (pivot_rows_stand a l dl r rl unit_isnt n rows long (suc free) few ran.open_rows ps ran.divisor ran.run) j (omega arith)
        (omega (arith, c, few))
        (isnt_pivot a l dl r rl unit_isnt n rows long (suc free) few ran.open_rows ps ran.divisor ran.run j never) in
        found.least j b c e.vector
        (kernel_down a l.closed n rows e.vector (meant a e.vector) (λ i. refl)
        (pivots_back a l dl r rl unit_isnt n rows long (suc free) few ran.open_rows ps ran.divisor ran.run e.vector
        (λ k d g. e.ends.later k (omega (arith, c, d)) g) e.kernel))
        (ends_down a l.closed n e.vector (meant a e.vector) j (λ i. refl) e.ends)

    pivots_before : ArePivotColumns first free ps
    pivots_before j b c = ⊎_elim (λ h. h) (λ never. absurd (not_free j b c never)) (pivot_or_not j ps)

  -- the column at which the vector ends is the first free one of the steps
  pub first_free : (rs : List (List Meaning)) → map (bare a) rows ≡ rs → (vector other : List Meaning) → FreeVector a n first rs vector free
      → (v : VectorOf a r n rs free other) → IsFirstFree n first v.pivots free
  first_free rs e vector other found v = record {
    free = record { within = found.ends.within; free = v.is_free };
    from = found.from;
    before = pivots_before vector (subst (λ t. FreeVector a n first t vector free) (sym e) found) v.pivots
        (subst (λ t. Ran a r (suc free) t v.pivots) (sym e) v.ran);
  }
