-- The vectors of the free columns, column by column.
use Rattle.std.proofs.Common.{◌≡◌, ℕ, suc, ◌+◌, List, [], ◌∷◌, ◌++◌, sym, subst, arith}
use Rattle.ring_laws.specs.Meaning.{Meaning}
use Rattle.ring_laws.specs.Algebra.{Algebra}
use Rattle.kernel_laws.specs.Pivots.{IsPivotColumn}
use Rattle.kernel_laws.specs.Reduction.{Reduction}
use Rattle.kernel_laws.specs.BackSubstitution.{BackRun, FreeVectors, none, pivot, free}

module _ (a : Algebra) (r : Reduction) (n : ℕ) (ps : List (ℕ × List Meaning)) where
  pub start_none : (vs : List (List Meaning)) → vs ≡ [] → FreeVectors a r n ps 0 [] vs
  start_none vs e = subst (FreeVectors a r n ps 0 []) (sym e) none

  pub one_passed : (j : ℕ) (frees : List ℕ) (vs new : List (List Meaning)) → IsPivotColumn j ps → new ≡ vs → FreeVectors a r n ps j frees vs
      → FreeVectors a r n ps (j + 1) frees new
  one_passed j frees vs new h e f =
      let m : suc j ≡ j + 1 = omega arith in
      subst (λ k. FreeVectors a r n ps k frees new) m (subst (FreeVectors a r n ps (suc j) frees) (sym e) (pivot h f))

  pub one_added : (j : ℕ) (frees : List ℕ) (vs new : List (List Meaning)) (v : List Meaning) → ¬ (IsPivotColumn j ps) → BackRun a r n j ps v
      → new ≡ vs ++ v ∷ [] → FreeVectors a r n ps j frees vs → FreeVectors a r n ps (j + 1) (frees ++ j ∷ []) new
  one_added j frees vs new v h b e f =
      let m : suc j ≡ j + 1 = omega arith in
      subst (λ k. FreeVectors a r n ps k (frees ++ j ∷ []) new) m
      (subst (FreeVectors a r n ps (suc j) (frees ++ j ∷ [])) (sym e) (free h b f))
