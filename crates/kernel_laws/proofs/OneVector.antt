-- The vector that the steps of elimination and back substitution give at a column is the only one, and so are those of all free columns.
use Rattle.std.specs.Prelude.{ℕ, suc, List, [], ◌∷◌, ◌++◌, IsFalse}
use Rattle.std.specs.List.{AllByRecursion}
use Rattle.std.proofs.Common.{◌≡◌, ap, sym, subst, refl}
use Rattle.std.proofs.Math.ListN.{set}
use Rattle.ring_laws.specs.Meaning.{Meaning}
use Rattle.ring_laws.specs.Algebra.{Algebra, Passing, Laws}
use Rattle.ring_laws.specs.Division.{DomainLaws}
use Rattle.kernel_laws.specs.Rows.{entry_at}
use Rattle.kernel_laws.specs.Reduction.{Reduction, ReductionLaws}
use Rattle.kernel_laws.specs.Elimination.{Run, begin, pass, climb}
use Rattle.kernel_laws.specs.BackSubstitution.{times_vector, Absorbed, quotient, multiple, BackStep, BackRun, begin as first_vector, step, FreeVectors, none, pivot, free}
use Rattle.kernel_laws.specs.Answers.{VectorOf, VectorsOf}
use Rattle.kernel_laws.proofs.OneRun.{IsDivisor, one_quotient, parts_are_divisors, candidate_isnt, one_ran}

module _ (a : Algebra) (l : Laws a) (dl : DomainLaws a) (r : Reduction) (rl : ReductionLaws a r) where
  abbrev Pivots : Type 0
  Pivots = List (ℕ × List Meaning)

  -- the entry of each pivot row at its column isn't zero
  abbrev AreNonzero : Pivots → Type 0
  AreNonzero pivots = AllByRecursion (λ p. IsFalse (a.ops.is_nought (entry_at a.ops p.1 p.0))) pivots

  one_more : (pivots : Pivots) (column : ℕ) (row : List Meaning) → AreNonzero pivots → IsFalse (a.ops.is_nought (entry_at a.ops row column))
      → AreNonzero (pivots ++ (column, row) ∷ [])
  one_more [] column row h k = (k, tt)
  one_more (p ∷ ps) column row h k = (h.0, one_more ps column row h.1 k)

  pivots_nonzero : {rows : List (List Meaning)} {j : ℕ} {os : List (List Meaning)} {ps : Pivots} {t : Meaning} → Run a r rows j os ps t
      → AreNonzero ps
  pivots_nonzero (begin h) = tt
  pivots_nonzero (pass q h) = pivots_nonzero q
  pivots_nonzero (climb {j} {pivots = ps} before after row plain q ch cs sp) =
      one_more ps j row (pivots_nonzero q) (candidate_isnt a l dl r rl j before after row ch)

  one_absorbed : (t s : Meaning) → IsDivisor a l dl r rl t → (v : List Meaning) (x y : Meaning) (ms ks : List Meaning) → Absorbed a t s v x ms
      → Absorbed a t s v y ks → (x ≡ y) × (ms ≡ ks)
  one_absorbed t s h v _ _ _ _ (quotient q e) (quotient p f) = (ap (λ (z : Passing a). z.0) (one_quotient a l dl r rl t s h q p e f), refl)
  one_absorbed t s h v _ _ _ _ (quotient q e) (multiple n) = absurd (n (record { quotient = q; is = e }))
  one_absorbed t s h v _ _ _ _ (multiple n) (quotient p f) = absurd (n (record { quotient = p; is = f }))
  one_absorbed t s h v _ _ _ _ (multiple n) (multiple m) = (refl, refl)

  one_step : (columns column : ℕ) (row old new other : List Meaning) → IsFalse (a.ops.is_nought (entry_at a.ops row column))
      → BackStep a r columns column row old new → BackStep a r columns column row old other → new ≡ other
  one_step columns column row old new other n h k =
      rl.one_row (set h.last column h.entry) new other h.reduced
      (subst (λ v. r.Reduced v other) (sym (cc (by_plain.0, by_plain.1))) k.reduced)
    where
      parts : (h.plain ≡ k.plain) × (h.core ≡ k.core)
      parts = rl.one_split (entry_at a.ops row column) h.plain h.core k.plain k.core h.split k.split

      divisors : IsDivisor a l dl r rl h.plain × IsDivisor a l dl r rl h.core
      divisors = parts_are_divisors a l dl r rl (entry_at a.ops row column) h.plain h.core n h.split

      by_core : (h.rest ≡ k.rest) × (h.middle ≡ k.middle)
      by_core = one_absorbed h.core (a.ops.neg (times_vector a columns row old)) divisors.1 old h.rest k.rest h.middle k.middle h.by_core
          (subst (λ t. Absorbed a t (a.ops.neg (times_vector a columns row old)) old k.rest k.middle) (sym parts.1) k.by_core)

      by_plain : (h.entry ≡ k.entry) × (h.last ≡ k.last)
      by_plain = one_absorbed h.plain h.rest divisors.0 h.middle h.entry k.entry h.last k.last h.by_plain
          (subst (λ t. Absorbed a t h.rest h.middle k.entry k.last) (sym parts.0)
          (subst (λ s. Absorbed a k.plain s h.middle k.entry k.last) (sym by_core.0)
          (subst (λ v. Absorbed a k.plain k.rest v k.entry k.last) (sym by_core.1) k.by_plain)))

  one_back : (columns column : ℕ) (pivots : Pivots) (v w : List Meaning) → AreNonzero pivots → BackRun a r columns column pivots v
      → BackRun a r columns column pivots w → v ≡ w
  one_back columns column _ _ _ n first_vector first_vector = refl
  one_back columns column _ v w n (step {column = c} {row} {old} {pivots = ps} h s) (step {old = before} k t) =
      one_step columns c row old v w n.0 s
      (subst (λ u. BackStep a r columns c row u w) (sym (one_back columns column ps old before n.1 h k)) t)

  pub one_vector : (columns : ℕ) (rows : List (List Meaning)) (column : ℕ) (v w : List Meaning) → VectorOf a r columns rows column v
      → VectorOf a r columns rows column w → v ≡ w
  one_vector columns rows column v w h k =
      one_back columns column h.pivots v w (pivots_nonzero h.ran.run) h.back
      (subst (λ ps. BackRun a r columns column ps w) (sym (one_ran a l dl r rl (suc column) rows h.pivots k.pivots h.ran k.ran)) k.back)

  one_of_all : (columns : ℕ) (pivots : Pivots) → AreNonzero pivots → {j : ℕ} {xs ys : List ℕ} {vs ws : List (List Meaning)}
      → FreeVectors a r columns pivots j xs vs → FreeVectors a r columns pivots j ys ws → vs ≡ ws
  one_of_all columns pivots n none none = refl
  one_of_all columns pivots n (pivot p h) (pivot q k) = one_of_all columns pivots n h k
  one_of_all columns pivots n (pivot p h) (free q t k) = absurd (q p)
  one_of_all columns pivots n (free p s h) (pivot q k) = absurd (p q)
  one_of_all columns pivots n (free {j} {vector = v} p s h) (free {vector = w} q t k) =
      cc (one_of_all columns pivots n h k, one_back columns j pivots v w n s t)

  pub one_basis : (columns : ℕ) (rows : List (List Meaning)) (vs ws : List (List Meaning)) → VectorsOf a r columns rows vs
      → VectorsOf a r columns rows ws → vs ≡ ws
  one_basis columns rows vs ws h k =
      one_of_all columns h.pivots (pivots_nonzero h.ran.run) h.back
      (subst (λ ps. FreeVectors a r columns ps columns k.frees ws) (sym (one_ran a l dl r rl columns rows h.pivots k.pivots h.ran k.ran)) k.back)
