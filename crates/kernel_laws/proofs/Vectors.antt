-- The vector of a free column after a run: it lies in the kernel, and ends at that column.
use Rattle.std.proofs.Common.{◌≡◌, ◌≢◌, ℕ, ◌<◌, ◌≤◌, arith, List, map, length, sym, ◌∙◌, ap, subst, All}
use Rattle.ring_laws.specs.Meaning.{Meaning}
use Rattle.ring_laws.specs.Algebra.{Ops, Algebra, Passing, within, Laws}
use Rattle.ring_laws.specs.Division.{DomainLaws}
use Rattle.kernel_laws.specs.Rows.{entry_at, InKernel}
use Rattle.kernel_laws.specs.Kernels.{EndsAt}
use Rattle.kernel_laws.specs.Pivots.{IsPivotColumn}
use Rattle.kernel_laws.specs.Reduction.{Reduction, ReductionLaws, bare}
use Rattle.kernel_laws.specs.Elimination.{Run}
use Rattle.kernel_laws.specs.BackSubstitution.{BackRun}
use Rattle.kernel_laws.specs.Answers.{FreeVector, IsFreeColumn, IsFirstFree}
use Rattle.kernel_laws.proofs.Belonging.{bare_at, length-bare, kernel_down, ends_down}
use Rattle.kernel_laws.proofs.PartRuns.{well, pivot_rows_stand, pivots_back, isnt_pivot, none_at}
use Rattle.kernel_laws.proofs.BackRuns.{BackWell, back_sound}

module _ (a : Algebra) (l : Laws a) (dl : DomainLaws a) (r : Reduction) (rl : ReductionLaws a r)
    (u : ¬ ((within a l.closed).unit ≡ (within a l.closed).nought)) (n : ℕ) (rows : List (List (Passing a)))
    (long : All (λ row. length row ≡ n) rows) (m : ℕ) (b : m ≤ n) (os : List (List Meaning)) (ps : List (ℕ × List Meaning)) (t : Meaning)
    (run : Run a r (map (bare a) rows) m os ps t) where
  abbrev W : Ops (Passing a)
  W = within a l.closed

  -- a vector of the kernel of the rows, whose entries belong to the ring
  pub record KernelVector (free : ℕ) (vector : List Meaning) : Type 0 where
    pub made : List (Passing a)
    pub made_is : bare a made ≡ vector
    pub size : length made ≡ n
    pub kernel : InKernel W n rows (entry_at W made)
    pub ends : EndsAt W n (entry_at W made) free
    pub apart : (k : ℕ) → k < n → ¬ (IsPivotColumn k ps) → k ≢ free → entry_at W made k ≡ W.nought

  pub kernel_vector : (i : ℕ) → i < m → IsFreeColumn n ps i → (vector : List Meaning) → BackRun a r n i ps vector → KernelVector i vector
  kernel_vector i c f vector s =
      let p = well a l dl r rl u n rows long m b os ps t run in
      let w : BackWell a l dl r rl u n i 0 p.pivots vector = back_sound a l dl r rl u n i f.within 0 p.pivots
      (pivot_rows_stand a l dl r rl u n rows long m b os ps t run) (isnt_pivot a l dl r rl u n rows long m b os ps t run i f.free) vector
      (subst (λ v. BackRun a r n i v vector) (sym p.pivots_are) s) in
      record {
        made = w.made;
        made_is = w.made_is;
        size = w.size;
        kernel = pivots_back a l dl r rl u n rows long m b os ps t run (entry_at W w.made) (λ k d e. w.ends.later k (omega (arith, c, d)) e) w.kernel;
        ends = w.ends;
        apart = λ k d e. w.apart k d (isnt_pivot a l dl r rl u n rows long m b os ps t run k e);
      }

  pub vector_at : {i : ℕ} {vector : List Meaning} (w : KernelVector i vector) (k : ℕ) → entry_at a.ops vector k ≡ (entry_at W w.made k).0
  vector_at w k = ap (λ v. entry_at a.ops v k) (sym w.made_is) ∙ bare_at a l.closed n w.made k

  -- the vector of the first free column
  pub first_vector : (first i : ℕ) → i < m → IsFirstFree n first ps i → (vector : List Meaning) → BackRun a r n i ps vector
      → FreeVector a n first (map (bare a) rows) vector i
  first_vector first i c f vector s =
      let w = kernel_vector i c f.free vector s in
      record {
        size = ap length (sym w.made_is) ∙ length-bare a l.closed n w.made ∙ w.size;
        kernel = kernel_down a l.closed n rows (entry_at W w.made) (entry_at a.ops vector) (vector_at w) w.kernel;
        from = f.from;
        ends = ends_down a l.closed n (entry_at W w.made) (entry_at a.ops vector) i (vector_at w) w.ends;
        least = λ j d e. none_at a l dl r rl u n rows long m b os ps t run j (f.before j d e);
      }
