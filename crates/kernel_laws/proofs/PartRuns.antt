-- What a run through some of the columns says of the kernel: its pivot rows, and that no vector ends at their columns.
use Rattle.std.proofs.Common.{◌≡◌, ℕ, ◌<◌, ◌≤◌, List, [], ◌∷◌, map, length, sym, subst, All, inl, inr}
use Rattle.std.proofs.lemmas.List.{append-nil}
use Rattle.ring_laws.specs.Meaning.{Meaning}
use Rattle.ring_laws.specs.Algebra.{Ops, Algebra, Passing, within, Laws}
use Rattle.ring_laws.specs.Division.{DomainLaws}
use Rattle.kernel_laws.specs.Rows.{InKernel}
use Rattle.kernel_laws.specs.Pivots.{IsPivotColumn, rows_of}
use Rattle.kernel_laws.specs.Reduction.{Reduction, ReductionLaws, bare}
use Rattle.kernel_laws.specs.Elimination.{Run}
use Rattle.kernel_laws.specs.Answers.{NoneEnds}
use Rattle.kernel_laws.proofs.Echelon.{Echelon, none_at_pivots}
use Rattle.kernel_laws.proofs.Stairs.{echelon, pivots_send, rows_send}
use Rattle.kernel_laws.proofs.Belonging.{kernel_up, ends_up}
use Rattle.kernel_laws.proofs.ClearedRows.{domain}
use Rattle.kernel_laws.proofs.Runs.{Well, sound}

module _ (a : Algebra) (l : Laws a) (dl : DomainLaws a) (r : Reduction) (rl : ReductionLaws a r)
    (u : ¬ ((within a l.closed).unit ≡ (within a l.closed).nought)) (n : ℕ) (rows : List (List (Passing a)))
    (long : All (λ row. length row ≡ n) rows) (m : ℕ) (b : m ≤ n) (os : List (List Meaning)) (ps : List (ℕ × List Meaning)) (t : Meaning)
    (run : Run a r (map (bare a) rows) m os ps t) where
  abbrev W : Ops (Passing a)
  W = within a l.closed

  abbrev pub PivotRow : Type 0
  PivotRow = ℕ × List (Passing a)

  abbrev pub bare_pivot : PivotRow → ℕ × List Meaning
  bare_pivot p = (p.0, bare a p.1)

  abbrev pub meanings : List (List Meaning)
  meanings = map (bare a) rows

  pub well : Well a l dl r rl u n rows m os ps t
  well = sound a l dl r rl u n rows long run b

  pub pivot_rows_stand : Echelon W n 0 well.pivots
  pivot_rows_stand = subst (Echelon W n 0) (append-nil well.pivots) (echelon W n m well.pivots b well.reached.stairs)

  -- what the rows send to zero the pivot rows do, and the other way where it is zero at the columns that aren't done
  pub pivots_on : (v : ℕ → Passing a) → InKernel W n rows v → InKernel W n (rows_of well.pivots) v
  pivots_on v k = pivots_send W l.ring (domain a l dl n) n rows well.reached v k

  pub pivots_back : (v : ℕ → Passing a) → ((k : ℕ) → m ≤ k → k < n → v k ≡ W.nought) → InKernel W n (rows_of well.pivots) v
      → InKernel W n rows v
  pivots_back v z k = rows_send W l.ring (domain a l dl n) n rows well.reached v z k

  column_down : (i : ℕ) (qs : List PivotRow) → IsPivotColumn i (map bare_pivot qs) → IsPivotColumn i qs
  column_down i [] h = h
  column_down i (q ∷ qs) (inl h) = inl h
  column_down i (q ∷ qs) (inr h) = inr (column_down i qs h)

  column_up : (i : ℕ) (qs : List PivotRow) → IsPivotColumn i qs → IsPivotColumn i (map bare_pivot qs)
  column_up i [] h = h
  column_up i (q ∷ qs) (inl h) = inl h
  column_up i (q ∷ qs) (inr h) = inr (column_up i qs h)

  pub is_pivot : (i : ℕ) → IsPivotColumn i ps → IsPivotColumn i well.pivots
  is_pivot i h = column_down i well.pivots (subst (IsPivotColumn i) (sym well.pivots_are) h)

  pub isnt_pivot : (i : ℕ) → ¬ (IsPivotColumn i ps) → ¬ (IsPivotColumn i well.pivots)
  isnt_pivot i m h = m (subst (IsPivotColumn i) well.pivots_are (column_up i well.pivots h))

  -- no vector of the kernel ends at a pivot column
  pub none_at : (i : ℕ) → IsPivotColumn i ps → NoneEnds a n meanings i
  none_at i h v k e =
      none_at_pivots W l.ring (domain a l dl n) n pivot_rows_stand i (is_pivot i h) v
      (pivots_on v (kernel_up a l.closed n rows v k)) (ends_up a l.closed n v i e)
