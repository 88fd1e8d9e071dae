-- The lengths of the rows of a run, and what its pivot rows have at their columns.
use Rattle.std.proofs.Common.{◌≡◌, ℕ, suc, ◌≤◌, IsFalse, List, [], ◌∷◌, ◌++◌, length, refl, sym, ◌∙◌, subst, arith, All}
use Rattle.std.specs.List.{AllZip}
use Rattle.std.proofs.Math.ListN.{set}
use Rattle.std.proofs.lemmas.List.{length-map, length-set, length-append}
use Rattle.std.proofs.lemmas.List.Elements.{All-nil, All-cons, All-append, All-push}
use Rattle.std.proofs.lemmas.Slice.Zip.{AllZip-long}
use Rattle.ring_laws.specs.Meaning.{Meaning}
use Rattle.ring_laws.specs.Algebra.{Algebra}
use Rattle.kernel_laws.specs.Rows.{entry_at}
use Rattle.kernel_laws.specs.Pivots.{IsPivotRow}
use Rattle.kernel_laws.specs.RowSteps.{Divided, divided, kept}
use Rattle.kernel_laws.specs.Reduction.{Reduction, ReductionLaws, bare}
use Rattle.kernel_laws.specs.Elimination.{crossed_at, Cleared, stays, changes, Run, begin, pass, climb}
use Rattle.kernel_laws.specs.BackSubstitution.{zeros, Absorbed, quotient, multiple, BackRun, begin as first_vector, step}
use Rattle.kernel_laws.proofs.Kernels.{first_of, rest_of, weaker, All-left, All-right}
use Rattle.kernel_laws.proofs.Crossed.{length-crossed}
use Rattle.kernel_laws.proofs.Parts.{middle_of}
use Rattle.kernel_laws.proofs.BackRuns.{length-zeros}

module _ (a : Algebra) (r : Reduction) (rl : ReductionLaws a r) (n : ℕ) where
  abbrev pub Long : List Meaning → Type 0
  Long row = length row ≡ n

  divided_size : (t : Meaning) (xs qs : List Meaning) → Divided a t xs qs → length qs ≡ length xs
  divided_size t xs _ (divided qs q) = sym (AllZip-long (λ q x. a.ops.product q t ≡ x) qs xs q)
  divided_size t xs _ (kept q) = refl

  cleared_size : (t : Meaning) (j : ℕ) (pivot row new : List Meaning) → Long pivot → Long row → Cleared a r t j pivot row new → Long new
  cleared_size t j pivot row _ p q (stays h) = q
  cleared_size t j pivot row _ p q (changes {new} f c) =
      (rl.reduces (bare a c.middle) new c.reduced).size ∙ divided_size t (crossed_at a j pivot row) (bare a c.middle) c.divided
      ∙ length-crossed a.ops (entry_at a.ops pivot j) row (entry_at a.ops row j) pivot (q ∙ sym p) ∙ q

  cleared_sizes : (t : Meaning) (j : ℕ) (pivot : List Meaning) (olds news : List (List Meaning)) → Long pivot → All Long olds
      → AllZip (Cleared a r t j pivot) olds news → All Long news
  cleared_sizes t j pivot [] [] p s c = All-nil Long
  cleared_sizes t j pivot [] (new ∷ news) p s c = absurd c
  cleared_sizes t j pivot (old ∷ olds) [] p s c = absurd c
  cleared_sizes t j pivot (old ∷ olds) (new ∷ news) p s c =
      All-cons Long new news (cleared_size t j pivot old new p (first_of Long old olds s) c.0)
      (cleared_sizes t j pivot olds news p (rest_of Long old olds s) c.1)

  reduced_sizes : (olds news : List (List Meaning)) → All Long olds → AllZip r.Reduced olds news → All Long news
  reduced_sizes [] [] s c = All-nil Long
  reduced_sizes [] (new ∷ news) s c = absurd c
  reduced_sizes (old ∷ olds) [] s c = absurd c
  reduced_sizes (old ∷ olds) (new ∷ news) s c =
      All-cons Long new news ((rl.reduces old new c.0).size ∙ first_of Long old olds s)
      (reduced_sizes olds news (rest_of Long old olds s) c.1)

  abbrev PivotsWell : ℕ → List (ℕ × List Meaning) → Type 0
  PivotsWell j pivots = All (IsPivotRow a n j) pivots

  -- open rows of the length of the rows, and pivot rows whose entries at their columns aren't zero
  pub record Sizes (j : ℕ) (open_rows : List (List Meaning)) (pivots : List (ℕ × List Meaning)) : Type 0 where
    pub rows : All Long open_rows
    pub pivot_rows : PivotsWell j pivots
    pub few : length pivots ≤ j

  further : (j : ℕ) (p : ℕ × List Meaning) → IsPivotRow a n j p → IsPivotRow a n (suc j) p
  further j p h = record { size = h.size; before = omega (arith, h.before); not_zero = h.not_zero }

  pub run_sizes : (rows : List (List Meaning)) → All Long rows
      → {j : ℕ} {os : List (List Meaning)} {ps : List (ℕ × List Meaning)} {t : Meaning}
      → Run a r rows j os ps t → Sizes j os ps
  run_sizes rows s (begin {open_rows = os} c) = record {
    rows = reduced_sizes rows os s c;
    pivot_rows = All-nil (IsPivotRow a n 0);
    few = omega arith;
  }
  run_sizes rows s (pass {j} {open_rows = os} {pivots = ps} {t} q h) =
      let w = run_sizes rows s q in
      record {
        rows = w.rows;
        pivot_rows = weaker (IsPivotRow a n j) (IsPivotRow a n (suc j)) ps (further j) w.pivot_rows;
        few = omega (arith, w.few);
      }
  run_sizes rows s (climb {j} {pivots = ps} {t} before after pivot {news} plain {core} q ch cs sp) =
      let w = run_sizes rows s q in
      let mid : All Long (pivot ∷ after) = All-right Long before (pivot ∷ after) w.rows in
      let others : All Long (before ++ after) = All-append Long before after (All-left Long before (pivot ∷ after) w.rows)
      (rest_of Long pivot after mid) in
      record {
        rows = cleared_sizes t j pivot (before ++ after) news (first_of Long pivot after mid) others cs;
        pivot_rows = All-push (IsPivotRow a n (suc j)) ps (j, pivot)
            (weaker (IsPivotRow a n j) (IsPivotRow a n (suc j)) ps (further j) w.pivot_rows)
            (record {
              size = first_of Long pivot after mid;
              before = omega arith;
              not_zero = subst (λ v. IsFalse (a.ops.is_nought (entry_at a.ops v j))) (middle_of before pivot after []) ch.candidate;
            });
        few = omega (arith, w.few, length-append ps ((j, pivot) ∷ []));
      }

  absorbed_size : (t s rest : Meaning) (old new : List Meaning) → Absorbed a t s old rest new → length new ≡ length old
  absorbed_size t s _ old _ (quotient q h) = refl
  absorbed_size t s _ old _ (multiple m) = length-map old (a.ops.product t)

  -- a vector has an entry at each column
  pub back_size : (free : ℕ) {ps : List (ℕ × List Meaning)} {vector : List Meaning} → BackRun a r n free ps vector → length vector ≡ n
  back_size free first_vector = length-set (zeros a.ops n) free a.ops.unit ∙ length-zeros a.ops n
  back_size free (step {column} {row} {old} {new} q t) =
      (rl.reduces (set t.last column t.entry) new t.reduced).size ∙ length-set t.last column t.entry
      ∙ absorbed_size t.plain t.rest t.entry t.middle t.last t.by_plain
      ∙ absorbed_size t.core _ t.rest old t.middle t.by_core ∙ back_size free q
