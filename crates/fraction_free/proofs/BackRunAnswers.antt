-- The vector of a free column, pivot row by pivot row, from what each step answers.
use Rattle.std.proofs.Common.{◌≡◌, ℕ, zero, suc, ◌+◌, ◌<◌, List, [], ◌∷◌, map, length, get_or, drop, sym, ap, ◌∙◌, subst, arith, All}
use Rattle.std.proofs.lemmas.List.{length-map, drop_more, drop_all, get_or-map}
use Rattle.std.proofs.lemmas.List.Elements.{All-get_or}
use Rattle.ring_laws.specs.Meaning.{Meaning}
use Rattle.ring_laws.specs.Algebra.{Algebra}
use Rattle.ring_laws.specs.Answer.{OnFault, fault_weaker}
use Rattle.ring_laws.specs.declared.faults.RingFault.{RingFault}
use Rattle.kernel_laws.specs.Pivots.{IsPivotRow}
use Rattle.kernel_laws.specs.Reduction.{Reduction, ReductionLaws}
use Rattle.kernel_laws.specs.BackSubstitution.{unit_vector, BackStep, BackStepInBounds, BackRun, begin, step, BackInBounds}
use Rattle.kernel_laws.proofs.RunSizes.{back_size}
use Rattle.fraction_free.specs.declared.rounds.PivotRow.{PivotRow}
use Rattle.fraction_free.specs.RoundAnswers.{pivots_meant, HasCore}

module _ {T : Type 0} (meaning : T → Meaning) (a : Algebra) (r : Reduction) (rl : ReductionLaws a r) (DivisionInBounds : Meaning → Meaning → Type 0)
    (n free : ℕ) (ps : List (PivotRow T)) where
  abbrev one_meant : PivotRow T → ℕ × List Meaning
  one_meant p = (p.column, map meaning p.row.items)

  pub run_begin : (at : ℕ) (vector : List Meaning) → length ps ≡ at → vector ≡ unit_vector a.ops n free
      → BackRun a r n free (pivots_meant meaning (drop at ps)) vector
  run_begin at vector e f =
      subst (λ v. BackRun a r n free (pivots_meant meaning v) vector) (sym (drop_all at ps (omega (arith, e))))
      (subst (BackRun a r n free []) (sym f) begin)

  pub vector_size : (qs : List (PivotRow T)) (vector : List T) → BackRun a r n free (pivots_meant meaning qs) (map meaning vector) → length vector ≡ n
  vector_size qs vector run = sym (length-map vector meaning) ∙ back_size a r rl n free run

  module _ (at i : ℕ) (e : i + 1 ≡ at) (b : i < length ps) (p : PivotRow T) (f : p ≡ get_or ps i p) where
    pub pivot_here : All (IsPivotRow a n n) (pivots_meant meaning ps) → IsPivotRow a n n (one_meant p)
    pivot_here h =
        subst (IsPivotRow a n n) (get_or-map one_meant ps i p (one_meant p) b ∙ ap one_meant (sym f))
        (All-get_or (IsPivotRow a n n) (pivots_meant meaning ps) i (one_meant p) (omega (arith, b, length-map ps one_meant)) h)

    pub core_here : All (HasCore meaning a r) ps → HasCore meaning a r p
    core_here h = subst (HasCore meaning a r) (sym f) (All-get_or (HasCore meaning a r) ps i p b h)

    front : pivots_meant meaning (drop i ps) ≡ one_meant p ∷ pivots_meant meaning (drop at ps)
    front =
        ap (pivots_meant meaning) (drop_more ps i p b) ∙ ap (λ t. one_meant t ∷ pivots_meant meaning (drop (i + 1) ps)) (sym f)
        ∙ ap (λ k. one_meant p ∷ pivots_meant meaning (drop k ps)) e

    step_is : (m column : ℕ) (row old new : List Meaning) → m ≡ n → column ≡ p.column → row ≡ map meaning p.row.items
        → BackStep a r m column row old new → BackStep a r n p.column (map meaning p.row.items) old new
    step_is m column row old new g h k s =
        subst (λ t. BackStep a r t p.column (map meaning p.row.items) old new) g
        (subst (λ t. BackStep a r m t (map meaning p.row.items) old new) h (subst (λ t. BackStep a r m column t old new) k s))

    pub run_more : (m column : ℕ) (row old new : List Meaning) → m ≡ n → column ≡ p.column → row ≡ map meaning p.row.items
        → BackRun a r n free (pivots_meant meaning (drop at ps)) old → BackStep a r m column row old new
        → BackRun a r n free (pivots_meant meaning (drop i ps)) new
    run_more m column row old new g h k run s =
        subst (λ t. BackRun a r n free t new) (sym front) (step run (step_is m column row old new g h k s))

    pub run_not : (m column : ℕ) (row old : List Meaning) (fault : RingFault) → m ≡ n → column ≡ p.column → row ≡ map meaning p.row.items
        → BackRun a r n free (pivots_meant meaning (drop at ps)) old
        → OnFault (¬ (BackStepInBounds DivisionInBounds a r m column row old)) fault
        → OnFault (¬ (BackInBounds DivisionInBounds a r n free (pivots_meant meaning ps))) fault
    run_not m column row old fault g h k run s =
        fault_weaker fault (λ c w. c (subst (λ t. BackStepInBounds DivisionInBounds a r m column t old) (sym k)
        (subst (λ t. BackStepInBounds DivisionInBounds a r m t (map meaning p.row.items) old) (sym h)
        (subst (λ t. BackStepInBounds DivisionInBounds a r t p.column (map meaning p.row.items) old) (sym g)
        ((subst (BackInBounds DivisionInBounds a r n free) front (dropped ps i w)).1 old run))))) s
      where
        dropped : (qs : List (PivotRow T)) (i : ℕ) → BackInBounds DivisionInBounds a r n free (pivots_meant meaning qs)
            → BackInBounds DivisionInBounds a r n free (pivots_meant meaning (drop i qs))
        dropped qs zero w = w
        dropped [] (suc i) w = w
        dropped (x ∷ qs) (suc i) w = dropped qs i w.0
