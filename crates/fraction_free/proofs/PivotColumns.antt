-- Pivot rows, looked through by column.
use Rattle.std.proofs.Common.{◌≡◌, ℕ, zero, suc, ◌+◌, ◌<◌, List, [], ◌∷◌, ◌++◌, refl, All, map, length, get_or, drop, sym, ap, ◌∙◌, subst, arith, inl, inr, ⊎_elim, Result, Ok, Err, IfOk, IsErrAnd}
use Rattle.std.proofs.lemmas.Bool.{cases_lt}
use Rattle.std.proofs.lemmas.List.{drop_more, length-map}
use Rattle.ring_laws.specs.Meaning.{Meaning}
use Rattle.ring_laws.specs.Algebra.{Algebra}
use Rattle.ring_laws.specs.declared.faults.RingFault.{RingFault}
use Rattle.kernel_laws.specs.Pivots.{IsPivotColumn, ArePivotColumns, IsPivotRow}
use Rattle.kernel_laws.proofs.Kernels.{first_of, rest_of}
use Rattle.fraction_free.specs.declared.rounds.PivotRow.{PivotRow}
use Rattle.fraction_free.specs.declared.rounds.Eliminated.{Eliminated}
use Rattle.fraction_free.specs.RoundAnswers.{pivots_meant}

pub among_at : {T : Type 0} (meaning : T → Meaning) (ps : List (PivotRow T)) (i column : ℕ) (p : PivotRow T) → i < length ps → p ≡ get_or ps i p
    → column ≡ p.column → IsPivotColumn column (pivots_meant meaning ps)
among_at meaning [] i column p b e f = absurd (omega arith)
among_at {T} meaning (q ∷ ps) zero column p b e f = inl (f ∙ ap (λ (t : PivotRow T). t.column) e)
among_at meaning (q ∷ ps) (suc i) column p b e f = inr (among_at meaning ps i column p (omega arith) e f)

pub among_later : {T : Type 0} (meaning : T → Meaning) (ps : List (PivotRow T)) (i column : ℕ) (p : PivotRow T) → i < length ps → p ≡ get_or ps i p
    → ¬ (column ≡ p.column) → IsPivotColumn column (pivots_meant meaning (drop i ps)) → IsPivotColumn column (pivots_meant meaning (drop (i + 1) ps))
among_later {T} meaning ps i column p b e n h =
    let k : drop i ps ≡ p ∷ drop (i + 1) ps = drop_more ps i p b ∙ ap (λ t. t ∷ drop (i + 1) ps) (sym e) in
    ⊎_elim (λ f. absurd (n f)) (λ t. t) (subst (λ v. IsPivotColumn column (pivots_meant meaning v)) k h)

among_front : (i : ℕ) (ps : List (ℕ × List Meaning)) (p : ℕ × List Meaning) → IsPivotColumn i ps → IsPivotColumn i (ps ++ p ∷ [])
among_front i [] p h = absurd h
among_front i (q ∷ qs) p (inl e) = inl e
among_front i (q ∷ qs) p (inr h) = inr (among_front i qs p h)

among_last : (j : ℕ) (row : List Meaning) (ps : List (ℕ × List Meaning)) → IsPivotColumn j (ps ++ (j, row) ∷ [])
among_last j row [] = inl refl
among_last j row (q ∷ qs) = inr (among_last j row qs)

pub one_more_pivot : (first j : ℕ) (row : List Meaning) (ps new : List (ℕ × List Meaning)) → new ≡ ps ++ (j, row) ∷ [] → ArePivotColumns first j ps
    → ArePivotColumns first (j + 1) new
one_more_pivot first j row ps new e h i b c =
    subst (IsPivotColumn i) (sym e) (⊎_elim (λ d. among_front i ps (j, row) (h i b d))
    (λ d. subst (λ k. IsPivotColumn k (ps ++ (j, row) ∷ [])) (omega (arith, c, d)) (among_last j row ps)) (cases_lt i j))

-- no pivot row has a column that isn't done
pub none_later : (a : Algebra) (n j : ℕ) (ps : List (ℕ × List Meaning)) → All (IsPivotRow a n j) ps → ¬ (IsPivotColumn j ps)
none_later a n j [] h m = m
none_later a n j (p ∷ ps) h (inl e) = let q = first_of (IsPivotRow a n j) p ps h in omega (arith, e, q.before)
none_later a n j (p ∷ ps) h (inr m) = none_later a n j ps (rest_of (IsPivotRow a n j) p ps h) m

pub pivots_length : {T : Type 0} (meaning : T → Meaning) (ps : List (PivotRow T)) → length (pivots_meant meaning ps) ≡ length ps
pivots_length {T} meaning ps = length-map ps (λ (p : PivotRow T). (p.column, map meaning p.row.items))

-- a run that failed has no pivot rows
pub of_error : {T : Type 0} (P : Eliminated T → Type 0) (r : Result (Eliminated T) RingFault) (fault : RingFault) → IsErrAnd r (λ e. e ≡ fault) → IfOk r P
of_error P (Ok v) fault e = absurd e
of_error P (Err d) fault e = tt
