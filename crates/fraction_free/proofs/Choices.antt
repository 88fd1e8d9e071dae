-- The choice of the pivot row.
use Rattle.std.proofs.Common.{◌≡◌, ℕ, zero, suc, ◌+◌, ◌<◌, ◌≤◌, IsTrue, IsFalse, List, [], ◌∷◌, map, length, get_or, refl, sym, ap, ◌∙◌, subst, arith, Option, Some, None, Vec, ⊎_elim}
use Rattle.std.proofs.lemmas.Bool.{cases_lt}
use Rattle.std.proofs.lemmas.List.{get_or-map}
use Rattle.ring_laws.specs.Meaning.{Meaning}
use Rattle.ring_laws.specs.Algebra.{Algebra}
use Rattle.poly_generic.proofs.ListLemmas.{at_item}
use Rattle.kernel_laws.specs.Rows.{entry_at}
use Rattle.kernel_laws.specs.Reduction.{Reduction}
use Rattle.kernel_laws.specs.Elimination.{entry, IsCandidate, ChosenOf}
use Rattle.fraction_free.specs.RowAnswers.{rows_meant}
use Rattle.fraction_free.specs.RoundAnswers.{Best, Picks}
use Rattle.fraction_free.proofs.RowLemmas.{false_from}

pub entry_is : {T Z : Type 0} (a : Algebra) (meaning : T → Meaning) (rows : List (Vec T Z)) (i column : ℕ) (row : Vec T Z) (x : T)
    → i < length rows → row ≡ get_or rows i row → column < length row.items → x ≡ get_or row.items column x
    → entry a (rows_meant meaning rows) i column ≡ meaning x
entry_is {T} {Z} a meaning rows i column row x b e c f =
    ap (λ v. entry_at a.ops v column) (get_or-map (λ (v : Vec T Z). map meaning v.items) rows i row [] b)
    ∙ ap (λ (v : Vec T Z). entry_at a.ops (map meaning v.items) column) (sym e) ∙ at_item a.ops meaning row.items column x c f

module _ (a : Algebra) (r : Reduction) (column : ℕ) (rows : List (List Meaning)) (n : ℕ) where
  abbrev weight_at : ℕ → ℕ
  weight_at k = r.weight (entry a rows k column)

  isnt_both : (m : Meaning) → IsTrue (a.ops.is_nought m) → ¬ (IsFalse (a.ops.is_nought m))
  isnt_both m h k = cc (h, k)

  at_last : (P : ℕ → Type 0) → P n → ((k : ℕ) → k < n → P k) → (k : ℕ) → k < n + 1 → P k
  at_last P p h k b = ⊎_elim (λ c. h k c) (λ c. subst P (omega (arith, b, c)) p) (cases_lt k n)

  pub best_zero : (best : Option ℕ) (m : Meaning) → entry a rows n column ≡ m → IsTrue (a.ops.is_nought m) → Best a r column rows n best
      → Best a r column rows (n + 1) best
  best_zero (Some place) m e z h =
      let z2 : IsTrue (a.ops.is_nought (entry a rows n column)) = subst (λ t. IsTrue (a.ops.is_nought t)) (sym e) z in
      record {
        within = omega (arith, h.within);
        candidate = h.candidate;
        least = at_last (λ k. IsCandidate a column rows k → weight_at place ≤ weight_at k) (λ c. absurd (isnt_both (entry a rows n column) z2 c)) h.least;
        first = h.first;
      }
  best_zero None m e z h =
      at_last (λ k. IsTrue (a.ops.is_nought (entry a rows k column))) (subst (λ t. IsTrue (a.ops.is_nought t)) (sym e) z) h

  candidate : (m : Meaning) → entry a rows n column ≡ m → ¬ (IsTrue (a.ops.is_nought m)) → IsCandidate a column rows n
  candidate m e z = subst (λ t. IsFalse (a.ops.is_nought t)) (sym e) (false_from (a.ops.is_nought m) z)

  pub best_first : (m : Meaning) → entry a rows n column ≡ m → ¬ (IsTrue (a.ops.is_nought m)) → Best a r column rows n None
      → ChosenOf a r column rows (n + 1) n
  best_first m e z h = record {
    within = omega arith;
    candidate = candidate m e z;
    least = at_last (λ k. IsCandidate a column rows k → weight_at n ≤ weight_at k) (λ c. omega arith)
        (λ k b c. absurd (isnt_both (entry a rows k column) (h k b) c));
    first = λ k b c. absurd (isnt_both (entry a rows k column) (h k b) c);
  }

  pub best_lighter : (place w v : ℕ) (m p : Meaning) → entry a rows n column ≡ m → entry a rows place column ≡ p → ¬ (IsTrue (a.ops.is_nought m))
      → w ≡ r.weight m → v ≡ r.weight p → w < v → ChosenOf a r column rows n place → ChosenOf a r column rows (n + 1) n
  best_lighter place w v m p e f z g i b h =
      let lighter : weight_at n < weight_at place = omega (arith, b, g, i, ap r.weight e, ap r.weight f) in
      record {
        within = omega arith;
        candidate = candidate m e z;
        least = at_last (λ k. IsCandidate a column rows k → weight_at n ≤ weight_at k) (λ c. omega arith)
            (λ k d c. omega (arith, lighter, h.least k d c));
        first = λ k d c. omega (arith, lighter, h.least k d c);
      }

  pub best_stays : (place w v : ℕ) (m p : Meaning) → entry a rows n column ≡ m → entry a rows place column ≡ p → w ≡ r.weight m → v ≡ r.weight p
      → v ≤ w → ChosenOf a r column rows n place → ChosenOf a r column rows (n + 1) place
  best_stays place w v m p e f g i b h =
      let heavier : weight_at place ≤ weight_at n = omega (arith, b, g, i, ap r.weight e, ap r.weight f) in
      record {
        within = omega (arith, h.within);
        candidate = h.candidate;
        least = at_last (λ k. IsCandidate a column rows k → weight_at place ≤ weight_at k) (λ c. heavier) h.least;
        first = h.first;
      }

pub picks : (a : Algebra) (r : Reduction) (column : ℕ) (rows : List (List Meaning)) (n : ℕ) (best : Option ℕ) → n ≡ length rows
    → Best a r column rows n best → Picks a r column rows best
picks a r column rows n (Some place) e h = subst (λ m. ChosenOf a r column rows m place) e h
picks a r column rows n None e h = λ k d b.
    subst (λ v. IsTrue (a.ops.is_nought (entry_at a.ops v column))) (same rows k d b) (h k (omega (arith, b, e)))
  where
    same : (xs : List (List Meaning)) (k : ℕ) (d : List Meaning) → k < length xs → get_or xs k [] ≡ get_or xs k d
    same [] k d b = absurd (omega arith)
    same (x ∷ xs) zero d b = refl
    same (x ∷ xs) (suc k) d b = same xs k d (omega arith)
