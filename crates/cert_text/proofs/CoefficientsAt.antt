-- The coefficient of a power, in falling monomials and in a list of numbers.
use Rattle.std.specs.Prelude.{◌≡◌, ◌≢◌, ℕ, zero, suc, ◌<◌, ◌≤◌, if◌then◌else◌, pos, List, [], ◌∷◌, length}
use Rattle.std.proofs.Common.{refl, ap, sym, ◌∙◌, arith, set, replicate}
use Rattle.std.proofs.lemmas.Bool.{eq-eqb, ne_eqb}
use Rattle.ring_laws.specs.declared.wholes.Whole.{Whole}
use Rattle.document_text.specs.Spelling.{Monomial}
use Rattle.cert_text.specs.Reading.{AreFalling, value_in, coefficient_of}

-- no monomial has a power from the bound on
pub none_from : (bound : ℕ) (ms : List Monomial) (k : ℕ) → AreFalling bound ms → bound ≤ k → coefficient_of ms k ≡ pos 0
none_from bound [] k falling h = refl
none_from bound (m ∷ ms) k falling h =
    ap (λ b. if b then m.coefficient else coefficient_of ms k) (ne_eqb m.k_power k (λ e. omega (arith, falling.2, e, h)))
    ∙ none_from m.k_power ms k falling.3 (omega (arith, falling.2, h))

-- the coefficient of the first monomial, and of the others
pub coefficient_first : (m : Monomial) (ms : List Monomial) (k : ℕ) → k ≡ m.k_power → coefficient_of (m ∷ ms) k ≡ m.coefficient
coefficient_first m ms k e = ap (λ b. if b then m.coefficient else coefficient_of ms k) (eq-eqb m.k_power k (sym e))

pub coefficient_other : (m : Monomial) (ms : List Monomial) (k : ℕ) → k ≢ m.k_power → coefficient_of (m ∷ ms) k ≡ coefficient_of ms k
coefficient_other m ms k n = ap (λ b. if b then m.coefficient else coefficient_of ms k) (ne_eqb m.k_power k (λ e. n (sym e)))

-- a coefficient that is put into its place
pub value_set : (list : List Whole) (i : ℕ) (w : Whole) → i < length list → value_in (set list i w) i ≡ w.value
value_set [] i w h = absurd (omega arith)
value_set (x ∷ xs) zero w h = refl
value_set (x ∷ xs) (suc i) w h = value_set xs i w (omega arith)

pub value_kept : (list : List Whole) (i k : ℕ) (w : Whole) → k ≢ i → value_in (set list i w) k ≡ value_in list k
value_kept [] i k w n = refl
value_kept (x ∷ xs) zero zero w n = absurd (n refl)
value_kept (x ∷ xs) zero (suc k) w n = refl
value_kept (x ∷ xs) (suc i) zero w n = refl
value_kept (x ∷ xs) (suc i) (suc k) w n = value_kept xs i k w (λ e. n (ap suc e))

pub length_set : (list : List Whole) (i : ℕ) (w : Whole) → length (set list i w) ≡ length list
length_set [] i w = refl
length_set (x ∷ xs) zero w = refl
length_set (x ∷ xs) (suc i) w = ap suc (length_set xs i w)

-- as many zeros
pub value_nought : (n k : ℕ) (w : Whole) → w.value ≡ pos 0 → value_in (replicate n w) k ≡ pos 0
value_nought zero k w e = refl
value_nought (suc n) zero w e = e
value_nought (suc n) (suc k) w e = value_nought n k w e
