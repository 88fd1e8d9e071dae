-- The entries and the length of p*row - e*pivot.
use Rattle.std.proofs.Common.{◌≡◌, ℕ, zero, suc, ◌<◌, List, [], ◌∷◌, length, refl, arith}
use Rattle.ring_laws.specs.Algebra.{Ops}
use Rattle.kernel_laws.specs.Rows.{entry_at}
use Rattle.kernel_laws.specs.RowSteps.{cross, crossed}

pub entry_of_crossed : {A : Type 0} (o : Ops A) (p : A) (xs : List A) (e : A) (ys : List A) (i : ℕ) → i < length xs → i < length ys
    → entry_at o (crossed o p xs e ys) i ≡ cross o p (entry_at o xs i) e (entry_at o ys i)
entry_of_crossed o p [] e ys i b c = absurd (omega arith)
entry_of_crossed o p (x ∷ xs) e [] i b c = absurd (omega arith)
entry_of_crossed o p (x ∷ xs) e (y ∷ ys) zero b c = refl
entry_of_crossed o p (x ∷ xs) e (y ∷ ys) (suc i) b c = entry_of_crossed o p xs e ys i (omega arith) (omega arith)

pub length-crossed : {A : Type 0} (o : Ops A) (p : A) (xs : List A) (e : A) (ys : List A) → length xs ≡ length ys
    → length (crossed o p xs e ys) ≡ length xs
length-crossed o p [] e ys h = refl
length-crossed o p (x ∷ xs) e [] h = absurd (omega arith)
length-crossed o p (x ∷ xs) e (y ∷ ys) h = omega (arith, length-crossed o p xs e ys (omega arith))
