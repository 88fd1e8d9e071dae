-- The meaning of every polynomial belongs to the polynomials, and fits.
use Rattle.std.specs.Prelude.{◌≡◌, ℕ, zero, suc, ◌≤◌, Bool, IsTrue, List, [], ◌∷◌, map, length, refl}
use Rattle.std.proofs.Common.{ap, sym, ◌∙◌, subst, arith}
use Rattle.std.proofs.lemmas.Bool.{and_from}
use Rattle.std.proofs.lemmas.List.{length-map}
use Rattle.ring_laws.specs.Meaning.{Meaning, parted, joined, listed, parted-joined}
use Rattle.ring_laws.specs.Algebra.{Algebra, Laws}
use Rattle.poly_laws.specs.Lists.{coefficient_at, is_trimmed}
use Rattle.poly_laws.specs.PolyAlgebra.{every_passes, poly_passes, poly_algebra}

each_passes : {T : Type 0} (test : Meaning → Bool) (meaning : T → Meaning) → ((x : T) → IsTrue (test (meaning x))) → (xs : List T)
    → IsTrue (every_passes test (map meaning xs))
each_passes test meaning h [] = refl
each_passes test meaning h (x ∷ xs) = and_from (test (meaning x)) (every_passes test (map meaning xs)) (h x) (each_passes test meaning h xs)

pub value_passes : {T : Type 0} (a : Algebra) (meaning : T → Meaning) → ((x : T) → IsTrue (a.passes (meaning x))) → (xs : List T)
    → IsTrue (is_trimmed a.ops (map meaning xs)) → IsTrue (poly_passes a (listed (map meaning xs)))
value_passes a meaning h xs t =
    let e : parted (joined (map meaning xs)) ≡ map meaning xs = parted-joined (map meaning xs) in
    and_from (every_passes a.passes (parted (joined (map meaning xs)))) (is_trimmed a.ops (parted (joined (map meaning xs))))
    (ap (every_passes a.passes) e ∙ each_passes a.passes meaning h xs) (ap (is_trimmed a.ops) e ∙ t)

pub each_fits : {T : Type 0} (a : Algebra) (meaning : T → Meaning) → a.ops.Fits a.ops.nought → ((x : T) → a.ops.Fits (meaning x))
    → (xs : List T) (k : ℕ) → a.ops.Fits (coefficient_at a.ops (map meaning xs) k)
each_fits a meaning n h [] k = n
each_fits a meaning n h (x ∷ xs) zero = h x
each_fits a meaning n h (x ∷ xs) (suc k) = each_fits a meaning n h xs k

pub value_fits : {T : Type 0} (a : Algebra) (l : Laws a) (meaning : T → Meaning) → ((x : T) → a.ops.Fits (meaning x)) → (xs : List T)
    → length xs ≤ 256 → (poly_algebra a).ops.Fits (listed (map meaning xs))
value_fits a l meaning h xs b =
    let e : parted (joined (map meaning xs)) ≡ map meaning xs = parted-joined (map meaning xs) in (
      omega (arith, ap length e, length-map xs meaning),
      λ k. subst (λ t. a.ops.Fits (coefficient_at a.ops t k)) (sym e) (each_fits a meaning l.magnitudes.fits_nought h xs k),
    )
