-- Gosper's theorem, said of meanings.
use Rattle.std.specs.Prelude.{◌≡◌, ℕ, suc, ◌<◌, List, length, refl}
use Rattle.std.proofs.Common.{ap, sym, ◌∙◌, arith}
use Rattle.std.proofs.lemmas.List.{length-map}
use Rattle.ring_laws.specs.Algebra.{Ops, Algebra, Passing, Laws, same_passing}
use Rattle.ring_laws.specs.Division.{DomainLaws}
use Rattle.poly_laws.specs.PolyAlgebra.{poly_algebra}
use Rattle.kernel_laws.specs.Answers.{Vector, meant}
use Rattle.division_laws.specs.Polynomials.{Polynomial}
use Rattle.key_laws.specs.KeyEquation.{meanings, combination, InsolubleWith}
use Rattle.division_laws.proofs.Polynomials.{polynomials}
use Rattle.key_laws.proofs.Polynomials.{combination_in, combination_is}
use Rattle.gosper_theorem.specs.CommonPrimes.{ShareNoPrime}
use Rattle.key_laws.specs.Certificates.{IsCertificate}
use Rattle.gosper_theorem.proofs.Fractions.{next, fraction_difference}
use Rattle.gosper_theorem.proofs.InsolubleFractions.{no_rational_solution}
use Rattle.gosper_theorem.proofs.ShiftFamilies.{up, down}

module _ (a : Algebra) (l : Laws a) (d : DomainLaws a) (q b : Polynomial a) (sides : List (Polynomial a))
    (insoluble : InsolubleWith a q.0 b.0 (meanings a sides)) (apart : ShareNoPrime a q b) (v : Vector a) (u w : Polynomial a)
    (solved : IsCertificate a.ops q.0 b.0 (combination a.ops (meant a v) (meanings a sides)) u.0 w.0)
    (some : ¬ (w.0 ≡ (poly_algebra a).ops.nought)) where
  abbrev P : Ops (Polynomial a)
  P = polynomials a l

  equation : fraction_difference a l d q b u w ≡ P.product (combination_in a l v sides) (P.product w (next a l d w))
  equation =
      same_passing (poly_algebra a) (fraction_difference a l d q b u w) (P.product (combination_in a l v sides) (P.product w (next a l d w)))
      (solved ∙ ap (λ t. (poly_algebra a).ops.product t (P.product w (next a l d w)).0) (sym (combination_is a l v sides)))

  pub fraction_zero : (j : ℕ) → j < length sides → (v j).0 ≡ a.ops.nought
  fraction_zero j c =
      ap (λ (t : Passing a). t.0)
      (no_rational_solution a l d q b sides insoluble
      (λ p prime i k of_q of_b. apart p (up a l d p (suc i)) (down a l d p k) i k prime refl refl of_q of_b) v u w
      (λ e. some (ap (λ (t : Polynomial a). t.0) e)) equation j (omega (arith, c, length-map sides (λ (t : Polynomial a). t.0))))
