-- Two polynomials of which no prime divides both, at the same k or at a later k of the second.
use Rattle.std.specs.Prelude.{◌≡◌, ℕ, suc, pos, neg_ℤ}
use Rattle.ring_laws.specs.Algebra.{Algebra}
use Rattle.poly_laws.specs.Shift.{poly_shift}
use Rattle.division_laws.specs.Polynomials.{Polynomial}
use Rattle.division_laws.specs.Divisors.{Divides, IsPrime}

-- no prime divides q at a later k and b at the same or an earlier one: p(k+i+1) and p(k-j)
abbrev pub ShareNoPrime : (a : Algebra) → (q b : Polynomial a) → Type 0
ShareNoPrime a q b =
    (p s t : Polynomial a) (i j : ℕ) → IsPrime a p → s.0 ≡ poly_shift a.ops (pos (suc i)) p.0 → t.0 ≡ poly_shift a.ops (neg_ℤ (pos j)) p.0
    → Divides a s q → ¬ Divides a t b
