-- In a domain a factor that isn't zero cancels.
use Rattle.std.specs.Prelude.{◌≡◌}
use Rattle.ring_laws.specs.Algebra.{Ops, Algebra, Passing, within, Laws}
use Rattle.ring_laws.specs.Division.{DomainLaws}
use Rattle.poly_laws.proofs.OneQuotient.{cancelled}
use Rattle.poly_laws.proofs.PolyDomain.{no_divisors_within}

module _ (a : Algebra) (l : Laws a) (d : DomainLaws a) where
  abbrev W : Ops (Passing a)
  W = within a l.closed

  pub cancel_factor : (x y t : Passing a) → ¬ (t ≡ W.nought) → W.product x t ≡ W.product y t → x ≡ y
  cancel_factor = cancelled W l.ring (no_divisors_within a l.closed d)
