-- What a fraction of the code stands for.
use Rattle.ring_laws.specs.declared.domains.Domain.{Ghosts as DomainGhosts}
use Rattle.ring_laws.specs.declared.rings.Ring.{Ghosts as RingGhosts}
use Rattle.poly_fraction.specs.Fractions.{RingFraction}
use Rattle.poly_fraction.specs.declared.fractions.Frac.{Frac}

-- the meanings of its numerator and its denominator
abbrev pub fraction_of : {R : Type 0} {domain : DomainGhosts R} {ring : RingGhosts R} → Frac R domain ring → RingFraction
fraction_of {R} {domain} {ring} f = record { top = ring.meaning f.top; bottom = ring.meaning f.bottom }
