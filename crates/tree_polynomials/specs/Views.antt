-- What values of the code stand for, where there are any.
use Rattle.std.specs.Prelude.{ℤ, Option, Some, None}
use Rattle.ring_laws.specs.declared.domains.Domain.{Ghosts as DomainGhosts}
use Rattle.ring_laws.specs.declared.rings.Ring.{Ghosts as RingGhosts}
use Rattle.poly_fraction.specs.FractionOf.{fraction_of}
use Rattle.poly_fraction.specs.declared.fractions.Frac.{Frac}
use Rattle.ring_laws.specs.declared.wholes.Whole.{Whole}
use Rattle.hypergeometric.specs.Fraction.{Fraction}
use Rattle.proper_term.specs.Fields.{number_fraction_of}

-- the number that a whole number of the code stands for
abbrev pub whole_value : Whole → ℤ
whole_value whole = whole.value

-- a fraction of whole numbers as a fraction of numbers
abbrev pub fraction_value : {domain : DomainGhosts Whole} {ring : RingGhosts Whole} → Frac Whole domain ring → Fraction
fraction_value f = number_fraction_of (fraction_of f)
