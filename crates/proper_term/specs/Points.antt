-- What a point of the code stands for.
use Rattle.hypergeometric.specs.Point.{Point}
use Rattle.proper_term.specs.declared.point.Point.{Point as PointOfCode}

-- the point of its numbers
abbrev pub point_of : PointOfCode → Point
point_of at = record { n = at.n; k = at.k }
