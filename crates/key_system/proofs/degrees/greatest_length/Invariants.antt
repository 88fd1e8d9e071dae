use Rattle.std.proofs.Common.{◌≡◌, ◌≤◌, max, map, drop}
use Rattle.ring_laws.specs.Meaning.{listed}
use Rattle.poly_generic.specs.declared.polys.Poly.{Poly}
use Rattle.key_system.proofs.BoundDegrees.{longest_of}
use Rattle.key_system.proofs.degrees.greatest_length.Given as goal

-- the greatest of the length so far and the lengths to come
abbrev pub invariant-loop-polynomial : goal.invariant-loop-polynomial
invariant-loop-polynomial g l = record {
  greatest : max l.length (longest_of (λ (v : Poly _ _). listed (map g.B.Ring.meaning v.list.items)) (drop l.polynomial-index l.polynomials))
      ≡ longest_of (λ (v : Poly _ _). listed (map g.B.Ring.meaning v.list.items)) l.polynomials;
  short : l.length ≤ 256;
}
