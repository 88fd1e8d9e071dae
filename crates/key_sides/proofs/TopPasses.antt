-- The polynomial of a top of the code belongs to the polynomials in k and n.
use Rattle.std.specs.Prelude.{IsTrue, map, refl}
use Rattle.ring_laws.specs.Meaning.{number, listed}
use Rattle.ring_laws.specs.Wholes.{whole_algebra}
use Rattle.ring_laws.specs.declared.wholes.Whole.{Whole}
use Rattle.poly_laws.specs.Values.{level}
use Rattle.poly_laws.proofs.Belonging.{value_passes}
use Rattle.poly_generic.specs.declared.polys.Poly.{Poly}
use Rattle.gosper_form.specs.PiecesOf.{top_of}
use Rattle.gosper_form.specs.declared.tops.Top.{Top}

pub top_passes : (top : Top) → IsTrue ((level 2).passes (top_of top).poly)
top_passes top =
    value_passes (level 1) (λ (q : Poly _ _). listed (map (λ (w : Whole). number w.value) q.list.items))
    (λ q. value_passes whole_algebra (λ (w : Whole). number w.value) (λ w. refl) q.list.items q.ended) top.poly.list.items top.poly.ended
