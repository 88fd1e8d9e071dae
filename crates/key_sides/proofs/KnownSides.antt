-- Known values: what a side is, which degree it has, and when it is in bounds.
use Rattle.std.specs.Prelude.{◌≡◌, pos, negsuc, [], ◌∷◌, refl}
use Rattle.ring_laws.specs.Meaning.{number, listed}
use Rattle.poly_laws.specs.Values.{level}
use Rattle.hypergeometric.specs.LinearForm.{FactorList}
use Rattle.hypergeometric.specs.FactorLists.{factor_with}
use Rattle.hypergeometric.specs.Forms.{form_with}
use Rattle.hypergeometric.specs.Products.{list_polynomial}
use Rattle.term_pieces.specs.Pieces.{Top}
use Rattle.form_rings.specs.OneVariable.{forms_in_n}
use Rattle.key_sides.specs.Lifted.{lifted}
use Rattle.key_sides.specs.Powers.{product_of, counterpart_of}
use Rattle.key_sides.specs.ListPowers.{list_powers, list_before}
use Rattle.key_sides.specs.Sides.{side_degree}

-- -(k - n - 1), which is n + 1 - k
abbrev falling : FactorList
falling = record { scale = negsuc 0; factors = factor_with (form_with (negsuc 0) (pos 1) (negsuc 0)) 1 ∷ [] }

the_list : lifted (level 1) forms_in_n (list_polynomial falling)
    ≡ listed (listed (number (pos 1) ∷ number (pos 1) ∷ []) ∷ listed (number (negsuc 0) ∷ []) ∷ [])
the_list = refl

-- at k - 1 it is n + 2 - k
the_list_before : product_of (level 2).ops (list_powers (level 1) forms_in_n (list_before falling))
    ≡ listed (listed (number (pos 2) ∷ number (pos 1) ∷ []) ∷ listed (number (negsuc 0) ∷ []) ∷ [])
the_list_before = refl

-- its magnitudes are n + 1 + k
its_counterpart : counterpart_of (level 2).ops (list_powers (level 1) forms_in_n falling)
    ≡ listed (listed (number (pos 1) ∷ number (pos 1) ∷ []) ∷ listed (number (pos 1) ∷ []) ∷ [])
its_counterpart = refl

-- g = k + 1, and the polynomial 2 k^2 times (n + 1)^3
abbrev next : FactorList
next = record { scale = pos 1; factors = factor_with (form_with (pos 0) (pos 1) (pos 1)) 1 ∷ [] }

abbrev square : Top
square = record {
  poly = listed (listed [] ∷ listed [] ∷ listed (number (pos 2) ∷ []) ∷ []);
  factors = record { scale = pos 1; factors = factor_with (form_with (pos 1) (pos 0) (pos 1)) 3 ∷ [] };
}

its_degree : side_degree next square ≡ 3
its_degree = refl
