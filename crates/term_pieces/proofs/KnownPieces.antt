-- Pieces that are known from elsewhere: those of the binomial coefficient at the orders 0 and 1, and of 1/(k (n + 1)) at the order 1.
use Rattle.std.specs.Prelude.{◌≡◌, pos, negsuc, [], ◌∷◌, refl}
use Rattle.hypergeometric.specs.ProperTerm.{ProperTerm}
use Rattle.hypergeometric.specs.Forms.{form_with}
use Rattle.term_pieces.specs.Products.{power_among, contents_of}
use Rattle.term_pieces.specs.Pieces.{top_forms, q_forms, r_forms, top_number, carrier_of}
use Rattle.term_pieces.proofs.KnownTerms.{once, term_with}

-- n! / (k! (n - k)!)
abbrev binomial : ProperTerm
binomial = term_with (once (pos 1) (pos 0) (pos 0) ∷ []) (once (pos 0) (pos 1) (pos 0) ∷ once (pos 1) (negsuc 0) (pos 0) ∷ []) []

-- the forms of p_0, p_1, q0 and r0: n - k + 1, n + 1, n - k + 1 and k + 1
known_tops : (top_forms binomial 1 0 ≡ once (pos 1) (negsuc 0) (pos 1) ∷ []) × (top_forms binomial 1 1 ≡ once (pos 1) (pos 0) (pos 1) ∷ [])
known_tops = (refl, refl)

known_quotient : (q_forms binomial 1 ≡ once (pos 1) (negsuc 0) (pos 1) ∷ []) × (r_forms binomial 1 ≡ once (pos 0) (pos 1) (pos 1) ∷ [])
known_quotient = (refl, refl)

-- the primitive form of n - k + 1 is k - n - 1, with the content -1
known_primitive : (power_among (form_with (negsuc 0) (pos 1) (negsuc 0)) (q_forms binomial 1) ≡ 1) × (contents_of (q_forms binomial 1) ≡ negsuc 0)
unfolding lib.IntN.pow lib.IntN.one
known_primitive = (refl, refl)

-- n! / ((k - 1)! (n - k + 1)!)
known_carrier : carrier_of binomial 1
    ≡ term_with (once (pos 1) (pos 0) (pos 0) ∷ []) (once (pos 0) (pos 1) (negsuc 0) ∷ once (pos 1) (negsuc 0) (pos 1) ∷ []) []
unfolding lib.IntN.pow lib.IntN.one
known_carrier = refl

-- at the order 0 nothing is multiplied
known_plain : (top_forms binomial 0 0 ≡ []) × (top_number binomial 0 0 ≡ pos 1)
unfolding lib.IntN.pow lib.IntN.one
known_plain = (refl, refl)

-- 1 / (k (n + 1)): p_0 has n + 2 and p_1 has n + 1; q0 has k, r0 has k + 1; K has both forms in n
abbrev denominators : ProperTerm
denominators = term_with [] [] (once (pos 0) (pos 1) (pos 0) ∷ once (pos 1) (pos 0) (pos 1) ∷ [])

known_denominators :
    (top_forms denominators 1 0 ≡ once (pos 1) (pos 0) (pos 2) ∷ []) × (top_forms denominators 1 1 ≡ once (pos 1) (pos 0) (pos 1) ∷ [])
    × (q_forms denominators 1 ≡ once (pos 0) (pos 1) (pos 0) ∷ []) × (r_forms denominators 1 ≡ once (pos 0) (pos 1) (pos 1) ∷ [])
    × (carrier_of denominators 1 ≡ term_with [] [] (once (pos 1) (pos 0) (pos 1) ∷ once (pos 1) (pos 0) (pos 2) ∷ []))
unfolding lib.IntN.pow lib.IntN.one
known_denominators = (refl, refl, refl, refl, refl)
