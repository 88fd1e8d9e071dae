-- The text of a list of monomials determines the list.
use Rattle.std.specs.Prelude.{◌≡◌, ◌≢◌, ℕ, Bool, true, false, ℤ, pos, negsuc, unsigned_abs, List, [], ◌∷◌, ◌++◌, drop, get_or, flat_map}
use Rattle.std.specs.List.{AllByRecursion}
use Rattle.std.specs.Fmt.{digits}
use Rattle.std.specs.Str.{byte}
use Rattle.std.proofs.Common.{refl, ap, sym, subst, ◌∙◌, append_assoc, arith}
use Rattle.document_text.specs.Spelling.{Monomial, unsigned_text, sign_text, first_text, later_text, monomials_text}
use Rattle.exact_texts.proofs.Cuts.{among, Stops, cut}
use Rattle.exact_texts.specs.Texts.{Only}
use Rattle.document_text.proofs.Powers.{unsigned_bytes}
use Rattle.document_text.proofs.Monomials.{IsMonomial, HasCoefficient, unsigned_determines, unsigned_not_empty, only_unsigned}

-- the number is below 0
abbrev is_below : ℤ → Bool
is_below (pos n) = false
is_below (negsuc n) = true

-- the sign and the magnitude determine the number
sign_and_magnitude : (y z : ℤ) → is_below y ≡ is_below z → unsigned_abs y ≡ unsigned_abs z → y ≡ z
sign_and_magnitude (pos m) (pos n) s e = ap pos e
sign_and_magnitude (pos m) (negsuc n) s e = cc
sign_and_magnitude (negsuc m) (pos n) s e = cc
sign_and_magnitude (negsuc m) (negsuc n) s e = ap negsuc (omega arith)

-- a text doesn't begin with a plus and with a minus
plus_no_minus : (xs ys : List ℕ) → byte "+" ∷ xs ≢ byte "-" ∷ ys
plus_no_minus xs ys e = let first : byte "+" ≡ byte "-" = ap (λ t. get_or t 0 0) e in omega arith

-- what two texts with a sign in front give: the sign, the text up to the next sign, and the rest
abbrev SameParts : ℤ → ℤ → List ℕ → List ℕ → List ℕ → List ℕ → Type 0
SameParts c d xs ys r s = (is_below c ≡ is_below d) × (xs ≡ ys) × (r ≡ s)

-- Two texts without a sign in them, that aren't empty, each with a rest that begins with a sign.
module _ (xs ys r s : List ℕ) (p : Only (among unsigned_bytes) xs) (q : Only (among unsigned_bytes) ys) (nx : xs ≢ []) (ny : ys ≢ [])
    (u : Stops (among unsigned_bytes) r) (v : Stops (among unsigned_bytes) s) where
  -- with a sign in front where the number is negative
  first_parts : (c d : ℤ) → (sign_text [] c ++ xs) ++ r ≡ (sign_text [] d ++ ys) ++ s → SameParts c d xs ys r s
  first_parts (pos m) (pos n) e = let parts = cut (among unsigned_bytes) xs ys r s p q u v e in (refl, parts.0, parts.1)
  first_parts (pos m) (negsuc n) e = absurd (nx (cut (among unsigned_bytes) xs [] r (byte "-" ∷ (ys ++ s)) p refl u refl e).0)
  first_parts (negsuc m) (pos n) e = absurd (ny (cut (among unsigned_bytes) ys [] s (byte "-" ∷ (xs ++ r)) q refl v refl (sym e)).0)
  first_parts (negsuc m) (negsuc n) e = let parts = cut (among unsigned_bytes) xs ys r s p q u v (ap (drop 1) e) in (refl, parts.0, parts.1)

  -- with a sign in front
  later_parts : (c d : ℤ) → (sign_text (byte "+" ∷ []) c ++ xs) ++ r ≡ (sign_text (byte "+" ∷ []) d ++ ys) ++ s → SameParts c d xs ys r s
  later_parts (pos m) (pos n) e = let parts = cut (among unsigned_bytes) xs ys r s p q u v (ap (drop 1) e) in (refl, parts.0, parts.1)
  later_parts (pos m) (negsuc n) e = absurd (plus_no_minus (xs ++ r) (ys ++ s) e)
  later_parts (negsuc m) (pos n) e = absurd (plus_no_minus (ys ++ s) (xs ++ r) (sym e))
  later_parts (negsuc m) (negsuc n) e = let parts = cut (among unsigned_bytes) xs ys r s p q u v (ap (drop 1) e) in (refl, parts.0, parts.1)

-- later monomials begin with a sign
sign_stops : (c : ℤ) (xs : List ℕ) → Stops (among unsigned_bytes) (sign_text (byte "+" ∷ []) c ++ xs)
sign_stops (pos n) xs = refl
sign_stops (negsuc n) xs = refl

pub laters_stop : (ms : List Monomial) → Stops (among unsigned_bytes) (flat_map later_text ms)
laters_stop [] = tt
laters_stop (m ∷ ms) =
    let grouped = append_assoc (sign_text (byte "+" ∷ []) m.coefficient) (unsigned_text m) (flat_map later_text ms) in
    subst (Stops (among unsigned_bytes)) (sym grouped) (sign_stops m.coefficient (unsigned_text m ++ flat_map later_text ms))

-- two monomials of the same parts are the same
same_monomial : (x y : Monomial) → IsMonomial x → IsMonomial y → is_below x.coefficient ≡ is_below y.coefficient
    → unsigned_text x ≡ unsigned_text y → x ≡ y
same_monomial x y p q s e =
    let parts = unsigned_determines x y p q e in
    let number = sign_and_magnitude x.coefficient y.coefficient s parts.0 in
    λ i. record { coefficient = number i; n_power = parts.1 i; k_power = parts.2 i }

-- a later monomial's text isn't empty
later_not_empty : (m : Monomial) (xs : List ℕ) → [] ≢ later_text m ++ xs
later_not_empty m xs e = go m.coefficient (unsigned_text m) xs e
  where
    go : (c : ℤ) (us xs : List ℕ) → [] ≢ (sign_text (byte "+" ∷ []) c ++ us) ++ xs
    go (pos n) us xs e = cc
    go (negsuc n) us xs e = cc

-- the text of later monomials determines them
laters_determine : (ms ns : List Monomial) → AllByRecursion IsMonomial ms → AllByRecursion IsMonomial ns
    → flat_map later_text ms ≡ flat_map later_text ns → ms ≡ ns
laters_determine [] [] p q e = refl
laters_determine [] (n ∷ ns) p q e = absurd (later_not_empty n (flat_map later_text ns) e)
laters_determine (m ∷ ms) [] p q e = absurd (later_not_empty m (flat_map later_text ms) (sym e))
laters_determine (m ∷ ms) (n ∷ ns) p q e =
    let parts = later_parts (unsigned_text m) (unsigned_text n) (flat_map later_text ms) (flat_map later_text ns)
    (only_unsigned m p.0) (only_unsigned n q.0) (unsigned_not_empty m p.0) (unsigned_not_empty n q.0)
    (laters_stop ms) (laters_stop ns) m.coefficient n.coefficient e in
    let first = same_monomial m n p.0 q.0 parts.0 parts.1 in
    let rest = laters_determine ms ns p.1 q.1 parts.2 in
    λ i. first i ∷ rest i

-- the text of a first monomial and later ones determines them
firsts_determine : (m n : Monomial) (ms ns : List Monomial) → IsMonomial m → IsMonomial n
    → AllByRecursion IsMonomial ms → AllByRecursion IsMonomial ns
    → first_text m ++ flat_map later_text ms ≡ first_text n ++ flat_map later_text ns → (m ≡ n) × (ms ≡ ns)
firsts_determine m n ms ns pm pn p q e =
    let parts = first_parts (unsigned_text m) (unsigned_text n) (flat_map later_text ms) (flat_map later_text ns)
    (only_unsigned m pm) (only_unsigned n pn) (unsigned_not_empty m pm) (unsigned_not_empty n pn)
    (laters_stop ms) (laters_stop ns) m.coefficient n.coefficient e in
    (same_monomial m n pm pn parts.0 parts.1, laters_determine ms ns p q parts.2)

-- The text `0` of no monomials is also that of the number 0, which no list has among its monomials.
abbrev zero_monomial : Monomial
zero_monomial = record { coefficient = pos 0; n_power = 0; k_power = 0 }

is_zero_monomial : IsMonomial zero_monomial
is_zero_monomial = record { coefficient = omega arith; n_power = omega arith; k_power = omega arith }

zero_text : first_text zero_monomial ++ [] ≡ byte "0" ∷ []
unfolding digits
zero_text = refl

-- The text of monomials within bounds, none with the coefficient 0, determines them.
pub monomials_determine : (ms ns : List Monomial) → AllByRecursion IsMonomial ms → AllByRecursion IsMonomial ns
    → AllByRecursion HasCoefficient ms → AllByRecursion HasCoefficient ns → monomials_text ms ≡ monomials_text ns → ms ≡ ns
monomials_determine [] [] p q a b e = refl
monomials_determine [] (n ∷ ns) p q a b e =
    absurd (b.0 (ap (λ m. m.coefficient) (sym (firsts_determine zero_monomial n [] ns is_zero_monomial q.0 tt q.1 (zero_text ∙ e)).0)))
monomials_determine (m ∷ ms) [] p q a b e =
    absurd (a.0 (ap (λ m. m.coefficient) (sym (firsts_determine zero_monomial m [] ms is_zero_monomial p.0 tt p.1 (zero_text ∙ sym e)).0)))
monomials_determine (m ∷ ms) (n ∷ ns) p q a b e =
    let parts = firsts_determine m n ms ns p.0 q.0 p.1 q.1 e in
    λ i. parts.0 i ∷ parts.1 i
