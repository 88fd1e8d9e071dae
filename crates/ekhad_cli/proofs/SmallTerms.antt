-- Terms with small numbers: which they are, and what their numbers give.
use Rattle.std.proofs.Common.{◌≡◌, ◌≢◌, ℕ, zero, suc, ◌+◌, ◌<◌, ◌≤◌, List, [], ◌∷◌, length, get_or, set, map, Option, Some, None, MatchOption, refl, ap, sym, ◌∙◌, arith, subst, IsTrue, lit<, below_more, get_or-set_other, get_or-set_same, ◌⊎◌, inl, inr}
use Rattle.std.proofs.lemmas.Bool.{cases_lt}
use Rattle.std.proofs.lemmas.Grind.{common_steps}
use Rattle.std.proofs.lemmas.List.{get_or_default, length-map}
use Rattle.std.proofs.lemmas.List.Elements.{All-set, All-weaker}
use Rattle.ring_solver.proofs.Read.{ring_z, reading_z}
use Rattle.poly_laws.proofs.Trimming.{beyond}
use Rattle.std.specs.Prelude.{ℤ, pos, negsuc, ◌+ℤ◌, ◌*ℤ◌, All, unsigned_abs}
use Rattle.ring_laws.specs.Meaning.{Meaning, number, listed, items, parted-joined}
use Rattle.ring_laws.specs.Wholes.{number_of}
use Rattle.poly_laws.specs.Lists.{coefficient_at, is_trimmed}
use Rattle.poly_laws.specs.Values.{horner, value_at, level}
use Rattle.poly_laws.proofs.Equal.{same_values}
use Rattle.poly_laws.proofs.Keeps.{value_at_keeps}
use Rattle.hypergeometric.specs.Point.{Point, point, values_in_n}
use Rattle.hypergeometric.specs.ProperTerm.{ProperTerm, poly_value}
use Rattle.hypergeometric.specs.Fraction.{of_whole}
use Rattle.hypergeometric.specs.TermFacts.{IsPolynomial, IsProper}
use Rattle.cert_text.specs.PolynomialDocument.{in_k, as_constant_in_n}
use Rattle.cert_text.proofs.LiftedPolynomials.{in_k_value, in_k_polynomial}
use Rattle.ekhad_cli.specs.Antidifference.{value_of}
use Rattle.ekhad_cli.specs.FirstRun.{IsSmall, IsSmallConstant, HasSmallCoefficients, IsScaledPolynomial, HasNumbers, polynomial_of}
use Rattle.ekhad_cli.proofs.Polynomials.{polynomial_value_of, polynomial_bounded}

-- a constant has at most one coefficient, which is its number
constant_length : (z : ℤ) → length (items ((level 1).ops.whole z)) ≤ 1
constant_length (pos zero) = omega arith
constant_length (pos (suc m)) = omega arith
constant_length (negsuc m) = omega arith

constant_number : (z : ℤ) → number_of (coefficient_at (level 0).ops (items ((level 1).ops.whole z)) 0) ≡ z
constant_number (pos zero) = refl
constant_number (pos (suc m)) = refl
constant_number (negsuc m) = refl

-- a list of one number that isn't 0
pub lone_constant : (z : ℤ) → z ≢ pos 0 → listed (number z ∷ []) ≡ (level 1).ops.whole z
lone_constant (pos zero) h = absurd (h refl)
lone_constant (pos (suc m)) h = refl
lone_constant (negsuc m) h = refl

-- what is a small constant has at most one coefficient, and a small number
pub many_no_constant : (xs : List Meaning) → 2 ≤ length xs → ¬ IsSmallConstant (listed xs)
many_no_constant xs h (z, small, is) = omega (arith, h, ap (λ m. length (items m)) is, ap length (parted-joined xs), constant_length z)

pub large_no_constant : (z : ℤ) → ¬ IsSmall z → ¬ IsSmallConstant (listed (number z ∷ []))
large_no_constant z large (y, small, is) =
    large (subst IsSmall (sym (constant_number y) ∙ sym (ap (λ m. number_of (coefficient_at (level 0).ops (items m) 0)) is)) small)

-- lists that are one meaning are the same
pub same_lists : (xs ys : List Meaning) → listed xs ≡ listed ys → xs ≡ ys
same_lists xs ys e = sym (parted-joined xs) ∙ ap items e ∙ parted-joined ys

-- a polynomial with more than five coefficients
pub too_many : {T : Type 0} (meaning : T → Meaning) (xs : List T) (m : Meaning) → listed (map meaning xs) ≡ m → 5 < length xs → ¬ HasSmallCoefficients m
too_many meaning xs m e h k =
    omega (arith, h, (subst HasSmallCoefficients (sym e) k).degree, ap length (parted-joined (map meaning xs)), length-map xs meaning)

-- what a lone number is found to be
pub lone_found : (found : Option ℤ) (w : ℤ) (xs : List Meaning) → xs ≡ number w ∷ [] → IsTrue (is_trimmed (level 0).ops xs)
    → MatchOption found (¬ IsSmall w) (λ small. (small ≡ w) × IsSmall w)
    → MatchOption found (¬ IsSmallConstant (listed xs)) (λ c. IsSmall c × (listed xs ≡ (level 1).ops.whole c))
lone_found None w xs e trimmed h = subst (λ t. ¬ IsSmallConstant (listed t)) (sym e) (large_no_constant w h)
lone_found (Some c) w xs e trimmed (same, small) = (
  subst IsSmall (sym same) small,
  ap listed e ∙ lone_constant w (not_zero w (subst (λ t. IsTrue (is_trimmed (level 0).ops t)) e trimmed)) ∙ ap (level 1).ops.whole (sym same),
)
  where
    not_zero : (z : ℤ) → IsTrue (is_trimmed (level 0).ops (number z ∷ [])) → z ≢ pos 0
    not_zero z h e = let no : IsTrue (is_trimmed (level 0).ops (number (pos 0) ∷ [])) = subst (λ y. IsTrue (is_trimmed (level 0).ops (number y ∷ []))) e h in cc

-- a list of one
pub one_item : {T : Type 0} (meaning : T → Meaning) (xs : List T) (x : T) → length xs ≡ 1 → x ≡ get_or xs 0 x → map meaning xs ≡ meaning x ∷ []
one_item meaning [] x h e = absurd (omega (arith, h))
one_item meaning (y ∷ []) x h e = ap (λ z. meaning z ∷ []) (sym e)
one_item meaning (y ∷ z ∷ xs) x h e = absurd (omega (arith, h))

-- the numbers are the coefficients
abbrev pub HasCoefficients : List Meaning → List ℤ → Type 0
HasCoefficients xs cs = (power : ℕ) → coefficient_at (level 1).ops xs power ≡ (level 1).ops.whole (get_or cs power (pos 0))

nought_horner : (k : ℤ) (v : ℤ) (z : ℤ) → v ≡ pos 0 → z ≡ pos 0 → v +ℤ k *ℤ z ≡ pos 0
nought_horner k v z e h = rw e (rw h (zero_product k))
  where
    zero_product : (k : ℤ) → pos 0 +ℤ k *ℤ pos 0 ≡ pos 0
    zero_product k = ring_z (k ∷ []) (search reading_z depth 40 fits 20000) refl

-- so they have the polynomial's values
same_horner : (p : Point) (xs : List Meaning) (cs : List ℤ) → HasCoefficients xs cs → horner (value_at (values_in_n p)) p.k xs ≡ value_of cs p.k
same_horner p [] [] h = refl
same_horner p [] (c ∷ cs) h =
    sym (nought_horner p.k c (value_of cs p.k)
    (sym ((value_at_keeps (values_in_n p)).whole c) ∙ ap (value_at (values_in_n p)) (sym (h 0)) ∙ (value_at_keeps (values_in_n p)).nought)
    (sym (same_horner p [] cs (λ i. h (suc i)))))
same_horner p (x ∷ xs) [] h =
    nought_horner p.k (value_at (values_in_n p) x) (horner (value_at (values_in_n p)) p.k xs)
    (ap (value_at (values_in_n p)) (h 0) ∙ (value_at_keeps (values_in_n p)).whole (pos 0))
    (same_horner p xs [] (λ i. h (suc i)))
same_horner p (x ∷ xs) (c ∷ cs) h =
    ap (λ v. v +ℤ p.k *ℤ horner (value_at (values_in_n p)) p.k xs) (ap (value_at (values_in_n p)) (h 0) ∙ (value_at_keeps (values_in_n p)).whole c)
    ∙ ap (λ z. c +ℤ p.k *ℤ z) (same_horner p xs cs (λ i. h (suc i)))

-- and are its only ones
pub polynomial_in_k : (poly : Meaning) (cs : List ℤ) → IsPolynomial 2 poly → IsPolynomial 1 (polynomial_of cs) → HasCoefficients (items poly) cs
    → poly ≡ in_k (polynomial_of cs)
polynomial_in_k poly cs h g is =
    ap (λ (z : (m : Meaning) × IsTrue ((level 2).passes m)). z.0)
    (same_values 2 (poly, h.passes) (in_k (polynomial_of cs), (in_k_polynomial (polynomial_of cs) g).passes) at_point)
  where
    at_two : (p : Point) → poly_value poly p ≡ poly_value (in_k (polynomial_of cs)) p
    at_two p = same_horner p (items poly) cs is ∙ sym (polynomial_value_of cs p.k) ∙ sym (in_k_value (polynomial_of cs) p)

    at_point : (vs : List ℤ) → length vs ≡ 2 → value_at vs poly ≡ value_at vs (in_k (polynomial_of cs))
    at_point [] e = cc
    at_point (k ∷ []) e = cc
    at_point (k ∷ n ∷ []) e = at_two (point n k)
    at_point (k ∷ n ∷ m ∷ more) e = cc

-- the numbers so far are the first coefficients, and the others are 0
pub record AreNumbersUpTo (done : ℕ) (xs : List Meaning) (numbers : List ℤ) : Type 0 where
  pub as_many : length numbers ≡ 5
  pub small : All IsSmall numbers
  pub found : (power : ℕ) → power < done → coefficient_at (level 1).ops xs power ≡ (level 1).ops.whole (get_or numbers power (pos 0))
  pub to_do : (power : ℕ) → done ≤ power → get_or numbers power (pos 0) ≡ pos 0

-- no number yet
pub no_numbers : (xs : List Meaning) → AreNumbersUpTo 0 xs (pos 0 ∷ pos 0 ∷ pos 0 ∷ pos 0 ∷ pos 0 ∷ [])
no_numbers xs = record {
  as_many = refl;
  small = all_zero;
  found = λ power h. absurd (omega (arith, h));
  to_do = λ power h. zero_at power;
}
  where
    zero_at : (power : ℕ) → get_or (pos 0 ∷ pos 0 ∷ pos 0 ∷ pos 0 ∷ pos 0 ∷ []) power (pos 0) ≡ pos 0
    zero_at zero = refl
    zero_at (suc zero) = refl
    zero_at (suc (suc zero)) = refl
    zero_at (suc (suc (suc zero))) = refl
    zero_at (suc (suc (suc (suc zero)))) = refl
    zero_at (suc (suc (suc (suc (suc i))))) = refl

    all_zero : All IsSmall (pos 0 ∷ pos 0 ∷ pos 0 ∷ pos 0 ∷ pos 0 ∷ [])
    all_zero i x h = subst IsSmall (sym (zero_at i) ∙ get_or_default (pos 0 ∷ pos 0 ∷ pos 0 ∷ pos 0 ∷ pos 0 ∷ []) i (pos 0) x h) (lit< tt)

-- one number more
pub one_number_more : (xs : List Meaning) (numbers : List ℤ) (i : ℕ) (z : ℤ) → i < 5 → AreNumbersUpTo i xs numbers → IsSmall z
    → coefficient_at (level 1).ops xs i ≡ (level 1).ops.whole z → AreNumbersUpTo (i + 1) xs (set numbers i z)
one_number_more xs numbers i z h before small is = record {
  as_many = grind (arith, common_steps, before.as_many);
  small = All-set IsSmall numbers i z small before.small;
  found = below_more _ _ other here;
  to_do = λ j k. let ne : j ≢ i = omega (arith, k) in get_or-set_other numbers i j z (pos 0) ne ∙ before.to_do j (omega arith);
}
  where
    within : i < length numbers
    within = omega (arith, h, before.as_many)

    other : (j : ℕ) → j < i → coefficient_at (level 1).ops xs j ≡ (level 1).ops.whole (get_or (set numbers i z) j (pos 0))
    other j k =
        let ne : j ≢ i = omega (arith, k) in
        before.found j k ∙ ap (level 1).ops.whole (sym (get_or-set_other numbers i j z (pos 0) ne))

    here : coefficient_at (level 1).ops xs i ≡ (level 1).ops.whole (get_or (set numbers i z) i (pos 0))
    here = is ∙ ap (level 1).ops.whole (sym (get_or-set_same numbers i z (pos 0) within))

-- all numbers are found
pub all_numbers : (xs : List Meaning) (numbers : List ℤ) (done : ℕ) → length xs ≤ done → AreNumbersUpTo done xs numbers → HasCoefficients xs numbers
all_numbers xs numbers done all found power = by (cases_lt power done)
  where
    by : (power < done) ⊎ (done ≤ power) → coefficient_at (level 1).ops xs power ≡ (level 1).ops.whole (get_or numbers power (pos 0))
    by (inl h) = found.found power h
    by (inr h) = beyond (level 1).ops xs power (omega (arith, all, h)) ∙ ap (level 1).ops.whole (sym (found.to_do power h))

-- a coefficient of a list of values is that of the value at its place
pub coefficient_in : {T : Type 0} (meaning : T → Meaning) (xs : List T) (i : ℕ) (d : T) → i < length xs
    → coefficient_at (level 1).ops (map meaning xs) i ≡ meaning (get_or xs i d)
coefficient_in meaning [] i d h = absurd (omega (arith, h))
coefficient_in meaning (x ∷ xs) zero d h = refl
coefficient_in meaning (x ∷ xs) (suc i) d h = coefficient_in meaning xs i d (omega (arith, h))

-- a polynomial with a coefficient that is no small number
pub large_coefficient : {T : Type 0} (meaning : T → Meaning) (xs : List T) (m : Meaning) (i : ℕ) (x : T) → listed (map meaning xs) ≡ m → i < length xs
    → x ≡ get_or xs i x → ¬ IsSmallConstant (meaning x) → ¬ HasSmallCoefficients m
large_coefficient meaning xs m i x e h is large k =
    large (subst IsSmallConstant
    (ap (λ ys. coefficient_at (level 1).ops ys i) (parted-joined (map meaning xs)) ∙ coefficient_in meaning xs i x h ∙ ap meaning (sym is))
    ((subst HasSmallCoefficients (sym e) k).constants i))

-- all coefficients, by the list of values
pub coefficients_found : {T : Type 0} (meaning : T → Meaning) (xs : List T) (m : Meaning) (numbers : List ℤ) (done : ℕ) → listed (map meaning xs) ≡ m
    → length xs ≤ done → AreNumbersUpTo done (map meaning xs) numbers → HasCoefficients (items m) numbers
coefficients_found meaning xs m numbers done e h found power =
    ap (λ y. coefficient_at (level 1).ops (items y) power) (sym e) ∙ ap (λ ys. coefficient_at (level 1).ops ys power) (parted-joined (map meaning xs))
    ∙ all_numbers (map meaning xs) numbers done (omega (arith, h, length-map xs meaning)) found power

-- the numbers of a term
pub numbers_of : (f : ProperTerm) (cs : List ℤ) (s : ℤ) → IsScaledPolynomial f → f.scale ≡ of_whole s → IsSmall s → HasCoefficients (items f.poly) cs
    → All IsSmall cs → length cs ≤ 5 → IsProper f → HasNumbers f cs s
numbers_of f cs s plain scale small_scale coefficients small few proper = record {
  term = λ i. record {
    poly = poly i;
    scale = scale i;
    n_base = plain.n_base i;
    k_base = plain.k_base i;
    up = plain.up i;
    down = plain.down i;
    over = plain.over i;
    guard = plain.guard i;
  };
  few = few;
  small = small;
  small_scale = small_scale;
  some = λ e. proper.poly_not_zero (poly ∙ ap (λ xs. listed (map as_constant_in_n xs)) e);
  scale_not_zero = λ e. proper.scale.not_zero (ap (λ x. x.top) scale ∙ e);
}
  where
    bounded : IsPolynomial 1 (polynomial_of cs)
    bounded = polynomial_bounded cs (omega (arith, few))
        (All-weaker IsSmall (λ c. unsigned_abs c ≤ 1500000000) (λ c h. omega (arith, h)) cs small)

    poly : f.poly ≡ in_k (polynomial_of cs)
    poly = polynomial_in_k f.poly cs proper.poly bounded coefficients
