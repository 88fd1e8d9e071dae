-- Two right answers have claims of the same cases with the same polynomials, place by place.
use Rattle.std.proofs.Common.{◌≡◌, ℕ, zero, suc, ◌<◌, ◌≤◌, List, [], ◌∷◌, ◌++◌, length, get_or, refl, sym, subst, arith, ◌⊎◌, inl, inr}
use Rattle.std.specs.List.{AllByRecursion, AllZip}
use Rattle.ring_laws.specs.Meaning.{Meaning, items}
use Rattle.poly_laws.specs.Values.{level}
use Rattle.hypergeometric.specs.Fraction.{Fraction}
use Rattle.hypergeometric.specs.LinearForm.{Factor}
use Rattle.whole_roots.specs.LinearFactors.{Entry}
use Rattle.hyper_laws.specs.PolynomialSolutions.{AreComplete}
use Rattle.hyper_laws.specs.ReducedLists.{AreReduced}
use Rattle.hyper_laws.specs.Cases.{case_equation, IsBarren, IsGreatestDegree, IsLeadRoot, HasNoRoot}
use Rattle.hyper_laws.specs.FactorProducts.{product_of_factors}
use Rattle.hyper_laws.proofs.Barren.{listed_are_not_zero}
use Rattle.hyper_laws.proofs.OneReduced.{one_reduced_list}
use Rattle.hyper_claims.specs.Pairs.{chosen, Choice}
use Rattle.hyper_claims.specs.Roots.{AreProfileRoots}
use Rattle.hyper_claims.specs.Claims.{HyperClaim, case_of}
use Rattle.hyper_claims.specs.HyperAnswer.{Gives, ClaimsOfRoots, no_roots, barren_root, solved_root, pair_polynomials, ClaimsOfPairs, no_pairs, rootless, rooted}
use Rattle.hyper_claims.proofs.OneOrder.{one_list_of_roots}

-- both are claims of one case with one polynomial
pub record BothGive (x y : HyperClaim) : Type 0 where
  pub a : List Factor
  pub b : List Factor
  pub z : Fraction
  pub c : Meaning
  pub first : Gives a b z x c
  pub second : Gives a b z y c

abbrev pub Alike : HyperClaim → HyperClaim → Type 0
Alike x y = (x ≡ y) ⊎ BothGive x y

zipped : (xs ys us vs : List HyperClaim) → AllZip Alike xs ys → AllZip Alike us vs → AllZip Alike (xs ++ us) (ys ++ vs)
zipped [] [] us vs h k = k
zipped [] (y ∷ ys) us vs h k = absurd h
zipped (x ∷ xs) [] us vs h k = absurd h
zipped (x ∷ xs) (y ∷ ys) us vs h k = (h.0, zipped xs ys us vs h.1 k)

all_given : (a b : List Factor) (z : Fraction) (cs : List Meaning) (xs ys : List HyperClaim) → AllZip (Gives a b z) xs cs → AllZip (Gives a b z) ys cs
    → AllZip Alike xs ys
all_given a b z [] [] [] h k = tt
all_given a b z [] [] (y ∷ ys) h k = absurd k
all_given a b z [] (x ∷ xs) ys h k = absurd h
all_given a b z (c ∷ cs) [] ys h k = absurd h
all_given a b z (c ∷ cs) (x ∷ xs) [] h k = absurd k
all_given a b z (c ∷ cs) (x ∷ xs) (y ∷ ys) h k =
    (inr (record { a = a; b = b; z = z; c = c; first = h.0; second = k.0 }), all_given a b z cs xs ys h.1 k.1)

module _ (ps : List Meaning) where
  -- a case with a complete list that isn't empty isn't barren
  not_barren : (a b : List Factor) (z : Fraction) (c : Meaning) (cs : List Meaning) → AreComplete (case_equation ps (case_of a b z)) (c ∷ cs)
      → AreReduced (c ∷ cs) → IsBarren ps (case_of a b z) → ⊥
  not_barren a b z c cs w r h =
      listed_are_not_zero (case_equation ps (case_of a b z)) (c ∷ cs) w 0 (omega arith) (h (c, r.each.0.polynomial) w.each.0)

  alike_roots : (a b : List Factor) (zs : List Fraction) (xs ys : List HyperClaim) → ClaimsOfRoots ps a b zs xs → ClaimsOfRoots ps a b zs ys
      → AllZip Alike xs ys
  alike_roots a b _ _ _ no_roots no_roots = tt
  alike_roots a b _ _ _ (barren_root {z} {zs} {claims = xs} h r) (barren_root {claims = ys} k s) = (inl refl, alike_roots a b zs xs ys r s)
  alike_roots a b _ _ _ (barren_root {z} {zs} {claims = xs} h r) (solved_root d ds second {claims = ys} w t k s) =
      absurd (not_barren a b z d ds w t h)
  alike_roots a b _ _ _ (solved_root {z} {zs} c cs first {claims = xs} v q g r) (barren_root {claims = ys} k s) = absurd (not_barren a b z c cs v q k)
  alike_roots a b _ _ _ (solved_root {z} {zs} c cs first {claims = xs} v q g r) (solved_root d ds second {claims = ys} w t k s) =
      zipped first second xs ys
      (all_given a b z (c ∷ cs) first second g
      (subst (AllZip (Gives a b z) second) (sym (one_reduced_list (case_equation ps (case_of a b z)) (c ∷ cs) (d ∷ ds) v q w t)) k))
      (alike_roots a b zs xs ys r s)

-- ---- the greatest degree is one
item_at : (P : Meaning → Type 0) (d : Meaning) (fs : List Meaning) (k : ℕ) → AllByRecursion P fs → k < length fs → P (get_or fs k d)
item_at P d [] k h b = absurd (omega (arith, b))
item_at P d (f ∷ fs) zero h b = h.0
item_at P d (f ∷ fs) (suc k) h b = item_at P d fs k h.1 (omega (arith, b))

at_most : (fs : List Meaning) (m n : ℕ) → IsGreatestDegree fs m → IsGreatestDegree fs n → m ≤ n
at_most fs m n h k =
    let below = item_at (λ f. length (items f) ≤ suc n) (level 1).ops.nought fs h.place k.each h.within in omega (arith, below, h.reached)

same_degree : (fs : List Meaning) (m n : ℕ) → IsGreatestDegree fs m → IsGreatestDegree fs n → m ≡ n
same_degree fs m n h k = omega (arith, at_most fs m n h k, at_most fs n m k h)

module _ (ps : List Meaning) (a_factors b_factors : List Entry) where
  abbrev polynomials_of : Choice → List Meaning
  polynomials_of x = pair_polynomials ps (chosen a_factors x.a) (chosen b_factors x.b)

  same_roots : (x : Choice) (m n : ℕ) (zs ws : List Fraction) → IsGreatestDegree (polynomials_of x) m → IsGreatestDegree (polynomials_of x) n
      → AreProfileRoots m (polynomials_of x) zs → AreProfileRoots n (polynomials_of x) ws → zs ≡ ws
  same_roots x m n zs ws g h p q =
      let same : n ≡ m = same_degree (polynomials_of x) n m h g in
      one_list_of_roots m (polynomials_of x) zs ws p (subst (λ d. AreProfileRoots d (polynomials_of x) ws) same q)

  no_root_has_none : (x : Choice) (m : ℕ) (z : Fraction) (zs : List Fraction)
      → HasNoRoot ps (product_of_factors (chosen a_factors x.a)) (product_of_factors (chosen b_factors x.b)) → IsGreatestDegree (polynomials_of x) m
      → AreProfileRoots m (polynomials_of x) (z ∷ zs) → ⊥
  no_root_has_none x m z zs h g p =
      let same : m ≡ h.degree = same_degree (polynomials_of x) m h.degree g h.greatest in
      h.none z p.each.0.profile (subst (λ d. IsLeadRoot d (polynomials_of x) z) same p.each.0.root)

  pub alike_pairs : (choices : List Choice) (xs ys : List HyperClaim) → ClaimsOfPairs ps a_factors b_factors choices xs
      → ClaimsOfPairs ps a_factors b_factors choices ys → AllZip Alike xs ys
  alike_pairs _ _ _ no_pairs no_pairs = tt
  alike_pairs _ _ _ (rootless {x} {xs = rest} {claims = xs} h r) (rootless {claims = ys} k s) = (inl refl, alike_pairs rest xs ys r s)
  alike_pairs _ _ _ (rootless {x} {xs = rest} {claims = xs} h r) (rooted n w ws second {claims = ys} g q k s) =
      absurd (no_root_has_none x n w ws h g q)
  alike_pairs _ _ _ (rooted {x} {xs = rest} m z zs first {claims = xs} g p h r) (rootless {claims = ys} k s) =
      absurd (no_root_has_none x m z zs k g p)
  alike_pairs _ _ _ (rooted {x} {xs = rest} m z zs first {claims = xs} g p h r) (rooted n w ws second {claims = ys} f q k s) =
      zipped first second xs ys
      (alike_roots ps (chosen a_factors x.a) (chosen b_factors x.b) (z ∷ zs) first second h
      (subst (λ l. ClaimsOfRoots ps (chosen a_factors x.a) (chosen b_factors x.b) l second) (sym (same_roots x m n (z ∷ zs) (w ∷ ws) g f p q)) k))
      (alike_pairs rest xs ys r s)
