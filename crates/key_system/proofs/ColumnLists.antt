-- The lists of the columns, one item after the other.
use Rattle.std.proofs.Common.{◌≡◌, ℕ, zero, suc, ◌+◌, List, [], ◌∷◌, ◌++◌, map, length, replicate, refl, ap, ◌∙◌, arith}
use Rattle.std.proofs.lemmas.List.{map_push}
use Rattle.ring_laws.specs.Algebra.{Ops}
use Rattle.key_laws.specs.KeyRows.{listing, power_list}

-- the coefficients of k^n: zeros, and then one
power_list_is : {A : Type 0} (o : Ops A) (n : ℕ) → replicate n o.nought ++ o.unit ∷ [] ≡ power_list o n
power_list_is o zero = refl
power_list_is o (suc n) = ap (λ t. o.nought ∷ t) (power_list_is o n)

pub power_pushed : {T A : Type 0} (o : Ops A) (meaning : T → A) (out new : List T) (x : T) (at n : ℕ) → at ≡ n → new ≡ out ++ x ∷ []
    → map meaning out ≡ replicate at o.nought → meaning x ≡ o.unit → map meaning new ≡ power_list o n
power_pushed o meaning out new x at n a e h g = cc (a, ap (map meaning) e, map_push meaning out x, h, g, power_list_is o n)

pub length-power_list : {A : Type 0} (o : Ops A) (n : ℕ) → length (power_list o n) ≡ n + 1
length-power_list o zero = refl
length-power_list o (suc n) = omega (arith, length-power_list o n)

-- one item more
listing_suc : {A : Type 0} (n : ℕ) (f : ℕ → A) → listing (suc n) f ≡ listing n f ++ f n ∷ []
listing_suc zero f = refl
listing_suc (suc n) f = ap (λ t. f 0 ∷ t) (listing_suc n (λ i. f (suc i)))

pub listing_more : {A : Type 0} (n : ℕ) (f : ℕ → A) → listing (n + 1) f ≡ listing n f ++ f n ∷ []
listing_more n f =
    let one_more : n + 1 ≡ suc n = omega arith in
    ap (λ k. listing k f) one_more ∙ listing_suc n f

pub listing_pushed : {T A : Type 0} (meaning : T → A) (out new : List T) (x : T) (n : ℕ) (f : ℕ → A) → new ≡ out ++ x ∷ []
    → map meaning out ≡ listing n f → meaning x ≡ f n → map meaning new ≡ listing (n + 1) f
listing_pushed meaning out new x n f e h g = cc (ap (map meaning) e, map_push meaning out x, h, g, listing_more n f)
