-- A row of whole numbers has one reduced row.
-- These are lemmas: they stand in specs/, since the laws that `Reducing` names rest on them.
use Rattle.std.specs.Prelude.{◌≡◌, ℕ, zero, suc, ℤ, pos, ◌*ℤ◌, ◌-ℤ◌, unsigned_abs, List, [], ◌∷◌, map, refl}
use Rattle.std.proofs.Common.{ap, sym, ◌∙◌, subst, arith, ⊎_elim}
use Rattle.std.proofs.lemmas.Int.{ints}
use Rattle.ring_solver.proofs.Read.{ring_z, reading_z}
use Rattle.ring_laws.specs.Meaning.{Meaning, number}
use Rattle.ring_laws.specs.Wholes.{number_of}
use Rattle.ring_laws.specs.WholeDomain.{whole_domain}
use Rattle.poly_divide.specs.Content.{IsContent}
use Rattle.reducing.specs.WholeRows.{WholeReduced}
use Rattle.reducing.specs.Laws.OneContent.{one_content}
use Rattle.reducing.specs.Laws.WholeMultiples.{scaled, belonging, positive_isnt}

numbers_of : List Meaning → List ℤ
numbers_of ms = map number_of ms

same_numbers : (xs ys : List ℤ) → map number xs ≡ map number ys → xs ≡ ys
same_numbers xs ys e = sym (again xs) ∙ ap (map number_of) e ∙ again ys
  where
    again : (zs : List ℤ) → map number_of (map number zs) ≡ zs
    again [] = refl
    again (z ∷ zs) = ap (λ t. z ∷ t) (again zs)

cancel : (c : ℕ) (p q : ℤ) → pos (suc c) *ℤ p ≡ pos (suc c) *ℤ q → p ≡ q
cancel c p q e =
    ⊎_elim (λ h. absurd (positive_isnt c h)) (λ h. omega (arith, ints, ap number_of h))
    (whole_domain.no_divisors (belonging (pos (suc c))) (belonging (p -ℤ q)) (ap number (times_difference (pos (suc c)) p q ∙ omega (arith, ints, e))))
  where
    times_difference : (d a b : ℤ) → d *ℤ (a -ℤ b) ≡ d *ℤ a -ℤ d *ℤ b
    times_difference d a b = ring_z (d ∷ a ∷ b ∷ []) (search reading_z depth 40 fits 20000) refl

cancel_all : (c : ℕ) (ps qs : List ℤ) → scaled (suc c) ps ≡ scaled (suc c) qs → ps ≡ qs
cancel_all c [] [] e = refl
cancel_all c [] (q ∷ qs) e = cc
cancel_all c (p ∷ ps) [] e = cc
cancel_all c (p ∷ ps) (q ∷ qs) e = cc (cancel c p q (first e), cancel_all c ps qs (rest e))
  where
    first : {x y : ℤ} {xs ys : List ℤ} → x ∷ xs ≡ y ∷ ys → x ≡ y
    first e = cc

    rest : {x y : ℤ} {xs ys : List ℤ} → x ∷ xs ≡ y ∷ ys → xs ≡ ys
    rest e = cc

-- a row of whole numbers has one reduced row
pub one_whole_row : (old new other : List Meaning) → WholeReduced old new → WholeReduced old other → new ≡ other
one_whole_row old new other h k =
    h.quotients_are ∙ ap (map number) (by_content h.content refl) ∙ sym k.quotients_are
  where
    same : h.numbers ≡ k.numbers
    same = same_numbers h.numbers k.numbers (sym h.numbers_are ∙ k.numbers_are)

    contents : h.content ≡ k.content
    contents = one_content (map unsigned_abs k.numbers) h.content k.content
        (subst (λ t. IsContent (map unsigned_abs t) h.content) same h.is_content) k.is_content

    by_content : (c : ℕ) → h.content ≡ c → h.quotients ≡ k.quotients
    by_content zero e = h.zeros_stay e ∙ same ∙ sym (k.zeros_stay (sym contents ∙ e))
    by_content (suc c) e =
        cancel_all c h.quotients k.quotients
        (ap (λ m. scaled m h.quotients) (sym e) ∙ sym h.times ∙ same ∙ k.times ∙ ap (λ m. scaled m k.quotients) (sym contents ∙ e))
