-- The quotients of a row of polynomials by one number, entry by entry.
use Rattle.std.proofs.Common.{◌≡◌, ℕ, ◌+◌, ◌<◌, List, [], ◌∷◌, ◌++◌, map, length, get_or, take, sym, ap, ◌∙◌, subst, arith}
use Rattle.std.proofs.lemmas.List.{map_push, take_more, take_all}
use Rattle.ring_laws.specs.Meaning.{Meaning}
use Rattle.whole_roots.specs.Differences.{polynomials}
use Rattle.reducing.proofs.Polynomials.{Zn, sense, senses}

-- the row is the products with t
abbrev pub AreProducts : List Zn → Meaning → List Zn → Type 0
AreProducts row t quotients = senses row ≡ map (λ q. polynomials.ops.product (sense q) t) quotients

-- one more quotient
pub products_more : (row quotients new : List Zn) (t : Meaning) (i : ℕ) (f q : Zn) → i < length row → f ≡ get_or row i f → new ≡ quotients ++ q ∷ []
    → polynomials.ops.product (sense q) t ≡ sense f → AreProducts (take i row) t quotients → AreProducts (take (i + 1) row) t new
products_more row quotients new t i f q b e g h p =
    ap senses (take_more row i f b) ∙ map_push sense (take i row) (get_or row i f)
    ∙ ap (λ v. senses (take i row) ++ sense v ∷ []) (sym e) ∙ ap (λ v. senses (take i row) ++ v ∷ []) (sym h)
    ∙ ap (λ u. u ++ polynomials.ops.product (sense q) t ∷ []) p
    ∙ sym (ap (map (λ v. polynomials.ops.product (sense v) t)) g ∙ map_push (λ v. polynomials.ops.product (sense v) t) quotients q)

pub products_all : (row quotients : List Zn) (t : Meaning) (n : ℕ) → length row ≡ n → AreProducts (take n row) t quotients
    → AreProducts row t quotients
products_all row quotients t n e h = subst (λ u. AreProducts u t quotients) (take_all n row (omega (arith, e))) h
