-- That a list has forms within bounds and no form twice is proved in one way.
-- A lemma: it stands here, and not in proofs/, since a ghost field names it.
use Rattle.std.specs.Prelude.{◌≡◌, List, [], ◌∷◌}
use Rattle.std.specs.List.{AllByRecursion}
use Rattle.std.proofs.Props.{props}
use Rattle.hypergeometric.specs.LinearForm.{Factor}
use Rattle.hypergeometric.specs.FormOrder.{IsFactor, NoFormTwice, AreFactors}

each_once : {A : Type 0} (P : A → Type 0) → ((x : A) → IsProp (P x)) → (xs : List A) → IsProp (AllByRecursion P xs)
each_once P h [] = λ u v i. tt
each_once P h (x ∷ xs) = λ u v i. (h x u.0 v.0 i, each_once P h xs u.1 v.1 i)

distinct_once : (xs : List Factor) → IsProp (NoFormTwice xs)
distinct_once [] = λ u v i. tt
distinct_once (x ∷ xs) = λ u v i. (each_once (λ y. ¬ (y.form ≡ x.form)) (λ y. Prim.hlevel props) xs u.0 v.0 i, distinct_once xs u.1 v.1 i)

-- any two proofs that the factors of a list are within bounds, and no form stands twice, are equal
pub factors_once : (xs : List Factor) → IsProp (AreFactors xs)
factors_once xs = λ u v i. record {
  each = each_once IsFactor (λ x. Prim.hlevel props) xs u.each v.each i;
  distinct = distinct_once xs u.distinct v.distinct i;
}
