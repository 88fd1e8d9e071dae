use Rattle.std.proofs.Common.{◌≡◌, ◌++◌, min, subst, arith}
use Rattle.term_classes.specs.NamesOfK.{IsLeast}
use Rattle.tree_polynomials.proofs.LeastPlaces.{IsLeastOf, both_least}
use Rattle.tree_polynomials.proofs.names_of_k.lesser.Goals as goal

-- the lesser of two least places
pub returns-in-Some-Some : goal.returns-in-Some-Some
returns-in-Some-Some c =
    let a = c.in-Some-Some.left in
    let b = c.in-Some-Some.right in
    let lesser : min a b ≡ c.min.result = omega (arith, c.min.ensures) in
    record {
      least = λ xs ys h k. subst (λ m. IsLeast m (xs ++ ys)) lesser
          (both_least a b xs ys (subst (λ o. IsLeastOf o xs) c.in-Some-Some.is-0 h) (subst (λ o. IsLeastOf o ys) c.in-Some-Some.is-1 k));
    }
