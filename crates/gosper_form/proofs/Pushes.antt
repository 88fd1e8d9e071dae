-- A list of the code with one item more.
use Rattle.std.proofs.Common.{◌≡◌, List, [], ◌∷◌, ◌++◌, map, refl, ap, sym, ◌∙◌, append_assoc}
use Rattle.std.proofs.lemmas.List.{map_push}

pub one_more : {A B : Type 0} (f : A → B) (xs new : List A) (old run : List B) (x : A) (y : B) → map f xs ≡ old ++ run → new ≡ xs ++ x ∷ []
    → f x ≡ y → map f new ≡ old ++ (run ++ y ∷ [])
one_more f xs new old run x y e h s = ap (map f) h ∙ map_push f xs x ∙ (λ i. e i ++ s i ∷ []) ∙ append_assoc old run (y ∷ [])

pub append_nothing : {A : Type 0} (xs : List A) → xs ++ [] ≡ xs
append_nothing [] = refl
append_nothing (x ∷ xs) = ap (λ t. x ∷ t) (append_nothing xs)

pub nothing_more : {A : Type 0} (old more : List A) → more ≡ [] → old ≡ old ++ more
nothing_more old more e = sym (append_nothing old) ∙ ap (λ t. old ++ t) (sym e)
