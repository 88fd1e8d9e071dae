-- The sides, one after another.
use Rattle.std.specs.Prelude.{◌≡◌, ℕ, zero, suc, ◌+◌, ◌≤◌, ◌<◌, List, [], ◌∷◌, ◌++◌, map, take, length, refl}
use Rattle.std.proofs.Common.{ap, sym, ◌∙◌, arith, add-one}
use Rattle.std.proofs.lemmas.List.{map_push, take_all}
use Rattle.std.specs.List.{AllByRecursion}
use Rattle.term_pieces.specs.Pieces.{Top, top_in}
use Rattle.key_laws.specs.KeyRows.{listing}

one_more : {A : Type 0} (f : Top → A) (tops : List Top) (j : ℕ) → j < length tops → map f (take (suc j) tops) ≡ map f (take j tops) ++ f (top_in tops j) ∷ []
one_more f [] j h = absurd (omega (arith, h))
one_more f (t ∷ ts) zero h = refl
one_more f (t ∷ ts) (suc j) h = ap (λ xs. f t ∷ xs) (one_more f ts j (omega (arith, h)))

pub sides_more : {T A : Type 0} (f : Top → A) (mean : T → A) (tops : List Top) (out new : List T) (x : T) (j : ℕ) → new ≡ out ++ x ∷ [] → j < length tops
    → mean x ≡ f (top_in tops j) → map mean out ≡ map f (take j tops) → map mean new ≡ map f (take (j + 1) tops)
sides_more f mean tops out new x j e h is so_far =
    ap (map mean) e ∙ map_push mean out x ∙ (λ i. so_far i ++ is i ∷ []) ∙ sym (one_more f tops j h) ∙ ap (λ n. map f (take n tops)) (sym (add-one j))

pub sides_all : {T A : Type 0} (f : Top → A) (mean : T → A) (tops : List Top) (out : List T) (j : ℕ) → length tops ≤ j
    → map mean out ≡ map f (take j tops) → map mean out ≡ map f tops
sides_all f mean tops out j h so_far = so_far ∙ ap (map f) (take_all j tops h)

-- what holds of all tops holds of one
pub all_at : (P : Top → Type 0) (tops : List Top) (j : ℕ) → j < length tops → AllByRecursion P tops → P (top_in tops j)
all_at P [] j h all = absurd (omega (arith, h))
all_at P (t ∷ ts) zero h all = all.0
all_at P (t ∷ ts) (suc j) h all = all_at P ts j (omega (arith, h)) all.1

-- the tops by their places
pub listed_tops : {A : Type 0} (f : Top → A) (tops : List Top) (n : ℕ) → length tops ≡ n → listing n (λ j. f (top_in tops j)) ≡ map f tops
listed_tops f [] zero h = refl
listed_tops f [] (suc n) h = absurd (omega (arith, h))
listed_tops f (t ∷ ts) zero h = absurd (omega (arith, h))
listed_tops f (t ∷ ts) (suc n) h = ap (λ xs. f t ∷ xs) (listed_tops f ts n (omega (arith, h)))
