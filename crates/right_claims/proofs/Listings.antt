-- The first values of a function as a list.
use Rattle.std.proofs.Common.{◌≡◌, ℕ, zero, suc, ◌<◌, ◌∷◌, length, refl, ap, arith}
use Rattle.std.specs.Prelude.{get_or}
use Rattle.key_laws.specs.KeyRows.{listing}

-- each is the value at its place
pub listing_at : {A : Type 0} (x : A) (n : ℕ) (f : ℕ → A) (k : ℕ) → k < n → get_or (listing n f) k x ≡ f k
listing_at x zero f k b = absurd (omega (arith, b))
listing_at x (suc n) f zero b = refl
listing_at x (suc n) f (suc k) b = listing_at x n (λ i. f (suc i)) k (omega (arith, b))

pub listing_length : {A : Type 0} (n : ℕ) (f : ℕ → A) → length (listing n f) ≡ n
listing_length zero f = refl
listing_length (suc n) f = ap suc (listing_length n (λ i. f (suc i)))

-- where the values are the same, the lists are
pub same_listing : {A : Type 0} (n : ℕ) (f g : ℕ → A) → ((j : ℕ) → j < n → f j ≡ g j) → listing n f ≡ listing n g
same_listing zero f g h = refl
same_listing (suc n) f g h = λ i. h 0 (omega arith) i ∷ same_listing n (λ j. f (suc j)) (λ j. g (suc j)) (λ j l. h (suc j) (omega (arith, l))) i
