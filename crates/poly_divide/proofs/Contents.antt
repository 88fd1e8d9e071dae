-- The content of a list from that of its parts.
use Rattle.std.proofs.Common.{◌≡◌, ℕ, zero, suc, refl, ◌+◌, ◌<◌, List, [], ◌∷◌, ◌++◌, map, drop, length, unsigned_abs, get_or, sym, ap, ◌∙◌, subst, arith}
use Rattle.std.specs.Int.{◌∣◌, IsGcd}
use Rattle.std.proofs.lemmas.Nat.Gcd.{dvd-zero, dvd_trans}
use Rattle.std.proofs.Math.Nat.{one-dvd}
use Rattle.std.proofs.lemmas.List.{length-map, drop_more, get_or-map}
use Rattle.ring_laws.specs.Meaning.{Meaning, items}
use Rattle.ring_laws.specs.Algebra.{Ops}
use Rattle.ring_laws.specs.Wholes.{number_of}
use Rattle.poly_laws.specs.Lists.{coefficient_at}
use Rattle.poly_divide.specs.Content.{sizes_of, row_sizes, DividesAll, IsContent}

-- what divides a divisor of all divides all
all_by : (d c : ℕ) (xs : List ℕ) → d ∣ c → DividesAll c xs → DividesAll d xs
all_by d c [] h k = tt
all_by d c (x ∷ xs) h k = (dvd_trans d h k.0, all_by d c xs h k.1)

all_parts : (d : ℕ) (xs ys : List ℕ) → DividesAll d (xs ++ ys) → DividesAll d xs × DividesAll d ys
all_parts d [] ys h = (tt, h)
all_parts d (x ∷ xs) ys h = let p = all_parts d xs ys h.1 in ((h.0, p.0), p.1)

all_joined : (d : ℕ) (xs ys : List ℕ) → DividesAll d xs → DividesAll d ys → DividesAll d (xs ++ ys)
all_joined d [] ys h k = k
all_joined d (x ∷ xs) ys h k = (h.0, all_joined d xs ys h.1 k)

-- nothing has content 0
pub content_none : IsContent [] 0
content_none = record { divides = tt; greatest = λ d h. dvd-zero d }

-- two parts
pub content_joined : (xs ys : List ℕ) (b c g : ℕ) → IsContent xs b → IsContent ys c → IsGcd b c g → IsContent (xs ++ ys) g
content_joined xs ys b c g h k e = record {
  divides = all_joined g xs ys (all_by g b xs e.0 h.divides) (all_by g c ys e.1 k.divides);
  greatest = λ d s. let p = all_parts d xs ys s in e.2 d (h.greatest d p.0) (k.greatest d p.1);
}

-- one number in front
pub content_more : (x : ℕ) (xs : List ℕ) (c g : ℕ) → IsContent xs c → IsGcd x c g → IsContent (x ∷ xs) g
content_more x xs c g k e = record {
  divides = (e.0, all_by g c xs e.1 k.divides);
  greatest = λ d s. e.2 d s.0 (k.greatest d s.1);
}

-- the coefficient of a power in front of those above it
pub content_step : (o : Ops Meaning) (m : Meaning) (power size c g : ℕ) → power < length (items m)
    → size ≡ unsigned_abs (number_of (coefficient_at o (items m) power))
    → IsContent (drop (power + 1) (sizes_of m)) c → IsGcd size c g → IsContent (drop power (sizes_of m)) g
content_step o m power size c g b e k h =
    let sizes = sizes_of m in
    let front : get_or sizes power 0 ≡ unsigned_abs (number_of (coefficient_at o (items m) power)) =
    get_or-map (λ (y : Meaning). unsigned_abs (number_of y)) (items m) power o.nought 0 b in
    let p : drop power sizes ≡ size ∷ drop (power + 1) sizes =
    drop_front sizes power (omega (arith, b, length-map (items m) (λ (y : Meaning). unsigned_abs (number_of y))))
    ∙ ap (λ z. z ∷ drop (power + 1) sizes) (front ∙ sym e) in
    subst (λ z. IsContent z g) (sym p) (content_more size (drop (power + 1) sizes) c g k h)
  where
    drop_front : (xs : List ℕ) (i : ℕ) → i < length xs → drop i xs ≡ get_or xs i 0 ∷ drop (i + 1) xs
    drop_front xs i b = drop_more xs i 0 b

-- the polynomial at a place in front of those behind it
pub row_step : {T : Type 0} (meaning : T → Meaning) (row : List T) (at_ : ℕ) (f : T) (b c g : ℕ) → at_ < length row → f ≡ get_or row at_ f
    → IsContent (sizes_of (meaning f)) b → IsContent (row_sizes (map meaning (drop (at_ + 1) row))) c → IsGcd b c g
    → IsContent (row_sizes (map meaning (drop at_ row))) g
row_step meaning row at_ f b c g p e h k s =
    let d : map meaning (drop at_ row) ≡ meaning f ∷ map meaning (drop (at_ + 1) row) =
    ap (map meaning) (drop_more row at_ f p) ∙ ap (λ t. meaning t ∷ map meaning (drop (at_ + 1) row)) (sym e) in
    subst (λ z. IsContent (row_sizes z) g) (sym d) (content_joined (sizes_of (meaning f)) (row_sizes (map meaning (drop (at_ + 1) row))) b c g h k s)

-- what divides all divides what is left behind a place
all_left : (d : ℕ) (xs : List ℕ) (i : ℕ) → DividesAll d xs → DividesAll d (drop i xs)
all_left d xs zero h = h
all_left d [] (suc i) h = tt
all_left d (x ∷ xs) (suc i) h = all_left d xs i h.1

all_left_of_row : (d : ℕ) (ms : List Meaning) (i : ℕ) → DividesAll d (row_sizes ms) → DividesAll d (row_sizes (drop i ms))
all_left_of_row d ms zero h = h
all_left_of_row d [] (suc i) h = tt
all_left_of_row d (m ∷ ms) (suc i) h = all_left_of_row d ms i (all_parts d (sizes_of m) (row_sizes ms) h).1

all_by_one : (xs : List ℕ) → DividesAll 1 xs
all_by_one [] = tt
all_by_one (x ∷ xs) = (one-dvd x, all_by_one xs)

-- where the numbers from a place on have content 1, so have all
pub content_seen : (xs : List ℕ) (i c : ℕ) → c ≡ 1 → IsContent (drop i xs) c → IsContent xs c
content_seen xs i c e h = subst (IsContent xs) (sym e) (record {
  divides = all_by_one xs;
  greatest = λ d s. subst (λ z. d ∣ z) e (h.greatest d (all_left d xs i s));
})

pub row_seen : {T : Type 0} (meaning : T → Meaning) (row : List T) (i c : ℕ) → c ≡ 1
    → IsContent (row_sizes (map meaning (drop i row))) c → IsContent (row_sizes (map meaning row)) c
row_seen meaning row i c e h = subst (IsContent (row_sizes (map meaning row))) (sym e) (record {
  divides = all_by_one (row_sizes (map meaning row));
  greatest = λ d s. subst (λ z. d ∣ z) e (h.greatest d (subst (λ ms. DividesAll d (row_sizes ms)) (sym (map_drop meaning row i))
      (all_left_of_row d (map meaning row) i s)));
})
  where
    map_drop : {A B : Type 0} (f : A → B) (xs : List A) (i : ℕ) → map f (drop i xs) ≡ drop i (map f xs)
    map_drop f xs zero = refl
    map_drop f [] (suc i) = refl
    map_drop f (x ∷ xs) (suc i) = map_drop f xs i
