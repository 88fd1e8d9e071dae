-- Divisors of numbers below 2^127, and the quotients of a row.
use Rattle.std.proofs.Common.{◌≡◌, ◌≢◌, ℕ, zero, suc, ◌+◌, ◌<◌, ◌≤◌, ◌^◌, ℤ, pos, ◌*ℤ◌, unsigned_abs, List, [], ◌∷◌, map, drop, length, get_or, Option, Some, None, MatchOption, refl, sym, ap, ◌∙◌, subst, arith, int_div, int_rem}
use Rattle.std.specs.Option.{IsSome}
use Rattle.std.specs.Int.{◌∣◌, IsGcd}
use Rattle.std.proofs.lemmas.Int.{ints, quot-rem}
use Rattle.std.proofs.lemmas.Nat.Gcd.{le_of_dvd, dvd-zero, mod-eq-zero_of_dvd}
use Rattle.std.proofs.lemmas.List.{length-map, drop_more, get_or-map}
use Rattle.std.proofs.Math.Nat.{eq-zero_of_zero-dvd}
use Rattle.ring_laws.specs.WholeDomain.{abs_nought}
use Rattle.ring_laws.proofs.Quotients.{abs_rem}
use Rattle.poly_divide.specs.Content.{DividesAll, IsContent}
use Rattle.poly_divide.proofs.Contents.{content_more}
use Rattle.ring_laws.specs.declared.wholes.Whole.{Whole}

pub gcd_small : (a b g : ℕ) → a < 2 ^ 127 → b < 2 ^ 127 → IsGcd a b g → g < 2 ^ 127
gcd_small zero zero g p q h = subst (λ t. t < 2 ^ 127) (sym (eq-zero_of_zero-dvd (h.2 0 (dvd-zero 0) (dvd-zero 0)))) p
gcd_small zero (suc b) g p q h =
    let k : g ≤ suc b = le_of_dvd (omega arith) h.1 in omega arith
gcd_small (suc a) b g p q h =
    let k : g ≤ suc a = le_of_dvd (omega arith) h.0 in omega arith

pub some_whole : (r : Option Whole) (z least : ℤ) → z ≢ least → MatchOption r (z ≡ least) (λ w. w.value ≡ z) → IsSome r
some_whole (Some w) z least m h = refl
some_whole None z least m h = absurd (m h)

pub whole_is : (r : Option Whole) (w : Whole) (z least : ℤ) → r ≡ Some w → MatchOption r (z ≡ least) (λ w. w.value ≡ z) → w.value ≡ z
whole_is r w z least e h = subst (λ t. MatchOption t (z ≡ least) (λ w. w.value ≡ z)) e h

pub gcd_of : (m n g a b d : ℕ) → m ≡ a → n ≡ b → d ≡ g → IsGcd m n g → IsGcd a b d
gcd_of m n g a b d e f h k =
    subst (λ t. IsGcd a b t) (sym h) (subst (λ t. IsGcd a t g) f (subst (λ t. IsGcd t n g) e k))

-- ---- the content of a row
pub content_before : {T : Type 0} (size : T → ℕ) (row : List T) (i : ℕ) (x : T) (c g : ℕ) → i < length row → x ≡ get_or row i x
    → IsContent (drop (i + 1) (map size row)) c → IsGcd (size x) c g → IsContent (drop i (map size row)) g
content_before size row i x c g b e h k =
    let front : get_or (map size row) i 0 ≡ size x = get_or-map size row i x 0 b ∙ ap size (sym e) in
    let p : drop i (map size row) ≡ size x ∷ drop (i + 1) (map size row) =
    drop_more (map size row) i 0 (omega (arith, b, length-map row size)) ∙ ap (λ z. z ∷ drop (i + 1) (map size row)) front in
    subst (λ z. IsContent z g) (sym p) (content_more (size x) (drop (i + 1) (map size row)) c g h k)

-- ---- quotients
pub divides_at : {T : Type 0} (size : T → ℕ) (row : List T) (i d : ℕ) (x : T) → i < length row → x ≡ get_or row i x → DividesAll d (map size row)
    → d ∣ size x
divides_at size [] i d x b e h = absurd (omega arith)
divides_at size (y ∷ ys) zero d x b e h = subst (λ t. d ∣ size t) (sym e) h.0
divides_at size (y ∷ ys) (suc i) d x b e h = divides_at size ys i d x (omega arith) e h.1

pub quotient_of : (a d : ℤ) → unsigned_abs d ∣ unsigned_abs a → int_div a d *ℤ d ≡ a
quotient_of a d h =
    let r : int_rem a d ≡ pos 0 = abs_nought (int_rem a d) (abs_rem a d ∙ mod-eq-zero_of_dvd (unsigned_abs d) h) in
    omega (arith, ints, quot-rem a d, r)
