-- A row of numbers that is divided in its place: the numbers before the place are quotients, the others are as they were.
use Rattle.std.proofs.Common.{◌≡◌, ℕ, zero, suc, ◌+◌, ◌<◌, ◌≤◌, ℤ, ◌*ℤ◌, unsigned_abs, List, [], ◌∷◌, map, length, get_or, Option, Some, None, MatchOption, refl, sym, ap, ◌∙◌, subst, arith, int_div}
use Rattle.std.proofs.Math.ListN.{set}
use Rattle.std.specs.Option.{IsSome}
use Rattle.std.specs.Int.{◌∣◌}
use Rattle.ring_solver.proofs.Read.{ring_z, reading_z}
use Rattle.ring_laws.specs.Meaning.{number}
use Rattle.ring_laws.specs.Wholes.{whole_algebra, number_of}
use Rattle.ring_laws.specs.Division.{IsTimes}
use Rattle.ring_laws.specs.declared.wholes.Whole.{Whole}
use Rattle.poly_divide.specs.Content.{DividesAll}
use Rattle.reducing.proofs.Divisors.{divides_at, quotient_of}

abbrev pub DividedTo : List Whole → ℤ → ℕ → List Whole → Type 0
DividedTo [] d at [] = Unit {0}
DividedTo [] d at (q ∷ qs) = ⊥
DividedTo (w ∷ ws) d at [] = ⊥
DividedTo (w ∷ ws) d zero (q ∷ qs) = (q ≡ w) × DividedTo ws d zero qs
DividedTo (w ∷ ws) d (suc at) (q ∷ qs) = (w.value ≡ d *ℤ q.value) × DividedTo ws d at qs

pub begun : (row : List Whole) (d : ℤ) → DividedTo row d 0 row
begun [] d = tt
begun (w ∷ ws) d = (refl, begun ws d)

pub same_length : (row : List Whole) (d : ℤ) (at : ℕ) (now : List Whole) → DividedTo row d at now → length now ≡ length row
same_length [] d at [] h = refl
same_length [] d at (q ∷ qs) h = absurd h
same_length (w ∷ ws) d at [] h = absurd h
same_length (w ∷ ws) d zero (q ∷ qs) h = ap suc (same_length ws d zero qs h.1)
same_length (w ∷ ws) d (suc at) (q ∷ qs) h = ap suc (same_length ws d at qs h.1)

-- the number at the place is as it was
unchanged : (row : List Whole) (d : ℤ) (at : ℕ) (now : List Whole) (x : Whole) → DividedTo row d at now → at < length now
    → get_or now at x ≡ get_or row at x
unchanged [] d at [] x h b = absurd (omega arith)
unchanged [] d at (q ∷ qs) x h b = absurd h
unchanged (w ∷ ws) d at [] x h b = absurd h
unchanged (w ∷ ws) d zero (q ∷ qs) x h b = h.0
unchanged (w ∷ ws) d (suc at) (q ∷ qs) x h b = unchanged ws d at qs x h.1 (omega arith)

set_next : (row : List Whole) (d : ℤ) (at : ℕ) (now : List Whole) (x q : Whole) → DividedTo row d at now → at < length now
    → (get_or row at x).value ≡ d *ℤ q.value → DividedTo row d (suc at) (set now at q)
set_next [] d at [] x q h b e = absurd (omega arith)
set_next [] d at (p ∷ ps) x q h b e = absurd h
set_next (w ∷ ws) d at [] x q h b e = absurd h
set_next (w ∷ ws) d zero (p ∷ ps) x q h b e = (e, h.1)
set_next (w ∷ ws) d (suc at) (p ∷ ps) x q h b e = (h.0, set_next ws d at ps x q h.1 (omega arith) e)

pub all_divided : (row : List Whole) (d : ℤ) (at : ℕ) (now : List Whole) → DividedTo row d at now → length row ≤ at
    → map (λ (w : Whole). w.value) row ≡ map (λ (q : Whole). d *ℤ q.value) now
all_divided [] d at [] h b = refl
all_divided [] d at (q ∷ qs) h b = absurd h
all_divided (w ∷ ws) d at [] h b = absurd h
all_divided (w ∷ ws) d zero (q ∷ qs) h b = absurd (omega (arith, b))
all_divided (w ∷ ws) d (suc at) (q ∷ qs) h b = cc (h.0, all_divided ws d at qs h.1 (omega (arith, b)))

-- what the quotient of the number at the place by the divisor is
abbrev Quotient : ℤ → ℤ → Option Whole → Type 0
Quotient x d r =
    MatchOption r ((c : ℤ) → ¬ (IsTimes whole_algebra c (number d) (number x))) (λ c. IsTimes whole_algebra c.value (number d) (number x))

some_of : (x d : ℤ) (r : Option Whole) → unsigned_abs d ∣ unsigned_abs x → Quotient x d r → IsSome r
some_of x d (Some w) h k = refl
some_of x d None h k = absurd (k (int_div x d) (ap number (quotient_of x d h)))

pub some_quotient : (row : List Whole) (d : ℤ) (at : ℕ) (now : List Whole) (x : Whole) (r : Option Whole) → DividedTo row d at now
    → at < length now → x ≡ get_or now at x → DividesAll (unsigned_abs d) (map (λ (w : Whole). unsigned_abs w.value) row)
    → Quotient x.value d r → IsSome r
some_quotient row d at now x r h b e all k =
    some_of x.value d r (divides_at (λ (w : Whole). unsigned_abs w.value) row at (unsigned_abs d) x
    (omega (arith, b, same_length row d at now h)) (e ∙ unchanged row d at now x h b) all) k

-- one number more
pub next_divided : (row : List Whole) (d : ℤ) (at : ℕ) (now new : List Whole) (x q : Whole) (r : Option Whole) → DividedTo row d at now
    → at < length now → x ≡ get_or now at x → Quotient x.value d r → r ≡ Some q → new ≡ set now at q → DividedTo row d (at + 1) new
next_divided row d at now new x q r h b e k some f =
    let s : suc at ≡ at + 1 = omega arith in
    subst (λ n. DividedTo row d n new) s (subst (DividedTo row d (suc at)) (sym f)
    (set_next row d at now x q h b
    (ap (λ (w : Whole). w.value) (sym (e ∙ unchanged row d at now x h b))
    ∙ sym (ap number_of (subst (Quotient x.value d) some k)) ∙ turned q.value d)))
  where
    turned : (c d : ℤ) → c *ℤ d ≡ d *ℤ c
    turned c d = ring_z (c ∷ d ∷ []) (search reading_z depth 40 fits 20000) refl
