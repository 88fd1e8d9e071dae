-- A row of whole numbers with content 0 or 1 is reduced, and else its quotients by the content are.
use Rattle.std.proofs.Common.{◌≡◌, ℕ, zero, suc, ◌≤◌, ℤ, pos, ◌*ℤ◌, ◌≤ℤ◌, unsigned_abs, List, [], ◌∷◌, map, refl, sym, ap, ◌∙◌, subst, arith, Result, Ok, Err}
use Rattle.std.specs.Prelude.{⊤}
use Rattle.std.proofs.lemmas.Int.{ints}
use Rattle.std.proofs.lemmas.Simd.{map-map}
use Rattle.std.proofs.Math.Nat.{eq-zero_of_zero-dvd}
use Rattle.ring_solver.proofs.Read.{ring_z, reading_z}
use Rattle.ring_laws.specs.Meaning.{Meaning, number}
use Rattle.ring_laws.specs.Answer.{Gives, fault_weaker}
use Rattle.ring_laws.specs.WholeDomain.{abs_nought}
use Rattle.ring_laws.specs.declared.wholes.Whole.{Whole}
use Rattle.ring_laws.specs.declared.faults.RingFault.{RingFault}
use Rattle.poly_divide.specs.Content.{DividesAll, IsContent}
use Rattle.kernel_laws.specs.Reduction.{IsCoreBy}
use Rattle.reducing.specs.RowAnswer.{GivesPart}
use Rattle.reducing.specs.WholeRows.{WholeReduced, whole_reduction}

abbrev values : List Whole → List ℤ
values row = map (λ w. w.value) row

abbrev sizes : List Whole → List ℕ
sizes row = map (λ w. unsigned_abs w.value) row

abbrev pub meant : List Whole → List Meaning
meant row = map (λ w. number w.value) row

once : (zs : List ℤ) → zs ≡ map (λ q. pos 1 *ℤ q) zs
once [] = refl
once (z ∷ zs) = cc (times_one z, once zs)
  where
    times_one : (z : ℤ) → pos 1 *ℤ z ≡ z
    times_one z = ring_z (z ∷ []) (search reading_z depth 40 fits 20000) refl

all_zero : (row : List Whole) → DividesAll 0 (sizes row) → values row ≡ map (λ q. pos 0 *ℤ q) (values row)
all_zero [] h = refl
all_zero (w ∷ ws) h =
    let e : w.value ≡ pos 0 = abs_nought w.value (eq-zero_of_zero-dvd h.0) in
    cc (e, no_times w.value, all_zero ws h.1)
  where
    no_times : (z : ℤ) → pos 0 *ℤ z ≡ pos 0
    no_times z = ring_z (z ∷ []) (search reading_z depth 40 fits 20000) refl

times_small : (c : ℕ) (row : List Whole) → c ≤ 1 → IsContent (sizes row) c → values row ≡ map (λ q. pos c *ℤ q) (values row)
times_small zero row b h = all_zero row h.divides
times_small (suc zero) row b h = once (values row)
times_small (suc (suc c)) row b h = absurd (omega arith)

-- nothing is to be divided
pub stays : (row : List Whole) (d : ℤ) → IsContent (sizes row) (unsigned_abs d) → d ≤ℤ pos 1 → pos 0 ≤ℤ d → WholeReduced (meant row) (meant row)
stays row d h b s = record {
  numbers = values row;
  numbers_are = sym (map-map number (λ w. w.value) row);
  content = unsigned_abs d;
  is_content = subst (λ t. IsContent t (unsigned_abs d)) (sym (map-map unsigned_abs (λ w. w.value) row)) h;
  quotients = values row;
  quotients_are = sym (map-map number (λ w. w.value) row);
  times = times_small (unsigned_abs d) row (omega (arith, ints, b, s)) h;
  zeros_stay = λ e. refl;
}

positive_is : (d : ℤ) → pos 0 ≤ℤ d → pos (unsigned_abs d) ≡ d
positive_is d s = omega (arith, ints, s)

-- and else the quotients by the content are the reduced row
pub quotients : (row qs : List Whole) (d : ℤ) → IsContent (sizes row) (unsigned_abs d) → pos 0 ≤ℤ d → ¬ (unsigned_abs d ≡ 0)
    → values row ≡ map (λ (q : Whole). d *ℤ q.value) qs → WholeReduced (meant row) (meant qs)
quotients row qs d h s m e = record {
  numbers = values row;
  numbers_are = sym (map-map number (λ w. w.value) row);
  content = unsigned_abs d;
  is_content = subst (λ t. IsContent t (unsigned_abs d)) (sym (map-map unsigned_abs (λ w. w.value) row)) h;
  quotients = values qs;
  quotients_are = sym (map-map number (λ w. w.value) qs);
  times = e ∙ ap (λ (z : ℤ). map (λ (q : Whole). z *ℤ q.value) qs) (sym (positive_is d s))
      ∙ sym (map-map (λ q. pos (unsigned_abs d) *ℤ q) (λ w. w.value) qs);
  zeros_stay = λ t. absurd (m t);
}

-- the core of a number, which is 1
pub core_alone : (x : ℤ) (r : Result Whole RingFault) → Gives (λ (w : Whole). number w.value) (number (pos 1)) r
    → GivesPart (λ (w : Whole). number w.value) (IsCoreBy whole_reduction (number x)) ⊤ r
core_alone x (Ok core) h = record { plain = number x; split = record { value = x; value_is = refl; plain_is = refl; core_is = h } }
core_alone x (Err fault) h = fault_weaker fault absurd h
