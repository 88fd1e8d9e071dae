-- A number times a power of another one, step by step. As neither is 0, no step is greater than the whole.
use Rattle.std.proofs.Common.{◌≡◌, ◌≢◌, ℕ, zero, suc, ◌+◌, ◌-◌, ◌*◌, ◌≤◌, ◌<◌, ◌^◌, [], ◌∷◌, refl, ap, sym, ◌∙◌, arith, subst, le-mul_of_pos_right}
use Rattle.std.proofs.lemmas.Int.{ints, unsigned_abs-mul}
use Rattle.std.specs.Prelude.{ℤ, pos, negsuc, ◌*ℤ◌, unsigned_abs, Result, Ok, Err, IfErr}
use Rattle.std.proofs.Common.{IsErrAnd}
use lib.IntN.{pow}
use Rattle.ring_laws.specs.Answer.{OnFault, fault_weaker}
use Rattle.ring_laws.specs.declared.faults.RingFault.{RingFault}
use Rattle.ring_solver.proofs.Read.{ring_z, reading_z}
use Rattle.hypergeometric.proofs.FractionLaws.{pow_not_zero, product_not_zero}
use Rattle.gosper_form.specs.NumberAnswer.{GivesNumber}

-- a number times another one that isn't 0 is at least as great
pub at_least : (x y : ℤ) → y ≢ pos 0 → unsigned_abs x ≤ unsigned_abs (x *ℤ y)
at_least x y n =
    let some : 0 < unsigned_abs y = positive y n in
    let bound = le-mul_of_pos_right (unsigned_abs x) some in
    omega (arith, unsigned_abs-mul x y, bound)
  where
    positive : (y : ℤ) → y ≢ pos 0 → 0 < unsigned_abs y
    positive (pos zero) n = absurd (n refl)
    positive (pos (suc m)) n = omega arith
    positive (negsuc m) n = omega arith

pub out_of_bounds : (x y t : ℤ) → y ≢ pos 0 → x *ℤ y ≡ t → ¬ (unsigned_abs x < 2 ^ 127) → ¬ (unsigned_abs t < 2 ^ 127)
out_of_bounds x y t n e out h =
    let bound = at_least x y n in
    out (omega (arith, bound, ap unsigned_abs e, h))

-- p times the rest of a power of b is the whole
pub record PowerReached (p b whole : ℤ) (power done : ℕ) : Type 0 where
  pub product : p *ℤ pow b (power - done) ≡ whole
  pub not_zero : p ≢ pos 0

module _ (p b whole : ℤ) (power done : ℕ) (some : b ≢ pos 0) (more : done < power) (r : PowerReached p b whole power done) where
  rest_of : pow b (power - done) ≡ pow b (power - (done + 1)) *ℤ b
  unfolding pow lib.IntN.one
  rest_of = ap (pow b) (next power done more)
    where
      next : (power done : ℕ) → done < power → power - done ≡ suc (power - (done + 1))
      next power done h = omega (arith, h)

  moved : (p b t : ℤ) → (p *ℤ b) *ℤ t ≡ p *ℤ (t *ℤ b)
  moved p b t = ring_z (p ∷ b ∷ t ∷ []) (search reading_z depth 40 fits 20000) refl

  product_next : (p *ℤ b) *ℤ pow b (power - (done + 1)) ≡ whole
  product_next = moved p b (pow b (power - (done + 1))) ∙ ap (λ t. p *ℤ t) (sym rest_of) ∙ r.product

  pub power_step : (q : ℤ) → q ≡ p *ℤ b → PowerReached q b whole power (done + 1)
  power_step q e = record {
    product = ap (λ t. t *ℤ pow b (power - (done + 1))) e ∙ product_next;
    not_zero = λ z. product_not_zero p b r.not_zero some (sym e ∙ z);
  }

  pub power_fault : (fault : RingFault) → OnFault (¬ (unsigned_abs p * unsigned_abs b < 2 ^ 127)) fault → OnFault (¬ (unsigned_abs whole < 2 ^ 127)) fault
  power_fault fault h = fault_weaker fault (λ out. out_of_bounds (p *ℤ b) (pow b (power - (done + 1))) whole
      (pow_not_zero b (power - (done + 1)) some) product_next (λ small. out (subst (λ t. t < 2 ^ 127) (unsigned_abs-mul p b) small))) h

pub power_start : (p b : ℤ) (power : ℕ) → p ≢ pos 0 → PowerReached p b (p *ℤ pow b power) power 0
power_start p b power n = record { product = ap (λ m. p *ℤ pow b m) (all power); not_zero = n }
  where
    all : (power : ℕ) → power - 0 ≡ power
    all power = omega arith

pub power_end : (p b whole : ℤ) (power done : ℕ) → power ≤ done → PowerReached p b whole power done → p ≡ whole
unfolding pow lib.IntN.one
power_end p b whole power done h r = sym (times_one p) ∙ ap (λ n. p *ℤ pow b n) (none power done h) ∙ r.product
  where
    none : (power done : ℕ) → power ≤ done → 0 ≡ power - done
    none power done h = omega (arith, h)

    times_one : (p : ℤ) → p *ℤ pos 1 ≡ p
    times_one p = ring_z (p ∷ []) (search reading_z depth 40 fits 20000) refl

-- a fault that is passed on
pub number_fault : {T : Type 0} (number : T → ℤ) (z : ℤ) (r : Result T RingFault) (fault : RingFault) → IsErrAnd r (λ e. e ≡ fault)
    → OnFault (¬ (unsigned_abs z < 2 ^ 127)) fault → GivesNumber number z r
number_fault number z (Ok x) fault e h = absurd e
number_fault number z (Err y) fault e h = subst (OnFault (¬ (unsigned_abs z < 2 ^ 127))) (sym e) h
