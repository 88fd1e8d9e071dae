-- Numbers that are divided one after another.
use Rattle.std.proofs.Common.{◌≡◌, ◌≢◌, ℕ, ◌+◌, ◌<◌, ◌≤◌, List, length, get_or, set, ap, ◌∙◌, arith, subst, below_more, get_or-set_other, get_or-set_same}
use Rattle.std.proofs.lemmas.Grind.{common_steps}
use Rattle.std.proofs.lemmas.List.{get_or_default}
use Rattle.std.specs.Prelude.{ℤ, pos, ◌*ℤ◌, ◌<ℤ◌, unsigned_abs, All}
use Rattle.ekhad_cli.specs.Antidifference.{AreQuotients}
use Rattle.ekhad_cli.proofs.Divisors.{quotient_small}

-- the first i numbers are divided, the others are as they were
pub record IsDividedTo (g : ℤ) (numbers now : List ℤ) (i : ℕ) : Type 0 where
  pub as_many : length now ≡ length numbers
  pub done : (j : ℕ) → j < i → get_or now j (pos 0) *ℤ g ≡ get_or numbers j (pos 0)
  pub to_do : (j : ℕ) → i ≤ j → get_or now j (pos 0) ≡ get_or numbers j (pos 0)

pub one_more : (g : ℤ) (numbers now : List ℤ) (i : ℕ) (q : ℤ) → i < length numbers → IsDividedTo g numbers now i → q *ℤ g ≡ get_or numbers i (pos 0)
    → IsDividedTo g numbers (set now i q) (i + 1)
one_more g numbers now i q h before exact = record {
  as_many = grind (arith, common_steps, before.as_many);
  done = below_more _ _ other here;
  to_do = λ j k. let ne : j ≢ i = omega (arith, k) in get_or-set_other now i j q (pos 0) ne ∙ before.to_do j (omega arith);
}
  where
    other : (j : ℕ) → j < i → get_or (set now i q) j (pos 0) *ℤ g ≡ get_or numbers j (pos 0)
    other j k = let ne : j ≢ i = omega (arith, k) in ap (λ z. z *ℤ g) (get_or-set_other now i j q (pos 0) ne) ∙ before.done j k

    here : get_or (set now i q) i (pos 0) *ℤ g ≡ get_or numbers i (pos 0)
    here = ap (λ z. z *ℤ g) (get_or-set_same now i q (pos 0) (omega (arith, before.as_many))) ∙ exact

pub all_divided : (g : ℤ) (numbers now : List ℤ) (i : ℕ) → length numbers ≤ i → IsDividedTo g numbers now i → AreQuotients g numbers now
all_divided g numbers now i h before = record { as_many = before.as_many; each = λ j k. before.done j (omega arith) }

-- quotients of small numbers are small
pub quotients_small : (g : ℤ) (numbers quotients : List ℤ) → pos 0 <ℤ g → AreQuotients g numbers quotients
    → All (λ z. unsigned_abs z ≤ 1500000000) numbers → All (λ z. unsigned_abs z ≤ 1500000000) quotients
quotients_small g numbers quotients positive q small i d h =
    let within : i < length numbers = omega (arith, q.as_many) in
    subst (λ z. unsigned_abs z ≤ 1500000000) (get_or_default quotients i (pos 0) d h)
    (omega (arith, quotient_small (get_or quotients i (pos 0)) g (get_or numbers i (pos 0)) positive (q.each i within), small i (pos 0) within))
