-- Common divisors of lists of numbers, and exact quotients.
use Rattle.std.proofs.Common.{◌≡◌, ℕ, zero, suc, ◌+◌, ◌*◌, ◌%◌, ◌<◌, ◌≤◌, ◌↔◌, List, length, get_or, take, ap, sym, ◌∙◌, arith, subst}
use Rattle.std.proofs.lemmas.Int.{ints, quot-rem, unsigned_abs-mul}
use Rattle.std.proofs.lemmas.Grind.{common_steps}
use Rattle.std.proofs.lemmas.List.{get_or-take}
use Rattle.std.proofs.lemmas.List.Elements.{All-more, All-take}
use Rattle.std.proofs.lemmas.Nat.Gcd.{mod-eq-zero_of_dvd, dvd_trans}
use Rattle.std.specs.Int.{◌∣◌, IsGcd}
use Rattle.std.specs.Int.RustNames.{int_div, int_rem}
use Rattle.std.specs.Prelude.{ℤ, pos, negsuc, ◌*ℤ◌, ◌<ℤ◌, unsigned_abs}
use Rattle.ekhad_cli.specs.Antidifference.{DividesAll}

no_rest : (a d : ℤ) → unsigned_abs d ∣ unsigned_abs a → int_rem a d ≡ pos 0
no_rest (pos a) d h = ap pos (mod-eq-zero_of_dvd (unsigned_abs d) h)
no_rest (negsuc a) d h = let e : suc a % unsigned_abs d ≡ 0 = mod-eq-zero_of_dvd (unsigned_abs d) h in omega (arith, ints, e)

-- the quotient by a divisor is exact
pub exact : (a d : ℤ) → unsigned_abs d ∣ unsigned_abs a → int_div a d *ℤ d ≡ a
exact a d h = omega (arith, ints, quot-rem a d, no_rest a d h)

-- a quotient is no greater than the number
pub quotient_small : (a g n : ℤ) → pos 0 <ℤ g → a *ℤ g ≡ n → unsigned_abs a ≤ unsigned_abs n
quotient_small a g n h e = bound (unsigned_abs a) (unsigned_abs g) (unsigned_abs n) (omega (arith, ints, h)) (sym (unsigned_abs-mul a g) ∙ ap unsigned_abs e)
  where
    bound : (a g n : ℕ) → 0 < g → a * g ≡ n → a ≤ n
    bound a zero n h e = absurd (omega arith)
    bound a (suc g) n h e = omega (arith, e)

-- the common divisors, with one number more
pub common_more : (before number after i : ℕ) (zs : List ℤ) → i < length zs → number ≡ unsigned_abs (get_or zs i (pos 0)) → IsGcd before number after
    → ((d : ℕ) → (d ∣ before) ↔ ((d ∣ 60) × DividesAll d (take i zs)))
    → (d : ℕ) → (d ∣ after) ↔ ((d ∣ 60) × DividesAll d (take (i + 1) zs))
common_more before number after i zs h e gcd so_far d = (
  λ divides.
      let were = (so_far d).0 (dvd_trans d divides gcd.0) in
      (were.0, All-more (λ z. d ∣ unsigned_abs z) zs i (pos 0) h were.1 (subst (λ n. d ∣ n) e (dvd_trans d divides gcd.1))),
  λ common. gcd.2 d ((so_far d).1 (common.0, All-fewer zs i d common.1)) (subst (λ n. d ∣ n) (sym e) (here zs i d h common.1)),
)
  where
    All-fewer : (zs : List ℤ) (i d : ℕ) → DividesAll d (take (i + 1) zs) → DividesAll d (take i zs)
    All-fewer zs i d all =
        let e : take i (take (i + 1) zs) ≡ take i zs = grind (arith, common_steps) in
        subst (DividesAll d) e (All-take (λ z. d ∣ unsigned_abs z) i (take (i + 1) zs) all)

    here : (zs : List ℤ) (i d : ℕ) → i < length zs → DividesAll d (take (i + 1) zs) → d ∣ unsigned_abs (get_or zs i (pos 0))
    here zs i d h all =
        let within : i < length (take (i + 1) zs) = grind (arith, common_steps) in
        subst (λ z. d ∣ unsigned_abs z) (get_or-take (i + 1) zs i (pos 0) (omega arith)) (all i (pos 0) within)
