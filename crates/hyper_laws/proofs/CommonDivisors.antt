-- Of two numbers with a property that differences keep, some common divisor has it (Euclid by differences).
use Rattle.std.proofs.Common.{◌≡◌, ℕ, zero, suc, ◌+◌, ◌-◌, ◌≤◌, subst, arith, ⊎_elim}
use Rattle.std.proofs.lemmas.Bool.{cases_lt}
use Rattle.std.proofs.lemmas.Nat.Gcd.{dvd_refl, dvd-zero}
use Rattle.std.proofs.Math.Nat.{dvd-add}
use Rattle.std.specs.Int.{◌∣◌}

-- a common divisor with the property
pub record Common (P : ℕ → Type 0) (m n : ℕ) : Type 0 where
  pub divisor : ℕ
  pub first : divisor ∣ m
  pub second : divisor ∣ n
  pub has : P divisor

back : (d x y : ℕ) → y ≤ x → d ∣ x - y → d ∣ y → d ∣ x
back d x y c e f = let same : (x - y) + y ≡ x = omega (arith, c) in subst (λ t. d ∣ t) same (dvd-add d e f)

module _ (P : ℕ → Type 0) (keeps : (m n : ℕ) → n ≤ m → P m → P n → P (m - n)) where
  first_greater : (m n : ℕ) → n ≤ m → Common P (m - n) n → Common P m n
  first_greater m n c k =
      record { divisor = k.divisor; first = back k.divisor m n c k.first k.second; second = k.second; has = k.has }

  second_greater : (m n : ℕ) → m ≤ n → Common P m (n - m) → Common P m n
  second_greater m n c k =
      record { divisor = k.divisor; first = k.first; second = back k.divisor n m c k.second k.first; has = k.has }

  pub common : (steps m n : ℕ) → m + n ≤ steps → P m → P n → Common P m n
  common steps zero n b p q = record { divisor = n; first = dvd-zero n; second = dvd_refl n; has = q }
  common steps (suc m) zero b p q = record { divisor = suc m; first = dvd_refl (suc m); second = dvd-zero (suc m); has = p }
  common zero (suc m) (suc n) b p q = absurd (omega (arith, b))
  common (suc steps) (suc m) (suc n) b p q =
      ⊎_elim
      (λ c. second_greater (suc m) (suc n) (omega (arith, c))
      (common steps (suc m) (suc n - suc m) (omega (arith, b, c)) p (keeps (suc n) (suc m) (omega (arith, c)) q p)))
      (λ c. first_greater (suc m) (suc n) c (common steps (suc m - suc n) (suc n) (omega (arith, b, c)) (keeps (suc m) (suc n) c p q) q))
      (cases_lt (suc m) (suc n))
