-- Values of forms at points of 64 bits are below 2^72 in magnitude.
use Rattle.std.proofs.Common.{◌≡◌, refl, ◌*◌, ◌^◌, ◌<◌, ◌≤◌, subst, arith, Option, Some, None, MatchOption}
use Rattle.std.proofs.Math.Nat.{mul-le-mul}
use Rattle.std.proofs.lemmas.Int.{ints, unsigned_abs-mul}
use Rattle.std.specs.Prelude.{ℤ, ◌+ℤ◌, ◌*ℤ◌, unsigned_abs, IsSome}

product_small : (a n : ℤ) → unsigned_abs a ≤ 64 → unsigned_abs n ≤ 2 ^ 63 → unsigned_abs (a *ℤ n) ≤ 2 ^ 69
product_small a n h k =
    let size : unsigned_abs a * unsigned_abs n ≤ 64 * 2 ^ 63 = mul-le-mul h k in
    omega (arith, unsigned_abs-mul a n, size)

pub value_small : (a n b k c : ℤ) → unsigned_abs a ≤ 64 → unsigned_abs n ≤ 2 ^ 63 → unsigned_abs b ≤ 64 → unsigned_abs k ≤ 2 ^ 63
    → unsigned_abs c ≤ 2 ^ 40 → unsigned_abs (a *ℤ n +ℤ b *ℤ k +ℤ c) < 2 ^ 72
value_small a n b k c ha hn hb hk hc =
    let p = product_small a n ha hn in
    let q = product_small b k hb hk in
    omega (arith, ints, p, q, hc)

pub some_of : {T : Type 0} (P : Type 0) (Q : T → Type 0) (r : Option T) → MatchOption r P Q → ¬ P → IsSome r
some_of P Q (Some x) h n = refl
some_of P Q None h n = absurd (n h)

pub given_of : {T : Type 0} (P : Type 0) (Q : T → Type 0) (r : Option T) (x : T) → MatchOption r P Q → r ≡ Some x → Q x
given_of P Q r x h e = subst (λ t. MatchOption t P Q) e h
