-- Sums of the first numbers of a list, and those that are left where one number is 0.
use Rattle.std.proofs.Common.{◌≡◌, ℕ, zero, suc, ◌+◌, ◌≤◌, ◌<◌, Bool, true, false, refl, ap, arith}
use Rattle.std.proofs.lemmas.Bool.{eqb-true, ne_eqb}
use Rattle.std.specs.Prelude.{cond, nat_eq}
use Rattle.term_pieces.specs.NormalForm.{sum_of_first}

-- the numbers with 0 at one place
abbrev pub without_at : ℕ → (ℕ → ℕ) → ℕ → ℕ
without_at i g h = cond (nat_eq h i) 0 (g h)

pub zero_sum : (g : ℕ → ℕ) → ((h : ℕ) → g h ≡ 0) → (h : ℕ) → sum_of_first g h ≡ 0
zero_sum g z zero = refl
zero_sum g z (suc h) = omega (arith, zero_sum g z h, z h)

-- before that place nothing changes
before_place : (i : ℕ) (g : ℕ → ℕ) (h : ℕ) → h ≤ i → sum_of_first g h ≡ sum_of_first (without_at i g) h
before_place i g zero l = refl
before_place i g (suc h) l =
    let same : without_at i g h ≡ g h = ap (λ b. cond b 0 (g h)) (ne_eqb h i (omega (arith, l))) in
    let rest = before_place i g h (omega (arith, l)) in
    omega (arith, same, rest)

-- and in all no more than the number there
pub less_at_one : (i : ℕ) (g : ℕ → ℕ) (h : ℕ) → sum_of_first g h ≤ sum_of_first (without_at i g) h + g i
less_at_one i g zero = omega arith
less_at_one i g (suc h) = by (nat_eq h i) refl (less_at_one i g h)
  where
    by : (b : Bool) → nat_eq h i ≡ b → sum_of_first g h ≤ sum_of_first (without_at i g) h + g i
        → sum_of_first g h + g h ≤ (sum_of_first (without_at i g) h + without_at i g h) + g i
    by true e p =
        let is = eqb-true h i e in
        let same = before_place i g h (omega (arith, is)) in
        let own : g h ≡ g i = ap g is in
        let gone : without_at i g h ≡ 0 = ap (λ b. cond b 0 (g h)) e in
        omega (arith, same, own, gone)
    by false e p =
        let kept : without_at i g h ≡ g h = ap (λ b. cond b 0 (g h)) e in
        omega (arith, p, kept)

-- sums of the same numbers
pub same_sums : (g g' : ℕ → ℕ) (h : ℕ) → ((i : ℕ) → i < h → g i ≡ g' i) → sum_of_first g h ≡ sum_of_first g' h
same_sums g g' zero same = refl
same_sums g g' (suc h) same =
    let before = same_sums g g' h (λ i l. same i (omega (arith, l))) in
    let last = same h (omega arith) in
    omega (arith, before, last)
