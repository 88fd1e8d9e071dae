-- What trimming leaves of a list of coefficients, and how long a trimmed list is.
use Rattle.std.specs.Prelude.{◌≤◌, ◌⊎◌, length, ◌≡◌, ℕ, zero, suc, Bool, true, false, cond, not, IsTrue, List, [], ◌∷◌, get_or, refl}
use Rattle.std.proofs.Common.{inl, inr, arith, ap, sym, subst, ◌∙◌, ⊎_elim}
use Rattle.ring_laws.specs.Algebra.{Ops, RingLaws}
use Rattle.std.proofs.lemmas.Bool.{cases_lt}
use Rattle.poly_laws.specs.Lists.{coefficient_at, in_front, trimmed, is_trimmed, SameCoefficients}

module _ {A : Type 0} (o : Ops A) (l : RingLaws o) where
  bool_cases : (b : Bool) → IsTrue b ⊎ ¬ (IsTrue b)
  bool_cases true = inl refl
  bool_cases false = inr (λ h. cc)

  -- whether a value is zero
  pub zero_or_not : (x : A) → (x ≡ o.nought) ⊎ ¬ (x ≡ o.nought)
  zero_or_not x = ⊎_elim (λ h. inl ((l.is_nought x).0 h)) (λ m. inr (λ e. m ((l.is_nought x).1 e))) (bool_cases (o.is_nought x))

  in_front_nought : (b : Bool) (x : A) → (IsTrue b → x ≡ o.nought) → (k : ℕ) → get_or (cond b [] (x ∷ [])) k o.nought ≡ get_or (x ∷ []) k o.nought
  in_front_nought true x h zero = sym (h refl)
  in_front_nought true x h (suc k) = refl
  in_front_nought false x h k = refl

  pub at_in_front : (x : A) (t : List A) (k : ℕ) → coefficient_at o (in_front o x t) k ≡ coefficient_at o (x ∷ t) k
  at_in_front x [] k = in_front_nought (o.is_nought x) x (l.is_nought x).0 k
  at_in_front x (y ∷ ys) k = refl

  pub at_trimmed : (xs : List A) (k : ℕ) → coefficient_at o (trimmed o xs) k ≡ coefficient_at o xs k
  at_trimmed [] k = refl
  at_trimmed (x ∷ xs) zero = at_in_front x (trimmed o xs) zero
  at_trimmed (x ∷ xs) (suc k) = at_in_front x (trimmed o xs) (suc k) ∙ at_trimmed xs k

  drop_nought : (x : A) (t : List A) → x ≡ o.nought → t ≡ [] → in_front o x t ≡ []
  drop_nought x t e n = ap (in_front o x) n ∙ ap (λ b. cond b [] (x ∷ [])) ((l.is_nought x).1 e)

  pub trimmed_noughts : (ys : List A) → ((k : ℕ) → o.nought ≡ coefficient_at o ys k) → trimmed o ys ≡ []
  trimmed_noughts [] e = refl
  trimmed_noughts (y ∷ ys) e = drop_nought y (trimmed o ys) (sym (e zero)) (trimmed_noughts ys (λ k. e (suc k)))

  pub trimmed_same : (xs ys : List A) → SameCoefficients o xs ys → trimmed o xs ≡ trimmed o ys
  trimmed_same [] ys e = sym (trimmed_noughts ys e)
  trimmed_same (x ∷ xs) [] e = trimmed_noughts (x ∷ xs) (λ k. sym (e k))
  trimmed_same (x ∷ xs) (y ∷ ys) e = cc (e zero, trimmed_same xs ys (λ k. e (suc k)))

  pub trimmed_twice : (xs : List A) → trimmed o (trimmed o xs) ≡ trimmed o xs
  trimmed_twice xs = trimmed_same (trimmed o xs) xs (at_trimmed xs)

in_front_kept : {A : Type 0} (b : Bool) (x : A) → IsTrue (not b) → cond b [] (x ∷ []) ≡ x ∷ []
in_front_kept true x h = cc
in_front_kept false x h = refl

pub trimmed_already : {A : Type 0} (o : Ops A) (xs : List A) → IsTrue (is_trimmed o xs) → trimmed o xs ≡ xs
trimmed_already o [] h = refl
trimmed_already o (x ∷ []) h = in_front_kept (o.is_nought x) x h
trimmed_already o (x ∷ y ∷ ys) h = ap (in_front o x) (trimmed_already o (y ∷ ys) h)

one_trimmed : {A : Type 0} (o : Ops A) (x : A) (b : Bool) → o.is_nought x ≡ b → IsTrue (is_trimmed o (cond b [] (x ∷ [])))
one_trimmed o x true e = refl
one_trimmed o x false e = ap not e

in_front_trimmed : {A : Type 0} (o : Ops A) (x : A) (t : List A) → IsTrue (is_trimmed o t) → IsTrue (is_trimmed o (in_front o x t))
in_front_trimmed o x [] h = one_trimmed o x (o.is_nought x) refl
in_front_trimmed o x (y ∷ ys) h = h

pub is_trimmed_trimmed : {A : Type 0} (o : Ops A) (xs : List A) → IsTrue (is_trimmed o (trimmed o xs))
is_trimmed_trimmed o [] = refl
is_trimmed_trimmed o (x ∷ xs) = in_front_trimmed o x (trimmed o xs) (is_trimmed_trimmed o xs)

pub beyond : {A : Type 0} (o : Ops A) (xs : List A) (k : ℕ) → length xs ≤ k → coefficient_at o xs k ≡ o.nought
beyond o [] k h = refl
beyond o (x ∷ xs) zero h = absurd (omega arith)
beyond o (x ∷ xs) (suc k) h = beyond o xs k (omega arith)

not_nought : {A : Type 0} (o : Ops A) (l : RingLaws o) (x : A) → IsTrue (not (o.is_nought x)) → ¬ (x ≡ o.nought)
not_nought o l x h e = cc (h, (l.is_nought x).1 e)

-- the last coefficient
pub last_not : {A : Type 0} (o : Ops A) (l : RingLaws o) (x : A) (xs : List A) → IsTrue (is_trimmed o (x ∷ xs))
    → ¬ (coefficient_at o (x ∷ xs) (length xs) ≡ o.nought)
last_not o l x [] h = not_nought o l x h
last_not o l x (y ∷ ys) h = last_not o l y ys h

pub length_within : {A : Type 0} (o : Ops A) (l : RingLaws o) (xs : List A) (n : ℕ) → IsTrue (is_trimmed o xs)
    → ((k : ℕ) → n ≤ k → coefficient_at o xs k ≡ o.nought) → length xs ≤ n
length_within o l [] n h e = omega arith
length_within o l (x ∷ xs) n h e = go (last_not o l x xs h) (cases_lt (length xs) n)
  where
    go : ¬ (coefficient_at o (x ∷ xs) (length xs) ≡ o.nought) → (suc (length xs) ≤ n) ⊎ (n ≤ length xs) → suc (length xs) ≤ n
    go ne (inl p) = p
    go ne (inr q) = absurd (ne (e (length xs) q))

-- one item in front
pub length-in_front : {A : Type 0} (o : Ops A) (x : A) (t : List A) (b : Bool) → o.is_nought x ≡ b → length (in_front o x t) ≤ suc (length t)
length-in_front o x [] true e = subst (λ t. length t ≤ 1) (sym (short e)) (omega arith)
  where
    short : o.is_nought x ≡ true → in_front o x [] ≡ []
    short e = rw e refl
length-in_front o x [] false e = subst (λ t. length t ≤ 1) (sym (kept e)) (omega arith)
  where
    kept : o.is_nought x ≡ false → in_front o x [] ≡ x ∷ []
    kept e = rw e refl
length-in_front o x (y ∷ ys) b e = omega arith

-- trimming leaves no more items
pub length-trimmed : {A : Type 0} (o : Ops A) (xs : List A) → length (trimmed o xs) ≤ length xs
length-trimmed o [] = omega arith
length-trimmed o (x ∷ xs) = omega (arith, length-in_front o x (trimmed o xs) (o.is_nought x) refl, length-trimmed o xs)
