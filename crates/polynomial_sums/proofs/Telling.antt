-- The monomials of a polynomial tell the polynomial.
use Rattle.std.specs.Prelude.{◌≡◌, ◌≢◌, ℕ, zero, suc, true, not, IsTrue, ℤ, pos, negsuc, List, [], ◌∷◌, ◌++◌, map, length}
use Rattle.std.proofs.Common.{refl, ap, sym, ◌∙◌}
use Rattle.std.proofs.lemmas.Bool.{and_parts}
use Rattle.ring_laws.specs.Meaning.{Meaning, Meanings, number, several, joined, parted, joined-parted}
use Rattle.ring_laws.specs.Wholes.{number_of}
use Rattle.poly_laws.specs.PolyAlgebra.{every_passes, is_empty}
use Rattle.poly_laws.specs.Lists.{is_trimmed}
use Rattle.poly_laws.specs.Values.{level}
use Rattle.exact_texts.specs.Sums.{Monomial}
use Rattle.polynomial_sums.specs.PolynomialSums.{Letter, with_power, constant, falling, monomials_of, IsFresh, AreDistinct}
use Rattle.polynomial_sums.proofs.Powers.{all_set, told_by_power, parted_by_power}
use Rattle.polynomial_sums.proofs.Letters.{monomials_apart, falling_from}

coefficient_in : List Monomial → ℤ
coefficient_in [] = pos 0
coefficient_in (m ∷ ms) = m.coefficient

constant_back : (z : ℤ) → coefficient_in (constant z) ≡ z
unfolding coefficient_in
constant_back (pos zero) = refl
constant_back (pos (suc n)) = refl
constant_back (negsuc n) = refl

constant_told : (y z : ℤ) → constant y ≡ constant z → y ≡ z
constant_told y z e = sym (constant_back y) ∙ ap coefficient_in e ∙ constant_back z

-- what each level has: no monomials stand for 0 alone, and the monomials tell the meaning
pub record AreTold (ls : List Letter) : Type 0 where
  pub none : (c : Meaning) → IsTrue ((level (length ls)).passes c) → monomials_of ls c ≡ [] → (level (length ls)).ops.is_nought c ≡ true
  pub told : (c d : Meaning) → IsTrue ((level (length ls)).passes c) → IsTrue ((level (length ls)).passes d) → monomials_of ls c ≡ monomials_of ls d
      → c ≡ d

numbers_told : AreTold []
numbers_told = record { none = none; told = told }
  where
    none : (c : Meaning) → IsTrue ((level 0).passes c) → constant (number_of c) ≡ [] → (level 0).ops.is_nought c ≡ true
    none (number (pos zero)) p e = refl
    none (number (pos (suc n))) p e = absurd cc
    none (number (negsuc n)) p e = absurd cc
    none (several xs) p e = absurd cc

    told : (c d : Meaning) → IsTrue ((level 0).passes c) → IsTrue ((level 0).passes d) → constant (number_of c) ≡ constant (number_of d) → c ≡ d
    told (number y) (number z) p q e = ap number (constant_told y z e)
    told (number y) (several zs) p q e = absurd cc
    told (several ys) d p q e = absurd cc

module _ (l : Letter) (ls : List Letter) (fresh : IsFresh l ls) (inner : AreTold ls) where
  abbrev these : List Meaning → ℕ → List Monomial
  these cs i = falling l (monomials_of ls) cs i

  abbrev Passes : List Meaning → Type 0
  Passes cs = IsTrue (every_passes (level (length ls)).passes cs)

  abbrev Trimmed : List Meaning → Type 0
  Trimmed cs = IsTrue (is_trimmed (level (length ls)).ops cs)

  first_passes : (c : Meaning) (cs : List Meaning) → Passes (c ∷ cs) → IsTrue ((level (length ls)).passes c) × Passes cs
  first_passes c cs p = and_parts ((level (length ls)).passes c) (every_passes (level (length ls)).passes cs) p

  pub rest_trimmed : (c : Meaning) (cs : List Meaning) → Trimmed (c ∷ cs) → Trimmed cs
  rest_trimmed c [] t = refl
  rest_trimmed c (d ∷ cs) t = t

  pub map_empty : (f : Monomial → Monomial) (ms : List Monomial) → map f ms ≡ [] → ms ≡ []
  map_empty f [] e = refl
  map_empty f (m ∷ ms) e = absurd cc

  back_empty : (xs ys : List Monomial) → xs ++ ys ≡ [] → (xs ≡ []) × (ys ≡ [])
  back_empty [] ys e = (refl, e)
  back_empty (x ∷ xs) ys e = absurd cc

  -- some monomials are there
  pub not_none : (c : Meaning) (cs : List Meaning) (i : ℕ) → Passes (c ∷ cs) → Trimmed (c ∷ cs) → these (c ∷ cs) i ≢ []
  not_none c [] i p t e =
      let empty = map_empty (with_power l i) (monomials_of ls c) e in
      let nought = inner.none c (first_passes c [] p).0 empty in
      let never = sym (ap not nought) ∙ t in
      cc
  not_none c (d ∷ cs) i p t e =
      not_none d cs (suc i) (first_passes c (d ∷ cs) p).1 t (back_empty (these (d ∷ cs) (suc i)) (map (with_power l i) (monomials_of ls c)) e).0

  lists_told : (cs ds : List Meaning) (i : ℕ) → Passes cs → Passes ds → Trimmed cs → Trimmed ds → these cs i ≡ these ds i → cs ≡ ds
  lists_told [] [] i p q t u e = refl
  lists_told [] (d ∷ ds) i p q t u e = absurd (not_none d ds i q u (sym e))
  lists_told (c ∷ cs) [] i p q t u e = absurd (not_none c cs i p t e)
  lists_told (c ∷ cs) (d ∷ ds) i p q t u e =
      let parts = parted_by_power l i (these cs (suc i)) (map (with_power l i) (monomials_of ls c)) (these ds (suc i))
      (map (with_power l i) (monomials_of ls d))
      (falling_from l (monomials_of ls) cs (suc i)) (falling_from l (monomials_of ls) ds (suc i)) (all_set l i (monomials_of ls c))
      (all_set l i (monomials_of ls d)) e in
      let pass = first_passes c cs p in
      let passes = first_passes d ds q in
      let first = inner.told c d pass.0 passes.0
      (told_by_power l i (monomials_of ls c) (monomials_of ls d) (monomials_apart l ls fresh c) (monomials_apart l ls fresh d) parts.1) in
      let rest = lists_told cs ds (suc i) pass.1 passes.1 (rest_trimmed c cs t) (rest_trimmed d ds u) parts.0 in
      λ j. first j ∷ rest j

  more_told : AreTold (l ∷ ls)
  more_told = record { none = none; told = told }
    where
      parts : (xs : Meanings) → IsTrue ((level (suc (length ls))).passes (several xs)) → Passes (parted xs) × Trimmed (parted xs)
      parts xs p = and_parts (every_passes (level (length ls)).passes (parted xs)) (is_trimmed (level (length ls)).ops (parted xs)) p

      empty : (cs : List Meaning) → Passes cs → Trimmed cs → these cs 0 ≡ [] → cs ≡ []
      empty [] p t e = refl
      empty (c ∷ cs) p t e = absurd (not_none c cs 0 p t e)

      none : (c : Meaning) → IsTrue ((level (suc (length ls))).passes c) → monomials_of (l ∷ ls) c ≡ []
          → (level (suc (length ls))).ops.is_nought c ≡ true
      none (number z) p e = absurd cc
      none (several xs) p e =
          let h = parts xs p in
          let nothing = empty (parted xs) h.0 h.1 e in
          ap is_empty nothing

      told : (c d : Meaning) → IsTrue ((level (suc (length ls))).passes c) → IsTrue ((level (suc (length ls))).passes d)
          → monomials_of (l ∷ ls) c ≡ monomials_of (l ∷ ls) d → c ≡ d
      told (number y) d p q e = absurd cc
      told (several xs) (number z) p q e = absurd cc
      told (several xs) (several ys) p q e =
          let h = parts xs p in
          let k = parts ys q in
          let same = lists_told (parted xs) (parted ys) 0 h.0 k.0 h.1 k.1 e in
          ap several (sym (joined-parted xs) ∙ ap joined same ∙ joined-parted ys)

pub monomials_told : (ls : List Letter) → AreDistinct ls → AreTold ls
monomials_told [] h = numbers_told
monomials_told (l ∷ ls) h = more_told l ls h.0 (monomials_told ls h.1)
