-- The forms of a normal form's chains are primitive, so the product of the chains has the scale 1.
use Rattle.std.proofs.Common.{◌≡◌, ◌≢◌, ℕ, zero, suc, ◌+◌, Bool, true, false, List, [], ◌∷◌, ◌++◌, refl, ap, sym, ◌∙◌, subst, arith, ⊎_elim}
use Rattle.std.proofs.lemmas.Int.{ints}
use Rattle.std.proofs.Math.IntN.{pow}
use Rattle.std.specs.List.{AllByRecursion}
use Rattle.std.specs.Prelude.{ℤ, pos, neg_ℤ, ◌*ℤ◌, cond}
use Rattle.ring_solver.proofs.Read.{ring_z, reading_z}
use Rattle.hypergeometric.specs.LinearForm.{LinearForm, Factor}
use Rattle.hypergeometric.specs.FormOrder.{IsPrimitive}
use Rattle.hypergeometric.specs.ProperTerm.{ProperTerm}
use Rattle.hypergeometric.specs.FactorLists.{same_form, factor_with}
use Rattle.hypergeometric.specs.Forms.{form_with, multiple}
use Rattle.hypergeometric.specs.PrimitiveForm.{content_of_form, primitive_form}
use Rattle.hypergeometric.specs.Match.{Match}
use Rattle.hypergeometric.proofs.Lookups.{same_form_found}
use Rattle.hypergeometric.proofs.OnlyPrimitive.{only_primitive}
use Rattle.hypergeometric.proofs.PrimitiveForms.{IsNotZero}
use Rattle.hypergeometric.proofs.OnlyLowest.{content_multiple}
use Rattle.hypergeometric.proofs.PrimitiveParts.{primitive_is}
use Rattle.term_pieces.specs.Products.{power_among, contents_of}
use Rattle.term_pieces.specs.Pieces.{Pieces, ArePiecesOf, q_forms}
use Rattle.term_pieces.specs.NormalForm.{Normal, IsNormalFormOf, at_earlier_k, forms_before, chains}
use Rattle.term_pieces.proofs.FormValues.{pow_of_one}
use Rattle.term_pieces.proofs.Takings.{no_more_above}
use Rattle.pole_laws.proofs.FormsWithK.{HaveK, q_forms_k}
use Rattle.claim_laws.proofs.ShiftedOrder.{primitive_later}

abbrev ArePrimitive : List Factor → Type 0
ArePrimitive xs = AllByRecursion (λ x. IsPrimitive x.form) xs

-- a form with a k isn't zero
with_k_some : (f : LinearForm) → f.k_slope ≢ pos 0 → IsNotZero f
with_k_some f h none = h none.0

-- a form that stands among forms with a k is primitive
among_primitive : (g : LinearForm) (xs : List Factor) → HaveK xs → power_among g xs ≢ 0 → IsPrimitive g
among_primitive g [] h some = absurd (some refl)
among_primitive g (x ∷ xs) h some = by (same_form g (primitive_form x.form)) refl (among_primitive g xs h.1)
  where
    by : (b : Bool) → same_form g (primitive_form x.form) ≡ b → (power_among g xs ≢ 0 → IsPrimitive g) → IsPrimitive g
    by true e later =
        subst IsPrimitive (sym (same_form_found g (primitive_form x.form) e)) (primitive_is x.form (with_k_some x.form h.0))
    by false e later = later (λ none. some (ap (λ b. cond b x.power 0 + power_among g xs) e ∙ omega (arith, none)))

-- a primitive form isn't zero
primitive_some : (g : LinearForm) → IsPrimitive g → IsNotZero g
primitive_some g p none =
    ⊎_elim (λ h. omega (arith, ints, h, none.0))
    (λ rest. ⊎_elim (λ h. omega (arith, ints, h.1, none.1)) (λ h. omega (arith, ints, h.2, none.2)) rest) p.first

-- and has the content 1
content_one : (g : LinearForm) → IsPrimitive g → content_of_form g ≡ pos 1
content_one g p =
    (only_primitive (content_of_form g) (pos 1) (primitive_form g) g (content_multiple g ∙ sym (itself g))
    (λ z. primitive_some g p (zeros (sym (content_multiple g) ∙ z)))
    (primitive_is g (primitive_some g p)) p).0
  where
    once : (z : ℤ) → pos 1 *ℤ z ≡ z
    once z = ring_z (z ∷ []) (search reading_z depth 40 fits 20000) refl

    itself : (g : LinearForm) → multiple (pos 1) g ≡ g
    itself g = λ i. form_with (once g.n_slope i) (once g.k_slope i) (once g.offset i)

    zeros : g ≡ form_with (pos 0) (pos 0) (pos 0) → (g.k_slope ≡ pos 0) × (g.n_slope ≡ pos 0) × (g.offset ≡ pos 0)
    zeros e = (ap (λ (l : LinearForm). l.k_slope) e, ap (λ (l : LinearForm). l.n_slope) e, ap (λ (l : LinearForm). l.offset) e)

contents_one : (xs : List Factor) → ArePrimitive xs → contents_of xs ≡ pos 1
contents_one [] h = refl
contents_one (x ∷ xs) h = (λ i. pow (content_one x.form h.0 i) x.power *ℤ contents_one xs h.1 i) ∙ ap (λ t. t *ℤ pos 1) (pow_of_one x.power)

module _ (P : Factor → Type 0) where
  joined_all : (xs ys : List Factor) → AllByRecursion P xs → AllByRecursion P ys → AllByRecursion P (xs ++ ys)
  joined_all [] ys h k = k
  joined_all (x ∷ xs) ys h k = (h.0, joined_all xs ys h.1 k)

  before_all : (s : LinearForm) (h e : ℕ) → ((i : ℕ) → P (factor_with (at_earlier_k s i) e)) → AllByRecursion P (forms_before s h e)
  before_all s zero e each = tt
  before_all s (suc h) e each = joined_all (forms_before s h e) _ (before_all s h e each) (each (suc h), tt)

  chains_all : (ms : List Match) → AllByRecursion (λ m. (i : ℕ) → P (factor_with (at_earlier_k m.form i) m.power)) ms → AllByRecursion P (chains ms)
  chains_all [] h = tt
  chains_all (m ∷ ms) h = joined_all (forms_before m.form (suc m.shift) m.power) (chains ms)
      (before_all m.form (suc m.shift) m.power h.0) (chains_all ms h.1)

module _ (f : ProperTerm) (pieces : Pieces) (order : ℕ) (normal : Normal) (are : ArePiecesOf pieces f order)
    (is : IsNormalFormOf normal pieces.q0 pieces.r0) where
  -- a form that is taken stands in q0
  taken_primitive : (s : LinearForm) (h : ℕ) → is.taken s h ≢ 0 → IsPrimitive s
  taken_primitive s h some =
      among_primitive s (q_forms f order) (q_forms_k f order)
      (λ none. some (omega (arith, none, are.q0.powers s, no_more_above pieces.q0.factors pieces.r0.factors is.taken is.takes s (suc h))))

  matches_primitive : (ms : List Match) → AllByRecursion (λ m. (m.power ≡ is.taken m.form m.shift) × (m.power ≢ 0)) ms
      → AllByRecursion (λ m. (i : ℕ) → IsPrimitive (at_earlier_k m.form i)) ms
  matches_primitive [] h = tt
  matches_primitive (m ∷ ms) h = (
    (λ i. primitive_later (neg_ℤ (pos i)) m.form (taken_primitive m.form m.shift (λ none. h.0.1 (h.0.0 ∙ none)))),
    matches_primitive ms h.1,
  )

  chains_primitive : ArePrimitive (chains normal.matches)
  chains_primitive = chains_all (λ x. IsPrimitive x.form) normal.matches (matches_primitive normal.matches is.matches.each)

  pub poles_scale : normal.poles.scale ≡ pos 1
  poles_scale = is.poles.scale ∙ ap (λ t. pos 1 *ℤ t) (contents_one (chains normal.matches) chains_primitive)
