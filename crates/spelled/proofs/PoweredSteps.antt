-- What is found of an item with a power.
use Rattle.std.specs.Prelude.{◌≡◌, ℕ, ◌^◌, ◌<◌, Bool, true, false, nat_eq, List, [], ◌∷◌, ◌++◌, codes, Option, Some, None}
use Rattle.std.specs.Option.{MatchOption}
use Rattle.std.specs.Fmt.{decimal}
use Rattle.std.proofs.Common.{refl, sym, ap, subst, ◌∙◌, append-nil, Bor, cond}
use Rattle.std.proofs.lemmas.Bool.{eqb-true}
use Rattle.exact_texts.specs.Texts.{◌⧺◌, Only, other_than}
use Rattle.exact_texts.specs.Formats.{Format}
use Rattle.exact_texts.specs.Beside.{IsWithout}
use Rattle.exact_texts.specs.Powered.{powered}
use Rattle.exact_texts.proofs.Separated.{separated, IsFirst}

-- what is read of the power
pub record IsTimes (digits : Option (Bor (List ℕ))) (times : Option ℕ) : Type 0 where
  pub one : digits ≡ None → times ≡ Some 1
  pub more : (p : ℕ) → p < 2 ^ 32 → MatchOption digits ⊥ (λ d. d.now ≡ decimal p) → times ≡ Some p

module _ {A : Type 0} (F : Format A) (spaceless : IsWithout 32 F) (text front : List ℕ) (digits : Option (Bor (List ℕ))) (times : Option ℕ)
    (piece : (x : List ℕ) (xs : List (List ℕ)) → Only (other_than 32) x → text ≡ separated 32 (120 ∷ []) (x ∷ xs)
    → IsFirst 32 (120 ∷ []) x xs front digits)
    (t : IsTimes digits times) (p : A × ℕ) (h : (powered F).Has p) (e : text ≡ (powered F).text p) where
  alone : (d : Option (Bor (List ℕ))) → digits ≡ d → IsFirst 32 (120 ∷ []) (F.text p.0) [] front d → (front ≡ F.text p.0) × (times ≡ Some 1)
  alone None s f = (f.0, t.one s)
  alone (Some d) s f = absurd (f.1.0 refl)

  several : (d : Option (Bor (List ℕ))) → digits ≡ d → IsFirst 32 (120 ∷ []) (F.text p.0) (decimal p.1 ∷ []) front d
      → (front ≡ F.text p.0) × (times ≡ Some p.1)
  several None s f = absurd (let no_more = f.1 in cc)
  several (Some d) s f = (f.0, t.more p.1 h.1.1 (subst (λ m. MatchOption m ⊥ (λ x. x.now ≡ decimal p.1)) (sym s) f.1.1))

  pub power_read : (front ≡ F.text p.0) × (times ≡ Some p.1)
  power_read = go (nat_eq p.1 1) refl e
    where
      go : (b : Bool) → nat_eq p.1 1 ≡ b → text ≡ F.text p.0 ++ cond b [] (codes " x" ⧺ decimal p.1) → (front ≡ F.text p.0) × (times ≡ Some p.1)
      go true s x =
          let one = alone digits refl (piece (F.text p.0) [] (spaceless p.0 h.0) (x ∙ append-nil (F.text p.0))) in
          (one.0, one.1 ∙ ap Some (sym (eqb-true p.1 1 s)))
      go false s x = several digits refl (piece (F.text p.0) (decimal p.1 ∷ []) (spaceless p.0 h.0) x)
