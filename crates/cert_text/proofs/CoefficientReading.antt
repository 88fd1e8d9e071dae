-- What is left of a text while its monomials are read: those of the powers below the bound.
use Rattle.std.specs.Prelude.{◌≡◌, ◌≢◌, ◌⊎◌, ℕ, ◌<◌, ◌≤◌, Bool, true, false, ℤ, pos, List, [], ◌∷◌, ◌++◌, length, flat_map}
use Rattle.std.proofs.Common.{refl, ap, sym, subst, ◌∙◌, arith, set, inl, inr}
use Rattle.std.proofs.lemmas.Bool.{cases_lt}
use Rattle.ring_laws.specs.declared.wholes.Whole.{Whole}
use Rattle.document_text.specs.Spelling.{Monomial, later_text}
use Rattle.hypergeometric.specs.TermFacts.{IsNumber}
use Rattle.exact_texts.proofs.Cuts.{Stops}
use Rattle.cert_text.specs.Printing.{monomial_in_k, placed_text}
use Rattle.cert_text.specs.Reading.{unsigned, AreFalling, rest_text, value_in, coefficient_of}
use Rattle.cert_text.proofs.CoefficientsAt.{none_from, coefficient_first, coefficient_other, value_set, value_kept, length_set}
use Rattle.cert_text.proofs.SignedMonomials.{later_stop, monomial_some}

-- the monomials that are left, how they are spelled, and that the others were read
pub record Split (list : List Whole) (bound : ℕ) (rest : List ℕ) (ms : List Monomial) : Type 0 where
  pub left : List Monomial
  pub first : Bool
  pub falling : AreFalling bound left
  pub text : rest ≡ rest_text first left
  pub below : (k : ℕ) → k < bound → coefficient_of ms k ≡ coefficient_of left k
  pub above : (k : ℕ) → bound ≤ k → coefficient_of ms k ≡ value_in list k

pub record IsLeft (text : List ℕ) (list : List Whole) (bound : ℕ) (rest : List ℕ) : Type 0 where
  pub many : length list ≡ 256
  pub within : bound ≤ 256
  pub noughts : (k : ℕ) → k < bound → value_in list k ≡ pos 0
  pub splits : (ms : List Monomial) → AreFalling 256 ms → text ≡ rest_text true ms → Split list bound rest ms

-- at the start all is left
pub left_start : (text : List ℕ) (list : List Whole) → length list ≡ 256 → ((k : ℕ) → value_in list k ≡ pos 0) → IsLeft text list 256 text
left_start text list many each = record {
  many = many;
  within = omega arith;
  noughts = λ k h. each k;
  splits = λ ms falling e. record {
    left = ms;
    first = true;
    falling = falling;
    text = e;
    below = λ k h. refl;
    above = λ k h. none_from 256 ms k falling h ∙ sym (each k);
  };
}

-- what is read of the first monomial
abbrev pub Reads : List ℕ → (ℤ → ℕ → List ℕ → Type 0) → Type 0
Reads rest Read = (first : Bool) (z : ℤ) (power : ℕ) (behind : List ℕ) → IsNumber z → power < 256 → Stops unsigned behind
    → rest ≡ placed_text first (monomial_in_k z power) ++ behind → Read z power behind

-- behind a first monomial the others stand later
later_rest : (ms : List Monomial) → flat_map later_text ms ≡ rest_text false ms
later_rest [] = refl
later_rest (m ∷ ms) = refl

module _ (text : List ℕ) (list : List Whole) (bound : ℕ) (rest : List ℕ) (is : IsLeft text list bound rest) where
  -- what is read of a first monomial is read of the first that is left
  first_read : (Read : ℤ → ℕ → List ℕ → Type 0) → Reads rest Read → (first : Bool) (m : Monomial) (more : List Monomial)
      → AreFalling bound (m ∷ more) → rest ≡ rest_text first (m ∷ more) → Read m.coefficient m.k_power (flat_map later_text more)
  first_read Read reads first m more falling e =
      reads first m.coefficient m.k_power (flat_map later_text more) falling.1 (omega (arith, falling.2, is.within)) (later_stop more)
      (e ∙ ap (λ x. placed_text first x ++ flat_map later_text more) falling.0)

  -- a text with something left has a first monomial
  pub none_left : rest ≢ [] → Reads rest (λ z power behind. ⊥) → (ms : List Monomial) → AreFalling 256 ms → text ≢ rest_text true ms
  none_left some reads ms falling e = let split = is.splits ms falling e in go split.left split.first split.falling split.text
    where
      go : (left : List Monomial) (first : Bool) → AreFalling bound left → rest ≡ rest_text first left → ⊥
      go [] first falling e = some e
      go (m ∷ more) first falling e = first_read (λ z power behind. ⊥) reads first m more falling e

  -- a power that doesn't fall is none of the text's
  pub no_fall_left : (w : Whole) (q : ℕ) (after : List ℕ) → rest ≢ []
      → Reads rest (λ z power behind. (w.value ≡ z) × (q ≡ power) × (after ≡ behind)) → bound ≤ q
      → (ms : List Monomial) → AreFalling 256 ms → text ≢ rest_text true ms
  no_fall_left w q after some reads high ms falling e = let split = is.splits ms falling e in go split.left split.first split.falling split.text
    where
      go : (left : List Monomial) (first : Bool) → AreFalling bound left → rest ≡ rest_text first left → ⊥
      go [] first falling e = some e
      go (m ∷ more) first falling e =
          let read = first_read (λ z power behind. (w.value ≡ z) × (q ≡ power) × (after ≡ behind)) reads first m more falling e in
          omega (arith, read.1, falling.2, high)

  -- at the end all coefficients are read
  pub left_end : rest ≡ [] → (ms : List Monomial) → AreFalling 256 ms → text ≡ rest_text true ms → (k : ℕ) → value_in list k ≡ coefficient_of ms k
  left_end none ms falling e k =
      let split = is.splits ms falling e in
      go split.left split.first split.falling (sym none ∙ split.text) split.below split.above (cases_lt k bound)
    where
      go : (left : List Monomial) (first : Bool) → AreFalling bound left → [] ≡ rest_text first left → ((k : ℕ) → k < bound → coefficient_of ms k ≡ coefficient_of left k)
          → ((k : ℕ) → bound ≤ k → coefficient_of ms k ≡ value_in list k) → (k < bound) ⊎ (bound ≤ k) → value_in list k ≡ coefficient_of ms k
      go left first falling f below above (inr h) = sym (above k h)
      go [] first falling f below above (inl h) = is.noughts k h ∙ sym (below k h)
      go (m ∷ more) first falling f below above (inl h) =
          absurd (monomial_some first m.coefficient m.k_power (flat_map later_text more) falling.1 (omega (arith, falling.2, is.within))
          (f ∙ ap (λ x. placed_text first x ++ flat_map later_text more) falling.0))

  module _ (w : Whole) (q : ℕ) (after : List ℕ) (some : rest ≢ [])
      (reads : Reads rest (λ z power behind. (w.value ≡ z) × (q ≡ power) × (after ≡ behind))) (low : q < bound) where
    at_place : value_in (set list q w) q ≡ w.value
    at_place = value_set list q w (omega (arith, is.many, is.within, low))

    -- the first monomial is read, and the others are left
    split_next : (ms : List Monomial) → Split list bound rest ms → Split (set list q w) q after ms
    split_next ms split = go split.left split.first split.falling split.text split.below split.above
      where
        go : (left : List Monomial) (first : Bool) → AreFalling bound left → rest ≡ rest_text first left
            → ((k : ℕ) → k < bound → coefficient_of ms k ≡ coefficient_of left k)
            → ((k : ℕ) → bound ≤ k → coefficient_of ms k ≡ value_in list k) → Split (set list q w) q after ms
        go [] first falling e below above = absurd (some e)
        go (m ∷ more) first falling e below above =
            let read = first_read (λ z power behind. (w.value ≡ z) × (q ≡ power) × (after ≡ behind)) reads first m more falling e in record {
              left = more;
              first = false;
              falling = subst (λ p. AreFalling p more) (sym read.1) falling.3;
              text = read.2 ∙ later_rest more;
              below = λ k h. below k (omega (arith, h, low)) ∙ coefficient_other m more k (λ e. omega (arith, e, read.1, h));
              above = λ k h. at_above m more falling read.0 read.1 below above k (cases_lt q k) h;
            }
          where
            at_above : (m : Monomial) (more : List Monomial) → AreFalling bound (m ∷ more) → w.value ≡ m.coefficient → q ≡ m.k_power
                → ((k : ℕ) → k < bound → coefficient_of ms k ≡ coefficient_of (m ∷ more) k)
                → ((k : ℕ) → bound ≤ k → coefficient_of ms k ≡ value_in list k)
                → (k : ℕ) → (q < k) ⊎ (k ≤ q) → q ≤ k → coefficient_of ms k ≡ value_in (set list q w) k
            at_above m more falling v p below above k (inr here) h =
                let same : k ≡ q = omega (arith, here, h) in
                below k (omega (arith, same, low)) ∙ coefficient_first m more k (same ∙ p) ∙ sym v ∙ sym at_place
                ∙ ap (value_in (set list q w)) (sym same)
            at_above m more falling v p below above k (inl over) h = beyond (cases_lt k bound)
              where
                other : k ≢ q
                other e = omega (arith, e, over)

                beyond : (k < bound) ⊎ (bound ≤ k) → coefficient_of ms k ≡ value_in (set list q w) k
                beyond (inl inside) =
                    below k inside ∙ coefficient_other m more k (λ e. omega (arith, e, p, over)) ∙ none_from m.k_power more k falling.3 (omega (arith, p, h))
                    ∙ sym (is.noughts k inside) ∙ sym (value_kept list q k w other)
                beyond (inr outside) = above k outside ∙ sym (value_kept list q k w other)

    -- so the next rest is left
    pub left_next : IsLeft text (set list q w) q after
    left_next = record {
      many = length_set list q w ∙ is.many;
      within = omega (arith, low, is.within);
      noughts = λ k h. value_kept list q k w (λ e. omega (arith, e, h)) ∙ is.noughts k (omega (arith, h, low));
      splits = λ ms falling e. split_next ms (is.splits ms falling e);
    }
