-- The value of a shifted form, and what it takes for one form to be another one at a later k.
use Rattle.std.specs.Prelude.{◌≡◌, ◌≢◌, ℕ, ℤ, pos, ◌+ℤ◌, ◌-ℤ◌, ◌*ℤ◌, [], ◌∷◌, Option, Some, None, MatchOption, refl}
use Rattle.std.proofs.Common.{arith, sym, ◌∙◌, ap}
use Rattle.std.proofs.lemmas.Int.{ints}
use Rattle.ring_solver.proofs.Read.{ring_z, reading_z}
use Rattle.hypergeometric.specs.Point.{Point, point, later_n, later_k}
use Rattle.hypergeometric.specs.LinearForm.{LinearForm, form_value}
use Rattle.hypergeometric.specs.Forms.{form_with, IsMatchAt}

n_moved : (s t c by n k : ℤ) → s *ℤ n +ℤ t *ℤ k +ℤ (c +ℤ s *ℤ by) ≡ s *ℤ (n +ℤ by) +ℤ t *ℤ k +ℤ c
n_moved s t c by n k = ring_z (s ∷ t ∷ c ∷ by ∷ n ∷ k ∷ []) (search reading_z depth 40 fits 20000) refl

k_moved : (s t c by n k : ℤ) → s *ℤ n +ℤ t *ℤ k +ℤ (c +ℤ t *ℤ by) ≡ s *ℤ n +ℤ t *ℤ (k +ℤ by) +ℤ c
k_moved s t c by n k = ring_z (s ∷ t ∷ c ∷ by ∷ n ∷ k ∷ []) (search reading_z depth 40 fits 20000) refl

-- the form with the offset moved by the n slope times a number is the form at an n moved by that number
pub n_shifted : (s t c by s' t' c' : ℤ) → s' ≡ s → t' ≡ t → c' ≡ c +ℤ s *ℤ by
    → (at : Point) → form_value (form_with s' t' c') at ≡ form_value (form_with s t c) (later_n at by)
n_shifted s t c by s' t' c' p q r at = (λ i. p i *ℤ at.n +ℤ q i *ℤ at.k +ℤ r i) ∙ n_moved s t c by at.n at.k

-- and so for k
pub k_shifted : (s t c by s' t' c' : ℤ) → s' ≡ s → t' ≡ t → c' ≡ c +ℤ t *ℤ by
    → (at : Point) → form_value (form_with s' t' c') at ≡ form_value (form_with s t c) (later_k at by)
k_shifted s t c by s' t' c' p q r at = (λ i. p i *ℤ at.n +ℤ q i *ℤ at.k +ℤ r i) ∙ k_moved s t c by at.n at.k

-- forms of equal slopes match where the k slope times the shift is the difference of the offsets
pub matching : (f g : LinearForm) (h : ℕ) → f.n_slope ≡ g.n_slope → f.k_slope ≡ g.k_slope → f.offset ≡ g.offset +ℤ g.k_slope *ℤ pos h → IsMatchAt f g h
matching f g h p q r = k_shifted g.n_slope g.k_slope g.offset (pos h) f.n_slope f.k_slope f.offset p q r

at_origin : (s t c : ℤ) → s *ℤ pos 0 +ℤ t *ℤ pos 0 +ℤ c ≡ c
at_origin s t c = ring_z (s ∷ t ∷ c ∷ []) (search reading_z depth 40 fits 20000) refl

later_origin : (s t c h : ℤ) → s *ℤ pos 0 +ℤ t *ℤ (pos 0 +ℤ h) +ℤ c ≡ c +ℤ t *ℤ h
later_origin s t c h = ring_z (s ∷ t ∷ c ∷ h ∷ []) (search reading_z depth 40 fits 20000) refl

at_one_n : (s t c : ℤ) → s *ℤ pos 1 +ℤ t *ℤ pos 0 +ℤ c ≡ s +ℤ c
at_one_n s t c = ring_z (s ∷ t ∷ c ∷ []) (search reading_z depth 40 fits 20000) refl

later_one_n : (s t c h : ℤ) → s *ℤ pos 1 +ℤ t *ℤ (pos 0 +ℤ h) +ℤ c ≡ s +ℤ (c +ℤ t *ℤ h)
later_one_n s t c h = ring_z (s ∷ t ∷ c ∷ h ∷ []) (search reading_z depth 40 fits 20000) refl

at_one_k : (s t c : ℤ) → s *ℤ pos 0 +ℤ t *ℤ pos 1 +ℤ c ≡ t +ℤ c
at_one_k s t c = ring_z (s ∷ t ∷ c ∷ []) (search reading_z depth 40 fits 20000) refl

later_one_k : (s t c h : ℤ) → s *ℤ pos 0 +ℤ t *ℤ (pos 1 +ℤ h) +ℤ c ≡ t +ℤ (c +ℤ t *ℤ h)
later_one_k s t c h = ring_z (s ∷ t ∷ c ∷ h ∷ []) (search reading_z depth 40 fits 20000) refl

-- at the point (0, 0), (1, 0) and (0, 1) a match tells the offset and the slopes
pub matched_offset : (f g : LinearForm) (h : ℕ) → IsMatchAt f g h → f.offset ≡ g.offset +ℤ g.k_slope *ℤ pos h
matched_offset f g h m =
    sym (at_origin f.n_slope f.k_slope f.offset) ∙ m (point (pos 0) (pos 0)) ∙ later_origin g.n_slope g.k_slope g.offset (pos h)

pub matched_n_slope : (f g : LinearForm) (h : ℕ) → IsMatchAt f g h → f.n_slope ≡ g.n_slope
matched_n_slope f g h m =
    let e : f.n_slope +ℤ f.offset ≡ g.n_slope +ℤ (g.offset +ℤ g.k_slope *ℤ pos h) = sym (at_one_n f.n_slope f.k_slope f.offset)
    ∙ m (point (pos 1) (pos 0)) ∙ later_one_n g.n_slope g.k_slope g.offset (pos h) in
    omega (arith, ints, e, matched_offset f g h m)

pub matched_k_slope : (f g : LinearForm) (h : ℕ) → IsMatchAt f g h → f.k_slope ≡ g.k_slope
matched_k_slope f g h m =
    let e : f.k_slope +ℤ f.offset ≡ g.k_slope +ℤ (g.offset +ℤ g.k_slope *ℤ pos h) = sym (at_one_k f.n_slope f.k_slope f.offset)
    ∙ m (point (pos 0) (pos 1)) ∙ later_one_k g.n_slope g.k_slope g.offset (pos h) in
    omega (arith, ints, e, matched_offset f g h m)

-- of two forms with the same slopes, the quotient of the difference of their offsets by the k slope is the shift
pub match_by : (f g : LinearForm) (slope apart : ℤ) (r : Option ℕ) → MatchOption r ((h : ℕ) → slope *ℤ pos h ≢ apart) (λ h. slope *ℤ pos h ≡ apart)
    → f.n_slope ≡ g.n_slope → f.k_slope ≡ g.k_slope → slope ≡ g.k_slope → apart ≡ f.offset -ℤ g.offset
    → MatchOption r ((h : ℕ) → ¬ IsMatchAt f g h) (λ h. IsMatchAt f g h)
match_by f g slope apart None q n k s a =
    λ h m.
    let e : slope *ℤ pos h ≡ g.k_slope *ℤ pos h = ap (λ (z : ℤ). z *ℤ pos h) s in
    q h (omega (arith, ints, e, a, matched_offset f g h m))
match_by f g slope apart (Some h) q n k s a =
    let e : slope *ℤ pos h ≡ g.k_slope *ℤ pos h = ap (λ (z : ℤ). z *ℤ pos h) s in
    matching f g h n k (omega (arith, ints, e, a, q))
