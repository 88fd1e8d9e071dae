-- A form at an earlier k, and the shift at which it is another form.
use Rattle.std.proofs.Common.{◌≡◌, ◌≢◌, ℕ, ◌+◌, ap, sym, ◌∙◌, arith, [], ◌∷◌, Option, Some, None, MatchOption, refl, ⊎_elim}
use Rattle.std.proofs.lemmas.Int.{ints}
use Rattle.std.specs.Prelude.{ℤ, pos, neg_ℤ, ◌+ℤ◌, ◌*ℤ◌, ◌<ℤ◌}
use Rattle.ring_solver.proofs.Read.{ring_z, reading_z}
use Rattle.hypergeometric.specs.LinearForm.{LinearForm}
use Rattle.hypergeometric.specs.Forms.{form_with, IsMatchAt}
use Rattle.hypergeometric.proofs.FractionLaws.{cancel_factor}
use Rattle.hypergeometric.proofs.SameValues.{zero_or_not}
use Rattle.hypergeometric.proofs.Shifts.{matching, matched_offset, matched_n_slope, matched_k_slope}
use Rattle.term_pieces.specs.NormalForm.{at_earlier_k}
use Rattle.gosper_form.specs.NormalCandidates.{IsFirstShift}

there : (o t h : ℤ) → o ≡ (o +ℤ t *ℤ neg_ℤ h) +ℤ t *ℤ h
there o t h = ring_z (o ∷ t ∷ h ∷ []) (search reading_z depth 40 fits 20000) refl

back : (o t h : ℤ) → (o +ℤ t *ℤ h) +ℤ t *ℤ neg_ℤ h ≡ o
back o t h = ring_z (o ∷ t ∷ h ∷ []) (search reading_z depth 40 fits 20000) refl

-- a form that matches another one at h is that one at k - h
pub matched_earlier : (f g : LinearForm) (h : ℕ) → IsMatchAt f g h → at_earlier_k f h ≡ g
matched_earlier f g h m =
    let n : f.n_slope ≡ g.n_slope = matched_n_slope f g h m in
    let k : f.k_slope ≡ g.k_slope = matched_k_slope f g h m in
    let moved : f.offset ≡ g.offset +ℤ g.k_slope *ℤ pos h = matched_offset f g h m in
    let o : f.offset +ℤ f.k_slope *ℤ neg_ℤ (pos h) ≡ g.offset =
    (λ i. moved i +ℤ k i *ℤ neg_ℤ (pos h)) ∙ back g.offset g.k_slope (pos h) in
    λ i. form_with (n i) (k i) (o i)

pub earlier_matched : (f g : LinearForm) (h : ℕ) → at_earlier_k f h ≡ g → IsMatchAt f g h
earlier_matched f g h e =
    matching f g h (λ i. (e i).n_slope) (λ i. (e i).k_slope)
    (there f.offset f.k_slope (pos h) ∙ (λ i. (e i).offset +ℤ (e i).k_slope *ℤ pos h))

-- what a match of forms with a rising k says of the first shift
pub first_by_match : (f g : LinearForm) (r : Option ℕ) → pos 0 <ℤ f.k_slope → MatchOption r ((h : ℕ) → ¬ IsMatchAt f g h) (λ h. IsMatchAt f g h)
    → MatchOption r ((h : ℕ) → IsFirstShift f h → at_earlier_k f h ≢ g) (λ h. IsFirstShift f h × (at_earlier_k f h ≡ g))
first_by_match f g None rising m = λ h first e. m h (earlier_matched f g h e)
first_by_match f g (Some h) rising m = (λ z. absurd (omega (arith, ints, rising, z)), matched_earlier f g h m)

-- a form is another one at one first shift only
pub one_shift : (f : LinearForm) (h i : ℕ) → IsFirstShift f h → IsFirstShift f i → at_earlier_k f h ≡ at_earlier_k f i → h ≡ i
one_shift f h i first second e =
    ⊎_elim (λ z. first z ∙ sym (second z)) (λ n. apart (cancel_factor f.k_slope (neg_ℤ (pos h)) (neg_ℤ (pos i)) n same)) (zero_or_not f.k_slope)
  where
    offsets : f.offset +ℤ f.k_slope *ℤ neg_ℤ (pos h) ≡ f.offset +ℤ f.k_slope *ℤ neg_ℤ (pos i)
    offsets = ap (λ (l : LinearForm). l.offset) e

    less : (o x y : ℤ) → o +ℤ x ≡ o +ℤ y → x ≡ y
    less o x y e = omega (arith, ints, e)

    same : f.k_slope *ℤ neg_ℤ (pos h) ≡ f.k_slope *ℤ neg_ℤ (pos i)
    same = less f.offset (f.k_slope *ℤ neg_ℤ (pos h)) (f.k_slope *ℤ neg_ℤ (pos i)) offsets

    apart : neg_ℤ (pos h) ≡ neg_ℤ (pos i) → h ≡ i
    apart e = omega (arith, ints, e)

-- one shift further
pub earlier_again : (s : LinearForm) (h : ℕ) → at_earlier_k (at_earlier_k s h) 1 ≡ at_earlier_k s (h + 1)
earlier_again s h = ap (form_with s.n_slope s.k_slope) (twice s.offset s.k_slope h)
  where
    twice_by : (o t h : ℤ) → (o +ℤ t *ℤ neg_ℤ h) +ℤ t *ℤ neg_ℤ (pos 1) ≡ o +ℤ t *ℤ neg_ℤ (h +ℤ pos 1)
    twice_by o t h = ring_z (o ∷ t ∷ h ∷ []) (search reading_z depth 40 fits 20000) refl

    twice : (o t : ℤ) (h : ℕ) → (o +ℤ t *ℤ neg_ℤ (pos h)) +ℤ t *ℤ neg_ℤ (pos 1) ≡ o +ℤ t *ℤ neg_ℤ (pos (h + 1))
    twice o t h = twice_by o t (pos h) ∙ ap (λ z. o +ℤ t *ℤ neg_ℤ z) (sum h)
      where
        sum : (h : ℕ) → pos h +ℤ pos 1 ≡ pos (h + 1)
        sum h = omega (arith, ints)

-- a form without k is itself at each earlier k
pub without_k : (s : LinearForm) (h : ℕ) → s.k_slope ≡ pos 0 → at_earlier_k s h ≡ s
without_k s h z = ap (form_with s.n_slope s.k_slope) (ap (λ c. s.offset +ℤ c *ℤ neg_ℤ (pos h)) z ∙ still s.offset (neg_ℤ (pos h)))
  where
    still : (o j : ℤ) → o +ℤ pos 0 *ℤ j ≡ o
    still o j = ring_z (o ∷ j ∷ []) (search reading_z depth 40 fits 20000) refl
