-- The equation u^2 = u v + v^2 has no whole solution with v above 0: u and v would be even, and so would be their halves.
use Rattle.std.proofs.Common.{◌≡◌, ℕ, zero, suc, ◌+◌, ◌≤◌, [], ◌∷◌, refl, sym, ◌∙◌, arith, ⊎_elim, ◌⊎◌, inl, inr}
use mathlib.Core.Path.{ap₂}
use Rattle.std.proofs.lemmas.Int.{ints}
use Rattle.std.specs.Prelude.{ℤ, pos, negsuc, ◌+ℤ◌, ◌-ℤ◌, ◌*ℤ◌}
use Rattle.ring_solver.proofs.Read.{ring_z, reading_z}

half : (v : ℕ) → (t : ℕ) × ((v ≡ t + t) ⊎ (v ≡ suc (t + t)))
half zero = (0, inl refl)
half (suc v) = more (half v)
  where
    more : (t : ℕ) × ((v ≡ t + t) ⊎ (v ≡ suc (t + t))) → (t : ℕ) × ((suc v ≡ t + t) ⊎ (suc v ≡ suc (t + t)))
    more (t, inl e) = (t, inr (omega (arith, e)))
    more (t, inr e) = (suc t, inl (omega (arith, e)))

half_of : (u : ℤ) → (s : ℤ) × ((u ≡ s +ℤ s) ⊎ (u ≡ (s +ℤ s) +ℤ pos 1))
half_of (pos k) = by (half k)
  where
    by : (t : ℕ) × ((k ≡ t + t) ⊎ (k ≡ suc (t + t))) → (s : ℤ) × ((pos k ≡ s +ℤ s) ⊎ (pos k ≡ (s +ℤ s) +ℤ pos 1))
    by (t, inl e) = (pos t, inl (omega (arith, ints, e)))
    by (t, inr e) = (pos t, inr (omega (arith, ints, e)))
half_of (negsuc k) = by (half k)
  where
    by : (t : ℕ) × ((k ≡ t + t) ⊎ (k ≡ suc (t + t))) → (s : ℤ) × ((negsuc k ≡ s +ℤ s) ⊎ (negsuc k ≡ (s +ℤ s) +ℤ pos 1))
    by (t, inl e) = (negsuc t, inr (omega (arith, ints, e)))
    by (t, inr e) = (negsuc t, inl (omega (arith, ints, e)))

abbrev pub golden : ℤ → ℤ → ℤ
golden u v = (u *ℤ u -ℤ u *ℤ v) -ℤ v *ℤ v

both_even : (s t : ℤ) → golden (s +ℤ s) (t +ℤ t) ≡ (golden s t +ℤ golden s t) +ℤ (golden s t +ℤ golden s t)
both_even s t = ring_z (s ∷ t ∷ []) (search reading_z depth 40 fits 20000) refl

abbrev odd_even_half : ℤ → ℤ → ℤ
odd_even_half s t = (((s *ℤ s +ℤ s *ℤ s) +ℤ (s +ℤ s)) -ℤ ((s +ℤ s) +ℤ pos 1) *ℤ t) -ℤ (t *ℤ t +ℤ t *ℤ t)

odd_even : (s t : ℤ) → golden ((s +ℤ s) +ℤ pos 1) (t +ℤ t) ≡ (odd_even_half s t +ℤ odd_even_half s t) +ℤ pos 1
odd_even s t = ring_z (s ∷ t ∷ []) (search reading_z depth 40 fits 20000) refl

abbrev even_odd_half : ℤ → ℤ → ℤ
even_odd_half s t = ((s *ℤ s +ℤ s *ℤ s) -ℤ s *ℤ ((t +ℤ t) +ℤ pos 1)) -ℤ ((t *ℤ t +ℤ t *ℤ t) +ℤ (t +ℤ t))

even_odd : (s t : ℤ) → golden (s +ℤ s) ((t +ℤ t) +ℤ pos 1) ≡ (even_odd_half s t +ℤ even_odd_half s t) -ℤ pos 1
even_odd s t = ring_z (s ∷ t ∷ []) (search reading_z depth 40 fits 20000) refl

abbrev odd_odd_half : ℤ → ℤ → ℤ
odd_odd_half s t = even_odd_half s t +ℤ ((s +ℤ s) -ℤ t)

odd_odd : (s t : ℤ) → golden ((s +ℤ s) +ℤ pos 1) ((t +ℤ t) +ℤ pos 1) ≡ (odd_odd_half s t +ℤ odd_odd_half s t) -ℤ pos 1
odd_odd s t = ring_z (s ∷ t ∷ []) (search reading_z depth 40 fits 20000) refl

double_less_one : (x : ℤ) → (x +ℤ x) -ℤ pos 1 ≡ pos 0 → ⊥
double_less_one x e = omega (arith, ints, e)

double_and_one : (x : ℤ) → (x +ℤ x) +ℤ pos 1 ≡ pos 0 → ⊥
double_and_one x e = omega (arith, ints, e)

four_times : (x : ℤ) → (x +ℤ x) +ℤ (x +ℤ x) ≡ pos 0 → x ≡ pos 0
four_times x e = omega (arith, ints, e)

pub no_golden : (steps v : ℕ) (u : ℤ) → v ≤ steps → 1 ≤ v → golden u (pos v) ≡ pos 0 → ⊥
no_golden zero v u b c e = omega (arith, b, c)
no_golden (suc steps) v u b c e =
    let s = half_of u in
    let t = half v in
    ⊎_elim
    (λ even. ⊎_elim
    (λ p. no_golden steps t.0 s.0 (omega (arith, b, c, p)) (omega (arith, c, p))
    (four_times (golden s.0 (pos t.0)) (sym (both_even s.0 (pos t.0)) ∙ sym (ap₂ golden even (doubled v t.0 p)) ∙ e)))
    (λ p. double_less_one (even_odd_half s.0 (pos t.0)) (sym (even_odd s.0 (pos t.0)) ∙ sym (ap₂ golden even (doubled_more v t.0 p)) ∙ e)) t.1)
    (λ odd. ⊎_elim
    (λ p. double_and_one (odd_even_half s.0 (pos t.0)) (sym (odd_even s.0 (pos t.0)) ∙ sym (ap₂ golden odd (doubled v t.0 p)) ∙ e))
    (λ p. double_less_one (odd_odd_half s.0 (pos t.0))
    (sym (odd_odd s.0 (pos t.0)) ∙ sym (ap₂ golden odd (doubled_more v t.0 p)) ∙ e)) t.1)
    s.1
  where
    doubled : (v t : ℕ) → v ≡ t + t → pos v ≡ pos t +ℤ pos t
    doubled v t p = omega (arith, ints, p)

    doubled_more : (v t : ℕ) → v ≡ suc (t + t) → pos v ≡ (pos t +ℤ pos t) +ℤ pos 1
    doubled_more v t p = omega (arith, ints, p)
