-- From the meanings that belong to a ring to meanings, and back: rows, a row times a vector, the kernel, and where vectors end.
use Rattle.std.proofs.Common.{◌≡◌, ℕ, zero, suc, List, [], ◌∷◌, map, length, refl, ap, sym, ◌∙◌}
use Rattle.std.proofs.lemmas.List.{length-map}
use Rattle.std.proofs.lemmas.List.Elements.{All-nil, All-cons}
use Rattle.ring_laws.specs.Meaning.{Meaning}
use Rattle.ring_laws.specs.Algebra.{Ops, Algebra, Passing, Closed, within, same_passing}
use Rattle.kernel_laws.specs.Rows.{entry_at, total, dot, InKernel}
use Rattle.kernel_laws.specs.Kernels.{EndsAt}
use Rattle.kernel_laws.specs.Reduction.{bare}
use Rattle.kernel_laws.specs.Answers.{Vector, meant}
use Rattle.kernel_laws.proofs.Kernels.{first_of, rest_of}

module _ (a : Algebra) (c : Closed a) (n : ℕ) where
  abbrev W : Ops (Passing a)
  W = within a c

  pub length-bare : (xs : List (Passing a)) → length (bare a xs) ≡ length xs
  length-bare xs = length-map xs (λ (v : Passing a). v.0)

  pub bare_at : (xs : List (Passing a)) (k : ℕ) → entry_at a.ops (bare a xs) k ≡ (entry_at W xs k).0
  bare_at [] k = refl
  bare_at (x ∷ xs) zero = refl
  bare_at (x ∷ xs) (suc k) = bare_at xs k

  pub not_passing : (x : Passing a) → ¬ (x.0 ≡ a.ops.nought) → ¬ (x ≡ W.nought)
  not_passing x m e = m (ap (λ (v : Passing a). v.0) e)

  pub not_meaning : (x : Passing a) → ¬ (x ≡ W.nought) → ¬ (x.0 ≡ a.ops.nought)
  not_meaning x m e = m (same_passing a x W.nought e)

  total_meant : (m : ℕ) (f : ℕ → Passing a) (g : ℕ → Meaning) → ((k : ℕ) → g k ≡ (f k).0) → total a.ops m g ≡ (total W m f).0
  total_meant zero f g h = refl
  total_meant (suc m) f g h = cc (h 0, total_meant m (λ k. f (suc k)) (λ k. g (suc k)) (λ k. h (suc k)))

  pub dot_meant : (row : List (Passing a)) (v : Vector a) (w : ℕ → Meaning) → ((k : ℕ) → w k ≡ (v k).0)
      → dot a.ops n (bare a row) w ≡ (dot W n row v).0
  dot_meant row v w e =
      total_meant n (λ k. W.product (entry_at W row k) (v k)) (λ k. a.ops.product (entry_at a.ops (bare a row) k) (w k))
      (λ k. cc (bare_at row k, e k))

  pub kernel_down : (rows : List (List (Passing a))) (v : Vector a) (w : ℕ → Meaning) → ((k : ℕ) → w k ≡ (v k).0) → InKernel W n rows v
      → InKernel a.ops n (map (bare a) rows) w
  kernel_down [] v w e h = All-nil (λ row. dot a.ops n row w ≡ a.ops.nought)
  kernel_down (row ∷ rows) v w e h =
      All-cons (λ row. dot a.ops n row w ≡ a.ops.nought) (bare a row) (map (bare a) rows)
      (dot_meant row v w e ∙ ap (λ (x : Passing a). x.0) (first_of (λ r. dot W n r v ≡ W.nought) row rows h))
      (kernel_down rows v w e (rest_of (λ r. dot W n r v ≡ W.nought) row rows h))

  pub kernel_up : (rows : List (List (Passing a))) (v : Vector a) → InKernel a.ops n (map (bare a) rows) (meant a v) → InKernel W n rows v
  kernel_up [] v h = All-nil (λ row. dot W n row v ≡ W.nought)
  kernel_up (row ∷ rows) v h =
      All-cons (λ row. dot W n row v ≡ W.nought) row rows
      (same_passing a (dot W n row v) W.nought (sym (dot_meant row v (meant a v) (λ k. refl))
      ∙ first_of (λ r. dot a.ops n r (meant a v) ≡ a.ops.nought) (bare a row) (map (bare a) rows) h))
      (kernel_up rows v (rest_of (λ r. dot a.ops n r (meant a v) ≡ a.ops.nought) (bare a row) (map (bare a) rows) h))

  pub ends_up : (v : Vector a) (j : ℕ) → EndsAt a.ops n (meant a v) j → EndsAt W n v j
  ends_up v j e = record {
    within = e.within;
    here = not_passing (v j) e.here;
    later = λ k b q. same_passing a (v k) W.nought (e.later k b q);
  }

  pub ends_down : (v : Vector a) (w : ℕ → Meaning) (j : ℕ) → ((k : ℕ) → w k ≡ (v k).0) → EndsAt W n v j → EndsAt a.ops n w j
  ends_down v w j e h = record {
    within = h.within;
    here = λ t. h.here (same_passing a (v j) W.nought (sym (e j) ∙ t));
    later = λ k b q. e k ∙ ap (λ (x : Passing a). x.0) (h.later k b q);
  }
