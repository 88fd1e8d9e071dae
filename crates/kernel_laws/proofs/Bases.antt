-- The vectors of all free columns after a run are a basis of the kernel, up to multiples.
use Rattle.std.proofs.Common.{◌≡◌, ◌≢◌, ℕ, suc, ◌<◌, List, [], ◌∷◌, map, length, get_or, refl, sym, ◌∙◌, ap, subst, arith, All, ⊎_elim}
use Rattle.std.specs.List.{AllZip, Contains}
use Rattle.std.proofs.lemmas.List.{get_or-map, length-map}
use Rattle.std.proofs.lemmas.List.Elements.{All-get_or}
use Rattle.ring_laws.specs.Meaning.{Meaning}
use Rattle.ring_laws.specs.Algebra.{Ops, Algebra, Passing, within, Laws, same_passing}
use Rattle.ring_laws.specs.Division.{DomainLaws}
use Rattle.kernel_laws.specs.Rows.{entry_at, InKernel}
use Rattle.kernel_laws.specs.Kernels.{EndsAt, combined}
use Rattle.kernel_laws.specs.Pivots.{IsPivotColumn}
use Rattle.kernel_laws.specs.Reduction.{Reduction, ReductionLaws, bare}
use Rattle.kernel_laws.specs.Elimination.{Run}
use Rattle.kernel_laws.specs.BackSubstitution.{FreeVectors}
use Rattle.kernel_laws.specs.Answers.{Vector, meant, NoneEnds, Combination, AreIndependent, Basis}
use Rattle.kernel_laws.proofs.Independence.{independent}
use Rattle.kernel_laws.proofs.Spanning.{vector_at, Each, spans}
use Rattle.kernel_laws.proofs.Belonging.{bare_at, length-bare, kernel_down, kernel_up, ends_down, not_meaning}
use Rattle.kernel_laws.proofs.ClearedRows.{domain}
use Rattle.kernel_laws.proofs.PartRuns.{none_at}
use Rattle.kernel_laws.proofs.FreeColumns.{pivot_or_not, zip_at, zip_map, all_map, VectorsWell, vectors_well, IsApart}

module _ (a : Algebra) (l : Laws a) (dl : DomainLaws a) (r : Reduction) (rl : ReductionLaws a r)
    (u : ¬ ((within a l.closed).unit ≡ (within a l.closed).nought)) (n : ℕ) (rows : List (List (Passing a)))
    (long : All (λ row. length row ≡ n) rows) (os : List (List Meaning)) (ps : List (ℕ × List Meaning)) (t : Meaning)
    (run : Run a r (map (bare a) rows) n os ps t) where
  abbrev W : Ops (Passing a)
  W = within a l.closed

  abbrev Row : Type 0
  Row = List (Passing a)

  abbrev Long : Row → Type 0
  Long v = length v ≡ n

  abbrev IsSent : Row → Type 0
  IsSent v = InKernel W n rows (entry_at W v)

  abbrev EndsHere : Row → ℕ → Type 0
  EndsHere v i = EndsAt W n (entry_at W v) i

  module _ (frees : List ℕ) (vectors : List (List Meaning)) (made : FreeVectors a r n ps n frees vectors) where
    w : VectorsWell a l dl r rl u n rows long os ps t run n frees vectors
    w = vectors_well a l dl r rl u n rows long os ps t run n frees vectors made (omega arith)

    -- no vector of the kernel ends elsewhere
    pub others : (j : ℕ) → ¬ (Contains frees j) → NoneEnds a n (map (bare a) rows) j
    others j m v k e =
        ⊎_elim (λ h. none_at a l dl r rl u n rows long n (omega arith) os ps t run j h v k e) (λ h. m (w.has j e.within h)) (pivot_or_not j ps)

    abbrev functions : List (ℕ → Passing a)
    functions = map (entry_at W) w.mades

    each : Each W l.ring n rows functions
    each j e =
        let at_end : Contains frees j = w.has j e.ends.within (λ h. none_at a l dl r rl u n rows long n (omega arith) os ps t run j h e.vector
        (kernel_down a l.closed n rows e.vector (meant a e.vector) (λ k. refl) e.kernel)
        (ends_down a l.closed n e.vector (meant a e.vector) j (λ k. refl) e.ends)) in
        let z = zip_at EndsHere w.mades frees at_end.0 [] j w.ends at_end.1 in
        let f : vector_at W l.ring functions at_end.0 ≡ entry_at W (get_or w.mades at_end.0 []) =
        get_or-map (entry_at W) w.mades at_end.0 [] (λ k. W.nought) z.0 in (
          at_end.0,
          omega (arith, z.0, length-map w.mades (entry_at W)),
          subst (InKernel W n rows) (sym f) (All-get_or IsSent w.mades at_end.0 [] z.0 w.kernel),
          subst (λ v. EndsAt W n v j) (sym f) (subst (EndsHere (get_or w.mades at_end.0 [])) at_end.2 z.1),
        )

    combined_down : (ms : List Row) (c : Vector a) (k : ℕ)
        → (combined W c (map (entry_at W) ms) k).0 ≡ combined a.ops (meant a c) (map (entry_at a.ops) (map (bare a) ms)) k
    combined_down [] c k = refl
    combined_down (m ∷ ms) c k = cc (bare_at a l.closed n m k, combined_down ms (λ i. c (suc i)) k)

    pub spanned : (v : Vector a) → InKernel a.ops n (map (bare a) rows) (meant a v) → Combination a n vectors v
    spanned v h =
        let s = spans W l.ring (domain a l dl n) u n rows functions each v (kernel_up a l.closed n rows v h) in
        record {
          factor = s.factor;
          not_zero = not_meaning a l.closed n s.factor s.nonzero;
          by = s.by;
          is = λ k b. ap (λ (x : Passing a). x.0) (s.is k b) ∙ combined_down w.mades s.by k
              ∙ ap (λ ms. combined a.ops (meant a s.by) (map (entry_at a.ops) ms) k) w.mades_are;
        }

    -- they end at rising columns
    are_independent : AreIndependent a n vectors
    are_independent by z i b =
        ap (λ (x : Passing a). x.0)
        (independent W l.ring (domain a l dl n) n functions frees
        (zip_map (entry_at W) EndsHere (EndsAt W n) (λ v j e. e) w.mades frees w.ends) w.rising by
        (λ k c. same_passing a (combined W by functions k) W.nought (combined_down w.mades by k
        ∙ ap (λ ms. combined a.ops (meant a by) (map (entry_at a.ops) ms) k) w.mades_are ∙ z k c)) i
        (omega (arith, b, ap length w.mades_are, length-map w.mades (bare a), length-map w.mades (entry_at W))))

    abbrev IsApartFrom : List ℕ → List Meaning → ℕ → Type 0
    IsApartFrom js v j = (k : ℕ) → Contains js k → k ≢ j → entry_at a.ops v k ≡ a.ops.nought

    pub basis : Basis a n (map (bare a) rows) vectors
    basis = record {
      sizes = subst (All (λ v. length v ≡ n)) w.mades_are
          (all_map (bare a) Long (λ v. length v ≡ n) (λ x e. length-bare a l.closed n x ∙ e) w.mades w.sizes);
      kernel = subst (All (λ v. InKernel a.ops n (map (bare a) rows) (entry_at a.ops v))) w.mades_are
          (all_map (bare a) IsSent (λ v. InKernel a.ops n (map (bare a) rows) (entry_at a.ops v))
          (λ x e. kernel_down a l.closed n rows (entry_at W x) (entry_at a.ops (bare a x)) (bare_at a l.closed n x) e) w.mades w.kernel);
      frees = frees;
      rising = w.rising;
      ends = subst (λ vs. AllZip (λ v j. EndsAt a.ops n (entry_at a.ops v) j) vs frees) w.mades_are
          (zip_map (bare a) EndsHere (λ v j. EndsAt a.ops n (entry_at a.ops v) j)
          (λ x j e. ends_down a l.closed n (entry_at W x) (entry_at a.ops (bare a x)) j (bare_at a l.closed n x) e) w.mades frees w.ends);
      others = others;
      apart = subst (λ vs. AllZip (IsApartFrom frees) vs frees) w.mades_are
          (zip_map (bare a) (IsApart a l dl r rl u n rows long os ps t run) (IsApartFrom frees) (λ x j h k c e. bare_at a l.closed n x k ∙ ap (λ (t : Passing a). t.0)
          (h k (subst (λ i. i < n) c.2 (All-get_or (λ i. i < n) frees c.0 k c.1 w.below))
          (subst (λ i. ¬ (IsPivotColumn i ps)) c.2 (All-get_or (λ i. ¬ (IsPivotColumn i ps)) frees c.0 k c.1 w.free)) e)) w.mades frees w.apart);
      spans = spanned;
      independent = are_independent;
    }
