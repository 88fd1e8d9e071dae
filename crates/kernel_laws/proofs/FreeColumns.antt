-- The vectors of the free columns after a run: each lies in the kernel, ends at its column, and is zero at the other free columns.
use Rattle.std.proofs.Common.{◌≡◌, ◌≢◌, ℕ, zero, suc, ◌+◌, ◌<◌, ◌≤◌, List, [], ◌∷◌, ◌++◌, map, length, get_or, refl, sym, ◌∙◌, subst, arith, All, ◌⊎◌, inl, inr, ⊎_elim}
use Rattle.std.specs.List.{AllZip, Contains}
use Rattle.std.specs.List.Sorted.{IsStrictlyIncreasing}
use Rattle.std.proofs.lemmas.Bool.{cases_lt}
use Rattle.std.proofs.lemmas.List.{map-append, length-append, get_or_append_left}
use Rattle.std.proofs.Math.Seq.{get_or-append_seam}
use Rattle.std.proofs.lemmas.List.Elements.{All-nil, All-cons, All-push, Contains-push, Contains-append_left}
use Rattle.ring_laws.specs.Meaning.{Meaning}
use Rattle.ring_laws.specs.Algebra.{Ops, Algebra, Passing, within, Laws}
use Rattle.ring_laws.specs.Division.{DomainLaws}
use Rattle.kernel_laws.specs.Rows.{entry_at, InKernel}
use Rattle.kernel_laws.specs.Kernels.{EndsAt}
use Rattle.kernel_laws.specs.Pivots.{IsPivotColumn}
use Rattle.kernel_laws.specs.Reduction.{Reduction, ReductionLaws, bare}
use Rattle.kernel_laws.specs.Elimination.{Run}
use Rattle.kernel_laws.specs.BackSubstitution.{BackRun, FreeVectors, none, pivot, free}
use Rattle.kernel_laws.proofs.Kernels.{first_of, rest_of, weaker}
use Rattle.kernel_laws.proofs.Vectors.{kernel_vector}
use Rattle.kernel_laws.proofs.BackRuns.{same_or_not}

pub pivot_or_not : {A : Type 0} (i : ℕ) (ps : List (ℕ × List A)) → IsPivotColumn i ps ⊎ ¬ (IsPivotColumn i ps)
pivot_or_not i [] = inr (λ h. h)
pivot_or_not i (p ∷ ps) =
    ⊎_elim (λ e. inl (inl e))
    (λ m. ⊎_elim (λ h. inl (inr h)) (λ q. inr (λ h. ⊎_elim m q h)) (pivot_or_not i ps)) (same_or_not i p.0)

zip_push : {X Y : Type 0} (R : X → Y → Type 0) (xs : List X) (ys : List Y) (x : X) (y : Y) → AllZip R xs ys → R x y
    → AllZip R (xs ++ x ∷ []) (ys ++ y ∷ [])
zip_push R [] [] x y h e = (e, tt)
zip_push R [] (z ∷ zs) x y h e = absurd h
zip_push R (z ∷ zs) [] x y h e = absurd h
zip_push R (u ∷ us) (z ∷ zs) x y h e = (h.0, zip_push R us zs x y h.1 e)

pub zip_at : {X Y : Type 0} (R : X → Y → Type 0) (xs : List X) (ys : List Y) (k : ℕ) (d : X) (e : Y) → AllZip R xs ys → k < length ys
    → (k < length xs) × R (get_or xs k d) (get_or ys k e)
zip_at R [] [] k d e h b = absurd (omega arith)
zip_at R [] (y ∷ ys) k d e h b = absurd h
zip_at R (x ∷ xs) [] k d e h b = absurd h
zip_at R (x ∷ xs) (y ∷ ys) zero d e h b = (omega arith, h.0)
zip_at R (x ∷ xs) (y ∷ ys) (suc k) d e h b =
    let p = zip_at R xs ys k d e h.1 (omega arith) in (omega (arith, p.0), p.1)

pub zip_map : {X Y Z : Type 0} (f : X → Y) (R : X → Z → Type 0) (S : Y → Z → Type 0) → ((x : X) (z : Z) → R x z → S (f x) z)
    → (xs : List X) (zs : List Z) → AllZip R xs zs → AllZip S (map f xs) zs
zip_map f R S g [] [] h = h
zip_map f R S g [] (z ∷ zs) h = absurd h
zip_map f R S g (x ∷ xs) [] h = absurd h
zip_map f R S g (x ∷ xs) (z ∷ zs) h = (g x z h.0, zip_map f R S g xs zs h.1)

pub all_map : {X Y : Type 0} (f : X → Y) (P : X → Type 0) (S : Y → Type 0) → ((x : X) → P x → S (f x)) → (xs : List X) → All P xs
    → All S (map f xs)
all_map f P S g [] h = All-nil S
all_map f P S g (x ∷ xs) h = All-cons S (f x) (map f xs) (g x (first_of P x xs h)) (all_map f P S g xs (rest_of P x xs h))

rising_push : (js : List ℕ) (j : ℕ) → IsStrictlyIncreasing js → All (λ i. i < j) js → IsStrictlyIncreasing (js ++ j ∷ [])
rising_push js j h b k c =
    ⊎_elim
    (λ d. subst (λ v. get_or (js ++ j ∷ []) k 0 < v) (sym (get_or_append_left js (j ∷ []) 0 (k + 1) d))
    (subst (λ v. v < get_or js (k + 1) 0) (sym (get_or_append_left js (j ∷ []) 0 k (omega (arith, d)))) (h k d)))
    (λ d.
    let e : length js ≡ k + 1 = omega (arith, c, d, length-append js (j ∷ [])) in
    subst (λ v. get_or (js ++ j ∷ []) k 0 < v) (sym (subst (λ v. get_or (js ++ j ∷ []) v 0 ≡ j) e (get_or-append_seam js j [] 0)))
    (subst (λ v. v < j) (sym (get_or_append_left js (j ∷ []) 0 k (omega (arith, e)))) (b k 0 (omega (arith, e)))))
    (cases_lt (k + 1) (length js))

module _ (a : Algebra) (l : Laws a) (dl : DomainLaws a) (r : Reduction) (rl : ReductionLaws a r)
    (u : ¬ ((within a l.closed).unit ≡ (within a l.closed).nought)) (n : ℕ) (rows : List (List (Passing a)))
    (long : All (λ row. length row ≡ n) rows) (os : List (List Meaning)) (ps : List (ℕ × List Meaning)) (t : Meaning)
    (run : Run a r (map (bare a) rows) n os ps t) where
  abbrev W : Ops (Passing a)
  W = within a l.closed

  abbrev Row : Type 0
  Row = List (Passing a)

  abbrev Long : Row → Type 0
  Long v = length v ≡ n

  abbrev IsSent : Row → Type 0
  IsSent v = InKernel W n rows (entry_at W v)

  abbrev EndsHere : Row → ℕ → Type 0
  EndsHere v i = EndsAt W n (entry_at W v) i

  -- the vector is zero at the free columns, but for its own
  abbrev pub IsApart : Row → ℕ → Type 0
  IsApart v i = (k : ℕ) → k < n → ¬ (IsPivotColumn k ps) → k ≢ i → entry_at W v k ≡ W.nought

  -- the vectors of the free columns below j, whose entries belong to the ring
  pub record VectorsWell (j : ℕ) (frees : List ℕ) (vectors : List (List Meaning)) : Type 0 where
    pub mades : List Row
    pub mades_are : map (bare a) mades ≡ vectors
    pub sizes : All Long mades
    pub kernel : All IsSent mades
    pub ends : AllZip EndsHere mades frees
    pub rising : IsStrictlyIncreasing frees
    pub below : All (λ i. i < j) frees
    pub free : All (λ i. ¬ (IsPivotColumn i ps)) frees
    pub apart : AllZip IsApart mades frees
    pub has : (i : ℕ) → i < j → ¬ (IsPivotColumn i ps) → Contains frees i

  more_free : (j : ℕ) (frees : List ℕ) (vectors : List (List Meaning)) (vector : List Meaning) → j < n → ¬ (IsPivotColumn j ps)
      → BackRun a r n j ps vector → VectorsWell j frees vectors → VectorsWell (suc j) (frees ++ j ∷ []) (vectors ++ vector ∷ [])
  more_free j frees vectors vector b m q w =
      let v = kernel_vector a l dl r rl u n rows long n (omega arith) os ps t run j b (record { within = b; free = m }) vector q in
      record {
        mades = w.mades ++ v.made ∷ [];
        mades_are = map-append (bare a) w.mades (v.made ∷ []) ∙ cc (w.mades_are, v.made_is);
        sizes = All-push Long w.mades v.made w.sizes v.size;
        kernel = All-push IsSent w.mades v.made w.kernel v.kernel;
        ends = zip_push EndsHere w.mades frees v.made j w.ends v.ends;
        rising = rising_push frees j w.rising w.below;
        below =
            All-push (λ i. i < suc j) frees j (weaker (λ i. i < j) (λ i. i < suc j) frees (λ i c. omega (arith, c)) w.below)
            (omega arith);
        free = All-push (λ i. ¬ (IsPivotColumn i ps)) frees j w.free m;
        apart = zip_push IsApart w.mades frees v.made j w.apart v.apart;
        has = λ i c h. ⊎_elim (λ d. Contains-append_left frees (j ∷ []) i (w.has i d h))
            (λ d. subst (Contains (frees ++ j ∷ [])) (omega (arith, c, d)) (Contains-push frees j)) (cases_lt i j);
      }

  pub vectors_well : (j : ℕ) (frees : List ℕ) (vectors : List (List Meaning)) → FreeVectors a r n ps j frees vectors → j ≤ n
      → VectorsWell j frees vectors
  vectors_well _ _ _ none b = record {
    mades = [];
    mades_are = refl;
    sizes = All-nil Long;
    kernel = All-nil IsSent;
    ends = tt;
    rising = λ k c. absurd (omega arith);
    below = All-nil (λ i. i < 0);
    free = All-nil (λ i. ¬ (IsPivotColumn i ps));
    apart = tt;
    has = λ i c. absurd (omega arith);
  }
  vectors_well _ _ _ (pivot {j} {frees} {vectors} h f) b =
      let w = vectors_well j frees vectors f (omega arith) in
      record {
        mades = w.mades;
        mades_are = w.mades_are;
        sizes = w.sizes;
        kernel = w.kernel;
        ends = w.ends;
        rising = w.rising;
        below = weaker (λ i. i < j) (λ i. i < suc j) frees (λ i c. omega (arith, c)) w.below;
        free = w.free;
        apart = w.apart;
        has = λ i c m. ⊎_elim (λ d. w.has i d m) (λ d. absurd (m (subst (λ k. IsPivotColumn k ps) (omega (arith, c, d)) h))) (cases_lt i j);
      }
  vectors_well _ _ _ (free {j} {frees} {vectors} {vector} m q f) b =
      more_free j frees vectors vector (omega arith) m q (vectors_well j frees vectors f (omega arith))
