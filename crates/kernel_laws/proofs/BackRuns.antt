-- Back substitution gives a vector of the kernel that ends at the free column.
use Rattle.std.proofs.Common.{◌≡◌, ◌≢◌, ℕ, zero, suc, ◌<◌, ◌≤◌, List, [], ◌∷◌, map, length, refl, ap, sym, ◌∙◌, subst, arith, ◌⊎◌, inl, inr, ⊎_elim}
use Rattle.std.proofs.Math.ListN.{set}
use Rattle.std.proofs.lemmas.List.{length-set, map-set, get_or-set_same, get_or-set_other}
use Rattle.std.proofs.lemmas.List.Elements.{All-nil}
use Rattle.std.proofs.lemmas.Bool.{cases_lt}
use Rattle.ring_laws.specs.Meaning.{Meaning}
use Rattle.ring_laws.specs.Algebra.{Ops, Algebra, Passing, within, Laws, same_passing}
use Rattle.ring_laws.specs.Division.{DomainLaws}
use Rattle.ring_solver.proofs.Read.{reading, ring}
use Rattle.poly_laws.proofs.ListLaws.{product_nought, nought_product}
use Rattle.kernel_laws.specs.Rows.{entry_at, dot, InKernel}
use Rattle.kernel_laws.specs.Kernels.{EndsAt}
use Rattle.kernel_laws.specs.Pivots.{IsPivotColumn, rows_of}
use Rattle.kernel_laws.specs.Reduction.{Reduction, ReductionLaws, Splits, Reduces, bare}
use Rattle.kernel_laws.specs.BackSubstitution.{zeros, unit_vector, times_vector, Absorbed, BackStep, BackRun, begin, step}
use Rattle.poly_laws.proofs.Rings.{solvable, read_nought, read_unit}
use Rattle.kernel_laws.proofs.Totals.{spike, spike_here, spike_not}
use Rattle.kernel_laws.proofs.Kernels.{not_product}
use Rattle.kernel_laws.proofs.Echelon.{StartsAt, Echelon, done, free, pivot_row, within as ends_within}
use Rattle.kernel_laws.proofs.BackSteps.{Stepped, step_kernel, step_ends, step_ends_past, step_zero, both_parts}
use Rattle.kernel_laws.proofs.Belonging.{bare_at, dot_meant, not_passing}
use Rattle.kernel_laws.proofs.ClearedRows.{domain, reduced_at, reduced_size}
use Rattle.kernel_laws.proofs.Absorbing.{Absorbs, absorbs}

pub length-zeros : {A : Type 0} (o : Ops A) (n : ℕ) → length (zeros o n) ≡ n
length-zeros o zero = refl
length-zeros o (suc n) = omega (arith, length-zeros o n)

at_zeros : {A : Type 0} (o : Ops A) (n k : ℕ) → entry_at o (zeros o n) k ≡ o.nought
at_zeros o zero k = refl
at_zeros o (suc n) zero = refl
at_zeros o (suc n) (suc k) = at_zeros o n k

pub same_or_not : (k j : ℕ) → (k ≡ j) ⊎ (k ≢ j)
same_or_not k j =
    ⊎_elim (λ c. inr (λ e. omega (arith, c, e)))
    (λ c. ⊎_elim (λ d. inr (λ e. omega (arith, d, e))) (λ d. inl (omega (arith, c, d))) (cases_lt j k)) (cases_lt k j)

other_side : (i j : ℕ) → ¬ (i ≡ j) → i ≤ j → i < j
other_side i j m c = ⊎_elim (λ d. d) (λ d. absurd (m (omega (arith, c, d)))) (cases_lt i j)

module _ (a : Algebra) (l : Laws a) (dl : DomainLaws a) (r : Reduction) (rl : ReductionLaws a r)
    (u : ¬ ((within a l.closed).unit ≡ (within a l.closed).nought)) (n : ℕ) where
  abbrev W : Ops (Passing a)
  W = within a l.closed

  abbrev Row : Type 0
  Row = List (Passing a)

  bare_zeros : (m : ℕ) → bare a (zeros W m) ≡ zeros a.ops m
  bare_zeros zero = refl
  bare_zeros (suc m) = ap (λ t. a.ops.nought ∷ t) (bare_zeros m)

  -- ---- one step
  module _ (j : ℕ) (b : j < n) (row olds : Row) (size : length olds ≡ n) (pn : ¬ (entry_at W row j ≡ W.nought))
      (old_zero : entry_at W olds j ≡ W.nought) (new : List Meaning) (st : BackStep a r n j (bare a row) (bare a olds) new) where
    abbrev sp : Splits a (entry_at a.ops (bare a row) j) st.plain st.core
    sp = rl.splits (entry_at a.ops (bare a row) j) st.plain st.core st.split

    abbrev plain : Passing a
    plain = (st.plain, sp.plain_passes)

    abbrev core : Passing a
    core = (st.core, sp.core_passes)

    pivot_is : W.product plain core ≡ entry_at W row j
    pivot_is = same_passing a (W.product plain core) (entry_at W row j) (sp.is ∙ bare_at a l.closed n row j)

    plain_isnt : ¬ (plain ≡ W.nought)
    plain_isnt e = pn (sym pivot_is ∙ ap (λ t. W.product t core) e ∙ nought_product W l.ring core)

    core_isnt : ¬ (core ≡ W.nought)
    core_isnt e = pn (sym pivot_is ∙ ap (W.product plain) e ∙ product_nought W l.ring plain)

    abbrev s : Passing a
    s = W.neg (dot W n row (entry_at W olds))

    s_is : a.ops.neg (times_vector a n (bare a row) (bare a olds)) ≡ s.0
    s_is = ap a.ops.neg (dot_meant a l.closed n row (entry_at W olds) (entry_at a.ops (bare a olds)) (bare_at a l.closed n olds))

    abbrev first : Absorbs a l u core s olds st.rest st.middle
    first = absorbs a l u core s core_isnt olds st.rest st.middle
        (subst (λ t. Absorbed a st.core t (bare a olds) st.rest st.middle) s_is st.by_core)

    abbrev second : Absorbs a l u plain first.left first.vector st.entry st.last
    second = absorbs a l u plain first.left plain_isnt first.vector st.entry st.last
        (subst (λ t. Absorbed a st.plain t (bare a first.vector) st.entry st.last) (sym first.left_is)
        (subst (λ t. Absorbed a st.plain st.rest t st.entry st.last) (sym first.vector_is) st.by_plain))

    abbrev placed : Row
    placed = set second.vector j second.left

    placed_is : bare a placed ≡ set st.last j st.entry
    placed_is = map-set (λ (v : Passing a). v.0) second.vector j second.left ∙ cc (second.vector_is, second.left_is)

    placed_size : length placed ≡ n
    placed_size = omega (arith, length-set second.vector j second.left, second.size, first.size, size)

    abbrev red : Reduces a (bare a placed) new
    red = rl.reduces (bare a placed) new (subst (λ t. r.Reduced t new) (sym placed_is) st.reduced)

    abbrev factor : Passing a
    factor = W.product first.factor second.factor

    here : (x g : Passing a) → x ≡ W.nought → g ≡ W.sum (W.product factor x) (W.product g W.unit)
    here x g e = unit_times g ∙ ap (λ t. W.sum (W.product factor t) (W.product g W.unit)) (sym e)
      where
        unit_times : (g : Passing a) → g ≡ W.sum (W.product factor W.nought) (W.product g W.unit)
        unit_times g =
            ring (solvable W l.ring) (factor ∷ g ∷ []) (search (reading, read_nought W l.ring, read_unit W l.ring) depth 40 fits 20000)
            refl

    away : (f h x g : Passing a) → W.product h (W.product f x) ≡ W.sum (W.product (W.product f h) x) (W.product g W.nought)
    away f h x g = ring (solvable W l.ring) (f ∷ h ∷ x ∷ g ∷ []) (search (reading, read_nought W l.ring) depth 40 fits 20000) refl

    at_column : entry_at W placed j ≡ second.left
    at_column = get_or-set_same second.vector j second.left W.nought (omega (arith, second.size, first.size, size, b))

    abbrev new_at : ℕ → Passing a
    new_at k = W.sum (W.product factor (entry_at W olds k)) (W.product second.left (spike W j k))

    placed_at : (k : ℕ) → (k ≡ j) ⊎ (k ≢ j) → entry_at W placed k ≡ new_at k
    placed_at k (inl e) =
        subst (λ t. entry_at W placed t ≡ new_at t) (sym e)
        (at_column ∙ here (entry_at W olds j) second.left old_zero
        ∙ ap (λ t. W.sum (W.product factor (entry_at W olds j)) (W.product second.left t)) (sym (spike_here W l.ring j)))
    placed_at k (inr e) =
        get_or-set_other second.vector j k second.left W.nought e ∙ second.is k ∙ ap (W.product second.factor) (first.is k)
        ∙ away first.factor second.factor (entry_at W olds k) second.left
        ∙ ap (λ t. W.sum (W.product factor (entry_at W olds k)) (W.product second.left t)) (sym (spike_not W l.ring j k e))

    -- the new vector, whose entries belong to the ring
    stepped : Stepped W n row j (entry_at W olds) (entry_at W red.row)
    stepped = record {
      divisor = red.factor;
      divisor_isnt = not_passing a l.closed n red.factor red.not_zero;
      factor = factor;
      factor_isnt = not_product W l.ring n (domain a l dl n) first.factor second.factor first.factor_isnt second.factor_isnt;
      put = second.left;
      is = λ k c. reduced_at a l dl n placed new red k ∙ placed_at k (same_or_not k j);
      clears = both_parts W l.ring (domain a l dl n) n first.factor second.factor core plain s first.left second.left
          (dot W n row (entry_at W olds)) (entry_at W row j) refl first.gives second.gives (sym pivot_is);
    }

    step_size : length red.row ≡ n
    step_size = reduced_size a l dl n placed new red ∙ placed_size

  -- ---- the whole run
  abbrev PivotRow : Type 0
  PivotRow = ℕ × Row

  abbrev bare_pivot : PivotRow → ℕ × List Meaning
  bare_pivot p = (p.0, bare a p.1)

  -- what holds when the pivot rows from column j on are done
  pub record BackWell (free : ℕ) (j : ℕ) (ps : List PivotRow) (vector : List Meaning) : Type 0 where
    pub made : Row
    pub made_is : bare a made ≡ vector
    pub size : length made ≡ n
    pub kernel : InKernel W n (rows_of ps) (entry_at W made)
    pub ends : EndsAt W n (entry_at W made) free
    pub zero_before : (k : ℕ) → k < j → k ≢ free → entry_at W made k ≡ W.nought
    -- at the other free columns too
    pub apart : (k : ℕ) → k < n → ¬ (IsPivotColumn k ps) → k ≢ free → entry_at W made k ≡ W.nought

  unit_at : (i k : ℕ) → k ≢ i → entry_at W (unit_vector W n i) k ≡ W.nought
  unit_at i k e = get_or-set_other (zeros W n) i k W.unit W.nought e ∙ at_zeros W n k

  well_begin : (i : ℕ) → i < n → BackWell i n [] (unit_vector a.ops n i)
  well_begin i b = record {
    made = unit_vector W n i;
    made_is = map-set (λ (v : Passing a). v.0) (zeros W n) i W.unit ∙ ap (λ t. set t i a.ops.unit) (bare_zeros n);
    size = length-set (zeros W n) i W.unit ∙ length-zeros W n;
    kernel = All-nil (λ row. dot W n row (entry_at W (unit_vector W n i)) ≡ W.nought);
    ends = record {
      within = b;
      here = λ h. u (sym (get_or-set_same (zeros W n) i W.unit W.nought (omega (arith, length-zeros W n, b))) ∙ h);
      later = λ k c m. unit_at i k (λ e. omega (arith, c, e));
    };
    zero_before = λ k c e. unit_at i k e;
    apart = λ k c m e. unit_at i k e;
  }

  well_step : (i j : ℕ) (ps : List PivotRow) (row : Row) (old new : List Meaning) → StartsAt W row j → Echelon W n (suc j) ps → ¬ (i ≡ j)
      → BackStep a r n j (bare a row) old new → BackWell i (suc j) ps old → BackWell i j ((j, row) ∷ ps) new
  well_step i j ps row old new st e m bs w =
      let b : j < n = omega (arith, ends_within W l.ring (domain a l dl n) n e) in
      let back : BackStep a r n j (bare a row) (bare a w.made) new = subst (λ t. BackStep a r n j (bare a row) t new) (sym w.made_is) bs in
      let z : entry_at W w.made j ≡ W.nought = w.zero_before j (omega arith) (λ q. m (sym q)) in
      let s = stepped j b row w.made w.size st.here z new back in
      record {
        made = (red j b row w.made w.size st.here z new back).row;
        made_is = (red j b row w.made w.size st.here z new back).row_is;
        size = step_size j b row w.made w.size st.here z new back;
        kernel = step_kernel W l.ring (domain a l dl n) n row e (entry_at W w.made) _ s w.kernel;
        ends = ⊎_elim (λ c. step_ends W l.ring (domain a l dl n) n row j i (entry_at W w.made) _ s c w.ends)
            (λ c. step_ends_past W l.ring (domain a l dl n) n row j i (entry_at W w.made) _ s st
            (other_side i j m c) w.ends) (cases_lt j i);
        zero_before = λ k c q. step_zero W l.ring (domain a l dl n) n row j k (entry_at W w.made) _ s (λ t. omega (arith, c, t))
            (omega (arith, c, b)) (w.zero_before k (omega (arith, c)) q);
        apart = λ k c t q. step_zero W l.ring (domain a l dl n) n row j k (entry_at W w.made) _ s (λ f. t (inl f)) c
            (w.apart k c (λ f. t (inr f)) q);
      }

  -- the vector of a free column
  pub back_sound : (i : ℕ) → i < n → (j : ℕ) (ps : List PivotRow) → Echelon W n j ps → ¬ (IsPivotColumn i ps) → (vector : List Meaning)
      → BackRun a r n i (map bare_pivot ps) vector → BackWell i j ps vector
  back_sound i b _ _ done m _ begin = well_begin i b
  back_sound i b j ps (free e) m vector q =
      let w = back_sound i b (suc j) ps e m vector q in
      record {
        made = w.made;
        made_is = w.made_is;
        size = w.size;
        kernel = w.kernel;
        ends = w.ends;
        zero_before = λ k c. w.zero_before k (omega (arith, c));
        apart = w.apart;
      }
  back_sound i b _ _ (pivot_row {j} {ps} row s e) m _ (step {old = old} {new = new} q t) =
      well_step i j ps row old new s e (λ h. m (inl h)) t (back_sound i b (suc j) ps e (λ h. m (inr h)) old q)
