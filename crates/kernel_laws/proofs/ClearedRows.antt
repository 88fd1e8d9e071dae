-- A cleared row is the old row, multiplied by something that isn't zero, with a multiple of the pivot row, and divided exactly.
use Rattle.std.proofs.Common.{◌≡◌, ℕ, zero, suc, ◌<◌, IsTrue, List, [], ◌∷◌, length, refl, ap, sym, ◌∙◌, subst, arith}
use Rattle.std.proofs.lemmas.Slice.Zip.{AllZip-long}
use Rattle.ring_laws.specs.Meaning.{Meaning}
use Rattle.ring_laws.specs.Algebra.{Ops, Algebra, Passing, within, Laws, same_passing}
use Rattle.ring_laws.specs.Division.{DomainLaws}
use Rattle.ring_solver.proofs.Read.{reading, ring}
use Rattle.poly_laws.proofs.OneQuotient.{NoDivisors}
use Rattle.poly_laws.proofs.PolyDomain.{no_divisors_within}
use Rattle.kernel_laws.specs.Rows.{entry_at}
use Rattle.kernel_laws.specs.RowSteps.{cross, Divided, divided, kept, Quotients}
use Rattle.kernel_laws.specs.Reduction.{Reduction, ReductionLaws, Reduces, bare}
use Rattle.kernel_laws.specs.Elimination.{crossed_at, ClearedRow, Cleared, stays, changes}
use Rattle.poly_laws.proofs.Rings.{solvable, read_nought, read_unit}
use Rattle.kernel_laws.proofs.Kernels.{not_product, other_factor}
use Rattle.kernel_laws.proofs.RowSteps.{Turned}
use Rattle.kernel_laws.proofs.Stairs.{Clears}
use Rattle.kernel_laws.proofs.Crossed.{entry_of_crossed, length-crossed}
use Rattle.kernel_laws.proofs.Belonging.{bare_at, length-bare, not_passing}

module _ (a : Algebra) (l : Laws a) (dl : DomainLaws a) (n : ℕ) where
  abbrev W : Ops (Passing a)
  W = within a l.closed

  pub domain : NoDivisors W
  domain = no_divisors_within a l.closed dl

  quotient_at : (t : Meaning) (xs qs : List Meaning) (k : ℕ) → Quotients a t xs qs → k < length xs
      → a.ops.product (entry_at a.ops qs k) t ≡ entry_at a.ops xs k
  quotient_at t [] [] k q b = absurd (omega arith)
  quotient_at t [] (y ∷ ys) k q b = absurd q
  quotient_at t (x ∷ xs) [] k q b = absurd q
  quotient_at t (x ∷ xs) (y ∷ ys) zero q b = q.0
  quotient_at t (x ∷ xs) (y ∷ ys) (suc k) q b = quotient_at t xs ys k q.1 (omega arith)

  -- something that isn't zero, times the middle row, is the crossed row
  pub record Over (xs ms : List Meaning) : Type 0 where
    pub by : Passing a
    pub by_isnt : ¬ (by ≡ W.nought)
    pub is : (k : ℕ) → k < length xs → (x m : Passing a) → x.0 ≡ entry_at a.ops xs k → m.0 ≡ entry_at a.ops ms k → W.product by m ≡ x
    pub size : length ms ≡ length xs

  over : (t : Passing a) (u : ¬ (W.unit ≡ W.nought)) (xs ms : List Meaning) → ¬ (t ≡ W.nought) → Divided a t.0 xs ms → Over xs ms
  over t u xs _ m (divided ms q) = record {
    by = t;
    by_isnt = m;
    is =
        λ k b x y e f. l.ring.product_comm t y ∙ same_passing a (W.product y t) x
        (ap (λ z. a.ops.product z t.0) f ∙ quotient_at t.0 xs ms k q b ∙ sym e);
    size = sym (AllZip-long (λ q x. a.ops.product q t.0 ≡ x) ms xs q);
  }
  over t u xs _ m (kept q) = record {
    by = W.unit;
    by_isnt = u;
    is = λ k b x y e f. l.ring.unit_product y ∙ same_passing a y x (f ∙ sym e);
    size = refl;
  }

  turn : (p x e y : Passing a) → W.sum (W.product p x) (W.neg (W.product e y)) ≡ W.sum (W.product p x) (W.product (W.neg e) y)
  turn p x e y = ring (solvable W l.ring) (p ∷ x ∷ e ∷ y ∷ []) (search reading depth 40 fits 20000) refl

  clears_pivot : (p e : Passing a) → W.sum (W.product p e) (W.neg (W.product e p)) ≡ W.nought
  clears_pivot p e = ring (solvable W l.ring) (p ∷ e ∷ []) (search (reading, read_nought W l.ring) depth 40 fits 20000) refl

  stays_turned : (u : ¬ (W.unit ≡ W.nought)) (pivot row : List (Passing a)) → Turned W n pivot row row
  stays_turned u pivot row = record {
    divisor = W.unit;
    divisor_isnt = u;
    factor = W.unit;
    factor_isnt = u;
    other = W.nought;
    is = λ k b. same (entry_at W row k) (entry_at W pivot k);
  }
    where
      same : (x y : Passing a) → W.product W.unit x ≡ W.sum (W.product W.unit x) (W.product W.nought y)
      same x y = ring (solvable W l.ring) (x ∷ y ∷ []) (search (reading, read_nought W l.ring, read_unit W l.ring) depth 40 fits 20000) refl

  -- a cleared row, whose entries belong to the ring
  pub record ClearedWell (j : ℕ) (pivot row : List (Passing a)) (new : List Meaning) : Type 0 where
    pub made : List (Passing a)
    pub made_is : bare a made ≡ new
    pub size : length made ≡ n
    pub clears : Clears W n j pivot row made

  -- the new entries of a reduction, as entries of the ring
  pub reduced_at : (old : List (Passing a)) (new : List Meaning) (r : Reduces a (bare a old) new) (k : ℕ)
      → W.product r.factor (entry_at W r.row k) ≡ entry_at W old k
  reduced_at old new r k =
      same_passing a (W.product r.factor (entry_at W r.row k)) (entry_at W old k)
      (ap (λ y. a.ops.product r.factor.0 y) (sym (bare_at a l.closed n r.row k) ∙ ap (λ y. entry_at a.ops y k) r.row_is) ∙ r.is k
      ∙ bare_at a l.closed n old k)

  pub reduced_size : (old : List (Passing a)) (new : List Meaning) (r : Reduces a (bare a old) new) → length r.row ≡ length old
  reduced_size old new r = omega (arith, ap length r.row_is, length-bare a l.closed n r.row, r.size, length-bare a l.closed n old)

  module _ (r : Reduction) (rl : ReductionLaws a r) (u : ¬ (W.unit ≡ W.nought)) (j : ℕ) (b : j < n) (t : Passing a)
      (tn : ¬ (t ≡ W.nought)) (pivot : List (Passing a)) (pn : ¬ (entry_at W pivot j ≡ W.nought)) (pl : length pivot ≡ n) where
    abbrev x_at : List (Passing a) → ℕ → Passing a
    x_at row k = cross W (entry_at W pivot j) (entry_at W row k) (entry_at W row j) (entry_at W pivot k)

    abbrev xs_of : List (Passing a) → List Meaning
    xs_of row = crossed_at a j (bare a pivot) (bare a row)

    x_is : (row : List (Passing a)) → length row ≡ n → (k : ℕ) → k < n → (x_at row k).0 ≡ entry_at a.ops (xs_of row) k
    x_is row rs k c =
        sym (entry_of_crossed a.ops (entry_at a.ops (bare a pivot) j) (bare a row) (entry_at a.ops (bare a row) j) (bare a pivot) k
        (omega (arith, length-bare a l.closed n row)) (omega (arith, length-bare a l.closed n pivot))
        ∙ cc (bare_at a l.closed n pivot j, bare_at a l.closed n row k, bare_at a l.closed n row j, bare_at a l.closed n pivot k))

    xs_size : (row : List (Passing a)) → length row ≡ n → length (xs_of row) ≡ n
    xs_size row rs =
        let same : length (bare a row) ≡ length (bare a pivot) = omega
        (arith, length-bare a l.closed n row, length-bare a l.closed n pivot) in
        omega (
          arith,
          length-crossed a.ops (entry_at a.ops (bare a pivot) j) (bare a row) (entry_at a.ops (bare a row) j) (bare a pivot) same,
          length-bare a l.closed n row,
        )

    module _ (row : List (Passing a)) (rs : length row ≡ n) (new : List Meaning)
        (c : ClearedRow a r t.0 j (bare a pivot) (bare a row) new) where
      abbrev red : Reduces a (bare a c.middle) new
      red = rl.reduces (bare a c.middle) new c.reduced

      abbrev ov : Over (xs_of row) (bare a c.middle)
      ov = over t u (xs_of row) (bare a c.middle) tn c.divided

      factor_isnt : ¬ (red.factor ≡ W.nought)
      factor_isnt = not_passing a l.closed n red.factor red.not_zero

      divisor_isnt : ¬ (W.product ov.by red.factor ≡ W.nought)
      divisor_isnt = not_product W l.ring n domain ov.by red.factor ov.by_isnt factor_isnt

      made_at : (k : ℕ) → k < n → W.product (W.product ov.by red.factor) (entry_at W red.row k) ≡ x_at row k
      made_at k d =
          l.ring.product_assoc ov.by red.factor (entry_at W red.row k) ∙ ap (W.product ov.by) (reduced_at c.middle new red k)
          ∙ ov.is k (omega (arith, xs_size row rs)) (x_at row k) (entry_at W c.middle k) (x_is row rs k d)
          (sym (bare_at a l.closed n c.middle k))

      changed : ClearedWell j pivot row new
      changed = record {
        made = red.row;
        made_is = red.row_is;
        size = omega (arith, reduced_size c.middle new red, length-bare a l.closed n c.middle, ov.size, xs_size row rs);
        clears = record {
          turned = record {
            divisor = W.product ov.by red.factor;
            divisor_isnt = divisor_isnt;
            factor = entry_at W pivot j;
            factor_isnt = pn;
            other = W.neg (entry_at W row j);
            is = λ k d. made_at k d ∙ turn (entry_at W pivot j) (entry_at W row k) (entry_at W row j) (entry_at W pivot k);
          };
          zero = other_factor W l.ring n domain (W.product ov.by red.factor) (entry_at W red.row j) divisor_isnt
              (made_at j b ∙ clears_pivot (entry_at W pivot j) (entry_at W row j));
        };
      }

    pub cleared_well : (row : List (Passing a)) (new : List Meaning) → length row ≡ n → Cleared a r t.0 j (bare a pivot) (bare a row) new
        → ClearedWell j pivot row new
    cleared_well row _ rs (stays h) = record {
      made = row;
      made_is = refl;
      size = rs;
      clears = record {
        turned = stays_turned u pivot row;
        zero = (l.ring.is_nought (entry_at W row j)).0 (subst (λ y. IsTrue (a.ops.is_nought y)) (bare_at a l.closed n row j) h);
      };
    }
    cleared_well row _ rs (changes {new} f c) = changed row rs new c
