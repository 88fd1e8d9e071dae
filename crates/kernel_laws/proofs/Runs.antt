-- A run of elimination keeps the kernel, and its pivot rows stand as stairs.
use Rattle.std.proofs.Common.{◌≡◌, ℕ, suc, ◌<◌, ◌≤◌, Bool, IsTrue, IsFalse, List, [], ◌∷◌, ◌++◌, map, length, refl, ap, sym, ◌∙◌, subst, arith, All}
use Rattle.std.specs.List.{AllZip}
use Rattle.std.proofs.lemmas.List.{map-append}
use Rattle.std.proofs.lemmas.List.Elements.{All-nil, All-cons, All-append}
use Rattle.ring_laws.specs.Meaning.{Meaning}
use Rattle.ring_laws.specs.Algebra.{Ops, Algebra, Passing, within, Laws, same_passing}
use Rattle.ring_laws.specs.Division.{DomainLaws}
use Rattle.ring_solver.proofs.Read.{reading, ring}
use Rattle.poly_laws.proofs.ListLaws.{product_nought, nought_product}
use Rattle.kernel_laws.specs.Rows.{entry_at, dot}
use Rattle.kernel_laws.specs.Reduction.{Reduction, ReductionLaws, bare}
use Rattle.kernel_laws.specs.Elimination.{Cleared, Chosen, IsFree, Run, begin, pass, climb}
use Rattle.poly_laws.proofs.Rings.{solvable, read_nought, read_unit}
use Rattle.kernel_laws.proofs.Totals.{total_nought}
use Rattle.kernel_laws.proofs.Kernels.{first_of, rest_of, All-left, All-right}
use Rattle.kernel_laws.proofs.RowSteps.{Turned, rows_on, rows_back}
use Rattle.kernel_laws.proofs.Stairs.{Clears, begin as ground_floor, Reached, reached_pass, reached_climb}
use Rattle.kernel_laws.proofs.Parts.{parts_of, front_of, middle_of}
use Rattle.kernel_laws.proofs.Belonging.{bare_at, not_passing}
use Rattle.kernel_laws.proofs.ClearedRows.{domain, cleared_well, reduced_at, reduced_size}

not_both : (b : Bool) → IsFalse b → ¬ (IsTrue b)
not_both b e h = cc (e, h)

module _ (a : Algebra) (l : Laws a) (dl : DomainLaws a) (r : Reduction) (rl : ReductionLaws a r)
    (u : ¬ ((within a l.closed).unit ≡ (within a l.closed).nought)) (n : ℕ) where
  abbrev W : Ops (Passing a)
  W = within a l.closed

  abbrev Row : Type 0
  Row = List (Passing a)

  abbrev Long : Row → Type 0
  Long row = length row ≡ n

  abbrev SentToZero : (ℕ → Passing a) → Row → Type 0
  SentToZero v row = dot W n row v ≡ W.nought

  -- cleared rows, whose entries belong to the ring
  record ManyWell (j : ℕ) (pivot : Row) (olds : List Row) (news : List (List Meaning)) : Type 0 where
    mades : List Row
    mades_are : map (bare a) mades ≡ news
    sizes : All Long mades
    clears : AllZip (Clears W n j pivot) olds mades

  many_well : (j : ℕ) → j < n → (t : Passing a) → ¬ (t ≡ W.nought) → (pivot : Row) → ¬ (entry_at W pivot j ≡ W.nought) → Long pivot
      → (olds : List Row) (news : List (List Meaning)) → All Long olds
      → AllZip (Cleared a r t.0 j (bare a pivot)) (map (bare a) olds) news → ManyWell j pivot olds news
  many_well j b t tn pivot pn pl [] [] s c = record { mades = []; mades_are = refl; sizes = All-nil Long; clears = c }
  many_well j b t tn pivot pn pl [] (new ∷ news) s c = absurd c
  many_well j b t tn pivot pn pl (old ∷ olds) [] s c = absurd c
  many_well j b t tn pivot pn pl (old ∷ olds) (new ∷ news) s c =
      let w = cleared_well a l dl n r rl u j b t tn pivot pn pl old new (first_of Long old olds s) c.0 in
      let m = many_well j b t tn pivot pn pl olds news (rest_of Long old olds s) c.1 in
      record {
        mades = w.made ∷ m.mades;
        mades_are = cc (w.made_is, m.mades_are);
        sizes = All-cons Long w.made m.mades w.size m.sizes;
        clears = (w.clears, m.clears);
      }

  -- the rows, reduced
  record Begun (olds : List Row) (news : List (List Meaning)) : Type 0 where
    mades : List Row
    mades_are : map (bare a) mades ≡ news
    sizes : All Long mades
    turned : AllZip (Turned W n []) olds mades

  once : (f x y : Passing a) → W.product f x ≡ y → W.product f x ≡ W.sum (W.product W.unit y) (W.product W.nought W.nought)
  once f x y e = e ∙ ring (solvable W l.ring) (y ∷ []) (search (reading, read_nought W l.ring, read_unit W l.ring) depth 40 fits 20000) refl

  begun : (olds : List Row) (news : List (List Meaning)) → All Long olds → AllZip r.Reduced (map (bare a) olds) news → Begun olds news
  begun [] [] s c = record { mades = []; mades_are = refl; sizes = All-nil Long; turned = c }
  begun [] (new ∷ news) s c = absurd c
  begun (old ∷ olds) [] s c = absurd c
  begun (old ∷ olds) (new ∷ news) s c =
      let red = rl.reduces (bare a old) new c.0 in
      let m = begun olds news (rest_of Long old olds s) c.1 in
      let one : Turned W n [] old red.row = record {
        divisor = red.factor;
        divisor_isnt = not_passing a l.closed n red.factor red.not_zero;
        factor = W.unit;
        factor_isnt = u;
        other = W.nought;
        is = λ k b. once red.factor (entry_at W red.row k) (entry_at W old k) (reduced_at a l dl n old new red k);
      } in
      record {
        mades = red.row ∷ m.mades;
        mades_are = cc (red.row_is, m.mades_are);
        sizes = All-cons Long red.row m.mades (reduced_size a l dl n old new red ∙ first_of Long old olds s) m.sizes;
        turned = (one, m.turned);
      }

  -- a run on rows whose entries belong to the ring
  pub record Well (rows : List Row) (j : ℕ) (os : List (List Meaning)) (ps : List (ℕ × List Meaning)) (t : Meaning) : Type 0 where
    pub open_rows : List Row
    pub open_are : map (bare a) open_rows ≡ os
    pub sizes : All Long open_rows
    pub pivots : List (ℕ × Row)
    pub pivots_are : map (λ (p : ℕ × Row). (p.0, bare a p.1)) pivots ≡ ps
    pub divisor : Passing a
    pub divisor_is : divisor.0 ≡ t
    pub divisor_isnt : ¬ (divisor ≡ W.nought)
    pub reached : Reached W n rows j pivots open_rows

  empty_row : (v : ℕ → Passing a) → dot W n [] v ≡ W.nought
  empty_row v = total_nought W l.ring n (λ k. W.product W.nought (v k)) (λ k b. nought_product W l.ring (v k))

  well_begin : (rows : List Row) (os : List (List Meaning)) → All Long rows → AllZip r.Reduced (map (bare a) rows) os
      → Well rows 0 os [] a.ops.unit
  well_begin rows os s c =
      let m = begun rows os s c in record {
        open_rows = m.mades;
        open_are = m.mades_are;
        sizes = m.sizes;
        pivots = [];
        pivots_are = refl;
        divisor = W.unit;
        divisor_is = refl;
        divisor_isnt = u;
        reached = record {
          stairs = ground_floor;
          same = record {
            on = λ v k. All-append (SentToZero v) m.mades []
                (rows_on W l.ring (domain a l dl n) n [] rows m.mades v m.turned (empty_row v) k) (All-nil (SentToZero v));
            back = λ v k. rows_back W l.ring (domain a l dl n) n [] rows m.mades v m.turned (empty_row v)
                (All-left (SentToZero v) m.mades [] k);
          };
          cleared = λ i x b k c. absurd (omega arith);
        };
      }

  noughts : (j : ℕ) (rows : List Row) → IsFree a j (map (bare a) rows) → All (λ row. entry_at W row j ≡ W.nought) rows
  noughts j [] h = All-nil (λ row. entry_at W row j ≡ W.nought)
  noughts j (row ∷ rows) h =
      let P : List Meaning → Type 0 = λ t. IsTrue (a.ops.is_nought (entry_at a.ops t j)) in
      All-cons (λ t. entry_at W t j ≡ W.nought) row rows
      ((l.ring.is_nought (entry_at W row j)).0
      (subst (λ y. IsTrue (a.ops.is_nought y)) (bare_at a l.closed n row j) (first_of P (bare a row) (map (bare a) rows) h)))
      (noughts j rows (rest_of P (bare a row) (map (bare a) rows) h))

  well_pass : (rows : List Row) (j : ℕ) (os : List (List Meaning)) (ps : List (ℕ × List Meaning)) (t : Meaning) → IsFree a j os
      → Well rows j os ps t → Well rows (suc j) os ps t
  well_pass rows j os ps t h w = record {
    open_rows = w.open_rows;
    open_are = w.open_are;
    sizes = w.sizes;
    pivots = w.pivots;
    pivots_are = w.pivots_are;
    divisor = w.divisor;
    divisor_is = w.divisor_is;
    divisor_isnt = w.divisor_isnt;
    reached = reached_pass W l.ring (domain a l dl n) n rows j w.pivots w.open_rows w.reached
        (noughts j w.open_rows (subst (IsFree a j) (sym w.open_are) h));
  }

  well_climb : (rows : List Row) (j : ℕ) (before after : List (List Meaning)) (pivot : List Meaning) (news : List (List Meaning))
      (ps : List (ℕ × List Meaning)) (t plain core : Meaning) → j < n → Chosen a r j (before ++ pivot ∷ after) (length before)
      → AllZip (Cleared a r t j pivot) (before ++ after) news → r.Split (entry_at a.ops pivot j) plain core
      → Well rows j (before ++ pivot ∷ after) ps t → Well rows (suc j) news (ps ++ (j, pivot) ∷ []) core
  well_climb rows j before after pivot news ps t plain core b ch cs sp w =
      let p = parts_of (bare a) w.open_rows before (pivot ∷ after) w.open_are in
      let q = front_of (bare a) p.right pivot after p.right_is in
      let all : w.open_rows ≡ p.left ++ q.first ∷ q.rest = p.is ∙ ap (λ v. p.left ++ v) q.is in
      let sz : All Long (p.left ++ q.first ∷ q.rest) = subst (All Long) all w.sizes in
      let sr : All Long (q.first ∷ q.rest) = All-right Long p.left (q.first ∷ q.rest) sz in
      let here : entry_at a.ops pivot j ≡ (entry_at W q.first j).0 = ap (λ v. entry_at a.ops v j) (sym q.first_is)
      ∙ bare_at a l.closed n q.first j in
      let isnt : IsFalse (a.ops.is_nought (entry_at W q.first j).0) = subst (λ v. IsFalse (a.ops.is_nought v))
      (ap (λ v. entry_at a.ops v j) (middle_of before pivot after []) ∙ here) ch.candidate in
      let pn : ¬ (entry_at W q.first j ≡ W.nought) = λ e.
      not_both (a.ops.is_nought (entry_at W q.first j).0) isnt ((l.ring.is_nought (entry_at W q.first j)).1 e) in
      let m = many_well j b w.divisor w.divisor_isnt q.first pn (first_of Long q.first q.rest sr) (p.left ++ q.rest) news
      (All-append Long p.left q.rest (All-left Long p.left (q.first ∷ q.rest) sz) (rest_of Long q.first q.rest sr))
      (subst (λ v. AllZip (Cleared a r v j (bare a q.first)) (map (bare a) (p.left ++ q.rest)) news) (sym w.divisor_is)
      (subst (λ v. AllZip (Cleared a r t j v) (map (bare a) (p.left ++ q.rest)) news) (sym q.first_is)
      (subst (λ v. AllZip (Cleared a r t j pivot) v news)
      (sym (map-append (bare a) p.left q.rest ∙ cc (p.left_is, q.rest_is))) cs))) in
      let s = rl.splits (entry_at a.ops pivot j) plain core sp in
      record {
        open_rows = m.mades;
        open_are = m.mades_are;
        sizes = m.sizes;
        pivots = w.pivots ++ (j, q.first) ∷ [];
        pivots_are = map-append (λ (p : ℕ × Row). (p.0, bare a p.1)) w.pivots ((j, q.first) ∷ []) ∙ cc (w.pivots_are, q.first_is);
        divisor = (core, s.core_passes);
        divisor_is = refl;
        divisor_isnt = λ e. pn (same_passing a (entry_at W q.first j) W.nought (sym here ∙ sym s.is
            ∙ ap (λ (v : Passing a). a.ops.product plain v.0) e
            ∙ ap (λ (v : Passing a). v.0) (product_nought W l.ring (plain, s.plain_passes))));
        reached = reached_climb W l.ring (domain a l dl n) n rows j w.pivots p.left q.rest m.mades q.first b
            (subst (Reached W n rows j w.pivots) all w.reached) pn m.clears;
      }

  pub sound : (rows : List Row) → All Long rows → {j : ℕ} {os : List (List Meaning)} {ps : List (ℕ × List Meaning)} {t : Meaning}
      → Run a r (map (bare a) rows) j os ps t → j ≤ n → Well rows j os ps t
  sound rows s (begin {open_rows = os} c) b = well_begin rows os s c
  sound rows s (pass {j} {open_rows = os} {pivots = ps} {t} q h) b = well_pass rows j os ps t h (sound rows s q (omega arith))
  sound rows s (climb {j} {pivots = ps} {t} before after pivot {news} plain {core} q ch cs sp) b =
      well_climb rows j before after pivot news ps t plain core (omega arith) ch cs sp (sound rows s q (omega arith))
