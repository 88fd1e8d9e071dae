-- The run of elimination is the only one: every step gives one row, one choice, one core.
use Rattle.std.specs.Prelude.{ℕ, zero, suc, ◌<◌, pos, List, [], ◌∷◌, ◌++◌, length, Bool, IsTrue, IsFalse}
use Rattle.std.specs.List.{AllZip}
use Rattle.std.proofs.Common.{◌≡◌, ap, sym, ◌∙◌, subst, arith, refl, ⊎_elim}
use Rattle.std.proofs.lemmas.Bool.{cases_lt}
use Rattle.ring_laws.specs.Meaning.{Meaning}
use Rattle.ring_laws.specs.Algebra.{Ops, Algebra, Passing, within, Laws, same_passing}
use Rattle.ring_laws.specs.Division.{DomainLaws}
use Rattle.poly_laws.proofs.ListLaws.{product_nought, nought_product}
use Rattle.kernel_laws.specs.Rows.{entry_at}
use Rattle.kernel_laws.specs.RowSteps.{HasQuotient, Quotients, NoQuotients, Divided, divided, kept}
use Rattle.kernel_laws.specs.Reduction.{Reduction, ReductionLaws, bare}
use Rattle.kernel_laws.specs.Elimination.{crossed_at, Cleared, stays, changes, entry, Chosen, IsFree, Run, begin, pass, climb, Ran}
use Rattle.kernel_laws.proofs.Cancelling.{cancel_factor}
use Rattle.kernel_laws.proofs.Parts.{middle_of}

not_both : (b : Bool) → IsFalse b → ¬ (IsTrue b)
not_both b e h = cc (e, h)

-- the parts before and after a place
same_parts : {X : Type 0} (xs ys : List X) (x y : X) (us vs : List X) → xs ++ x ∷ us ≡ ys ++ y ∷ vs → length xs ≡ length ys
    → (xs ≡ ys) × ((x ≡ y) × (us ≡ vs))
same_parts [] [] x y us vs e n = (refl, (cc, cc))
same_parts [] (z ∷ ys) x y us vs e n = absurd (omega arith)
same_parts (z ∷ xs) [] x y us vs e n = absurd (omega arith)
same_parts (z ∷ xs) (w ∷ ys) x y us vs e n =
    let h = same_parts xs ys x y us vs (cc) (omega arith) in
    let f : z ≡ w = cc in
    (cc (f, h.0), h.1)

module _ (a : Algebra) (l : Laws a) (dl : DomainLaws a) (r : Reduction) (rl : ReductionLaws a r) where
  abbrev W : Ops (Passing a)
  W = within a l.closed

  abbrev Row : Type 0
  Row = List (Passing a)

  -- a divisor belongs to the ring and isn't zero
  abbrev pub IsDivisor : Meaning → Type 0
  IsDivisor t = IsTrue (a.passes t) × ¬ (t ≡ a.ops.nought)

  not_zero : (t : Meaning) (h : IsDivisor t) → ¬ ((t, h.0) ≡ W.nought)
  not_zero t h e = h.1 (ap (λ (v : Passing a). v.0) e)

  pub one_quotient : (t s : Meaning) → IsDivisor t → (p q : Passing a) → a.ops.product p.0 t ≡ s → a.ops.product q.0 t ≡ s → p ≡ q
  one_quotient t s h p q e f =
      cancel_factor a l dl p q (t, h.0) (not_zero t h) (same_passing a (W.product p (t, h.0)) (W.product q (t, h.0)) (e ∙ sym f))

  one_quotients : (t : Meaning) → IsDivisor t → (xs : List Meaning) (ms ks : Row) → Quotients a t xs (bare a ms) → Quotients a t xs (bare a ks)
      → ms ≡ ks
  one_quotients t h [] [] [] e f = refl
  one_quotients t h [] [] (k ∷ ks) e f = absurd f
  one_quotients t h [] (m ∷ ms) ks e f = absurd e
  one_quotients t h (x ∷ xs) [] ks e f = absurd e
  one_quotients t h (x ∷ xs) (m ∷ ms) [] e f = absurd f
  one_quotients t h (x ∷ xs) (m ∷ ms) (k ∷ ks) e f = cc (one_quotient t x h m k e.0 f.0, one_quotients t h xs ms ks e.1 f.1)

  quotient_at : (t : Meaning) (xs : List Meaning) (ms : Row) (i : ℕ) → Quotients a t xs (bare a ms) → i < length xs
      → HasQuotient a t (entry_at a.ops xs i)
  quotient_at t [] ms i e b = absurd (omega arith)
  quotient_at t (x ∷ xs) [] i e b = absurd e
  quotient_at t (x ∷ xs) (m ∷ ms) zero e b = record { quotient = m; is = e.0 }
  quotient_at t (x ∷ xs) (m ∷ ms) (suc i) e b = quotient_at t xs ms i e.1 (omega arith)

  not_kept : (t : Meaning) (xs : List Meaning) (ms : Row) → Quotients a t xs (bare a ms) → ¬ (NoQuotients a t xs)
  not_kept t xs ms e h = h.none (quotient_at t xs ms h.index e h.within)

  one_divided : (t : Meaning) → IsDivisor t → (xs us vs : List Meaning) (ms ks : Row) → bare a ms ≡ us → bare a ks ≡ vs → Divided a t xs us
      → Divided a t xs vs → us ≡ vs
  one_divided t h xs _ _ ms ks e f (divided us p) (divided vs q) =
      sym e
      ∙ ap (bare a) (one_quotients t h xs ms ks (subst (Quotients a t xs) (sym e) p) (subst (Quotients a t xs) (sym f) q)) ∙ f
  one_divided t h xs _ _ ms ks e f (divided us p) (kept n) = absurd (not_kept t xs ms (subst (Quotients a t xs) (sym e) p) n)
  one_divided t h xs _ _ ms ks e f (kept n) (divided vs q) = absurd (not_kept t xs ks (subst (Quotients a t xs) (sym f) q) n)
  one_divided t h xs _ _ ms ks e f (kept n) (kept m) = refl

  one_cleared : (t : Meaning) → IsDivisor t → (j : ℕ) (pivot row new other : List Meaning) → Cleared a r t j pivot row new
      → Cleared a r t j pivot row other → new ≡ other
  one_cleared t h j pivot row _ _ (stays p) (stays q) = refl
  one_cleared t h j pivot row _ other (stays p) (changes q d) = absurd (not_both (a.ops.is_nought (entry_at a.ops row j)) q p)
  one_cleared t h j pivot row new _ (changes p c) (stays q) = absurd (not_both (a.ops.is_nought (entry_at a.ops row j)) p q)
  one_cleared t h j pivot row new other (changes p c) (changes q d) =
      rl.one_row (bare a c.middle) new other c.reduced
      (subst (λ m. r.Reduced m other)
      (one_divided t h (crossed_at a j pivot row) (bare a d.middle) (bare a c.middle) d.middle c.middle refl refl d.divided c.divided) d.reduced)

  all_cleared : (t : Meaning) → IsDivisor t → (j : ℕ) (pivot : List Meaning) (rows news others : List (List Meaning))
      → AllZip (Cleared a r t j pivot) rows news → AllZip (Cleared a r t j pivot) rows others → news ≡ others
  all_cleared t h j pivot [] [] [] e f = refl
  all_cleared t h j pivot [] [] (k ∷ ks) e f = absurd f
  all_cleared t h j pivot [] (m ∷ ms) ks e f = absurd e
  all_cleared t h j pivot (x ∷ xs) [] ks e f = absurd e
  all_cleared t h j pivot (x ∷ xs) (m ∷ ms) [] e f = absurd f
  all_cleared t h j pivot (x ∷ xs) (m ∷ ms) (k ∷ ks) e f =
      cc (one_cleared t h j pivot x m k e.0 f.0, all_cleared t h j pivot xs ms ks e.1 f.1)

  all_reduced : (rows news others : List (List Meaning)) → AllZip r.Reduced rows news → AllZip r.Reduced rows others → news ≡ others
  all_reduced [] [] [] e f = refl
  all_reduced [] [] (k ∷ ks) e f = absurd f
  all_reduced [] (m ∷ ms) ks e f = absurd e
  all_reduced (x ∷ xs) [] ks e f = absurd e
  all_reduced (x ∷ xs) (m ∷ ms) [] e f = absurd f
  all_reduced (x ∷ xs) (m ∷ ms) (k ∷ ks) e f = cc (rl.one_row x m k e.0 f.0, all_reduced xs ms ks e.1 f.1)

  one_chosen : (j : ℕ) (rows : List (List Meaning)) (p q : ℕ) → Chosen a r j rows p → Chosen a r j rows q → p ≡ q
  one_chosen j rows p q h k =
      ⊎_elim (λ b. absurd (omega (arith, k.first p b h.candidate, h.least q k.within k.candidate)))
      (λ b. ⊎_elim (λ c. absurd (omega (arith, h.first q c k.candidate, k.least p h.within h.candidate))) (λ c. omega (arith, b, c)) (cases_lt q p))
      (cases_lt p q)

  pub candidate_isnt : (j : ℕ) (before after : List (List Meaning)) (pivot : List Meaning)
      → Chosen a r j (before ++ pivot ∷ after) (length before) → IsFalse (a.ops.is_nought (entry_at a.ops pivot j))
  candidate_isnt j before after pivot h =
      subst (λ v. IsFalse (a.ops.is_nought (entry_at a.ops v j))) (middle_of before pivot after []) h.candidate

  not_free : (j : ℕ) (rows : List (List Meaning)) (place : ℕ) → IsFree a j rows → ¬ (Chosen a r j rows place)
  not_free j rows place f h = not_both (a.ops.is_nought (entry a rows place j)) h.candidate (f place [] h.within)

  -- both parts of a value that isn't zero aren't zero
  pub parts_are_divisors : (x plain core : Meaning) → IsFalse (a.ops.is_nought x) → r.Split x plain core → IsDivisor plain × IsDivisor core
  parts_are_divisors x plain core n h =
      let s = rl.splits x plain core h in
      let p : Passing a = (plain, s.plain_passes) in
      let q : Passing a = (core, s.core_passes) in
      let isnt : ¬ (a.ops.product plain core ≡ a.ops.nought) = λ e.
      not_both (a.ops.is_nought x) n (subst (λ m. IsTrue (a.ops.is_nought m)) (sym e ∙ s.is) ((l.ring.is_nought W.nought).1 refl)) in (
        (s.plain_passes, λ e. isnt (ap (λ m. a.ops.product m core) e ∙ ap (λ (v : Passing a). v.0) (nought_product W l.ring q))),
        (s.core_passes, λ e. isnt (ap (a.ops.product plain) e ∙ ap (λ (v : Passing a). v.0) (product_nought W l.ring p))),
      )

  unit_divisor : IsDivisor a.ops.unit
  unit_divisor = (l.closed.unit, λ e. one_isnt (dl.whole_nought (pos 1) (ap (λ (v : Passing a). v.0) l.ring.whole_one ∙ e)))
    where
      one_isnt : ¬ (pos 1 ≡ pos 0)
      one_isnt h = cc

  pub divisor_of : {rows : List (List Meaning)} {j : ℕ} {os : List (List Meaning)} {ps : List (ℕ × List Meaning)} {t : Meaning}
      → Run a r rows j os ps t → IsDivisor t
  divisor_of (begin h) = unit_divisor
  divisor_of (pass q h) = divisor_of q
  divisor_of (climb {j} before after pivot plain {core} q ch cs sp) =
      (parts_are_divisors (entry_at a.ops pivot j) plain core (candidate_isnt j before after pivot ch) sp).1

  record Same (os us : List (List Meaning)) (ps qs : List (ℕ × List Meaning)) (t s : Meaning) : Type 0 where
    rows : os ≡ us
    pivots : ps ≡ qs
    divisors : t ≡ s

  one_run : (rows : List (List Meaning)) {j : ℕ} {os us : List (List Meaning)} {ps qs : List (ℕ × List Meaning)} {t s : Meaning}
      → Run a r rows j os ps t → Run a r rows j us qs s → Same os us ps qs t s
  one_run rows (begin h) (begin k) = record { rows = all_reduced rows _ _ h k; pivots = refl; divisors = refl }
  one_run rows (pass q h) (pass p k) = one_run rows q p
  one_run rows (pass {j} q h) (climb before after pivot plain p ch cs sp) =
      absurd (not_free j (before ++ pivot ∷ after) (length before) (subst (IsFree a j) (one_run rows q p).rows h) ch)
  one_run rows (climb {j} before after pivot plain q ch cs sp) (pass p k) =
      absurd (not_free j (before ++ pivot ∷ after) (length before) (subst (IsFree a j) (sym (one_run rows q p).rows) k) ch)
  one_run rows (climb {j} {t} before after pivot {news} plain {core} q ch cs sp) (climb {t = s} front back row {news = others} part {core = rest} p dh ds dp) =
      let e = one_run rows q p in
      let places : length before ≡ length front =
      one_chosen j (before ++ pivot ∷ after) (length before) (length front) ch (subst (λ v. Chosen a r j v (length front)) (sym e.rows) dh) in
      let same = same_parts before front pivot row after back e.rows places in
      let moved : AllZip (Cleared a r t j pivot) (before ++ after) others =
      subst (λ v. AllZip (Cleared a r v j pivot) (before ++ after) others) (sym e.divisors)
      (subst (λ v. AllZip (Cleared a r s j v) (before ++ after) others) (sym same.1.0)
      (subst (λ v. AllZip (Cleared a r s j row) v others) (sym (cc (same.0, same.1.1))) ds)) in
      record {
        rows = all_cleared t (divisor_of q) j pivot (before ++ after) news others cs moved;
        pivots = cc (e.pivots, same.1.0);
        divisors = (rl.one_split (entry_at a.ops pivot j) plain core part rest sp
            (subst (λ v. r.Split (entry_at a.ops v j) part rest) (sym same.1.0) dp)).1;
      }

  pub one_ran : (columns : ℕ) (rows : List (List Meaning)) (ps qs : List (ℕ × List Meaning)) → Ran a r columns rows ps → Ran a r columns rows qs
      → ps ≡ qs
  one_ran columns rows ps qs h k = (one_run rows h.run k.run).pivots
