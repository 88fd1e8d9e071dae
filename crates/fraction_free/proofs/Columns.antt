-- One round of elimination: the chosen row is taken out, and the others are cleared.
use Rattle.std.proofs.Common.{◌≡◌, ℕ, zero, suc, ◌+◌, ◌<◌, Bool, IsTrue, IsFalse, List, [], ◌∷◌, ◌++◌, map, length, get_or, take, drop, sym, ap, ◌∙◌, subst, arith, All, Result, Ok, Err, Option, Vec, IsErrAnd, pos}
use Rattle.std.specs.List.{AllZip}
use Rattle.std.proofs.lemmas.List.{length-map, map-append, length-take, get_or-map}
use Rattle.ring_laws.specs.Meaning.{Meaning}
use Rattle.ring_laws.specs.Algebra.{Ops, Algebra, Passing, within, Laws, same_passing}
use Rattle.ring_laws.specs.Answer.{OnFault, fault_weaker}
use Rattle.ring_laws.specs.Division.{DomainLaws}
use Rattle.ring_laws.specs.declared.faults.RingFault.{RingFault}
use Rattle.poly_laws.proofs.ListLaws.{product_nought, nought_product}
use Rattle.kernel_laws.specs.Rows.{entry_at}
use Rattle.kernel_laws.specs.Pivots.{ArePivotColumns}
use Rattle.kernel_laws.specs.Reduction.{Reduction, ReductionLaws, Splits}
use Rattle.kernel_laws.specs.Elimination.{Cleared, ClearingInBounds, Chosen, IsFree, Run, RunInBounds, begin, pass, climb}
use Rattle.kernel_laws.proofs.Parts.{middle_of}
use Rattle.fraction_free.specs.declared.rounds.Round.{Round}
use Rattle.fraction_free.specs.declared.rounds.Eliminated.{Eliminated}
use Rattle.fraction_free.specs.RowAnswers.{rows_meant}
use Rattle.fraction_free.specs.RoundAnswers.{Rounds, RoundInBounds, GivesRound, GivesPivots}
use Rattle.fraction_free.proofs.RowLemmas.{false_from}
use Rattle.fraction_free.proofs.ManyRows.{row_meant, split_at}

pub fault_round : {T : Type 0} (meaning : T → Meaning) (a : Algebra) (r : Reduction) (t : Meaning) (column : ℕ) (rows : List (List Meaning))
    (place : ℕ) (InBounds : Type 0) (out : Result (Round T) RingFault) (fault : RingFault) → IsErrAnd out (λ e. e ≡ fault)
    → OnFault (¬ InBounds) fault → GivesRound meaning a r t column rows place InBounds out
fault_round meaning a r t column rows place InBounds (Ok v) fault e h = absurd e
fault_round meaning a r t column rows place InBounds (Err d) fault e h = subst (OnFault (¬ InBounds)) (sym e) h

pub fault_pivots : {T : Type 0} (meaning : T → Meaning) (P : List (ℕ × List Meaning) → Option ℕ → Type 0) (InBounds : Type 0)
    (out : Result (Eliminated T) RingFault) (fault : RingFault) → IsErrAnd out (λ e. e ≡ fault) → OnFault (¬ InBounds) fault
    → GivesPivots meaning P InBounds out
fault_pivots meaning P InBounds (Ok v) fault e h = absurd e
fault_pivots meaning P InBounds (Err d) fault e h = subst (OnFault (¬ InBounds)) (sym e) h

module _ {T Z : Type 0} (a : Algebra) (meaning : T → Meaning) (r : Reduction) (t : Meaning) (column : ℕ) (rows removed : List (Vec T Z))
    (place : ℕ) (row : Vec T Z) (b : place < length rows) (e : row ≡ get_or rows place row) (q : removed ≡ take place rows ++ drop (place + 1) rows) where
  abbrev before : List (List Meaning)
  before = rows_meant meaning (take place rows)

  abbrev after : List (List Meaning)
  after = rows_meant meaning (drop (place + 1) rows)

  rows_are : rows_meant meaning rows ≡ before ++ row_meant meaning row ∷ after
  rows_are = ap (map (row_meant meaning)) (split_at rows place row b e)
      ∙ map-append (row_meant meaning) (take place rows) (row ∷ drop (place + 1) rows)

  removed_is : rows_meant meaning removed ≡ before ++ after
  removed_is = ap (map (row_meant meaning)) q ∙ map-append (row_meant meaning) (take place rows) (drop (place + 1) rows)

  place_is : place ≡ length before
  place_is = omega (arith, length-map (take place rows) (row_meant meaning), length-take place rows, b)

  -- the chosen entry isn't zero
  pub chosen_isnt : Chosen a r column (rows_meant meaning rows) place → IsFalse (a.ops.is_nought (entry_at a.ops (row_meant meaning row) column))
  chosen_isnt h =
      subst (λ v. IsFalse (a.ops.is_nought (entry_at a.ops v column)))
      (get_or-map (row_meant meaning) rows place row [] b ∙ ap (row_meant meaning) (sym e)) h.candidate

  pub rounds_made : (news : List (List Meaning)) (plain core : Meaning) → AllZip (Cleared a r t column (row_meant meaning row)) (rows_meant meaning removed) news
      → r.Split (entry_at a.ops (row_meant meaning row) column) plain core
      → Rounds a r t column (rows_meant meaning rows) place news (row_meant meaning row) core
  rounds_made news plain core c s = record {
    before = before;
    after = after;
    rows_are = rows_are;
    place_is = place_is;
    cleared = subst (λ v. AllZip (Cleared a r t column (row_meant meaning row)) v news) removed_is c;
    plain = plain;
    split = s;
  }

  module _ (DivisionInBounds : Meaning → Meaning → Type 0) where
    abbrev InBounds : Type 0
    InBounds = RoundInBounds DivisionInBounds a r t column (rows_meant meaning rows) place

    pub clear_not : (fault : RingFault)
        → OnFault (¬ (All (ClearingInBounds DivisionInBounds a r t column (row_meant meaning row)) (rows_meant meaning removed))) fault
        → OnFault (¬ InBounds) fault
    clear_not fault h =
        fault_weaker fault (λ n k. n (subst (All (ClearingInBounds DivisionInBounds a r t column (row_meant meaning row))) (sym removed_is)
        (k before after (row_meant meaning row) rows_are place_is).0)) h

    pub core_not : (fault : RingFault) (x : Meaning) → x ≡ entry_at a.ops (row_meant meaning row) column → OnFault (¬ (r.CoreInBounds x)) fault
        → OnFault (¬ InBounds) fault
    core_not fault x f h =
        fault_weaker fault (λ n k. n (subst r.CoreInBounds (sym f) (k before after (row_meant meaning row) rows_are place_is).1)) h

-- ---- the run over all columns
isnt_true : (b : Bool) → IsFalse b → ¬ (IsTrue b)
isnt_true b e h = cc (e, h)

-- the parts of something that isn't zero aren't zero
module _ (a : Algebra) (r : Reduction) (rl : ReductionLaws a r) (l : Laws a) (x plain core : Meaning) (s : r.Split x plain core)
    (f : IsFalse (a.ops.is_nought x)) (px : IsTrue (a.passes x)) where
  abbrev o : Ops (Passing a)
  o = within a l.closed

  abbrev w : Splits a x plain core
  w = rl.splits x plain core s

  abbrev c : Passing a
  c = (core, w.core_passes)

  abbrev p : Passing a
  p = (plain, w.plain_passes)

  x_isnt : ¬ (o.product p c ≡ o.nought)
  x_isnt e =
      isnt_true (a.ops.is_nought x) f ((l.ring.is_nought (x, px)).1
      (same_passing a (x, px) o.nought (sym w.is ∙ ap (λ (v : Passing a). v.0) e)))

  pub core_isnt : IsFalse (a.ops.is_nought core)
  core_isnt = false_from (a.ops.is_nought core) (λ h. x_isnt (ap (o.product p) ((l.ring.is_nought c).0 h) ∙ product_nought o l.ring p))

  pub plain_isnt : IsFalse (a.ops.is_nought plain)
  plain_isnt =
      false_from (a.ops.is_nought plain) (λ h. x_isnt (ap (λ t. o.product t c) ((l.ring.is_nought p).0 h) ∙ nought_product o l.ring c))

pub unit_isnt : (a : Algebra) (l : Laws a) → DomainLaws a → (t : Meaning) → t ≡ a.ops.unit → IsFalse (a.ops.is_nought t)
unit_isnt a l dl t e =
    subst (λ v. IsFalse (a.ops.is_nought v)) (sym e)
    (false_from (a.ops.is_nought a.ops.unit) (λ h. one_isnt (dl.whole_nought (pos 1)
    (ap (λ (v : Passing a). v.0) (l.ring.whole_one ∙ (l.ring.is_nought (within a l.closed).unit).0 h)))))
  where
    one_isnt : ¬ (pos 1 ≡ pos 0)
    one_isnt e = cc

module _ (a : Algebra) (r : Reduction) (rows : List (List Meaning)) where
  pub run_begin : (os : List (List Meaning)) (ps : List (ℕ × List Meaning)) (t : Meaning) → AllZip r.Reduced rows os → ps ≡ [] → t ≡ a.ops.unit
      → Run a r rows 0 os ps t
  run_begin os ps t c e f = subst (λ v. Run a r rows 0 os v t) (sym e) (subst (λ v. Run a r rows 0 os [] v) (sym f) (begin c))

  pub run_pass : (j : ℕ) (os os' : List (List Meaning)) (ps ps' : List (ℕ × List Meaning)) (t t' : Meaning) → Run a r rows j os ps t → IsFree a j os
      → os' ≡ os → ps' ≡ ps → t' ≡ t → Run a r rows (j + 1) os' ps' t'
  run_pass j os os' ps ps' t t' run h e f g =
      let m : suc j ≡ j + 1 = omega arith in
      subst (λ k. Run a r rows k os' ps' t') m
      (subst (λ v. Run a r rows (suc j) v ps' t') (sym e) (subst (λ v. Run a r rows (suc j) os v t') (sym f)
      (subst (λ v. Run a r rows (suc j) os ps v) (sym g) (pass run h))))

  pub run_climb : (j place : ℕ) (os news os' : List (List Meaning)) (ps ps' : List (ℕ × List Meaning)) (t core t' : Meaning) (pivot : List Meaning)
      → Run a r rows j os ps t → Chosen a r j os place → Rounds a r t j os place news pivot core → os' ≡ news
      → ps' ≡ ps ++ (j, pivot) ∷ [] → t' ≡ core → Run a r rows (j + 1) os' ps' t'
  run_climb j place os news os' ps ps' t core t' pivot run ch h e f g =
      let m : suc j ≡ j + 1 = omega arith in
      subst (λ k. Run a r rows k os' ps' t') m
      (subst (λ v. Run a r rows (suc j) v ps' t') (sym e) (subst (λ v. Run a r rows (suc j) news v t') (sym f)
      (subst (λ v. Run a r rows (suc j) news (ps ++ (j, pivot) ∷ []) v) (sym g)
      (climb h.before h.after pivot h.plain (subst (λ v. Run a r rows j v ps t) h.rows_are run)
      (subst (λ v. Chosen a r j (h.before ++ pivot ∷ h.after) v) h.place_is (subst (λ v. Chosen a r j v place) h.rows_are ch)) h.cleared h.split))))

  pub round_not : (DivisionInBounds : Meaning → Meaning → Type 0) (columns first j place : ℕ) (os : List (List Meaning))
      (ps : List (ℕ × List Meaning)) (t : Meaning) (fault : RingFault) → j < columns → ArePivotColumns first j ps → Run a r rows j os ps t
      → Chosen a r j os place → OnFault (¬ (RoundInBounds DivisionInBounds a r t j os place)) fault
      → OnFault (¬ (RunInBounds DivisionInBounds a r columns first rows)) fault
  round_not DivisionInBounds columns first j place os ps t fault b c run ch h =
      fault_weaker fault (λ n k. n (λ before after pivot e f. k.clearing j before after pivot ps t b c
      (subst (λ v. Run a r rows j v ps t) e run)
      (subst (λ v. Chosen a r j (before ++ pivot ∷ after) v) f (subst (λ v. Chosen a r j v place) e ch)))) h

-- the entry of the chosen row belongs to the ring and isn't zero, so the core isn't zero
pub entry_belongs : {T : Type 0} (a : Algebra) (l : Laws a) (meaning : T → Meaning) (passes : (x : T) → IsTrue (a.passes (meaning x)))
    (xs : List T) (k : ℕ) → IsTrue (a.passes (entry_at a.ops (map meaning xs) k))
entry_belongs a l meaning passes [] k = l.closed.nought
entry_belongs a l meaning passes (x ∷ xs) zero = passes x
entry_belongs a l meaning passes (x ∷ xs) (suc k) = entry_belongs a l meaning passes xs k

pub round_core : {T Z : Type 0} (a : Algebra) (meaning : T → Meaning) (passes : (x : T) → IsTrue (a.passes (meaning x))) (r : Reduction)
    (rl : ReductionLaws a r) (l : Laws a) (t : Meaning) (j place : ℕ) (os : List (List Meaning)) (news : List (List Meaning)) (pivot : Vec T Z)
    (core : Meaning) → Chosen a r j os place → Rounds a r t j os place news (map meaning pivot.items) core → IsFalse (a.ops.is_nought core)
round_core a meaning passes r rl l t j place os news pivot core ch h =
    core_isnt a r rl l (entry_at a.ops (map meaning pivot.items) j) h.plain core h.split
    (subst (λ v. IsFalse (a.ops.is_nought (entry_at a.ops v j))) (ap (λ v. get_or v place []) h.rows_are
    ∙ ap (λ k. get_or (h.before ++ map meaning pivot.items ∷ h.after) k []) h.place_is ∙ middle_of h.before (map meaning pivot.items) h.after [])
    ch.candidate)
    (entry_belongs a l meaning passes pivot.items j)
