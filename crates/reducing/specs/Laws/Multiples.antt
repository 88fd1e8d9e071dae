-- A row that is another one times something that isn't zero, as every reduction leaves it.
-- These are lemmas: they stand in specs/, since the laws that `Reducing` names rest on them.
use Rattle.std.specs.Prelude.{◌≡◌, ℕ, zero, suc, List, [], ◌∷◌, length, refl}
use Rattle.std.specs.List.{AllByRecursion}
use Rattle.std.proofs.Common.{ap, sym, ◌∙◌}
use Rattle.ring_laws.specs.Meaning.{Meaning}
use Rattle.ring_laws.specs.Algebra.{Ops, Algebra, Passing, within, Laws, same_passing}
use Rattle.ring_laws.specs.Division.{DomainLaws}
use Rattle.poly_laws.proofs.ListLaws.{product_nought}
use Rattle.kernel_laws.specs.Rows.{entry_at}
use Rattle.kernel_laws.specs.Reduction.{Reduces, bare}
use Rattle.reducing.specs.TakenOut.{raised_to, TakenOut, AllTakenOut, none, next}
use Rattle.reducing.specs.Laws.ScaledRows.{scaled, scaled_twice, unit_not_nought, product_not_nought}
use Rattle.reducing.specs.Laws.RowPowers.{raised_not_nought, power_of, no_power}
use Rattle.reducing.specs.Laws.OneTakenOut.{IsFactor, not_zero}

module _ (a : Algebra) (l : Laws a) (d : DomainLaws a) where
  abbrev W : Ops (Passing a)
  W = within a l.closed

  abbrev Row : Type 0
  Row = List (Passing a)

  -- the old row is the new one times something that isn't zero
  pub record Multiple (old new : Row) : Type 0 where
    pub factor : Passing a
    pub not_zero : ¬ (factor ≡ W.nought)
    pub is : old ≡ scaled a l d factor new

  pub multiple_twice : (old between new : Row) → Multiple old between → Multiple between new → Multiple old new
  multiple_twice old between new h k = record {
    factor = W.product k.factor h.factor;
    not_zero = product_not_nought a l d k.factor h.factor k.not_zero h.not_zero;
    is = h.is ∙ ap (scaled a l d h.factor) k.is ∙ scaled_twice a l d h.factor k.factor new;
  }

  pub taken_out_multiple : (t : Passing a) → ¬ (t ≡ W.nought) → (old new : Row) → TakenOut a t.0 old new → Multiple old new
  taken_out_multiple t m old new h = record {
    factor = raised_to W t h.power;
    not_zero = raised_not_nought a l d t m h.power;
    is = power_of a l d t old new h;
  }

  pub same_multiple : (row : Row) → Multiple row row
  same_multiple row = record { factor = W.unit; not_zero = unit_not_nought a l d; is = no_power a l d W.unit row }

  pub all_taken_out_multiple : (ts : List Meaning) → AllByRecursion (IsFactor a l d) ts → (old new : Row) → AllTakenOut a ts old new → Multiple old new
  all_taken_out_multiple [] f old new none = same_multiple old
  all_taken_out_multiple (t ∷ ts) f old new (next {between = x} h hs) =
      multiple_twice old x new (taken_out_multiple (t, f.0.0) (not_zero a l d t f.0) old x h) (all_taken_out_multiple ts f.1 x new hs)

  at_scaled : (t : Passing a) (row : Row) (k : ℕ) → a.ops.product t.0 (entry_at a.ops (bare a row) k) ≡ entry_at a.ops (bare a (scaled a l d t row)) k
  at_scaled t [] k = ap (λ (v : Passing a). v.0) (product_nought W l.ring t)
  at_scaled t (x ∷ xs) zero = ap (λ (v : Passing a). v.0) (l.ring.product_comm t x)
  at_scaled t (x ∷ xs) (suc k) = at_scaled t xs k

  length-scaled : (t : Passing a) (row : Row) → length (bare a (scaled a l d t row)) ≡ length (bare a row)
  length-scaled t [] = refl
  length-scaled t (x ∷ xs) = ap suc (length-scaled t xs)

  -- what a reduction of rows has to give
  pub multiple_reduces : (old new : Row) → Multiple old new → Reduces a (bare a old) (bare a new)
  multiple_reduces old new h = record {
    size = sym (length-scaled h.factor new) ∙ ap (λ r. length (bare a r)) (sym h.is);
    row = new;
    row_is = refl;
    factor = h.factor;
    not_zero = λ e. h.not_zero (same_passing a h.factor W.nought e);
    is = λ k. at_scaled h.factor new k ∙ ap (λ r. entry_at a.ops (bare a r) k) (sym h.is);
  }
