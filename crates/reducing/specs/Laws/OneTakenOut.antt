-- Taking factors out of a row leaves one row.
-- These are lemmas: they stand in specs/, since the laws that `Reducing` names rest on them.
use Rattle.std.specs.Prelude.{◌≡◌, suc, ◌-◌, ◌≤◌, List, [], ◌∷◌, IsTrue, refl}
use Rattle.std.specs.List.{AllByRecursion}
use Rattle.std.proofs.Common.{ap, sym, ◌∙◌, subst, arith, ⊎_elim}
use Rattle.std.proofs.lemmas.Bool.{cases_lt}
use Rattle.ring_laws.specs.Meaning.{Meaning}
use Rattle.ring_laws.specs.Algebra.{Ops, Algebra, Passing, within, Laws}
use Rattle.ring_laws.specs.Division.{DomainLaws}
use Rattle.reducing.specs.TakenOut.{raised_to, TakenOut, AllTakenOut, none, next}
use Rattle.reducing.specs.Laws.ScaledRows.{scaled, is_scaled, cancel_row}
use Rattle.reducing.specs.Laws.RowPowers.{raised_not_nought, power_of, left_by_less}

module _ (a : Algebra) (l : Laws a) (d : DomainLaws a) where
  abbrev W : Ops (Passing a)
  W = within a l.closed

  abbrev Row : Type 0
  Row = List (Passing a)

  pub one_taken_out : (t : Passing a) → ¬ (t ≡ W.nought) → (old new other : Row) → TakenOut a t.0 old new → TakenOut a t.0 old other → new ≡ other
  one_taken_out t m old new other h k = ⊎_elim smaller (λ q. ⊎_elim greater (λ p. same q p) (cases_lt k.power h.power)) (cases_lt h.power k.power)
    where
      smaller : suc h.power ≤ k.power → new ≡ other
      smaller b = absurd (h.no_more (scaled a l d (raised_to W t (k.power - suc h.power)) other)
          (is_scaled a l d t new (scaled a l d (raised_to W t (k.power - suc h.power)) other)
          (left_by_less a l d t m h.power k.power old new other b (power_of a l d t old new h) (power_of a l d t old other k))))

      greater : suc k.power ≤ h.power → new ≡ other
      greater b = absurd (k.no_more (scaled a l d (raised_to W t (h.power - suc k.power)) new)
          (is_scaled a l d t other (scaled a l d (raised_to W t (h.power - suc k.power)) new)
          (left_by_less a l d t m k.power h.power old other new b (power_of a l d t old other k) (power_of a l d t old new h))))

      same : k.power ≤ h.power → h.power ≤ k.power → new ≡ other
      same b c = cancel_row a l d (raised_to W t h.power) (raised_not_nought a l d t m h.power) new other
          (sym (power_of a l d t old new h) ∙ power_of a l d t old other k
          ∙ ap (λ n. scaled a l d (raised_to W t n) other) powers)
        where
          powers : k.power ≡ h.power
          powers = omega (arith, b, c)

  -- a factor belongs to the ring and isn't zero
  abbrev pub IsFactor : Meaning → Type 0
  IsFactor t = IsTrue (a.passes t) × ¬ (t ≡ a.ops.nought)

  pub not_zero : (t : Meaning) (f : IsFactor t) → ¬ ((t, f.0) ≡ W.nought)
  not_zero t f e = f.1 (ap (λ (v : Passing a). v.0) e)

  pub one_all_taken_out : (ts : List Meaning) → AllByRecursion IsFactor ts → (old new other : Row) → AllTakenOut a ts old new
      → AllTakenOut a ts old other → new ≡ other
  one_all_taken_out [] f old new other none none = refl
  one_all_taken_out (t ∷ ts) f old new other (next {between = x} h hs) (next {between = y} k ks) =
      one_all_taken_out ts f.1 y new other
      (subst (λ z. AllTakenOut a ts z new) (one_taken_out (t, f.0.0) (not_zero t f.0) old x y h k) hs) ks
