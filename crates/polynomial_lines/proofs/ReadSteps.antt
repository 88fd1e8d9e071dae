-- The steps of reading the coefficients of a polynomial from its monomials.
use Rattle.std.specs.Prelude.{◌≡◌, ◌≢◌, ℕ, suc, ◌+◌, ◌≤◌, List, [], ◌∷◌, ◌++◌, map, length}
use Rattle.std.proofs.Common.{refl, ap, sym, ◌∙◌, subst, arith, append_assoc, append-nil}
use Rattle.std.proofs.lemmas.List.{map-append, length-append}
use Rattle.std.proofs.lemmas.Bool.{and_parts}
use Rattle.ring_laws.specs.Meaning.{Meaning}
use Rattle.poly_laws.specs.PolyAlgebra.{every_passes}
use Rattle.poly_laws.specs.Values.{level}
use Rattle.hypergeometric.specs.TermFacts.{IsPolynomial}
use Rattle.polynomial_sums.specs.PolynomialSums.{Letter, letter_n, letter_k, letter_x, power_in, with_power, falling, monomials_of, times, AreDistinct, IsFree}
use Rattle.polynomial_sums.proofs.Powers.{HavePower, HaveAtLeast, all_set}
use Rattle.polynomial_sums.proofs.Letters.{falling_from, monomials_apart}
use Rattle.polynomial_sums.proofs.Telling.{AreTold, monomials_told, not_none, map_empty, rest_trimmed}
use Rattle.polynomial_sums.proofs.Placing.{falling_times, all_times_set, free_set}
use Rattle.spelled.specs.Monomials.{MonomialValue}
use Rattle.polynomial_lines.specs.Coefficients.{AreCoefficients}

-- the coefficients so far and those ahead are all, and the rest has the monomials of those ahead
pub record AreAhead (l : Letter) (ls : List Letter) (levels : ℕ) (powers : MonomialValue) (all done : List Meaning) (rest : List MonomialValue)
    : Type 0 where
  pub ahead : List Meaning
  pub are : AreCoefficients levels ahead
  pub whole : all ≡ done ++ ahead
  pub short : length done + length ahead ≤ 256
  pub spelled : rest ≡ map (times powers) (falling l (monomials_of ls) ahead (length done))

-- multiplying by powers without a letter keeps its powers
times_keeps : (l : Letter) (powers m : MonomialValue) → power_in l powers ≡ 0 → power_in l (times powers m) ≡ power_in l m
times_keeps letter_n powers m e = omega (arith, e)
times_keeps letter_k powers m e = omega (arith, e)
times_keeps letter_x powers m e = omega (arith, e)

still : (l : Letter) (powers : MonomialValue) (p : ℕ) (ms : List MonomialValue) → power_in l powers ≡ 0 → HavePower l p ms
    → HavePower l p (map (times powers) ms)
still l powers p [] e h = tt
still l powers p (m ∷ ms) e h = (times_keeps l powers m e ∙ h.0, still l powers p ms e h.1)

still_at_least : (l : Letter) (powers : MonomialValue) (p : ℕ) (ms : List MonomialValue) → power_in l powers ≡ 0 → HaveAtLeast l p ms
    → HaveAtLeast l p (map (times powers) ms)
still_at_least l powers p [] e h = tt
still_at_least l powers p (m ∷ ms) e h = (subst (λ q. p ≤ q) (sym (times_keeps l powers m e)) h.0, still_at_least l powers p ms e h.1)

-- what is next: a coefficient, whose monomials are the last ones, and the monomials of the others in front of them
pub record IsNext (l : Letter) (ls : List Letter) (levels count : ℕ) (powers : MonomialValue) (all done : List Meaning) (rest : List MonomialValue)
    : Type 0 where
  pub next : Meaning
  pub polynomial : IsPolynomial levels next
  pub front : List MonomialValue
  pub last : List MonomialValue
  pub parts : rest ≡ front ++ last
  pub greater : HaveAtLeast l (suc count) front
  pub equal : HavePower l count last
  pub spelled : last ≡ map (times (with_power l count powers)) (monomials_of ls next)
  pub free : IsFree ls (with_power l count powers)
  pub after : AreAhead l ls levels powers all (done ++ next ∷ []) front

module _ (l : Letter) (ls : List Letter) (distinct : AreDistinct (l ∷ ls)) (powers : MonomialValue) (free : IsFree (l ∷ ls) powers)
    (all done : List Meaning) (rest : List MonomialValue) where
  told : AreTold ls
  told = monomials_told ls distinct.1

  -- where no monomials are left, no coefficients are
  ended : AreAhead l ls (length ls) powers all done rest → rest ≡ [] → done ≡ all
  ended a e = go a.ahead a.are a.whole (sym a.spelled ∙ e)
    where
      go : (ahead : List Meaning) → AreCoefficients (length ls) ahead → all ≡ done ++ ahead
          → map (times powers) (falling l (monomials_of ls) ahead (length done)) ≡ [] → done ≡ all
      go [] are whole none = sym (whole ∙ append-nil done)
      go (c ∷ cs) are whole none =
          absurd (not_none l ls distinct.0 told c cs (length done) are.passes are.trimmed
          (map_empty l ls distinct.0 told (times powers) (falling l (monomials_of ls) (c ∷ cs) (length done)) none))

  -- where some are left, a coefficient is next
  goes_on : AreAhead l ls (length ls) powers all done rest → rest ≢ [] → IsNext l ls (length ls) (length done) powers all done rest
  goes_on a some = go a.ahead a.are a.whole a.short a.spelled
    where
      go : (ahead : List Meaning) → AreCoefficients (length ls) ahead → all ≡ done ++ ahead → length done + length ahead ≤ 256
          → rest ≡ map (times powers) (falling l (monomials_of ls) ahead (length done))
          → IsNext l ls (length ls) (length done) powers all done rest
      go [] are whole short spelled = absurd (some spelled)
      go (c ∷ cs) are whole short spelled =
          let i = length done in
          let passes = and_parts ((level (length ls)).passes c) (every_passes (level (length ls)).passes cs) are.passes in
          let more : length (done ++ c ∷ []) ≡ suc i = length-append done (c ∷ []) ∙ omega arith in
          let last = all_times_set l i powers (monomials_of ls c) free.0 (monomials_apart l ls distinct.0 c) in
          record {
            next = c;
            polynomial = record { passes = passes.0; fits = are.fits.0 };
            front = map (times powers) (falling l (monomials_of ls) cs (suc i));
            last = map (times (with_power l i powers)) (monomials_of ls c);
            parts = spelled ∙ falling_times l ls powers c cs i distinct.0 free.0;
            greater = still_at_least l powers (suc i) (falling l (monomials_of ls) cs (suc i)) free.0 (falling_from l (monomials_of ls) cs (suc i));
            equal = subst (HavePower l i) last
                (still l powers i (map (with_power l i) (monomials_of ls c)) free.0 (all_set l i (monomials_of ls c)));
            spelled = refl;
            free = free_set l i ls powers distinct.0 free.1;
            after = record {
              ahead = cs;
              are = record { passes = passes.1; trimmed = rest_trimmed l ls distinct.0 told c cs are.trimmed; fits = are.fits.1 };
              whole = whole ∙ sym (append_assoc done (c ∷ []) cs);
              short = omega (arith, more, short);
              spelled = ap (λ j. map (times powers) (falling l (monomials_of ls) cs j)) (sym more);
            };
          }

  -- the same by the number of levels, and by how many coefficients there are so far
  module _ (levels : ℕ) (one_each : length ls ≡ levels) (a : AreAhead l ls levels powers all done rest) where
    pub read_all : rest ≡ [] → done ≡ all
    read_all e = ended (subst (λ n. AreAhead l ls n powers all done rest) (sym one_each) a) e

    pub read_next : (count : ℕ) → length done ≡ count → rest ≢ [] → IsNext l ls levels count powers all done rest
    read_next count counted some =
        subst (λ n. IsNext l ls n count powers all done rest) one_each
        (subst (λ k. IsNext l ls (length ls) k powers all done rest) counted
        (goes_on (subst (λ n. AreAhead l ls n powers all done rest) (sym one_each) a) some))

pub none_there : {X Y : Type 0} (f : X → Y) (xs : List X) → length xs ≡ 0 → map f xs ≡ []
none_there f [] e = refl
none_there f (x ∷ xs) e = absurd (omega (arith, e))

pub some_there : {X Y : Type 0} (f : X → Y) (xs : List X) → ¬ (length xs ≡ 0) → map f xs ≢ []
some_there f [] n e = n refl
some_there f (x ∷ xs) n e = absurd cc

-- one coefficient more is read
pub one_read : {T : Type 0} (meaning : T → Meaning) (l : Letter) (ls : List Letter) (levels count : ℕ) (powers : MonomialValue) (all : List Meaning)
    (xs new : List T) (x : T) (rest front : List MonomialValue) → (n : IsNext l ls levels count powers all (map meaning xs) rest)
    → new ≡ xs ++ x ∷ [] → meaning x ≡ n.next → front ≡ n.front → AreAhead l ls levels powers all (map meaning new) front
one_read meaning l ls levels count powers all xs new x rest front n e f g =
    let done : map meaning xs ++ n.next ∷ [] ≡ map meaning new =
    ap (λ y. map meaning xs ++ y ∷ []) (sym f) ∙ sym (map-append meaning xs (x ∷ [])) ∙ ap (map meaning) (sym e) in
    subst (AreAhead l ls levels powers all (map meaning new)) (sym g)
    (subst (λ t. AreAhead l ls levels powers all t n.front) done n.after)

pub one_longer : {T : Type 0} (xs new : List T) (x : T) → new ≡ xs ++ x ∷ [] → length xs ≤ 256 → length xs ≢ 256 → length new ≤ 256
one_longer xs new x e short less = omega (arith, ap length e ∙ length-append xs (x ∷ []), short, less)
