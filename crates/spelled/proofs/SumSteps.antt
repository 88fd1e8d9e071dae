-- The steps of reading a sum, monomial by monomial.
use Rattle.std.specs.Prelude.{◌≡◌, ◌≢◌, ℕ, ℤ, pos, negsuc, unsigned_abs, Bool, true, false, List, [], ◌∷◌, ◌++◌, map, drop, codes, Option, Some, None}
use Rattle.std.specs.Option.{MatchOption}
use Rattle.std.specs.List.{AllByRecursion, flat_map}
use Rattle.std.proofs.Common.{refl, ap, sym, subst, ◌∙◌, arith, append_assoc, append-nil, get_or, Bor}
use Rattle.std.proofs.lemmas.List.{map-append}
use Rattle.exact_texts.specs.Texts.{Only}
use Rattle.exact_texts.specs.Sums.{body_text, sign_of, signed_text, without_plus, sum_text, IsMonomial}
use Rattle.exact_texts.proofs.Cuts.{Stops, cut}
use Rattle.exact_texts.proofs.SumLists.{unsigned, body_unsigned, signed_stop, rest_text, no_sign}
use Rattle.spelled.specs.Monomials.{MonomialValue, signed_number, IsSigned, sign_byte, monomial_of}
use Rattle.spelled.specs.declared.monomials.Monomial as declared

-- the monomials so far, and those of the rest, are all
pub record IsSumAhead (all done : List MonomialValue) (negative : Bool) (rest : List ℕ) : Type 0 where
  pub head : MonomialValue
  pub others : List MonomialValue
  pub each : AllByRecursion IsMonomial (head ∷ others)
  pub signed : IsSigned negative head
  pub whole : all ≡ done ++ head ∷ others
  pub spelled : rest ≡ body_text head ++ flat_map signed_text others

abbrev pub IsCut : List ℕ → List ℕ → Option (Bool × Bor (List ℕ)) → Type 0
IsCut rest body more = MatchOption more (rest ≡ body) (λ x. rest ≡ body ++ sign_byte x.0 ∷ x.1.now)

sign_told : (b : Bool) (z : ℤ) → sign_byte b ≡ sign_of z → z ≡ signed_number b (unsigned_abs z)
sign_told true (pos n) e = absurd (omega (arith, e))
sign_told true (negsuc n) e = refl
sign_told false (pos n) e = refl
sign_told false (negsuc n) e = absurd (omega (arith, e))

sign_outside : (b : Bool) → unsigned (sign_byte b) ≡ false
sign_outside true = refl
sign_outside false = refl

module _ (all done : List MonomialValue) (negative : Bool) (rest body : List ℕ) (a : IsSumAhead all done negative rest)
    (only : Only unsigned body) where
  cut_body : (behind : List ℕ) → Stops unsigned behind → rest ≡ body ++ behind → (body ≡ body_text a.head) × (behind ≡ flat_map signed_text a.others)
  cut_body behind s e = cut unsigned body (body_text a.head) behind (flat_map signed_text a.others) only (body_unsigned a.head a.each.0) s
      (signed_stop a.others)
      (sym e ∙ a.spelled)

  -- the body is that of the first monomial of the rest
  pub body_is : (more : Option (Bool × Bor (List ℕ))) → IsCut rest body more → body ≡ body_text a.head
  body_is None c = (cut_body [] tt (c ∙ sym (append-nil body))).0
  body_is (Some x) c = (cut_body (sign_byte x.0 ∷ x.1.now) (sign_outside x.0) c).0

  no_others : (ms : List MonomialValue) → [] ≡ flat_map signed_text ms → ms ≡ []
  no_others [] e = refl
  no_others (m ∷ ms) e = absurd cc

  -- the last monomial
  pub sum_ended : IsCut rest body None → (done ++ a.head ∷ []) ≡ all
  sum_ended c =
      sym (a.whole ∙ ap (λ t. done ++ a.head ∷ t) (no_others a.others (cut_body [] tt (c ∙ sym (append-nil body))).1))

  -- one monomial more
  pub sum_goes_on : (sign : Bool) (behind : Bor (List ℕ)) (new : List MonomialValue) → IsCut rest body (Some (sign, behind))
      → new ≡ done ++ a.head ∷ []
      → IsSumAhead all new sign behind.now
  sum_goes_on sign behind new c n = go a.others refl
    where
      parts : (body ≡ body_text a.head) × (sign_byte sign ∷ behind.now ≡ flat_map signed_text a.others)
      parts = cut_body (sign_byte sign ∷ behind.now) (sign_outside sign) c

      go : (ms : List MonomialValue) → a.others ≡ ms → IsSumAhead all new sign behind.now
      go [] e = let never = parts.1 ∙ ap (flat_map signed_text) e in absurd cc
      go (m ∷ ms) e =
          let same = parts.1 ∙ ap (flat_map signed_text) e in
          let each = subst (AllByRecursion IsMonomial) e a.each.1 in
          record {
            head = m;
            others = ms;
            each = each;
            signed = sign_told sign m.coefficient (ap (λ t. get_or t 0 0) same);
            whole = a.whole ∙ ap (λ t. done ++ a.head ∷ t) e ∙ sym (append_assoc done (a.head ∷ []) (m ∷ ms)) ∙ ap (λ t. t ++ m ∷ ms) (sym n);
            spelled = ap (drop 1) same;
          }

pub one_more : (xs new : List declared.Monomial) (x : declared.Monomial) (m : MonomialValue) → new ≡ xs ++ x ∷ [] → monomial_of x ≡ m
    → map monomial_of new ≡ map monomial_of xs ++ m ∷ []
one_more xs new x m e h = ap (map monomial_of) e ∙ map-append monomial_of xs (x ∷ []) ∙ ap (λ y. map monomial_of xs ++ y ∷ []) h

all_more : (ms : List MonomialValue) (m : MonomialValue) → AllByRecursion IsMonomial ms → IsMonomial m → AllByRecursion IsMonomial (ms ++ m ∷ [])
all_more [] m p h = (h, tt)
all_more (w ∷ ms) m p h = (p.0, all_more ms m p.1 h)

pub has_more : (xs new : List declared.Monomial) (x : declared.Monomial) → new ≡ xs ++ x ∷ [] → AllByRecursion IsMonomial (map monomial_of xs)
    → IsMonomial (monomial_of x)
    → AllByRecursion IsMonomial (map monomial_of new)
has_more xs new x e p h = subst (AllByRecursion IsMonomial) (sym (one_more xs new x (monomial_of x) e refl))
    (all_more (map monomial_of xs) (monomial_of x) p h)

-- the front of a sum tells the sign of its first monomial
pub record Fronts (text : List ℕ) (negative : Bool) (rest : List ℕ) (ms : List MonomialValue) : Type 0 where
  pub head : MonomialValue
  pub others : List MonomialValue
  pub whole : ms ≡ head ∷ others
  pub signed : IsSigned negative head
  pub spelled : rest ≡ body_text head ++ flat_map signed_text others

pub minus_first : (text rest : List ℕ) (ms : List MonomialValue) → AllByRecursion IsMonomial ms → text ≡ sum_text ms → text ≢ codes "0"
    → text ≡ 45 ∷ rest
    → Fronts text true rest ms
minus_first text rest [] p e some f = absurd (some e)
minus_first text rest (m ∷ ms) p e some f = go m.coefficient refl (sym f ∙ e)
  where
    go : (z : ℤ) → m.coefficient ≡ z → 45 ∷ rest ≡ without_plus (sign_of z ∷ rest_text m ms) → Fronts text true rest (m ∷ ms)
    go (pos a) c x = absurd (no_sign m ms rest p.0 (sym x))
    go (negsuc a) c x = record {
      head = m;
      others = ms;
      whole = refl;
      signed = c ∙ ap (λ z. signed_number true (unsigned_abs z)) (sym c);
      spelled = ap (drop 1) x;
    }

pub plus_first : (text : List ℕ) (ms : List MonomialValue) → AllByRecursion IsMonomial ms → text ≡ sum_text ms → text ≢ codes "0"
    → ((rest : List ℕ) → text ≢ 45 ∷ rest) → Fronts text false text ms
plus_first text [] p e some f = absurd (some e)
plus_first text (m ∷ ms) p e some f = go m.coefficient refl e
  where
    go : (z : ℤ) → m.coefficient ≡ z → text ≡ without_plus (sign_of z ∷ rest_text m ms) → Fronts text false text (m ∷ ms)
    go (pos a) c x = record {
      head = m;
      others = ms;
      whole = refl;
      signed = c ∙ ap (λ z. signed_number false (unsigned_abs z)) (sym c);
      spelled = x;
    }
    go (negsuc a) c x = absurd (f (rest_text m ms) x)
