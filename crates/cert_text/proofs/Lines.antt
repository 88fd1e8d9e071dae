-- How many lines two texts share.
use Rattle.std.specs.Prelude.{◌≡◌, ◌≢◌, ℕ, zero, suc, ◌+◌, ◌<◌, Bool, true, false, if◌then◌else◌, nat_eq, List, [], ◌∷◌, length, drop, get_or}
use Rattle.std.proofs.Common.{refl, ap, sym, subst, ◌∙◌, arith, drop-cons}
use Rattle.std.proofs.lemmas.Bool.{eqb-true, eq-eqb, ne_eqb}
use Rattle.cert_text.specs.Readable.{Contents, document_of, AreReadable, SameLines, IsFirstBadLine, carried}
use Rattle.document_text.specs.Document.{document_text}
use Rattle.cert_text.specs.Reading.{counted}

-- the lines that both texts have before they part
abbrev pub lines_shared : List ℕ → List ℕ → ℕ
lines_shared [] ys = 0
lines_shared (x ∷ xs) [] = 0
lines_shared (x ∷ xs) (y ∷ ys) = if nat_eq x y then counted x (lines_shared xs ys) else 0

-- equal first bytes in front of shared lines
in_front : (x y n : ℕ) (xs ys : List ℕ) → x ≡ y → SameLines n xs ys → SameLines (counted x n) (x ∷ xs) (y ∷ ys)
in_front x y n xs ys e same = go (nat_eq x 10) refl n same
  where
    go : (b : Bool) → nat_eq x 10 ≡ b → (n : ℕ) → SameLines n xs ys → SameLines (if b then suc n else n) (x ∷ xs) (y ∷ ys)
    go true newline n same = (e, subst (λ b. SameLines (if b then n else suc n) xs ys) (sym newline) same)
    go false other zero same = tt
    go false other (suc n) same = (e, subst (λ b. SameLines (if b then n else suc n) xs ys) (sym other) same)

-- behind equal first bytes lines are shared
behind : (x y n : ℕ) (xs ys : List ℕ) → SameLines (suc (counted x n)) (x ∷ xs) (y ∷ ys) → SameLines (suc n) xs ys
behind x y n xs ys same = go (nat_eq x 10) refl same
  where
    go : (b : Bool) → nat_eq x 10 ≡ b → SameLines (suc (if b then suc n else n)) (x ∷ xs) (y ∷ ys) → SameLines (suc n) xs ys
    go true newline same = subst (λ b. SameLines (if b then suc n else suc (suc n)) xs ys) newline same.1
    go false other same = subst (λ b. SameLines (if b then n else suc n) xs ys) other same.1

-- they share these lines
pub shared : (xs ys : List ℕ) → SameLines (lines_shared xs ys) xs ys
shared [] ys = tt
shared (x ∷ xs) [] = tt
shared (x ∷ xs) (y ∷ ys) = go (nat_eq x y) refl (shared xs ys)
  where
    go : (b : Bool) → nat_eq x y ≡ b → SameLines (lines_shared xs ys) xs ys
        → SameLines (if b then counted x (lines_shared xs ys) else 0) (x ∷ xs) (y ∷ ys)
    go true e rest = in_front x y (lines_shared xs ys) xs ys (eqb-true x y e) rest
    go false e rest = tt

-- and no more
pub no_more : (xs ys : List ℕ) → ¬ SameLines (suc (lines_shared xs ys)) xs ys
no_more [] ys same = same
no_more (x ∷ xs) [] same = same
no_more (x ∷ xs) (y ∷ ys) same = go (nat_eq x y) refl same (no_more xs ys)
  where
    go : (b : Bool) → nat_eq x y ≡ b → SameLines (suc (if b then counted x (lines_shared xs ys) else 0)) (x ∷ xs) (y ∷ ys)
        → ¬ SameLines (suc (lines_shared xs ys)) xs ys → ⊥
    go true e same rest = rest (behind x y (lines_shared xs ys) xs ys same)
    go false e same rest = differ (sym e ∙ eq-eqb x y same.0)
      where
        differ : false ≡ true → ⊥
        differ d = cc

-- what is shared behind the first `at` bytes of both
abbrev pub shared_from : List ℕ → List ℕ → ℕ → ℕ
shared_from xs ys at = lines_shared (drop at xs) (drop at ys)

-- behind equal bytes the texts go on
pub shared_next : (xs ys : List ℕ) (at : ℕ) → at < length xs → at < length ys → get_or xs at 0 ≡ get_or ys at 0
    → shared_from xs ys at ≡ counted (get_or xs at 0) (shared_from xs ys (suc at))
shared_next xs ys at p q e =
    ap (λ t. lines_shared t (drop at ys)) (drop-cons xs at 0 p)
    ∙ ap (λ t. lines_shared (get_or xs at 0 ∷ drop (suc at) xs) t) (drop-cons ys at 0 q)
    ∙ ap (λ b. if b then counted (get_or xs at 0) (shared_from xs ys (suc at)) else 0) (eq-eqb (get_or xs at 0) (get_or ys at 0) e)

-- at different bytes, or at the end of one of them, they part
pub shared_none : (xs ys : List ℕ) (at : ℕ) → (at < length xs → at < length ys → get_or xs at 0 ≢ get_or ys at 0) → shared_from xs ys at ≡ 0
shared_none [] ys zero n = refl
shared_none [] ys (suc at) n = refl
shared_none (x ∷ xs) [] zero n = refl
shared_none (x ∷ xs) [] (suc at) n = no_text (drop at xs)
  where
    no_text : (t : List ℕ) → lines_shared t [] ≡ 0
    no_text [] = refl
    no_text (z ∷ zs) = refl
shared_none (x ∷ xs) (y ∷ ys) zero n =
    ap (λ b. if b then counted x (lines_shared xs ys) else 0) (ne_eqb x y (n (omega arith) (omega arith)))
shared_none (x ∷ xs) (y ∷ ys) (suc at) n = shared_none xs ys at (λ p q. n (omega arith) (omega arith))

-- where two texts part, as the line that is carried
abbrev pub PartsAt : List ℕ → List ℕ → ℕ → Type 0
PartsAt xs ys line = (same : ℕ) × SameLines same xs ys × (¬ SameLines (suc same) xs ys) × (line ≡ carried (suc same))

pub parts_at : (xs ys : List ℕ) (line at passed : ℕ) → line ≡ carried (suc passed) → lines_shared xs ys ≡ passed + shared_from xs ys at
    → shared_from xs ys at ≡ 0 → PartsAt xs ys line
parts_at xs ys line at passed e f none =
    let all : passed ≡ lines_shared xs ys = omega (arith, f, none) in
    (lines_shared xs ys, shared xs ys, no_more xs ys, e ∙ ap (λ n. carried (suc n)) all)

-- one byte more
pub passed_next : (xs ys : List ℕ) (at next passed : ℕ) → next ≡ suc at → at < length xs → at < length ys → get_or xs at 0 ≡ get_or ys at 0
    → lines_shared xs ys ≡ passed + shared_from xs ys at → lines_shared xs ys ≡ counted (get_or xs at 0) passed + shared_from xs ys next
passed_next xs ys at next passed n p q e f =
    f ∙ ap (λ m. passed + m) (shared_next xs ys at p q e) ∙ moved (nat_eq (get_or xs at 0) 10)
    ∙ ap (λ i. counted (get_or xs at 0) passed + shared_from xs ys i) (sym n)
  where
    moved : (b : Bool) → passed + (if b then suc (shared_from xs ys (suc at)) else shared_from xs ys (suc at))
        ≡ (if b then suc passed else passed) + shared_from xs ys (suc at)
    moved true = omega arith
    moved false = refl

-- The line at which a text parts from a document that has all lines that the text shares with any document.
pub first_bad_line : (text : List ℕ) (e : Contents) (line at : ℕ) → AreReadable e → text ≢ document_text (document_of e)
    → ((d : Contents) → AreReadable d → (n : ℕ) → SameLines n text (document_text (document_of d)) → SameLines n text (document_text (document_of e)))
    → ((d : Contents) → AreReadable d → text ≡ document_text (document_of d) → text ≡ document_text (document_of e))
    → PartsAt text (document_text (document_of e)) line → at ≡ line → (bad : ℕ) × IsFirstBadLine text bad × (at ≡ carried bad)
first_bad_line text e line at readable other lines whole parts same = (
  suc parts.0,
  record {
    refused = λ d is. other (whole d is.readable is.spelled);
    good = parts.0;
    after = refl;
    before = record { contents = e; readable = readable; same = parts.1 };
    here = λ b. parts.2 (lines b.contents b.readable (suc parts.0) b.same);
  },
  same ∙ parts.3,
)
