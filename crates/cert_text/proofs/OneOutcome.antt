-- A text is that of one document that is read, or else it has one first bad line.
use Rattle.std.proofs.Common.{◌≡◌, ℕ, zero, suc, ◌+◌, ◌<◌, ◌≤◌, ◌⊎◌, Bool, true, false, List, [], ◌∷◌, length, refl, inl, inr, arith}
use Rattle.std.specs.Prelude.{if◌then◌else◌, nat_eq}
use Rattle.cert_text.specs.Readable.{Contents, IsTextOf, SameLines, BeginsDocument, IsFirstBadLine}
use Rattle.cert_text.proofs.KnownReadable.{squares, squares_readable}

-- a line has a byte at least
few_lines : (n : ℕ) (xs ys : List ℕ) → SameLines n xs ys → n ≤ length xs
few_lines zero xs ys same = omega arith
few_lines (suc n) [] ys same = absurd same
few_lines (suc n) (x ∷ xs) [] same = absurd same
few_lines (suc n) (x ∷ xs) (y ∷ ys) same = go (nat_eq x 10) same.1 (λ m s. few_lines m xs ys s)
  where
    go : (b : Bool) → SameLines (if b then n else suc n) xs ys → ((m : ℕ) → SameLines m xs ys → m ≤ length xs) → suc n ≤ length (x ∷ xs)
    go true s ih = omega (arith, ih n s)
    go false s ih = omega (arith, ih (suc n) s)

-- fewer lines are the same too
fewer_lines : (m n : ℕ) (xs ys : List ℕ) → m ≤ n → SameLines n xs ys → SameLines m xs ys
fewer_lines zero n xs ys h same = tt
fewer_lines (suc m) zero xs ys h same = absurd (omega (arith, h))
fewer_lines (suc m) (suc n) [] ys h same = same
fewer_lines (suc m) (suc n) (x ∷ xs) [] h same = same
fewer_lines (suc m) (suc n) (x ∷ xs) (y ∷ ys) h same = (same.0, go (nat_eq x 10) same.1 (λ a b k s. fewer_lines a b xs ys k s))
  where
    go : (b : Bool) → SameLines (if b then n else suc n) xs ys → ((a b : ℕ) → a ≤ b → SameLines b xs ys → SameLines a xs ys)
        → SameLines (if b then m else suc m) xs ys
    go true s ih = ih m n (omega (arith, h)) s
    go false s ih = ih (suc m) (suc n) h s

begins_before : (m n : ℕ) (text : List ℕ) → m ≤ n → BeginsDocument n text → BeginsDocument m text
begins_before m n text h begins = record { contents = begins.contents; readable = begins.readable; same = fewer_lines m n text _ h begins.same }

-- more lines can't always be those of a document
last_line : (left good : ℕ) (text : List ℕ) → ((d : Contents) → ¬ IsTextOf text d) → BeginsDocument good text → length text < good + left
    → ¬ (¬ ((line : ℕ) × IsFirstBadLine text line))
last_line zero good text refused begins few neither = omega (arith, few, few_lines good text _ begins.same)
last_line (suc left) good text refused begins few neither = neither (
  suc good,
  record {
    refused = refused;
    good = good;
    after = refl;
    before = begins;
    here = λ more. last_line left (suc good) text refused more (omega (arith, few)) neither;
  },
)

pub some_outcome : (text : List ℕ) → ¬ (¬ (((d : Contents) × IsTextOf text d) ⊎ ((line : ℕ) × IsFirstBadLine text line)))
some_outcome text neither =
    last_line (suc (length text)) 0 text (λ d is. neither (inl (d, is))) (record { contents = squares; readable = squares_readable; same = tt }) (omega arith)
    (λ bad. neither (inr bad))

pub document_or_line : (text : List ℕ) (d : Contents) (line : ℕ) → IsTextOf text d → ¬ IsFirstBadLine text line
document_or_line text d line is bad = bad.refused d is

-- a line before the first bad one is good
not_before : (text : List ℕ) (a b : ℕ) → IsFirstBadLine text a → IsFirstBadLine text b → ¬ (a < b)
not_before text a b first second h = first.here (begins_before a second.good text (omega (arith, h, second.after)) second.before)

pub one_line : (text : List ℕ) (a b : ℕ) → IsFirstBadLine text a → IsFirstBadLine text b → a ≡ b
one_line text a b first second = omega (arith, not_before text a b first second, not_before text b a second first)
