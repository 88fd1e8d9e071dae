-- What two transfers do together, over known bytes and over counts of faults.
-- Two reads or two writes in a row are std's `Consumes-trans` and `Appends-trans` in `Rattle.std.proofs.KnownBytes`.
use Rattle.std.proofs.Math.Seq.{take-add}
use Rattle.std.proofs.KnownBytes.{Appends-trans, Consumes-trans}
use Rattle.std.proofs.lemmas.List.{take_rest}
use Rattle.std.proofs.Common.{◌≡◌, ℕ, ◌+◌, ◌-◌, ◌≤◌, List, ◌++◌, length, take, drop, Option, Some, None, append-nil, ap, subst, sym, ◌∙◌, arith, length-append, take-append-drop, drop-drop}
use Rattle.std.specs.Io.KnownBytes.{Consumes, Appends, IsAtEnd}
use Rattle.ek_io.specs.Faults.{Rose, NeverFalls}
use Rattle.ek_io.specs.Transfer.{TakesAtMost}

-- a front of the bytes was written, and then a front of the rest of them: together a longer front
pub appends_next : (a b c : Option (List ℕ)) (bytes : List ℕ) (done count : ℕ) → Appends a b (take done bytes) →
    Appends b c (take count (take (length bytes - done) (drop done bytes))) → Appends a c (take (done + count) bytes)
appends_next a b c bytes done count first second =
    subst (Appends a c) (sym (take-add done count bytes))
    (Appends-trans a b c (take done bytes) (take count (drop done bytes)) first
    (subst (λ (rest : List ℕ). Appends b c (take count rest)) (take_rest bytes done) second))

-- what was taken up to the end is what was known
pub known-from_all_taken : (old new : Option (List ℕ)) (taken known : List ℕ) → old ≡ Some known → Consumes old new taken →
    IsAtEnd new → taken ≡ known
known-from_all_taken None new taken known is consumed end = cc
known-from_all_taken (Some a) None taken known is consumed end = elim consumed [ ]
known-from_all_taken (Some a) (Some b) taken known is consumed end =
    let same : known ≡ a = cc in sym (same ∙ consumed ∙ ap (λ z. taken ++ z) end ∙ append-nil taken)

-- two parts that were taken one after the other, together no longer than allowed
pub TakesAtMost-trans : (a b c : Option (List ℕ)) (first second : List ℕ) (most : ℕ) → length first + length second ≤ most →
    Consumes a b first → Consumes b c second → TakesAtMost a c most
TakesAtMost-trans a b c first second most within taken then =
    (length first + length second, within, (first ++ second, Consumes-trans a b c first second taken then, length-append first second))

-- what a read put at the front of a buffer is gone from the front of what is left
pub left-after_front : (bytes buffer : List ℕ) (at count : ℕ) → take count buffer ≡ take count (drop at bytes) →
    drop at bytes ≡ take count buffer ++ drop (at + count) bytes
left-after_front bytes buffer at count front =
    rw (front, ← drop-drop) (sym (take-append-drop count (drop at bytes)))

-- a count that did not fall and then rose, rose
pub Rose-after : (before middle after : ℕ) → NeverFalls before middle → Rose middle after → Rose before after
Rose-after before middle after first second = omega (arith, first.not_less)

-- a count that did not fall twice did not fall
pub NeverFalls-trans : (before middle after : ℕ) → NeverFalls before middle → NeverFalls middle after → NeverFalls before after
NeverFalls-trans before middle after first second = record {
  not_less = omega (arith, first.not_less, second.not_less);
  stays = λ last. second.stays (first.stays last);
}
