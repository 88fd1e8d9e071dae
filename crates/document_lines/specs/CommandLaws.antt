-- The version and the command of a document are within a line, and their texts tell them.
-- These are lemmas: they stand here, and not in proofs/, since the spellings name the last of them.
use Rattle.std.specs.Prelude.{◌≡◌, ℕ, ◌≤◌, codes, refl, drop}
use Rattle.std.specs.Fmt.{decimal}
use Rattle.std.proofs.Common.{arith, ap, get_or}
use Rattle.exact_texts.specs.Texts.{other_than, InOneLine}
use Rattle.exact_texts.specs.Lines.{AreWithinLine}
use Rattle.exact_texts.proofs.Cuts.{only_append}
use Rattle.exact_texts.proofs.Numerals.{decimal_determines}
use Rattle.documents.specs.Documents.{Command, gosper, ct, zeil, wz, companion, hyper}
use Rattle.documents.specs.declared.documents.Version.{Version}
use Rattle.documents.specs.declared.documents.Version.TheVariants.{One}
use Rattle.document_lines.specs.DocumentTexts.{version_text, versions, IsCommand, command_text, commands}
use Rattle.document_lines.specs.HeadingLaws.{order_within}

version_within : (v : Version) → InOneLine (version_text v)
version_within One = refl

version_told : (v w : Version) → version_text v ≡ version_text w → v ≡ w
version_told One One e = refl

-- versions are within a line, and their texts tell them
pub versions_within_line : AreWithinLine versions
versions_within_line = record { some = (One, tt); within = λ v _. version_within v; determined = λ v w _ _ e. version_told v w e }

command_within : (c : Command) → IsCommand c → InOneLine (command_text c)
command_within gosper h = refl
command_within (ct order) h = only_append (other_than 10) (codes "ct ") (decimal order) refl (order_within order h)
command_within (zeil most) h = only_append (other_than 10) (codes "zeil ") (decimal most) refl (order_within most h)
command_within wz h = refl
command_within (companion b) h = refl
command_within hyper h = refl

same_order : (m n : ℕ) → m ≤ 6 → n ≤ 6 → decimal m ≡ decimal n → m ≡ n
same_order m n h k e = decimal_determines m n (omega arith) (omega arith) e

command_told : (c d : Command) → IsCommand c → IsCommand d → command_text c ≡ command_text d → c ≡ d
command_told gosper gosper h k e = refl
command_told (ct m) (ct n) h k e = ap ct (same_order m n h k (ap (drop 3) e))
command_told (zeil m) (zeil n) h k e = ap zeil (same_order m n h k (ap (drop 5) e))
command_told gosper (ct n) h k e = absurd (omega (arith, ap (λ t. get_or t 0 0) e))
command_told gosper (zeil n) h k e = absurd (omega (arith, ap (λ t. get_or t 0 0) e))
command_told (ct m) gosper h k e = absurd (omega (arith, ap (λ t. get_or t 0 0) e))
command_told (ct m) (zeil n) h k e = absurd (omega (arith, ap (λ t. get_or t 0 0) e))
command_told (zeil m) gosper h k e = absurd (omega (arith, ap (λ t. get_or t 0 0) e))
command_told (zeil m) (ct n) h k e = absurd (omega (arith, ap (λ t. get_or t 0 0) e))
command_told wz d h k e = absurd h
command_told (companion b) d h k e = absurd h
command_told hyper d h k e = absurd h
command_told gosper wz h k e = absurd k
command_told gosper (companion b) h k e = absurd k
command_told gosper hyper h k e = absurd k
command_told (ct m) wz h k e = absurd k
command_told (ct m) (companion b) h k e = absurd k
command_told (ct m) hyper h k e = absurd k
command_told (zeil m) wz h k e = absurd k
command_told (zeil m) (companion b) h k e = absurd k
command_told (zeil m) hyper h k e = absurd k

-- commands are within a line, and their texts tell them
pub commands_within_line : AreWithinLine commands
commands_within_line = record { some = (gosper, tt); within = command_within; determined = command_told }
