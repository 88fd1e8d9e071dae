-- What the faults of a document and of its claim become has its cause.
use Rattle.std.proofs.Common.{◌≡◌, ◌≢◌, ◌≤◌, ℕ, List, length, refl, sym, subst}
use Rattle.steps.specs.declared.limits.LimitName.{LimitName}
use Rattle.cert_text.specs.declared.faults.DocFault.{DocFault}
use Rattle.cert_text.specs.declared.faults.DocFault.TheVariants as document
use Rattle.documents.specs.declared.faults.Place.{Place}
use Rattle.documents.specs.declared.faults.Place.TheVariants.{Order, Case, BoxSums, Claim}
use Rattle.documents.specs.declared.faults.EngineFault.{EngineFault}
use Rattle.documents.specs.declared.faults.EngineFault.TheVariants as engine
use Rattle.cert_text.specs.Readable.{Contents, IsTextOf, IsFirstBadLine, carried}
use Rattle.cert_checker.specs.Checks.{HasCarrier, HasMultiplier, AreInBounds}
use Rattle.ekhad_cli.specs.declared.words.Command.TheVariants.{Check}
use Rattle.ekhad_cli.specs.declared.refusal.Refusal.{Refusal}
use Rattle.ekhad_cli.specs.declared.refusal.Refusal.TheVariants.{ClaimTooLarge, Memory}
use Rattle.ekhad_cli.specs.Refusals.{IsInside}
use Rattle.ekhad_cli.specs.Commands.{most_bytes, IsCause}
use Rattle.ekhad_cli.specs.Converted.{refusal_of_document, IsRefusalOfClaim}

pub document_cause : (text : List ℕ) (fault : DocFault) → length text ≤ most_bytes Check
    → ((at : ℕ) → fault ≡ document.Line at → (line : ℕ) × IsFirstBadLine text line × (at ≡ carried line))
    → IsCause Check text (refusal_of_document fault)
document_cause text (document.Line at) few line = let first = line at refl in (few, first.0, first.1, first.2)
document_cause text document.Memory few line = tt

pub document_inside : (fault : DocFault) → IsInside (refusal_of_document fault)
document_inside (document.Line at) = tt
document_inside document.Memory = tt

-- claim 0 alone is too large, and no limit comes
pub known_claim : (fault : EngineFault) → ((place : Place) → fault ≡ engine.TooLarge place → place ≡ Claim 0)
    → ((name : LimitName) (counted : ℕ) → fault ≢ engine.Limit name counted) → (refusal : Refusal) × IsRefusalOfClaim fault refusal
known_claim (engine.Limit name counted) claim none = absurd (none name counted refl)
known_claim (engine.TooLarge place) claim none =
    (ClaimTooLarge 0, subst (λ (p : Place). IsRefusalOfClaim (engine.TooLarge p) (ClaimTooLarge 0)) (sym (claim place refl)) refl)
known_claim engine.Memory claim none = (Memory, refl)

pub claim_cause : (text : List ℕ) (d : Contents) (fault : EngineFault) (said : Refusal) → length text ≤ most_bytes Check → IsTextOf text d
    → ((place : Place) → fault ≡ engine.TooLarge place → (place ≡ Claim 0) × HasCarrier d × HasMultiplier d × (¬ AreInBounds d))
    → IsRefusalOfClaim fault said → IsCause Check text said
claim_cause text d (engine.Limit name counted) said few read large exact = absurd exact
claim_cause text d (engine.TooLarge (Order n)) said few read large exact = absurd exact
claim_cause text d (engine.TooLarge (Case n)) said few read large exact = absurd exact
claim_cause text d (engine.TooLarge BoxSums) said few read large exact = absurd exact
claim_cause text d (engine.TooLarge (Claim n)) said few read large exact =
    let why = large (Claim n) refl in
    let first = why.0 in
    let zero : n ≡ 0 = cc in
    subst (IsCause Check text) (sym exact) (few, zero, d, read, why.1, why.2, why.3)
claim_cause text d engine.Memory said few read large exact = subst (IsCause Check text) (sym exact) tt

pub claim_inside : (fault : EngineFault) (said : Refusal) → IsRefusalOfClaim fault said → IsInside said
claim_inside (engine.Limit name counted) said exact = absurd exact
claim_inside (engine.TooLarge (Order n)) said exact = absurd exact
claim_inside (engine.TooLarge (Case n)) said exact = absurd exact
claim_inside (engine.TooLarge BoxSums) said exact = absurd exact
claim_inside (engine.TooLarge (Claim n)) said exact = subst IsInside (sym exact) tt
claim_inside engine.Memory said exact = subst IsInside (sym exact) tt
