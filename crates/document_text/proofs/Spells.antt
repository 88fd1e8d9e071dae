-- What it is for the text of an item to determine the item, and that the item is then determined in the midst of a longer text.
use Rattle.std.specs.Prelude.{◌≡◌, ℕ, Bool, List, ◌++◌}
use Rattle.exact_texts.proofs.Cuts.{among, Stops, only_more, cut_behind}
use Rattle.exact_texts.specs.Texts.{Only}

-- The text of each item that W holds of has only bytes of the class, and determines the item.
pub record Spells {A : Type 0} (class : ℕ → Bool) (W : A → Type 0) (text : A → List ℕ) : Type 0 where
  pub only : (x : A) → W x → Only class (text x)
  pub determines : (x y : A) → W x → W y → text x ≡ text y → x ≡ y

-- It does so in a wider class of bytes.
pub spells_more : {A : Type 0} {W : A → Type 0} {text : A → List ℕ} (bytes : List ℕ) (class : ℕ → Bool) → Only class bytes
    → Spells (among bytes) W text → Spells class W text
spells_more bytes class h s = record { only = λ x w. only_more bytes class _ h (s.only x w); determines = s.determines }

-- Behind a word and in front of what begins outside the class, the item is determined, and so is what follows it.
abbrev pub DeterminesBehind : {A : Type 0} → (ℕ → Bool) → (A → Type 0) → (A → List ℕ) → Type 0
DeterminesBehind {A} class W text = (word : List ℕ) (x y : A) (r s : List ℕ) → W x → W y → Stops class r → Stops class s
    → word ++ (text x ++ r) ≡ word ++ (text y ++ s) → (x ≡ y) × (r ≡ s)

pub spelled_behind : {A : Type 0} {class : ℕ → Bool} {W : A → Type 0} {text : A → List ℕ} → Spells class W text → DeterminesBehind class W text
spelled_behind {class = class} {text = text} spells word x y r s p q u v e =
    let parts = cut_behind word class (text x) (text y) r s (spells.only x p) (spells.only y q) u v e in
    (spells.determines x y p q parts.0, parts.1)
