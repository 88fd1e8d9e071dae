pub mod Factorials
pub mod FormValues
pub mod Splits
pub mod TimesPowers
pub mod ItemShifts
pub mod FactorialItems
pub mod OverItems
pub mod ShiftedDenominators
pub mod OverSplits
pub mod ProductValues
pub mod NumberSplits
pub mod ListSplits
pub mod OneList
pub mod FormPlaces
pub mod PowerLists
pub mod SomePieces
pub mod CarrierDefined
pub mod SharedValues
pub mod OnePieces
pub mod SomeTaking
pub mod FewShifts
pub mod EarlierForms
pub mod ShiftedMatches
pub mod Sums
pub mod Takings
pub mod NoMatches
pub mod OneNormalForm
pub mod SamePowers
pub mod SomeMatches
pub mod SomeNormalForm
pub mod NormalValues
pub mod Quotients
mod KnownTerms
mod KnownPieces
mod KnownNormalForms
