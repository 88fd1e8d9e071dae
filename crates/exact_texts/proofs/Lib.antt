pub mod Cuts
pub mod Compared
pub mod Formats
pub mod Alike
pub mod Seen
pub mod OneLine
pub mod FirstBad
pub mod Joined
pub mod Separated
pub mod Numerals
pub mod Sequences
pub mod Bodies
pub mod SumTexts
pub mod SumLists
pub mod SumItems
pub mod SumPieces
pub mod Besides
pub mod PoweredItems
pub mod Optional
pub mod Nothing
pub mod OneFirstBad
mod KnownTexts
mod KnownSums
mod KnownFirstBadLines
