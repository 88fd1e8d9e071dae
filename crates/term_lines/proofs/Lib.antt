mod TermWrites
mod KnownTerms
