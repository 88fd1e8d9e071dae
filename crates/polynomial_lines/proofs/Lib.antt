mod PowerCuts
mod PushSteps
mod ReadSteps
mod WholePolynomials
mod SpellingSteps
mod DocumentTexts
mod KnownCoefficients
