mod ClaimSteps
mod ClaimListSteps
mod ClaimWrites
mod DocumentSteps
mod KnownTexts
