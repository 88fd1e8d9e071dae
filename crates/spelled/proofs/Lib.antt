mod ItemSteps
mod SumSteps
mod SumWrites
mod BesideSteps
mod TurnSteps
mod TextSteps
pub mod Exits
mod PoweredSteps
