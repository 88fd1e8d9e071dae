pub mod ListAnswer
pub mod MagnitudeSum
pub mod PowerAnswer
