pub mod Forms
pub mod OneVariable
pub mod Signs
pub mod OneVariableLeads
pub mod OneVariableProducts
pub mod OneVariableLaws
