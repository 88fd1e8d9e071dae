pub mod KeyEquation
pub mod DegreeBounds
pub mod KeyRows
pub mod Solutions
pub mod CommonDivisors
pub mod EvaluatedRows
pub mod Certificates
