pub mod Orders
pub mod Cancelled
pub mod CertificateValues
