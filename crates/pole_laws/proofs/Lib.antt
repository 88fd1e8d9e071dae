pub mod Domains
pub mod NormalPolynomials
pub mod FormProducts
pub mod Certificates
pub mod Cancelling
pub mod FormsWithK
pub mod NonzeroPieces
pub mod NonzeroNormal
pub mod AtPoints
mod KnownCertificates
