pub mod CommonPrimes
pub mod RationalCertificates
