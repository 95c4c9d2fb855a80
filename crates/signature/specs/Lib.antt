pub mod Polynomials
pub mod Signatures
