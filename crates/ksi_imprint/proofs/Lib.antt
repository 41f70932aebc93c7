pub mod HexDigits
pub mod Digests
pub mod Absorbing256
pub mod Schedule256
mod ChMaj
mod Rotations
