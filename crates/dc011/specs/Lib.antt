pub mod Dc011
