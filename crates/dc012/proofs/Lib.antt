pub mod Dc012
