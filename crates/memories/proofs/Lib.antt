pub mod Laws
pub mod OneByte
