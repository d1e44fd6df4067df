pub mod View8088
pub mod ViewZ80
pub mod OneByte
pub mod Inner
