-- a number's spelling, and the line of one cut more
pub mod Texts
