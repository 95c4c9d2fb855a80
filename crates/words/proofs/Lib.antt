-- laws of big-endian numbers over any width
pub mod BigEndian
-- numbers there and back
pub mod Back
-- runs of bytes compared
pub mod Same
-- numbers read from chunks of bytes
pub mod Chunks
