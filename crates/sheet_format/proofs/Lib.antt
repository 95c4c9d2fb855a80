-- a form's check word, by wrapping sums
pub mod CheckWord
-- what the laws ask of a form
pub mod Forms
-- how many offsets a body has
pub mod Offsets
-- where the parts of a sheet stand
pub mod Parts
-- a right trailer's facts, and the parts that code lends
pub mod Lent
-- what reads cleanly, by names
pub mod Cleanly
-- what is written reads cleanly
pub mod RoundTrip
-- what reads cleanly is what is written
pub mod Canonical
-- what reads cleanly and is damaged does not
pub mod Damage
