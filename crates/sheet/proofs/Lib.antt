-- what the rows of writing say where none holds
pub mod Writing
-- which rows of reading decide
pub mod Reading
