-- What the answer to a line is, over a table, and that all answers of a script are true.
pub mod Answers
pub mod Laws
