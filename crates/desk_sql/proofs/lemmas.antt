-- Lemmas of the texts of SQL and of the trees that they change, which crates above may cite.
pub mod Beside
pub mod Cascade
pub mod CommandTexts
pub mod Key
pub mod Leaving
pub mod Number
pub mod OldTexts
pub mod QueryTexts
pub mod Read
pub mod Rowid
pub mod Size
pub mod Stop
pub mod Sure
pub mod Texts
pub mod Write
