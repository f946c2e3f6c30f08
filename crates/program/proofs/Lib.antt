pub mod Asked
pub mod Parsing
pub mod BuiltInWell
pub mod BuiltIn
pub mod Told
pub mod Files
pub mod Labs
pub mod Networks
pub mod Consoles
mod Called
mod Coming
mod Owing
mod ShownLines
mod ConsoleTables
mod ConsoleSettings
mod ConsoleTexts
