mod Ends
mod MoreTurns
pub mod ExampleParts
mod ExamplesOfValues
mod ExamplesOfControl
mod ExamplesOfReferences
mod ExamplesOfStorage
mod ExamplesOfSpecs
mod ExamplesOfTyping
pub mod ExamplesOfKeeping
mod ExamplesOfForms
mod ExamplesOfPrograms
