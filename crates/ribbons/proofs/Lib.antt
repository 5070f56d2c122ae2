-- What the calls for the programs write is what these are to write. The demands, proved.
pub mod Outputs
pub mod RibbonText
pub mod SheetText
pub mod CheckText
pub mod OfCalls
pub mod Demands
