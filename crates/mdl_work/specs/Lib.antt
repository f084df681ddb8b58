pub mod Paces
pub mod WorkPins
pub mod Works
