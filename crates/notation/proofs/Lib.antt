pub mod Naming
pub mod Figures
pub mod WordsBack
pub mod ListingBack
pub mod LabelsCount
