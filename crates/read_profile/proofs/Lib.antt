pub mod WorkedStages
pub mod WorkedFiles
