pub mod Numbers
pub mod WorkedNumbers
pub mod SideBySide
pub mod Behind
pub mod PackedRows
pub mod AllRows
pub mod SpreadDuals
pub mod KeptDuals
