pub mod Begun
pub mod NodeValues
pub mod Certificates
pub mod Cuts
pub mod StepsBack
pub mod PathNodes
pub mod Grown
pub mod Placed
