pub mod StageMoments
