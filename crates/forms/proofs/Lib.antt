mod Prelude
pub mod Bodies
pub mod Queries
pub mod Numbers
pub mod Texts
pub mod Pages
pub mod Refusals
pub mod Batches
pub mod ShownOffers
