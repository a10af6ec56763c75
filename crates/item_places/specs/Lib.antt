pub mod Items
pub mod PlacesParts
pub mod Seen
pub mod Table
