pub mod shared
pub mod used_up
pub mod Rooms
