pub mod PassLemmas
pub mod RoomLemmas
