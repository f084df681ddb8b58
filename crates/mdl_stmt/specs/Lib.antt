pub mod Attendance
pub mod Gets
pub mod KeptStages
pub mod LockLists
pub mod Players
pub mod Stages
