pub mod GoingOn
pub mod Plans
pub mod PlanLaws
pub mod Registers
pub mod Seen
pub mod Steps
