pub mod OneBeyond
pub mod Outcomes
pub mod Texts
