pub mod FlatLaws
pub mod HostLaws
pub mod Zeros
