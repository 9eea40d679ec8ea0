pub mod Links
pub mod Fabric
pub mod Tables
