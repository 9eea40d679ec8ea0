pub mod Naming
