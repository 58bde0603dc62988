pub mod Curving
