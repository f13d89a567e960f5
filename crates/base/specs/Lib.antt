pub mod Test
pub mod Below
pub mod First
pub mod Lists
pub mod Steps
pub mod Binary
pub mod Digits
pub mod Filled
