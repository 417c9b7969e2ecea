pub mod Printed
pub mod Reported
pub mod Counted
pub mod Checked
pub mod Open
