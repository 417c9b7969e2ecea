pub mod Csv
pub mod CsvTable
pub mod Refused
pub mod ReadBack
