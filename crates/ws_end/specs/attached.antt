pub mod Attachments
pub mod Requests
pub mod Playing
pub mod StationRun
pub mod Written
